use Rattle.std.proofs.Common.{◌≡◌, ◌++◌, take}
use Rattle.std.specs.List.{flat_map}
use Rattle.lt_cover.specs.Coverage.Text.{line, row_fields}
use Rattle.lt_cover.specs.declared.rows.Row.TheVariants.{Test}
use Rattle.lt_cover.proofs.write.put_tests.Given as goal

abbrev pub invariant-loop-test : goal.invariant-loop-test
invariant-loop-test l = l.text.items ≡ l.fn.text.items ++ flat_map (λ x. line (row_fields (Test x))) (take l.test-index l.tests)
