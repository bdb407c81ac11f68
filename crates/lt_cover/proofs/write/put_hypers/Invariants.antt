use Rattle.std.proofs.Common.{◌≡◌, ◌++◌, take}
use Rattle.std.specs.List.{flat_map}
use Rattle.lt_cover.specs.Coverage.Text.{line, row_fields}
use Rattle.lt_cover.specs.declared.rows.Row.TheVariants.{Hyper}
use Rattle.lt_cover.proofs.write.put_hypers.Given as goal

abbrev pub invariant-loop-hyper : goal.invariant-loop-hyper
invariant-loop-hyper l = l.text.items ≡ l.fn.text.items ++ flat_map (λ x. line (row_fields (Hyper x))) (take l.hyper-index l.hypers)
