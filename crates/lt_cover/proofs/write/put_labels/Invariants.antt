use Rattle.std.proofs.Common.{◌≡◌, ◌++◌, take}
use Rattle.std.specs.List.{flat_map}
use Rattle.lt_cover.specs.Coverage.Text.{line, row_fields}
use Rattle.lt_cover.specs.declared.rows.Row.TheVariants.{Label}
use Rattle.lt_cover.proofs.write.put_labels.Given as goal

abbrev pub invariant-loop-label : goal.invariant-loop-label
invariant-loop-label l = l.text.items ≡ l.fn.text.items ++ flat_map (λ x. line (row_fields (Label x))) (take l.label-index l.labels)
