use Rattle.std.proofs.Common.{◌≡◌}
use Rattle.std.specs.Prelude.{map}
use Rattle.std.specs.List.{list_all}
use Rattle.lt_tree.specs.Typing.MarkRules.{is_good_binding}
use Rattle.lt_table.specs.TableRows.{Stays}
use Rattle.lt_judge.proofs.JudgedMarks.{bound_with}
use Rattle.lt_judge.proofs.marks.bindings.are_good_bindings.Given as goal

abbrev pub invariant-bound : goal.invariant-bound
invariant-bound l = Stays l.types.rows (λ longer. l.good ≡ list_all is_good_binding (map (λ p. bound_with longer (p.0.now, p.1.now)) l.yielded))
