use Rattle.std.proofs.Common.{◌≡◌}
use Rattle.std.specs.Prelude.{map}
use Rattle.lt_tree.specs.Typing.ValueView.{bindings_in}
use Rattle.lt_tree.specs.Typing.MarkRules.{bindings_of}
use Rattle.lt_table.specs.TableRows.{Stays}
use Rattle.lt_table.specs.TypesValue.{Widens}
use Rattle.lt_judge.proofs.JudgedMarks.{bound_with}
use Rattle.lt_judge.proofs.marks.bindings.bindings_of.Given as goal

abbrev pub invariant-bound : goal.invariant-bound
invariant-bound l = record {
  widens : Widens l.fn.types l.types;
  made : Stays l.types.rows (λ longer. bindings_in longer l.made.items ≡ bindings_of (map (λ p. bound_with longer (p.0.now, p.1)) l.yielded));
}
