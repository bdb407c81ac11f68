-- All expressions have the marks of objectives.
use Rattle.std.proofs.Common.{ℕ, Bool}
use Rattle.lt_tree.specs.Tree as c
use Rattle.lt_tree.specs.Typing.Programs.{Program}
use Rattle.lt_objectives.specs.declared.criteria.Criterion.{Criterion}
use Rattle.lt_objective_marks.specs.Settings.{Setting}
use Rattle.lt_objective_marks.specs.Laws.{ObjectivesAreAddedToExpressions}
use Rattle.lt_objective_marks.proofs.Given.{Given}
use Rattle.lt_objective_marks.proofs.Whole.{whole}
use Rattle.lt_objective_marks.proofs.Expressions.{Others, inner}
use Rattle.lt_objective_marks.proofs.Behind.{marked, after}
use Rattle.lt_objective_marks.proofs.Casts.{cast}
use Rattle.lt_objective_marks.proofs.Callees.{callee}
use Rattle.lt_objective_marks.proofs.Markable.{markable}

others : (g : Given) {new : ℕ → Bool} {unit : c.Unit} {program : Program} {criterion : Criterion} {id : ℕ} (s : Setting new unit program criterion id) → Others g s (markable g s)
others g s = record {
  cast = cast g s (markable g s);
  marked = marked g s;
  after = after g s (markable g s);
  callee = callee g s (markable g s);
}

pub all_added : Given → ObjectivesAreAddedToExpressions
all_added g new unit program criterion id s role position used known e isin fits is_open comes reached taken no_truth no_callee unused =
    whole g s (markable g s) role position used known e (record { isin = isin; fits = fits; marked = is_open; comes = comes; reached = reached; taken = taken }) no_truth no_callee (inner g s (markable g s) (others g s) e) unused
