-- That the marks of objectives are added where they may stand.
use Rattle.std.specs.Prelude.{◌≡◌, ℕ, Bool, false, List, length}
use Rattle.lt_tree.specs.Tree as c
use Rattle.lt_tree.specs.Nodes.{in_expression}
use Rattle.lt_tree.specs.Typing.Entities.{Known}
use Rattle.lt_tree.specs.Typing.Expressions.{as_callee}
use Rattle.lt_tree.specs.Typing.Programs.{Program}
use Rattle.lt_objectives.specs.declared.criteria.Criterion.{Criterion}
use Rattle.lt_objectives.specs.Marked.{with_marks}
use Rattle.lt_objective_places.specs.Stands.{Role}
use Rattle.lt_objective_places.specs.Stands as stands
use Rattle.lt_objective_places.specs.Pieces.{an_expression, IsIn}
use Rattle.lt_mark_typing.specs.Beside.{Position, in_use, use_of}
use Rattle.lt_mark_typing.specs.Placed.{AddsTo}
use Rattle.lt_typed_nodes.specs.Coming.{ComesToIt}
use Rattle.lt_typed_nodes.specs.Reaching as place
use Rattle.lt_typed_nodes.specs.Reaching.{IsReached}
use Rattle.lt_objective_marks.specs.Settings.{marks_of, Setting, AreUnused, IsAdded, Fits, IsTaken}

-- An expression of a unit to which typing comes, outside of constants and operands of `sizeof`, with the marks of objectives: each stands where it may. (What is
-- called, and what stands in a `pc_after` in a test, have theirs as parts of what stands around them.)
abbrev pub ObjectivesAreAddedToExpressions : Type 0
ObjectivesAreAddedToExpressions =
    (new : ℕ → Bool) (unit : c.Unit) (program : Program) (criterion : Criterion) (id : ℕ) (setting : Setting new unit program criterion id)
    → (role : Role) (position : Position) (used : List ℕ) (known : Known) (e : c.Expression)
    → IsIn unit known.next (an_expression role e) → Fits role position → known.is_unmarked ≡ false → ComesToIt program.facts known (use_of position) e
    → IsReached setting.greatest setting.model unit (place.an_expression (use_of position) e) known → IsTaken role position known e
    → (role ≡ stands.in_truth → ⊥) → (position ≡ in_use as_callee → ⊥)
    → AreUnused (marks_of unit program criterion id) used known.next (length (in_expression e))
    → IsAdded (marks_of unit program criterion id) used known.next (length (in_expression e))
    (λ after. AddsTo new position used after known e (with_marks (marks_of unit program criterion id) known.next e))
