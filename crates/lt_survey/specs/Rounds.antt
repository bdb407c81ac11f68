-- How the marks of criteria come to be: node by node, and criterion by criterion.
use Rattle.std.specs.Prelude.{◌≡◌, ◌≤◌, ℕ, ◌+◌, List, map, take}
use Rattle.std.specs.List.{flat_map}
use Rattle.lt_tree.specs.declared.expression.Expr.{Expr}
use Rattle.lt_tree.specs.Tree as c
use Rattle.lt_tree.specs.View.{expression_of}
use Rattle.lt_tree.specs.UnitView.{unit_of}
use Rattle.lt_tree.specs.Typing.Programs.{Program}
use Rattle.lt_objectives.specs.declared.criteria.Criterion.{Criterion}
use Rattle.lt_tree.specs.Nodes.{Node}
use Rattle.lt_objectives.specs.Places.{Site, sites}
use Rattle.lt_objectives.specs.Objectives.{all_at, in_front, at_node}
use Rattle.lt_objectives.specs.Marked.{marked_by}
use Rattle.lt_numbering.specs.declared.new_marks.NewMarks.{NewMarks}
use Rattle.lt_numbering.specs.Numbering.{Number, most_id}
use Rattle.lt_survey.specs.declared.marking.Marked.{Marked}
use Rattle.lt_survey.specs.Marking.{next_behind, IdsPass}

abbrev pub site : ℕ → Node → Site
site k node = record { number = k; node = node }

-- These are the predicates of the objectives at a node, all of which stand in front of it.
abbrev pub ArePredicates : c.Unit → Program → Criterion → ℕ → Node → List Expr → Type 0
ArePredicates unit program criterion k node list = all_at k in_front criterion (map expression_of list) ≡ at_node unit program criterion (site k node)

-- These are the marks of a criterion at the nodes before a number.
abbrev pub NumberBefore : NewMarks → c.Unit → Program → Criterion → (id k : ℕ) → Type 0
NumberBefore new unit program criterion id k = Number new id (flat_map (at_node unit program criterion) (take k (sites unit)))

-- The marks of the criteria that are left, put into this unit, make it the one with the marks of all.
pub record Leads (left whole : List Criterion) (unit : c.Unit) (program : Program) (id : ℕ) (it : Marked) : Type 0 where
  pub marks : marked_by left (unit_of it.unit) program it.next ≡ marked_by whole unit program id
  pub next : next_behind left (unit_of it.unit) program it.next ≡ next_behind whole unit program id
  pub ids : IdsPass left (unit_of it.unit) program it.next → IdsPass whole unit program id
  pub within : it.next ≤ most_id + 1
