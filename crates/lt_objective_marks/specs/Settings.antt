-- What is given where the marks of a criterion's objectives are added to a unit, and which ids are used there.
use Rattle.std.specs.Prelude.{◌≡◌, ◌≤◌, ◌<◌, ◌⊎◌, ℕ, suc, ◌+◌, Bool, true, List}
use Rattle.lt_model.specs.declared.scalar.DataModel.{DataModel}
use Rattle.lt_tree.specs.Tree as c
use Rattle.lt_tree.specs.Nodes.{nodes}
use Rattle.lt_tree.specs.Typing.Types.{is_scalar, is_function}
use Rattle.lt_tree.specs.Typing.Entities.{Known, greatest_label_id}
use Rattle.lt_tree.specs.Typing.Steps.{Goes}
use Rattle.lt_tree.specs.Typing.Expressions.{a_designator, Typed, as_value, as_truth, as_place, as_callee, own_type}
use Rattle.lt_tree.specs.Typing.ExpressionTyping.{expression}
use Rattle.lt_tree.specs.Typing.UnitTyping.{IsProgramTo}
use Rattle.lt_tree.specs.Typing.Programs.{Program}
use Rattle.lt_objectives.specs.declared.criteria.Criterion.{Criterion}
use Rattle.lt_objectives.specs.Objectives.{objectives}
use Rattle.lt_objectives.specs.Marked.{NewMark, ids_of, numbered, next_id}
use Rattle.lt_objective_places.specs.Stands.{IsAmong, IsWithin, Role}
use Rattle.lt_objective_places.specs.Stands as stands
use Rattle.lt_mark_typing.specs.Beside.{is_used, Position, in_use, in_test}
use Rattle.lt_mark_typing.specs.Placed.{AreOld}

-- the new marks of a unit
abbrev pub marks_of : c.Unit → Program → Criterion → (id : ℕ) → List NewMark
marks_of unit program criterion id = numbered id (objectives unit program criterion)

-- A typed unit, of which no mark has a new id, and a criterion whose objectives are numbered by new ids.
pub record Setting (new : ℕ → Bool) (unit : c.Unit) (program : Program) (criterion : Criterion) (id : ℕ) : Type 0 where
  pub model : DataModel
  -- the greatest id that a label of the unit may have
  pub greatest : ℕ
  pub typed : IsProgramTo greatest model unit program
  pub old : AreOld new (nodes unit)
  pub first : 1 ≤ id
  pub last : next_id id (objectives unit program criterion) ≤ suc greatest_label_id
  pub fresh : (n : ℕ) → id ≤ n → n < next_id id (objectives unit program criterion) → new n ≡ true

-- ---- ids

-- an id of a new mark with this place
abbrev pub IsIdAt : List NewMark → (place n : ℕ) → Type 0
IsIdAt marks place n =
    (mark : NewMark) × IsAmong mark marks × (mark.objective.place ≡ place) × (mark.id ≤ n) × (n < mark.id + ids_of mark.objective.form)

-- no id of a mark whose place is one of so many from the first is used
abbrev pub AreUnused : List NewMark → (used : List ℕ) → (first size : ℕ) → Type 0
AreUnused marks used first size = (n place : ℕ) → is_used n used ≡ true → IsIdAt marks place n → IsWithin first size place → ⊥

-- What is used behind a run of nodes was used before, or is an id of a mark whose place is one of these.
abbrev pub AddsIdsOf : List NewMark → (used after : List ℕ) → (first size : ℕ) → Type 0
AddsIdsOf marks used after first size =
    (n : ℕ) → is_used n after ≡ true → (is_used n used ≡ true) ⊎ ((place : ℕ) × IsIdAt marks place n × IsWithin first size place)

-- Something is so with ids that are used behind it, which are those before and those of marks in a run of nodes.
pub record IsAdded (marks : List NewMark) (used : List ℕ) (first size : ℕ) (holds : List ℕ → Type 0) : Type 0 where
  pub after : List ℕ
  pub added : holds after
  pub ids : AddsIdsOf marks used after first size

-- ---- positions

-- The positions of an expression in a role: a test, what stands in a `pc_after` in one, a value, also of a `switch` and a callee, and a place, which
-- behind marks is a value.
pub data Fits : Role → Position → Type 0 where
  a_test : Fits stands.in_test in_test
  a_truth : Fits stands.in_truth (in_use as_truth)
  a_value : Fits stands.as_value (in_use as_value)
  a_switch : Fits stands.as_value (in_use as_truth)
  a_callee : Fits stands.as_value (in_use as_callee)
  a_place : Fits stands.as_place (in_use as_place)
  a_marked_place : Fits stands.as_place (in_use as_value)

-- What the text around an expression asks of it: a test is a scalar, also in a `pc_after`, and what is called the name of a function.
abbrev pub IsTaken : Role → Position → Known → c.Expression → Type 0
IsTaken stands.in_test position known e = (x : Typed) (next : Known) → expression e as_truth known ≡ Goes x next → is_scalar (own_type x) ≡ true
IsTaken stands.in_truth position known e = (x : Typed) (next : Known) → expression e as_truth known ≡ Goes x next → is_scalar (own_type x) ≡ true
IsTaken stands.as_value (in_use as_callee) known e = (x : Typed) (next : Known) → expression e as_callee known ≡ Goes x next → (name : List ℕ) × (x.form ≡ a_designator name (own_type x)) × (is_function (own_type x) ≡ true)
IsTaken role position known e = Unit {0}
