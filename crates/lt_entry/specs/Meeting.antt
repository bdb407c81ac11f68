-- Which inputs meet a specification.
use Rattle.std.specs.Prelude.{◌≡◌, ℤ, pos, ◌+ℤ◌, ◌*ℤ◌, ◌&&◌, ◌||◌, not, int_le, Bool, true, false, IsTrue, if◌then◌else◌, List, [], ◌∷◌, find, Option, Some, None, option_map, option_and_then, unwrap_or}
use Rattle.std.specs.List.{list_any, list_all}
use Rattle.std.specs.Str.{bytes_eq}
use Rattle.lt_model.specs.declared.operator.Op.{Op}
use Rattle.lt_model.specs.declared.operator.Op.TheVariants as op
use Rattle.lt_model.specs.declared.input.CellSet.{CellSet}
use Rattle.lt_model.specs.declared.input.CellSet.TheVariants as cellset
use Rattle.lt_model.specs.declared.input.FreeCell.{FreeCell}
use Rattle.lt_model.specs.declared.input.Input.{Input}
use Rattle.lt_model.specs.declared.input.Need.{Need}
use Rattle.lt_model.specs.declared.input.NeedTerm.{NeedTerm}
use Rattle.lt_model.specs.declared.input.Place.{Place}
use Rattle.lt_model.specs.declared.input.Spec.{Spec}
use Rattle.lt_model.specs.declared.input.StartValue.{StartValue}
use Rattle.lt_model.specs.declared.input.StartValue.TheVariants as start
use Rattle.lt_model.specs.declared.input.StubRange.{StubRange}
use Rattle.lt_model.specs.declared.input.StubSet.{StubSet}
use Rattle.lt_model.specs.declared.input.Want.{Want}
use Rattle.lt_model.specs.declared.input.Want.TheVariants as want
use Rattle.lt_entry.specs.Conditions.{same_place}

-- ---- what a cell holds

abbrev pub place_set : CellSet → Place
place_set (cellset.Number place z) = place
place_set (cellset.Point place target) = place

abbrev pub value_set : CellSet → StartValue
value_set (cellset.Number place z) = start.Number z
value_set (cellset.Point place target) = start.Point target

-- the value that is set last, if any is
abbrev pub last_set : Place → List CellSet → Option StartValue
last_set place [] = None
last_set place (it ∷ its) = elim (last_set place its) [
  | Some value ↦ Some value
  | None ↦ if same_place (place_set it) place then Some (value_set it) else None
]

-- what a free cell holds when the run begins
abbrev pub held : Input → FreeCell → StartValue
held input cell = unwrap_or (last_set cell.at input.cells) cell.start

-- ---- what a cell may hold

abbrev pub same_target : Option Place → Option Place → Bool
same_target None None = true
same_target (Some p) (Some q) = same_place p q
same_target p q = false

abbrev pub is_wanted : Want → StartValue → Bool
is_wanted (want.Between low high) (start.Number z) = int_le low z && int_le z high
is_wanted (want.OneOf targets) (start.Point target) = list_any (same_target target) targets
is_wanted it value = false

-- ---- requirements

abbrev pub number_of : StartValue → Option ℤ
number_of (start.Number z) = Some z
number_of value = None

-- the number in the free cell at a place
abbrev pub number_at : Spec → Input → Place → Option ℤ
number_at spec input place = option_and_then (λ cell. number_of (held input cell)) (find (λ cell. same_place cell.at place) spec.cells)

-- the sum of the terms, where each cell has a number
abbrev pub sum_of : Spec → Input → List NeedTerm → Option ℤ
sum_of spec input [] = Some (pos 0)
sum_of spec input (term ∷ terms) =
    option_and_then (λ z. option_map (λ sum. (term.factor *ℤ z) +ℤ sum) (sum_of spec input terms)) (number_at spec input term.at)

abbrev pub is_related : Op → ℤ → ℤ → Bool
is_related op.Le sum constant = int_le sum constant
is_related op.Ge sum constant = int_le constant sum
is_related op.Eq sum constant = int_le sum constant && int_le constant sum
is_related o sum constant = false

abbrev pub needs_hold : Spec → Input → Need → Bool
needs_hold spec input need = elim (sum_of spec input need.terms) [ None ↦ false | Some sum ↦ is_related need.rel sum need.constant ]

-- ---- all of it

abbrev pub sets_free_cell : Spec → CellSet → Bool
sets_free_cell spec it = list_any (λ cell. same_place cell.at (place_set it)) spec.cells

-- values for the function without a body are in its range; those for others are no matter of this range
abbrev pub keeps_range : StubRange → StubSet → Bool
keeps_range range it = not (bytes_eq it.name range.name) || list_all (λ z. int_le range.lo z && int_le z range.hi) it.values

-- The input has the blocks of the specification and sets free cells alone; each free cell, set or not, holds what it may hold; the values for a
-- function without a body are in its range; and the requirements hold.
pub record Meets (spec : Spec) (input : Input) : Type 0 where
  pub blocks : input.blocks ≡ spec.blocks
  pub sets : IsTrue (list_all (sets_free_cell spec) input.cells)
  pub cells : IsTrue (list_all (λ cell. is_wanted cell.want (held input cell)) spec.cells)
  pub stubs : IsTrue (list_all (λ range. list_all (keeps_range range) input.stubs) spec.stubs)
  pub needs : IsTrue (list_all (needs_hold spec input) spec.needs)
