-- The inputs that tests build, which set things in the order of the specification.
use Rattle.std.specs.Prelude.{◌≡◌, ℤ, pos, neg_ℤ, nat_le, nat_abs, nat_lt, ◌^◌, ◌&&◌, int_le, Bool, true, not, IsTrue, List, ◌++◌, length, filter, filter_map, find, Option, Some, None, option_and_then}
use Rattle.std.specs.List.{list_any, list_all}
use Rattle.std.specs.Str.{bytes_eq}
use Rattle.lt_model.specs.declared.input.CellSet.{CellSet}
use Rattle.lt_model.specs.declared.input.CellSet.TheVariants as cellset
use Rattle.lt_model.specs.declared.input.FreeCell.{FreeCell}
use Rattle.lt_model.specs.declared.input.Input.{Input}
use Rattle.lt_model.specs.declared.input.Need.{Need}
use Rattle.lt_model.specs.declared.input.NeedTerm.{NeedTerm}
use Rattle.lt_model.specs.declared.input.Place.{Place}
use Rattle.lt_model.specs.declared.input.Spec.{Spec}
use Rattle.lt_model.specs.declared.input.StartValue.{StartValue}
use Rattle.lt_model.specs.declared.input.StartValue.TheVariants as start
use Rattle.lt_model.specs.declared.input.StubRange.{StubRange}
use Rattle.lt_model.specs.declared.input.StubSet.{StubSet}
use Rattle.lt_model.specs.declared.input.Want.{Want}
use Rattle.lt_model.specs.declared.input.Want.TheVariants as want
use Rattle.lt_entry.specs.declared.test.Test.{Test}
use Rattle.lt_entry.specs.Meeting.{last_set, sets_free_cell}

-- ---- order

abbrev pub set_to : Place → StartValue → Option CellSet
set_to place (start.Number z) = Some (cellset.Number place z)
set_to place (start.Point target) = Some (cellset.Point place target)
set_to place start.Other = None

-- what is set in a free cell, if anything is
abbrev pub set_in : List CellSet → FreeCell → Option CellSet
set_in its cell = option_and_then (set_to cell.at) (last_set cell.at its)

-- What is set in free cells comes in their order, once for each; then comes what is set elsewhere.
abbrev pub cells_in_order : Spec → List CellSet → List CellSet
cells_in_order spec its = filter_map (set_in its) spec.cells ++ filter (λ it. not (sets_free_cell spec it)) its

abbrev pub is_for : StubRange → StubSet → Bool
is_for range it = bytes_eq it.name range.name

abbrev pub has_range : Spec → StubSet → Bool
has_range spec it = list_any (λ range. is_for range it) spec.stubs

-- The values for functions with a range come in the order of the ranges, the first list for each; then come those for others.
abbrev pub stubs_in_order : Spec → List StubSet → List StubSet
stubs_in_order spec its = filter_map (λ range. find (is_for range) its) spec.stubs ++ filter (λ it. not (has_range spec it)) its

-- The input sets things in the order of the specification.
pub record IsInOrder (spec : Spec) (input : Input) : Type 0 where
  pub cells : input.cells ≡ cells_in_order spec input.cells
  pub stubs : input.stubs ≡ stubs_in_order spec input.stubs

-- The input of a test. What the test doesn't set, in a free cell, has what the specification says that it has first.
abbrev pub built : Test → Spec → Input
built test spec = record { blocks = spec.blocks; cells = cells_in_order spec test.cells; stubs = stubs_in_order spec test.stubs }

-- ---- bounds

-- the number is of 64 bits
abbrev pub is_number_64 : ℤ → Bool
is_number_64 z = int_le (neg_ℤ (pos (2 ^ 64))) z && int_le z (pos (2 ^ 64))

abbrev pub has_ends_64 : Want → Bool
has_ends_64 (want.Between low high) = is_number_64 low && is_number_64 high
has_ends_64 (want.OneOf targets) = true

abbrev pub has_small_factor : NeedTerm → Bool
has_small_factor term = nat_lt (nat_abs term.factor) (2 ^ 31)

abbrev pub is_short : Need → Bool
is_short need = nat_le (length need.terms) 16 && list_all has_small_factor need.terms

-- The bounds that the lines of a specification keep, by which each sum of a requirement fits 128 bits: the ends of ranges are numbers of 64
-- bits, and a requirement has at most 16 terms, whose factors are below 2 ^ 31 in size.
pub record IsBounded (spec : Spec) : Type 0 where
  pub ranges : IsTrue (list_all (λ cell. has_ends_64 cell.want) spec.cells)
  pub needs : IsTrue (list_all is_short spec.needs)
