-- What is put in order by maps is in the order of the definitions.
use Rattle.std.proofs.Common.{◌≡◌, ℕ, Bool, true, false, List, [], ◌∷◌, ◌++◌, Option, Some, None, refl, sym, ap, ◌∙◌, reverse}
use Rattle.std.specs.Prelude.{◌&&◌, not, is_some, option_map, option_and_then, if◌then◌else◌}
use Rattle.std.specs.List.{filter, filter_map, find, list_any}
use Rattle.std.specs.Option.{option_or}
use Rattle.std.specs.Str.{bytes_eq}
use Rattle.std.proofs.lemmas.Cmp.{nat_list_eq_equiv}
use Rattle.lt_model.specs.declared.input.CellSet.{CellSet}
use Rattle.lt_model.specs.declared.input.CellSet.TheVariants as cellset
use Rattle.lt_model.specs.declared.input.FreeCell.{FreeCell}
use Rattle.lt_model.specs.declared.input.Place.{Place}
use Rattle.lt_model.specs.declared.input.Spec.{Spec}
use Rattle.lt_model.specs.declared.input.StubRange.{StubRange}
use Rattle.lt_model.specs.declared.input.StubSet.{StubSet}
use Rattle.lt_entry.specs.Conditions.{same_place}
use Rattle.lt_entry.specs.Meeting.{place_set, value_set, last_set, sets_free_cell}
use Rattle.lt_entry.specs.Inputs.{set_to, set_in, cells_in_order, is_for, has_range, stubs_in_order}
use Rattle.lt_input_values.proofs.Steps.{some_mapped}
use Rattle.lt_input_values.proofs.PlaceLaws.{same_place-Decides, same_place-self}
use Rattle.lt_input_values.proofs.Sets.{last_set-found, last_or}
use Rattle.lt_input_values.proofs.Values.{find_fits}
use Rattle.lt_input_values.proofs.Each.{Each, each_weaker, each_of_all, filter_same, filter_map_same}

any_same : {A : Type 0} (p q : A → Bool) → ((a : A) → p a ≡ q a) → (xs : List A) → list_any p xs ≡ list_any q xs
any_same p q same [] = refl
any_same p q same (x ∷ xs) = rw (same x, any_same p q same xs) refl

-- ---- cells

set_back : (place : Place) (it : CellSet) → same_place (place_set it) place ≡ true → set_to place (value_set it) ≡ Some it
set_back place (cellset.Number at z) h = ap (λ (p : Place). Some (cellset.Number p z)) (sym ((same_place-Decides at place).0 h))
set_back place (cellset.Point at target) h = ap (λ (p : Place). Some (cellset.Point p target)) (sym ((same_place-Decides at place).0 h))

found_back : (place : Place) (o : Option CellSet) → ((it : CellSet) → o ≡ Some it → same_place (place_set it) place ≡ true) → option_and_then (set_to place) (option_map value_set o) ≡ o
found_back place None fits = refl
found_back place (Some it) fits = set_back place it (fits it refl)

-- what is found last at the place of a cell is what is set in it
pub set_in_found : (its : List CellSet) (cell : FreeCell) → find (λ it. same_place (place_set it) cell.at) (reverse its) ≡ set_in its cell
set_in_found its cell =
    sym (ap (option_and_then (set_to cell.at)) (last_set-found cell.at its)
    ∙ found_back cell.at (find (λ it. same_place (place_set it) cell.at) (reverse its)) (find_fits (λ it. same_place (place_set it) cell.at) (reverse its)))

some_or : {A : Type 0} (o : Option A) (a : A) → is_some (option_or o (Some a)) ≡ true
some_or None a = refl
some_or (Some b) a = refl

some_first : {A : Type 0} (o other : Option A) → is_some o ≡ true → is_some (option_or o other) ≡ true
some_first None other h = absurd (cc)
some_first (Some a) other h = refl

still_set : (place : Place) (it : CellSet) (its : List CellSet) → is_some (last_set place its) ≡ true → is_some (last_set place (it ∷ its)) ≡ true
still_set place it its h =
    ap is_some (last_or place it its (last_set place its) (same_place (place_set it) place) refl refl)
    ∙ some_first (last_set place its) (if same_place (place_set it) place then Some (value_set it) else None) h

-- Something is set at the place of each thing that is set.
all_set : (its : List CellSet) → Each (λ it. is_some (last_set (place_set it) its) ≡ true) its
all_set [] = tt
all_set (it ∷ its) = (
  ap is_some (last_or (place_set it) it its (last_set (place_set it) its) true refl (same_place-self (place_set it))) ∙ some_or (last_set (place_set it) its) (value_set it),
  each_weaker (λ x. is_some (last_set (place_set x) its) ≡ true) (λ x. is_some (last_set (place_set x) (it ∷ its)) ≡ true) (λ x h. still_set (place_set x) it its h) its (all_set its),
)

narrow_one : (b q : Bool) → (b ≡ true → q ≡ true) → (b && q) ≡ b
narrow_one true q h = h refl
narrow_one false q h = refl

any_narrow : {A : Type 0} (p q : A → Bool) → ((a : A) → p a ≡ true → q a ≡ true) → (xs : List A) → list_any (λ a. p a && q a) xs ≡ list_any p xs
any_narrow p q h [] = refl
any_narrow p q h (x ∷ xs) = rw (narrow_one (p x) (q x) (h x), any_narrow p q h xs) refl

-- What is looked up in maps of what is set last and of places that are free is in the order of the cells.
pub cells_by_maps : (spec : Spec) (its : List CellSet) (at : Place → Option CellSet) (free : Place → Bool) → ((place : Place) → at place ≡ find (λ it. same_place (place_set it) place) (reverse its)) → ((place : Place) → free place ≡ list_any (λ cell. same_place cell.at place && is_some (at cell.at)) spec.cells) → filter_map (λ cell. at cell.at) spec.cells ++ filter (λ it. not (free (place_set it))) its ≡ cells_in_order spec its
cells_by_maps spec its at free last found =
    let set : (place : Place) → is_some (at place) ≡ is_some (last_set place its) =
    λ place. ap is_some (last place) ∙ sym (some_mapped value_set (find (λ it. same_place (place_set it) place) (reverse its))) ∙ ap is_some (sym (last_set-found place its)) in
    let freed : (it : CellSet) → is_some (last_set (place_set it) its) ≡ true → not (free (place_set it)) ≡ not (sets_free_cell spec it) =
    λ it h. ap not (found (place_set it) ∙ any_narrow (λ (cell : FreeCell). same_place cell.at (place_set it)) (λ (cell : FreeCell). is_some (at cell.at))
    (λ cell same. ap (λ (p : Place). is_some (at p)) ((same_place-Decides cell.at (place_set it)).0 same) ∙ set (place_set it) ∙ h) spec.cells) in
    rw (
      filter_map_same (λ (cell : FreeCell). at cell.at) (set_in its) spec.cells (each_of_all (λ (cell : FreeCell). at cell.at ≡ set_in its cell) (λ cell. last cell.at ∙ set_in_found its cell) spec.cells),
      filter_same (λ it. not (free (place_set it))) (λ it. not (sets_free_cell spec it)) its (each_weaker (λ it. is_some (last_set (place_set it) its) ≡ true) (λ it. not (free (place_set it)) ≡ not (sets_free_cell spec it)) freed its (all_set its)),
    )
    refl

-- ---- values

-- What is looked up in a map of the first values and a set of names is in the order of the ranges.
pub stubs_by_maps : (spec : Spec) (its : List StubSet) (of : List ℕ → Option StubSet) (known : List ℕ → Bool) → ((name : List ℕ) → of name ≡ find (λ it. bytes_eq it.name name) its) → ((name : List ℕ) → known name ≡ list_any (λ range. bytes_eq range.name name) spec.stubs) → filter_map (λ range. of range.name) spec.stubs ++ filter (λ it. not (known it.name)) its ≡ stubs_in_order spec its
stubs_by_maps spec its of known first names =
    rw (
      filter_map_same (λ (range : StubRange). of range.name) (λ range. find (is_for range) its) spec.stubs (each_of_all (λ (range : StubRange). of range.name ≡ find (is_for range) its) (λ range. first range.name) spec.stubs),
      filter_same (λ it. not (known it.name)) (λ it. not (has_range spec it)) its (each_of_all (λ it. not (known it.name) ≡ not (has_range spec it)) (λ it. ap not (names it.name ∙ any_same (λ (range : StubRange). bytes_eq range.name it.name) (λ range. is_for range it) (λ range. nat_list_eq_equiv.symm range.name it.name) spec.stubs)) its),
    )
    refl
