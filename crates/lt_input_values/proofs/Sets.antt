-- What an input sets in free cells.
use Rattle.std.proofs.Common.{◌≡◌, Bool, true, false, List, [], ◌∷◌, Option, Some, None, refl, sym, ap, ◌∙◌, reverse}
use Rattle.std.specs.Prelude.{if◌then◌else◌, option_map, option_and_then, unwrap_or}
use Rattle.std.specs.Option.{option_or}
use Rattle.std.proofs.lemmas.List.{reverse-append}
use Rattle.std.proofs.lemmas.List.Folds.{find-append}
use Rattle.std.specs.List.{list_all, find}
use Rattle.lt_model.specs.declared.input.CellSet.{CellSet}
use Rattle.lt_model.specs.declared.input.CellSet.TheVariants as cellset
use Rattle.lt_model.specs.declared.input.FreeCell.{FreeCell}
use Rattle.lt_model.specs.declared.input.Input.{Input}
use Rattle.lt_model.specs.declared.input.Place.{Place}
use Rattle.lt_model.specs.declared.input.Spec.{Spec}
use Rattle.lt_model.specs.declared.input.StartValue.{StartValue}
use Rattle.lt_model.specs.declared.input.StartValue.TheVariants as start
use Rattle.lt_entry.specs.Conditions.{same_place}
use Rattle.lt_entry.specs.Meeting.{place_set, value_set, last_set, held, is_wanted, number_of, number_at}
use Rattle.lt_entry.specs.Inputs.{set_to, set_in}
use Rattle.lt_input_wants.specs.Cells.{holds_well}
use Rattle.lt_input_values.proofs.PlaceLaws.{same_place-self}

-- ---- the last of what is set at a place

last_here : (place : Place) (it : CellSet) (its : List CellSet) → last_set place its ≡ None → same_place (place_set it) place ≡ true → last_set place (it ∷ its) ≡ Some (value_set it)
last_here place it its none here = rw (none, here) refl

last_nowhere : (place : Place) (it : CellSet) (its : List CellSet) → last_set place its ≡ None → same_place (place_set it) place ≡ false → last_set place (it ∷ its) ≡ None
last_nowhere place it its none here = rw (none, here) refl

last_later : (place : Place) (it : CellSet) (its : List CellSet) (v : StartValue) → last_set place its ≡ Some v → last_set place (it ∷ its) ≡ Some v
last_later place it its v some = rw some refl

first_of_two : (place : Place) (it : CellSet) (o : Option CellSet) (p : Bool) → same_place (place_set it) place ≡ p → option_map value_set (option_or o (find (λ it. same_place (place_set it) place) (it ∷ []))) ≡ option_or (option_map value_set o) (if p then Some (value_set it) else None)
first_of_two place it (Some x) p e = refl
first_of_two place it None true e = rw e refl
first_of_two place it None false e = rw e refl

pub last_or : (place : Place) (it : CellSet) (its : List CellSet) (o : Option StartValue) (p : Bool) → last_set place its ≡ o → same_place (place_set it) place ≡ p → last_set place (it ∷ its) ≡ option_or o (if p then Some (value_set it) else None)
last_or place it its (Some v) p e h = last_later place it its v e
last_or place it its None true e h = last_here place it its e h
last_or place it its None false e h = last_nowhere place it its e h

pub last_set-found : (place : Place) (its : List CellSet) → last_set place its ≡ option_map value_set (find (λ it. same_place (place_set it) place) (reverse its))
last_set-found place [] = refl
last_set-found place (it ∷ its) =
    let ih : last_set place its ≡ option_map value_set (find (λ it. same_place (place_set it) place) (reverse its)) = last_set-found place its in
    last_or place it its (option_map value_set (find (λ it. same_place (place_set it) place) (reverse its))) (same_place (place_set it) place) ih refl
    ∙ sym (first_of_two place it (find (λ it. same_place (place_set it) place) (reverse its)) (same_place (place_set it) place) refl)
    ∙ ap (option_map value_set) (sym (find-append (λ it. same_place (place_set it) place) (reverse its) (it ∷ []))
    ∙ ap (find (λ it. same_place (place_set it) place)) (sym (reverse-append (it ∷ []) its)))

no_other_first : (place : Place) (it : CellSet) → Some (value_set it) ≡ Some start.Other → ⊥
no_other_first place (cellset.Number at z) h = cc
no_other_first place (cellset.Point at target) h = cc

no_other_or : (place : Place) (it : CellSet) (o : Option StartValue) (p : Bool) → (o ≡ Some start.Other → ⊥) → option_or o (if p then Some (value_set it) else None) ≡ Some start.Other → ⊥
no_other_or place it (Some v) p before h = before h
no_other_or place it None true before h = no_other_first place it h
no_other_or place it None false before h = cc

-- No address is set that no place names.
no_other : (place : Place) (its : List CellSet) → last_set place its ≡ Some start.Other → ⊥
no_other place [] h = cc
no_other place (it ∷ its) h =
    no_other_or place it (last_set place its) (same_place (place_set it) place) (no_other place its)
    (sym (last_or place it its (last_set place its) (same_place (place_set it) place) refl refl) ∙ h)

-- ---- what is set in a free cell

fit_set : (cell : FreeCell) (o : Option StartValue) (it : CellSet) → option_and_then (set_to cell.at) o ≡ Some it → same_place (place_set it) cell.at ≡ true
fit_set cell None it h = absurd (cc)
fit_set cell (Some (start.Number z)) it h =
    let is : cellset.Number cell.at z ≡ it = cc in
    rw (← is) (same_place-self cell.at)
fit_set cell (Some (start.Point target)) it h =
    let is : cellset.Point cell.at target ≡ it = cc in
    rw (← is) (same_place-self cell.at)
fit_set cell (Some start.Other) it h = absurd (cc)

value_back : (place : Place) (o : Option StartValue) → (o ≡ Some start.Other → ⊥) → option_map value_set (option_and_then (set_to place) o) ≡ o
value_back place None other = refl
value_back place (Some (start.Number z)) other = refl
value_back place (Some (start.Point target)) other = refl
value_back place (Some start.Other) other = absurd (other refl)

pub sets_fit : (its : List CellSet) (cell : FreeCell) (it : CellSet) → set_in its cell ≡ Some it → same_place (place_set it) cell.at ≡ true
sets_fit its cell it h = fit_set cell (last_set cell.at its) it h

pub set_value : (its : List CellSet) (cell : FreeCell) → option_map value_set (set_in its cell) ≡ last_set cell.at its
set_value its cell = value_back cell.at (last_set cell.at its) (no_other cell.at its)

pub all_same : {A : Type 0} (p q : A → Bool) → ((a : A) → p a ≡ q a) → (xs : List A) → list_all p xs ≡ list_all q xs
all_same p q same [] = refl
all_same p q same (x ∷ xs) = rw (same x, all_same p q same xs) refl

-- A cell holds what it may by what is found there last.
pub held_well : (cell : FreeCell) (input : Input) (o : Option CellSet) → o ≡ find (λ it. same_place (place_set it) cell.at) (reverse input.cells) → holds_well cell o ≡ is_wanted cell.want (held input cell)
held_well cell input o e = ap (λ v. is_wanted cell.want (unwrap_or v cell.start)) (ap (option_map value_set) e ∙ sym (last_set-found cell.at input.cells))

-- ---- the number in a free cell

pub number_at_is : (spec : Spec) (input : Input) (place : Place) (cell : FreeCell) (o : Option CellSet) → find (λ it. same_place it.at place) spec.cells ≡ Some cell → o ≡ find (λ it. same_place (place_set it) cell.at) (reverse input.cells) → number_at spec input place ≡ number_of (unwrap_or (option_map value_set o) cell.start)
number_at_is spec input place cell o found e =
    rw found (ap (λ v. number_of (unwrap_or v cell.start)) (last_set-found cell.at input.cells ∙ ap (option_map value_set) (sym e)))
