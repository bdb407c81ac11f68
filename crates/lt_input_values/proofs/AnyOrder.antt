-- Whether an input meets a specification is no matter of the order in which it sets things.
use Rattle.std.proofs.Common.{◌≡◌, ℤ, Bool, true, false, cond, List, [], ◌∷◌, Option, Some, None, refl, sym, ap, ◌∙◌}
use Rattle.std.specs.Prelude.{not, option_map, option_and_then, unwrap_or}
use Rattle.std.specs.List.{list_all, list_any, find}
use Rattle.std.specs.Str.{bytes_eq}
use Rattle.std.proofs.lemmas.Slice.Eq.{bytes_eq-Decides}
use Rattle.lt_model.specs.declared.input.CellSet.{CellSet}
use Rattle.lt_model.specs.declared.input.FreeCell.{FreeCell}
use Rattle.lt_model.specs.declared.input.Input.{Input}
use Rattle.lt_model.specs.declared.input.Need.{Need}
use Rattle.lt_model.specs.declared.input.NeedTerm.{NeedTerm}
use Rattle.lt_model.specs.declared.input.Place.{Place}
use Rattle.lt_model.specs.declared.input.Spec.{Spec}
use Rattle.lt_model.specs.declared.input.StubRange.{StubRange}
use Rattle.lt_model.specs.declared.input.StubSet.{StubSet}
use Rattle.lt_entry.specs.declared.test.Test.{Test}
use Rattle.lt_entry.specs.Conditions.{same_place}
use Rattle.lt_entry.specs.Meeting.{value_set, held, is_wanted, number_of, number_at, sum_of, is_related, needs_hold, sets_free_cell, keeps_range}
use Rattle.lt_entry.specs.Inputs.{set_in, cells_in_order, is_for, stubs_in_order, built}
use Rattle.lt_input_values.specs.Laws.{are_once, in_order_of_text, OrderIsNoMatter}
use Rattle.lt_input_values.proofs.Truths.{both}
use Rattle.lt_input_values.proofs.Left.{is_none_left, is_none_left-filter, not_first}
use Rattle.lt_input_values.proofs.Each.{Each, each_weaker}
use Rattle.lt_input_values.proofs.Sets.{set_value, all_same}
use Rattle.lt_input_values.proofs.Values.{gives_well, not_true, IsFound, IsKnown, all_known, all_of, judged_same}
use Rattle.lt_input_values.proofs.Ordered.{sets_same, elsewhere_same, values_same, stubs_ordered}

-- ---- cells

each_same : {A : Type 0} (p q : A → Bool) (xs : List A) → Each (λ x. p x ≡ q x) xs → list_all p xs ≡ list_all q xs
each_same p q [] same = refl
each_same p q (x ∷ xs) same = rw (same.0, each_same p q xs same.1) refl

-- in each free cell the two inputs hold the same
abbrev HoldSame : Spec → (one other : Input) → Type 0
HoldSame spec one other = Each (λ cell. held one cell ≡ held other cell) spec.cells

hold_same : (test : Test) (spec : Spec) → HoldSame spec (in_order_of_text test spec) (built test spec)
hold_same test spec =
    each_weaker (λ cell. set_in test.cells cell ≡ set_in (cells_in_order spec test.cells) cell) (λ cell. held (in_order_of_text test spec) cell ≡ held (built test spec) cell)
    (λ cell same. ap (λ v. unwrap_or v cell.start) (sym (set_value test.cells cell) ∙ ap (option_map value_set) same ∙ set_value (cells_in_order spec test.cells) cell)) spec.cells (sets_same spec test.cells)

cells_same : (spec : Spec) (one other : Input) → HoldSame spec one other → list_all (λ cell. is_wanted cell.want (held one cell)) spec.cells ≡ list_all (λ cell. is_wanted cell.want (held other cell)) spec.cells
cells_same spec one other same =
    each_same (λ cell. is_wanted cell.want (held one cell)) (λ cell. is_wanted cell.want (held other cell)) spec.cells
    (each_weaker (λ cell. held one cell ≡ held other cell) (λ cell. is_wanted cell.want (held one cell) ≡ is_wanted cell.want (held other cell)) (λ cell e. ap (is_wanted cell.want) e) spec.cells same)

free_same : (spec : Spec) (its : List CellSet) → list_all (sets_free_cell spec) its ≡ list_all (sets_free_cell spec) (cells_in_order spec its)
free_same spec its =
    sym (is_none_left-filter (sets_free_cell spec) its) ∙ ap is_none_left (elsewhere_same spec its) ∙ is_none_left-filter (sets_free_cell spec) (cells_in_order spec its)

-- ---- requirements

found_cond : (one other : Input) (cell : FreeCell) (t : Bool) (o : Option FreeCell) → held one cell ≡ held other cell → option_and_then (λ cell. number_of (held one cell)) o ≡ option_and_then (λ cell. number_of (held other cell)) o → option_and_then (λ cell. number_of (held one cell)) (cond t (Some cell) o) ≡ option_and_then (λ cell. number_of (held other cell)) (cond t (Some cell) o)
found_cond one other cell true o here later = ap number_of here
found_cond one other cell false o here later = later

numbers_same : (one other : Input) (place : Place) (cells : List FreeCell) → Each (λ cell. held one cell ≡ held other cell) cells → option_and_then (λ cell. number_of (held one cell)) (find (λ cell. same_place cell.at place) cells) ≡ option_and_then (λ cell. number_of (held other cell)) (find (λ cell. same_place cell.at place) cells)
numbers_same one other place [] same = refl
numbers_same one other place (cell ∷ cells) same = found_cond one other cell (same_place cell.at place) (find (λ cell. same_place cell.at place) cells) same.0 (numbers_same one other place cells same.1)

sums_same : (spec : Spec) (one other : Input) → HoldSame spec one other → (terms : List NeedTerm) → sum_of spec one terms ≡ sum_of spec other terms
sums_same spec one other same [] = refl
sums_same spec one other same (term ∷ terms) =
    let number : number_at spec one term.at ≡ number_at spec other term.at = numbers_same one other term.at spec.cells same in
    rw (number, sums_same spec one other same terms) refl

need_same : (spec : Spec) (one other : Input) (need : Need) → sum_of spec one need.terms ≡ sum_of spec other need.terms → needs_hold spec one need ≡ needs_hold spec other need
need_same spec one other need sums =
    let judged : Option ℤ → Bool = λ o. elim o [ None ↦ false | Some sum ↦ is_related need.rel sum need.constant ] in
    ap judged sums

needs_same : (spec : Spec) (one other : Input) → HoldSame spec one other → list_all (needs_hold spec one) spec.needs ≡ list_all (needs_hold spec other) spec.needs
needs_same spec one other same =
    all_same (needs_hold spec one) (needs_hold spec other) (λ need. need_same spec one other need (sums_same spec one other same need.terms)) spec.needs

-- ---- values for functions

other_name : (range : StubRange) (x it : StubSet) (t : Bool) → bytes_eq it.name x.name ≡ false → is_for range it ≡ true → is_for range x ≡ t → t ≡ false
other_name range x it true apart h e =
    let same : it.name ≡ x.name = (bytes_eq-Decides it.name range.name).0 h ∙ sym ((bytes_eq-Decides x.name range.name).0 e) in
    let is : bytes_eq it.name x.name ≡ true = (bytes_eq-Decides it.name x.name).1 same in
    absurd (cc)
other_name range x it false apart h e = refl

none_like : (x : StubSet) (xs : List StubSet) → list_any (λ other. bytes_eq other.name x.name) xs ≡ false → Each (λ it. bytes_eq it.name x.name ≡ false) xs
none_like x [] h = tt
none_like x (it ∷ its) h =
    let hs = not_first (bytes_eq it.name x.name) (list_any (λ other. bytes_eq other.name x.name) its) h in
    (hs.0, none_like x its hs.1)

both_apart : (x : StubSet) (xs some : List StubSet) → Each (λ it. bytes_eq it.name x.name ≡ false) some → Each (IsFound xs) some → Each (IsFound (x ∷ xs)) some
both_apart x xs [] apart found = tt
both_apart x xs (it ∷ its) apart found =
    (λ range h. rw (other_name range x it (is_for range x) apart.0 h refl) (found.0 range h), both_apart x xs its apart.1 found.1)

once_found : (its : List StubSet) → are_once its ≡ true → Each (IsFound its) its
once_found [] h = tt
once_found (it ∷ its) h =
    let hs = both (not (list_any (λ other. bytes_eq other.name it.name) its)) (are_once its) h in
    (λ range e. rw e refl, both_apart it its its (none_like it its (not_true (list_any (λ other. bytes_eq other.name it.name) its) hs.0)) (once_found its hs.1))

stubs_same : (spec : Spec) (its : List StubSet) → are_once its ≡ true → list_all (λ range. list_all (keeps_range range) its) spec.stubs ≡ list_all (λ range. list_all (keeps_range range) (stubs_in_order spec its)) spec.stubs
stubs_same spec its once =
    let known : Each (IsKnown spec its) its = each_weaker (IsFound its) (IsKnown spec its) (λ it found range is h. found range h) its (once_found its once) in
    let found : list_all (λ range. gives_well range (find (is_for range) its)) spec.stubs ≡ list_all (λ range. gives_well range (find (is_for range) (stubs_in_order spec its))) spec.stubs =
    each_same (λ range. gives_well range (find (is_for range) its)) (λ range. gives_well range (find (is_for range) (stubs_in_order spec its))) spec.stubs
    (each_weaker (λ r. find (is_for r) its ≡ find (is_for r) (stubs_in_order spec its)) (λ range. gives_well range (find (is_for range) its) ≡ gives_well range (find (is_for range) (stubs_in_order spec its))) (λ range e. ap (gives_well range) e) spec.stubs (values_same spec its)) in
    sym (judged_same spec its known spec.stubs (all_of spec.stubs)) ∙ found
    ∙ judged_same spec (stubs_in_order spec its) (all_known spec (stubs_in_order spec its) (stubs_ordered spec its)) spec.stubs (all_of spec.stubs)

pub any_order : OrderIsNoMatter
any_order test spec once =
    let same = hold_same test spec in
    let cells = cells_same spec (in_order_of_text test spec) (built test spec) same in
    let needs = needs_same spec (in_order_of_text test spec) (built test spec) same in
    let free = free_same spec test.cells in
    let stubs = stubs_same spec test.stubs once in (
      λ m. record { blocks = m.blocks; sets = free ∙ m.sets; cells = cells ∙ m.cells; stubs = stubs ∙ m.stubs; needs = needs ∙ m.needs },
      λ m. record { blocks = m.blocks; sets = sym free ∙ m.sets; cells = sym cells ∙ m.cells; stubs = sym stubs ∙ m.stubs; needs = sym needs ∙ m.needs },
    )
