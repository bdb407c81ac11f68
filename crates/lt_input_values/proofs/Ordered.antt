-- What is put in order stays as it is when it is put in order again.
use Rattle.std.proofs.Common.{◌≡◌, ℕ, Bool, true, false, cond, List, [], ◌∷◌, ◌++◌, Option, Some, None, refl, sym, ap, ◌∙◌}
use Rattle.std.specs.Prelude.{◌||◌, not, option_map, option_and_then, if◌then◌else◌}
use Rattle.std.specs.List.{filter, filter_map, find, list_any, cons_option}
use Rattle.std.specs.Option.{option_or}
use Rattle.std.specs.Str.{bytes_eq}
use Rattle.std.proofs.lemmas.Slice.Eq.{bytes_eq-Decides}
use Rattle.std.proofs.lemmas.List.Elements.{filter-append}
use Rattle.std.proofs.lemmas.List.Folds.{find-append}
use Rattle.lt_model.specs.declared.input.CellSet.{CellSet}
use Rattle.lt_model.specs.declared.input.FreeCell.{FreeCell}
use Rattle.lt_model.specs.declared.input.Place.{Place}
use Rattle.lt_model.specs.declared.input.Spec.{Spec}
use Rattle.lt_model.specs.declared.input.StartValue.{StartValue}
use Rattle.lt_model.specs.declared.input.StubRange.{StubRange}
use Rattle.lt_model.specs.declared.input.StubSet.{StubSet}
use Rattle.lt_entry.specs.declared.test.Test.{Test}
use Rattle.lt_entry.specs.Conditions.{same_place}
use Rattle.lt_entry.specs.Meeting.{place_set, value_set, last_set, sets_free_cell}
use Rattle.lt_entry.specs.Inputs.{set_to, set_in, cells_in_order, is_for, has_range, stubs_in_order, IsInOrder, built}
use Rattle.lt_input_values.proofs.PlaceLaws.{same_place-Decides, same_place-self}
use Rattle.lt_input_values.proofs.Sets.{last_or, sets_fit, set_value}
use Rattle.lt_input_values.proofs.Values.{find_fits, not_true, same_function, same_search}
use Rattle.lt_input_values.proofs.Steps.{or_none}
use Rattle.lt_input_values.proofs.Each.{Each, each_weaker, members, filter_fits, filter_all, filter_none, filter_map_same}

not_false : (b : Bool) → b ≡ true → not b ≡ false
not_false b h = rw h refl

or_same : {A : Type 0} (t : Bool) (o : Option A) → option_or (cond t o None) o ≡ o
or_same true None = refl
or_same true (Some a) = refl
or_same false o = refl

cond_none : {A : Type 0} (t : Bool) (o : Option A) → o ≡ None → cond t o None ≡ None
cond_none true o h = h
cond_none false o h = refl

-- ---- the last of two lists

last_here : Place → CellSet → Option StartValue
last_here place it = if same_place (place_set it) place then Some (value_set it) else None

or_three : {A : Type 0} (a b c : Option A) → option_or (option_or a b) c ≡ option_or a (option_or b c)
or_three None b c = refl
or_three (Some a) b c = refl

last_set-append : (place : Place) (xs ys : List CellSet) → last_set place (xs ++ ys) ≡ option_or (last_set place ys) (last_set place xs)
unfolding last_here
last_set-append place [] ys = sym (or_none (last_set place ys))
last_set-append place (x ∷ xs) ys =
    last_or place x (xs ++ ys) (last_set place (xs ++ ys)) (same_place (place_set x) place) refl refl
    ∙ ap (λ o. option_or o (last_here place x)) (last_set-append place xs ys)
    ∙ or_three (last_set place ys) (last_set place xs) (last_here place x)
    ∙ ap (option_or (last_set place ys)) (sym (last_or place x xs (last_set place xs) (same_place (place_set x) place) refl refl))

none_last : (place : Place) (xs : List CellSet) → Each (λ it. same_place (place_set it) place ≡ false) xs → last_set place xs ≡ None
none_last place [] none = refl
none_last place (x ∷ xs) none = last_or place x xs None false (none_last place xs none.1) none.0

-- ---- what is set in free cells

-- what stands first of what is set in cells, where something is set in the first of them
first_in : (its : List CellSet) (place : Place) (cell : FreeCell) (it : CellSet) (more : List CellSet) (any t : Bool) → set_in its cell ≡ Some it → last_set place more ≡ cond any (last_set place its) None → same_place cell.at place ≡ t → last_set place (it ∷ more) ≡ cond (t || any) (last_set place its) None
first_in its place cell it more any true e ih same =
    let at : place_set it ≡ cell.at = (same_place-Decides (place_set it) cell.at).0 (sets_fit its cell it e) in
    let here : cell.at ≡ place = (same_place-Decides cell.at place).0 same in
    let value : Some (value_set it) ≡ last_set place its = ap (option_map value_set) (sym e) ∙ set_value its cell ∙ ap (λ p. last_set p its) here in
    last_or place it more (last_set place more) true refl ((same_place-Decides (place_set it) place).1 (at ∙ here))
    ∙ rw (ih, value) (or_same any (last_set place its))
first_in its place cell it more any false e ih same =
    let at : place_set it ≡ cell.at = (same_place-Decides (place_set it) cell.at).0 (sets_fit its cell it e) in
    last_or place it more (last_set place more) false refl (ap (λ p. same_place p place) at ∙ same)
    ∙ rw ih (or_none (cond any (last_set place its) None))

none_in : (its : List CellSet) (place : Place) (cell : FreeCell) (more : List CellSet) (any t : Bool) → set_in its cell ≡ None → last_set place more ≡ cond any (last_set place its) None → same_place cell.at place ≡ t → last_set place more ≡ cond (t || any) (last_set place its) None
none_in its place cell more any true e ih same =
    let here : cell.at ≡ place = (same_place-Decides cell.at place).0 same in
    let none : last_set place its ≡ None = ap (λ p. last_set p its) (sym here) ∙ sym (set_value its cell) ∙ ap (option_map value_set) e in
    ih ∙ cond_none any (last_set place its) none ∙ sym none
none_in its place cell more any false e ih same = ih

next_in : (its : List CellSet) (place : Place) (cell : FreeCell) (o : Option CellSet) (more : List CellSet) (any : Bool) → set_in its cell ≡ o → last_set place more ≡ cond any (last_set place its) None → last_set place (cons_option o more) ≡ cond (same_place cell.at place || any) (last_set place its) None
next_in its place cell None more any e ih = none_in its place cell more any (same_place cell.at place) e ih refl
next_in its place cell (Some it) more any e ih = first_in its place cell it more any (same_place cell.at place) e ih refl

last_in : (its : List CellSet) (place : Place) (cells : List FreeCell) → last_set place (filter_map (set_in its) cells) ≡ cond (list_any (λ cell. same_place cell.at place) cells) (last_set place its) None
last_in its place [] = refl
last_in its place (cell ∷ cells) = next_in its place cell (set_in its cell) (filter_map (set_in its) cells) (list_any (λ cell. same_place cell.at place) cells) refl (last_in its place cells)

free_next : (spec : Spec) (its : List CellSet) (cell : FreeCell) (o : Option CellSet) (more : List CellSet) → set_in its cell ≡ o → ((it : CellSet) → same_place cell.at (place_set it) ≡ true → sets_free_cell spec it ≡ true) → Each (λ it. sets_free_cell spec it ≡ true) more → Each (λ it. sets_free_cell spec it ≡ true) (cons_option o more)
free_next spec its cell None more e is free = free
free_next spec its cell (Some it) more e is free =
    (is it ((same_place-Decides cell.at (place_set it)).1 (sym ((same_place-Decides (place_set it) cell.at).0 (sets_fit its cell it e)))), free)

all_free : (spec : Spec) (its : List CellSet) (cells : List FreeCell) → Each (λ cell. (it : CellSet) → same_place cell.at (place_set it) ≡ true → sets_free_cell spec it ≡ true) cells → Each (λ it. sets_free_cell spec it ≡ true) (filter_map (set_in its) cells)
all_free spec its [] are = tt
all_free spec its (cell ∷ cells) are = free_next spec its cell (set_in its cell) (filter_map (set_in its) cells) refl are.0 (all_free spec its cells are.1)

apart : (spec : Spec) (place : Place) (it : CellSet) (t : Bool) → same_place (place_set it) place ≡ t → list_any (λ cell. same_place cell.at place) spec.cells ≡ true → not (sets_free_cell spec it) ≡ true → t ≡ false
apart spec place it true same is free =
    let here : place_set it ≡ place = (same_place-Decides (place_set it) place).0 same in
    let freed : sets_free_cell spec it ≡ true = ap (λ p. list_any (λ (cell : FreeCell). same_place cell.at p) spec.cells) here ∙ is in
    absurd (let no : sets_free_cell spec it ≡ false = not_true (sets_free_cell spec it) free in cc)
apart spec place it false same is free = refl

-- What is set in a cell is the same in the order.
set_in_same : (spec : Spec) (its : List CellSet) (cell : FreeCell) → list_any (λ other. same_place other.at cell.at) spec.cells ≡ true → set_in its cell ≡ set_in (cells_in_order spec its) cell
set_in_same spec its cell is =
    let none : last_set cell.at (filter (λ it. not (sets_free_cell spec it)) its) ≡ None =
    none_last cell.at (filter (λ it. not (sets_free_cell spec it)) its)
    (each_weaker (λ it. not (sets_free_cell spec it) ≡ true) (λ it. same_place (place_set it) cell.at ≡ false) (λ it free. apart spec cell.at it (same_place (place_set it) cell.at) refl is free) (filter (λ it. not (sets_free_cell spec it)) its) (filter_fits (λ it. not (sets_free_cell spec it)) its)) in
    let last : last_set cell.at (cells_in_order spec its) ≡ last_set cell.at its =
    last_set-append cell.at (filter_map (set_in its) spec.cells) (filter (λ it. not (sets_free_cell spec it)) its)
    ∙ rw (none, last_in its cell.at spec.cells, is) refl in
    ap (option_and_then (set_to cell.at)) (sym last)

-- What is set in each free cell is the same in the order.
pub sets_same : (spec : Spec) (its : List CellSet) → Each (λ cell. set_in its cell ≡ set_in (cells_in_order spec its) cell) spec.cells
sets_same spec its =
    each_weaker (λ (other : FreeCell). (cell : FreeCell) → same_place other.at cell.at ≡ true → list_any (λ (x : FreeCell). same_place x.at cell.at) spec.cells ≡ true) (λ cell. set_in its cell ≡ set_in (cells_in_order spec its) cell)
    (λ cell is. set_in_same spec its cell (is cell (same_place-self cell.at))) spec.cells (members (λ (other cell : FreeCell). same_place other.at cell.at) spec.cells)

-- What is set elsewhere is the same in the order.
pub elsewhere_same : (spec : Spec) (its : List CellSet) → filter (λ it. not (sets_free_cell spec it)) its ≡ filter (λ it. not (sets_free_cell spec it)) (cells_in_order spec its)
elsewhere_same spec its =
    let free : filter (λ it. not (sets_free_cell spec it)) (filter_map (set_in its) spec.cells) ≡ [] =
    filter_none (λ it. not (sets_free_cell spec it)) (filter_map (set_in its) spec.cells)
    (each_weaker (λ it. sets_free_cell spec it ≡ true) (λ it. not (sets_free_cell spec it) ≡ false) (λ it h. not_false (sets_free_cell spec it) h) (filter_map (set_in its) spec.cells) (all_free spec its spec.cells (members (λ (cell : FreeCell) (it : CellSet). same_place cell.at (place_set it)) spec.cells))) in
    let others : filter (λ it. not (sets_free_cell spec it)) (filter (λ it. not (sets_free_cell spec it)) its) ≡ filter (λ it. not (sets_free_cell spec it)) its =
    filter_all (λ it. not (sets_free_cell spec it)) (filter (λ it. not (sets_free_cell spec it)) its) (filter_fits (λ it. not (sets_free_cell spec it)) its) in
    sym (filter-append (λ it. not (sets_free_cell spec it)) (filter_map (set_in its) spec.cells) (filter (λ it. not (sets_free_cell spec it)) its) ∙ rw (free, others) refl)

pub cells_ordered : (spec : Spec) (its : List CellSet) → cells_in_order spec its ≡ cells_in_order spec (cells_in_order spec its)
cells_ordered spec its =
    ap (λ xs. xs ++ filter (λ it. not (sets_free_cell spec it)) its) (filter_map_same (set_in its) (set_in (cells_in_order spec its)) spec.cells (sets_same spec its))
    ∙ ap (λ ys. filter_map (set_in (cells_in_order spec its)) spec.cells ++ ys) (elsewhere_same spec its)

-- ---- values for functions

search_named : (its : List StubSet) (range r : StubRange) → bytes_eq r.name range.name ≡ true → find (is_for r) its ≡ find (is_for range) its
search_named its range r h = same_search its r range ((bytes_eq-Decides r.name range.name).0 h)

not_for : (range r : StubRange) (it : StubSet) (t : Bool) → bytes_eq r.name range.name ≡ false → is_for r it ≡ true → is_for range it ≡ t → t ≡ false
not_for range r it true other is h = absurd (let same : bytes_eq r.name range.name ≡ true = (bytes_eq-Decides r.name range.name).1 (same_function r range it is h) in cc)
not_for range r it false other is h = refl

for_named : (range r : StubRange) (it : StubSet) → bytes_eq r.name range.name ≡ true → is_for r it ≡ true → is_for range it ≡ true
for_named range r it same is = (bytes_eq-Decides it.name range.name).1 ((bytes_eq-Decides it.name r.name).0 is ∙ (bytes_eq-Decides r.name range.name).0 same)

next_found : (its : List StubSet) (range r : StubRange) (o : Option StubSet) (more : List StubSet) (any t : Bool) → find (is_for r) its ≡ o → find (is_for range) more ≡ cond any (find (is_for range) its) None → bytes_eq r.name range.name ≡ t → find (is_for range) (cons_option o more) ≡ cond (t || any) (find (is_for range) its) None
next_found its range r None more any true e ih same =
    let none : find (is_for range) its ≡ None = sym (search_named its range r same) ∙ e in
    ih ∙ cond_none any (find (is_for range) its) none ∙ sym none
next_found its range r None more any false e ih same = ih
next_found its range r (Some it) more any true e ih same =
    rw (for_named range r it same (find_fits (is_for r) its it e)) (sym e ∙ search_named its range r same)
next_found its range r (Some it) more any false e ih same =
    rw (not_for range r it (is_for range it) same (find_fits (is_for r) its it e) refl) ih

found_in : (its : List StubSet) (range : StubRange) (ranges : List StubRange) → find (is_for range) (filter_map (λ r. find (is_for r) its) ranges) ≡ cond (list_any (λ r. bytes_eq r.name range.name) ranges) (find (is_for range) its) None
found_in its range [] = refl
found_in its range (r ∷ ranges) = next_found its range r (find (is_for r) its) (filter_map (λ r. find (is_for r) its) ranges) (list_any (λ r. bytes_eq r.name range.name) ranges) (bytes_eq r.name range.name) refl (found_in its range ranges) refl

known_next : (spec : Spec) (its : List StubSet) (r : StubRange) (o : Option StubSet) (more : List StubSet) → find (is_for r) its ≡ o → ((it : StubSet) → is_for r it ≡ true → has_range spec it ≡ true) → Each (λ it. has_range spec it ≡ true) more → Each (λ it. has_range spec it ≡ true) (cons_option o more)
known_next spec its r None more e is known = known
known_next spec its r (Some it) more e is known = (is it (find_fits (is_for r) its it e), known)

all_known : (spec : Spec) (its : List StubSet) (ranges : List StubRange) → Each (λ r. (it : StubSet) → is_for r it ≡ true → has_range spec it ≡ true) ranges → Each (λ it. has_range spec it ≡ true) (filter_map (λ r. find (is_for r) its) ranges)
all_known spec its [] are = tt
all_known spec its (r ∷ ranges) are = known_next spec its r (find (is_for r) its) (filter_map (λ r. find (is_for r) its) ranges) refl are.0 (all_known spec its ranges are.1)

none_found : (p : StubSet → Bool) (xs : List StubSet) → Each (λ it. p it ≡ false) xs → find p xs ≡ None
none_found p [] none = refl
none_found p (x ∷ xs) none = rw none.0 (none_found p xs none.1)

unknown : (spec : Spec) (range : StubRange) (it : StubSet) (t : Bool) → is_for range it ≡ t → ((it : StubSet) → is_for range it ≡ true → has_range spec it ≡ true) → not (has_range spec it) ≡ true → t ≡ false
unknown spec range it true h is none = absurd (let known : has_range spec it ≡ true = is it h in let no : has_range spec it ≡ false = not_true (has_range spec it) none in cc)
unknown spec range it false h is none = refl

-- What is found for a range is the same in the order.
found_same : (spec : Spec) (its : List StubSet) (range : StubRange) → list_any (λ r. bytes_eq r.name range.name) spec.stubs ≡ true → ((it : StubSet) → is_for range it ≡ true → has_range spec it ≡ true) → find (is_for range) its ≡ find (is_for range) (stubs_in_order spec its)
found_same spec its range named is =
    let none : find (is_for range) (filter (λ it. not (has_range spec it)) its) ≡ None =
    none_found (is_for range) (filter (λ it. not (has_range spec it)) its)
    (each_weaker (λ it. not (has_range spec it) ≡ true) (λ it. is_for range it ≡ false) (λ it h. unknown spec range it (is_for range it) refl is h) (filter (λ it. not (has_range spec it)) its) (filter_fits (λ it. not (has_range spec it)) its)) in
    sym (find-append (is_for range) (filter_map (λ r. find (is_for r) its) spec.stubs) (filter (λ it. not (has_range spec it)) its)
    ∙ rw (none, found_in its range spec.stubs, named) (or_none (find (is_for range) its)))

both_each : {A : Type 0} (P Q : A → Type 0) (xs : List A) → Each P xs → Each Q xs → Each (λ a. P a × Q a) xs
both_each P Q [] hs gs = tt
both_each P Q (x ∷ xs) hs gs = ((hs.0, gs.0), both_each P Q xs hs.1 gs.1)

name_self : (name : List ℕ) → bytes_eq name name ≡ true
name_self name = (bytes_eq-Decides name name).1 refl

-- What is found for each range is the same in the order.
pub values_same : (spec : Spec) (its : List StubSet) → Each (λ r. find (is_for r) its ≡ find (is_for r) (stubs_in_order spec its)) spec.stubs
values_same spec its =
    let P : StubRange → Type 0 = λ r. (range : StubRange) → bytes_eq r.name range.name ≡ true → list_any (λ (x : StubRange). bytes_eq x.name range.name) spec.stubs ≡ true in
    let Q : StubRange → Type 0 = λ r. (it : StubSet) → is_for r it ≡ true → has_range spec it ≡ true in
    each_weaker (λ r. P r × Q r) (λ r. find (is_for r) its ≡ find (is_for r) (stubs_in_order spec its)) (λ r h. found_same spec its r (h.0 r (name_self r.name)) h.1) spec.stubs
    (both_each P Q spec.stubs (members (λ (r range : StubRange). bytes_eq r.name range.name) spec.stubs) (members is_for spec.stubs))

pub stubs_ordered : (spec : Spec) (its : List StubSet) → stubs_in_order spec its ≡ stubs_in_order spec (stubs_in_order spec its)
stubs_ordered spec its =
    let are : Each (λ r. (it : StubSet) → is_for r it ≡ true → has_range spec it ≡ true) spec.stubs = members is_for spec.stubs in
    let same : filter_map (λ r. find (is_for r) its) spec.stubs ≡ filter_map (λ r. find (is_for r) (stubs_in_order spec its)) spec.stubs =
    filter_map_same (λ r. find (is_for r) its) (λ r. find (is_for r) (stubs_in_order spec its)) spec.stubs (values_same spec its) in
    let known : filter (λ it. not (has_range spec it)) (filter_map (λ r. find (is_for r) its) spec.stubs) ≡ [] =
    filter_none (λ it. not (has_range spec it)) (filter_map (λ r. find (is_for r) its) spec.stubs)
    (each_weaker (λ it. has_range spec it ≡ true) (λ it. not (has_range spec it) ≡ false) (λ it h. not_false (has_range spec it) h) (filter_map (λ r. find (is_for r) its) spec.stubs) (all_known spec its spec.stubs are)) in
    let others : filter (λ it. not (has_range spec it)) (filter (λ it. not (has_range spec it)) its) ≡ filter (λ it. not (has_range spec it)) its =
    filter_all (λ it. not (has_range spec it)) (filter (λ it. not (has_range spec it)) its) (filter_fits (λ it. not (has_range spec it)) its) in
    let rest : filter (λ it. not (has_range spec it)) its ≡ filter (λ it. not (has_range spec it)) (stubs_in_order spec its) =
    sym (filter-append (λ it. not (has_range spec it)) (filter_map (λ r. find (is_for r) its) spec.stubs) (filter (λ it. not (has_range spec it)) its) ∙ rw (known, others) refl) in
    ap (λ xs. xs ++ filter (λ it. not (has_range spec it)) its) same
    ∙ ap (λ ys. filter_map (λ r. find (is_for r) (stubs_in_order spec its)) spec.stubs ++ ys) rest

-- The input of a test sets things in the order of the specification.
pub built_in_order : (test : Test) (spec : Spec) → IsInOrder spec (built test spec)
built_in_order test spec = record { cells = cells_ordered spec test.cells; stubs = stubs_ordered spec test.stubs }
