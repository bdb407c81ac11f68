-- Values for functions without a body, and the ranges that they keep.
use Rattle.std.proofs.Common.{◌≡◌, ℕ, Bool, true, false, cond, List, [], ◌∷◌, Option, Some, None, refl, sym, ap, ◌∙◌, subst}
use Rattle.std.specs.Prelude.{◌||◌, not}
use Rattle.std.specs.List.{list_all, list_any, filter, filter_map, find, cons_option}
use Rattle.std.specs.Str.{bytes_eq}
use Rattle.std.proofs.lemmas.Slice.Eq.{bytes_eq-Decides}
use Rattle.lt_model.specs.declared.input.Spec.{Spec}
use Rattle.lt_model.specs.declared.input.StubRange.{StubRange}
use Rattle.lt_model.specs.declared.input.StubSet.{StubSet}
use Rattle.lt_entry.specs.Meeting.{keeps_range}
use Rattle.lt_entry.specs.Inputs.{is_for, has_range, stubs_in_order}
use Rattle.lt_input_values.proofs.Each.{Each, each_of_two, each_weaker, filter_fits, members}
use Rattle.lt_input_values.proofs.Truths.{both, join}

-- ---- searches

found_fits : {A : Type 0} (p : A → Bool) (x : A) (xs : List A) (t : Bool) (a : A) → p x ≡ t → (find p xs ≡ Some a → p a ≡ true) → cond t (Some x) (find p xs) ≡ Some a → p a ≡ true
found_fits p x xs true a e later h = let is : x ≡ a = cc in rw (← is) e
found_fits p x xs false a e later h = later h

pub find_fits : {A : Type 0} (p : A → Bool) (xs : List A) (a : A) → find p xs ≡ Some a → p a ≡ true
find_fits p [] a h = absurd (cc)
find_fits p (x ∷ xs) a h = found_fits p x xs (p x) a refl (find_fits p xs a) h

nothing_fits : {A : Type 0} (p : A → Bool) (x : A) (xs : List A) (t : Bool) → p x ≡ t → (find p xs ≡ None → list_any p xs ≡ false) → cond t (Some x) (find p xs) ≡ None → (t || list_any p xs) ≡ false
nothing_fits p x xs true e later h = absurd (cc)
nothing_fits p x xs false e later h = later h

find_none : {A : Type 0} (p : A → Bool) (xs : List A) → find p xs ≡ None → list_any p xs ≡ false
find_none p [] h = refl
find_none p (x ∷ xs) h = nothing_fits p x xs (p x) refl (find_none p xs) h

-- ---- the values of each function stand once in the order

-- the values are those that are found for each function whose they are
abbrev pub IsFound : List StubSet → StubSet → Type 0
IsFound its it = (range : StubRange) → is_for range it ≡ true → find (is_for range) its ≡ Some it

pub same_search : (its : List StubSet) (r range : StubRange) → r.name ≡ range.name → find (is_for r) its ≡ find (is_for range) its
same_search its r range e =
    let named : List ℕ → Option StubSet = λ name. find (λ it. bytes_eq it.name name) its in
    ap named e

pub same_function : (r range : StubRange) (it : StubSet) → is_for r it ≡ true → is_for range it ≡ true → r.name ≡ range.name
same_function r range it g h = sym ((bytes_eq-Decides it.name r.name).0 g) ∙ (bytes_eq-Decides it.name range.name).0 h

picked_once : (its : List StubSet) (r : StubRange) (o : Option StubSet) (more : List StubSet) → find (is_for r) its ≡ o → Each (IsFound its) more → Each (IsFound its) (cons_option o more)
picked_once its r None more e hs = hs
picked_once its r (Some it) more e hs =
    (λ range h. sym (same_search its r range (same_function r range it (find_fits (is_for r) its it e) h)) ∙ e, hs)

all_found : (its : List StubSet) (ranges : List StubRange) → Each (IsFound its) (filter_map (λ range. find (is_for range) its) ranges)
all_found its [] = tt
all_found its (r ∷ ranges) = picked_once its r (find (is_for r) its) (filter_map (λ range. find (is_for range) its) ranges) refl (all_found its ranges)

pub not_true : (b : Bool) → not b ≡ true → b ≡ false
not_true true h = absurd (cc)
not_true false h = refl

-- the values are those that are found for each function of the specification whose they are
abbrev pub IsKnown : Spec → List StubSet → StubSet → Type 0
IsKnown spec its it = (range : StubRange) → has_range spec it ≡ true → is_for range it ≡ true → find (is_for range) its ≡ Some it

pub all_known : (spec : Spec) (its : List StubSet) → its ≡ stubs_in_order spec its → Each (IsKnown spec its) its
all_known spec its ordered =
    let found : Each (IsKnown spec its) (filter_map (λ range. find (is_for range) its) spec.stubs) =
    each_weaker (IsFound its) (IsKnown spec its) (λ it found range known h. found range h) (filter_map (λ range. find (is_for range) its) spec.stubs) (all_found its spec.stubs) in
    let unknown : Each (IsKnown spec its) (filter (λ it. not (has_range spec it)) its) =
    each_weaker (λ it. not (has_range spec it) ≡ true) (IsKnown spec its) (λ it none range known h. absurd (let no : has_range spec it ≡ false = not_true (has_range spec it) none in cc)) (filter (λ it. not (has_range spec it)) its) (filter_fits (λ it. not (has_range spec it)) its) in
    subst (Each (IsKnown spec its)) (sym ordered) (each_of_two (IsKnown spec its) (filter_map (λ range. find (is_for range) its) spec.stubs) (filter (λ it. not (has_range spec it)) its) found unknown)

-- ---- functions of the specification

abbrev pub IsOf : List StubRange → StubRange → Type 0
IsOf ranges range = (it : StubSet) → is_for range it ≡ true → list_any (λ r. is_for r it) ranges ≡ true

pub all_of : (ranges : List StubRange) → Each (IsOf ranges) ranges
all_of ranges = members is_for ranges

-- ---- ranges that are kept

abbrev pub gives_well : StubRange → Option StubSet → Bool
gives_well range None = true
gives_well range (Some it) = keeps_range range it

keeps_one : (range : StubRange) (o : Option StubSet) (it : StubSet) (t : Bool) → is_for range it ≡ t → (is_for range it ≡ true → o ≡ Some it) → gives_well range o ≡ true → keeps_range range it ≡ true
keeps_one range o it true e found h = subst (λ x. gives_well range x ≡ true) (found e) h
keeps_one range o it false e found h = rw e refl

keeps_all : (range : StubRange) (o : Option StubSet) (xs : List StubSet) → Each (λ it. is_for range it ≡ true → o ≡ Some it) xs → gives_well range o ≡ true → list_all (keeps_range range) xs ≡ true
keeps_all range o [] found h = refl
keeps_all range o (it ∷ its) found h = join (keeps_range range it) (list_all (keeps_range range) its) (keeps_one range o it (is_for range it) refl found.0 h) (keeps_all range o its found.1 h)

first_kept : (range : StubRange) (it : StubSet) (its : List StubSet) (t : Bool) → keeps_range range it ≡ true → (gives_well range (find (is_for range) its) ≡ true) → gives_well range (cond t (Some it) (find (is_for range) its)) ≡ true
first_kept range it its true first later = first
first_kept range it its false first later = later

keeps_found : (range : StubRange) (its : List StubSet) → list_all (keeps_range range) its ≡ true → gives_well range (find (is_for range) its) ≡ true
keeps_found range [] h = refl
keeps_found range (it ∷ its) h =
    let hs = both (keeps_range range it) (list_all (keeps_range range) its) h in
    first_kept range it its (is_for range it) hs.0 (keeps_found range its hs.1)

pub same_bools : (a b : Bool) → (a ≡ true → b ≡ true) → (b ≡ true → a ≡ true) → a ≡ b
same_bools true b f g = sym (f refl)
same_bools false true f g = g refl
same_bools false false f g = refl

pub judged_same : (spec : Spec) (its : List StubSet) → Each (IsKnown spec its) its → (ranges : List StubRange) → Each (IsOf spec.stubs) ranges → list_all (λ range. gives_well range (find (is_for range) its)) ranges ≡ list_all (λ range. list_all (keeps_range range) its) ranges
judged_same spec its known [] are = refl
judged_same spec its known (range ∷ ranges) are =
    let found : Each (λ it. is_for range it ≡ true → find (is_for range) its ≡ Some it) its =
    each_weaker (IsKnown spec its) (λ it. is_for range it ≡ true → find (is_for range) its ≡ Some it) (λ it is h. is range (are.0 it h) h) its known in
    let one : gives_well range (find (is_for range) its) ≡ list_all (keeps_range range) its =
    same_bools (gives_well range (find (is_for range) its)) (list_all (keeps_range range) its) (keeps_all range (find (is_for range) its) its found) (keeps_found range its) in
    rw (one, judged_same spec its known ranges are.1) refl
