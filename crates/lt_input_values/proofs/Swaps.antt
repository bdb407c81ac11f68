-- Tests of all pairs of things from two lists.
use Rattle.std.proofs.Common.{◌≡◌, Bool, true, false, List, [], ◌∷◌, refl, sym, ap, ◌∙◌}
use Rattle.std.specs.Prelude.{ℤ, ◌&&◌, ◌||◌, not}
use Rattle.std.specs.List.{list_all}
use Rattle.std.specs.Str.{bytes_eq}
use Rattle.lt_model.specs.declared.input.StubRange.{StubRange}
use Rattle.lt_model.specs.declared.input.StubSet.{StubSet}
use Rattle.lt_entry.specs.Meeting.{keeps_range}
use Rattle.lt_input_values.specs.Finding.{is_in_range, may_give}
use Rattle.lt_input_values.proofs.Sets.{all_same}

all_true : {A : Type 0} (xs : List A) → list_all (λ (x : A). true) xs ≡ true
all_true [] = refl
all_true (x ∷ xs) = all_true xs

pub and_swap : (a b p q : Bool) → ((a && b) && (p && q)) ≡ ((a && p) && (b && q))
and_swap true true p q = refl
and_swap true false true q = refl
and_swap true false false q = refl
and_swap false b p q = refl

all_and : {A : Type 0} (p q : A → Bool) (xs : List A) → list_all (λ x. p x && q x) xs ≡ (list_all p xs && list_all q xs)
all_and p q [] = refl
all_and p q (x ∷ xs) = ap (λ t. (p x && q x) && t) (all_and p q xs) ∙ and_swap (p x) (q x) (list_all p xs) (list_all q xs)

pub all_swap : {A B : Type 0} (p : A → B → Bool) (xs : List A) (ys : List B) → list_all (λ x. list_all (p x) ys) xs ≡ list_all (λ y. list_all (λ x. p x y) xs) ys
all_swap p [] ys = sym (all_true ys)
all_swap p (x ∷ xs) ys = ap (λ t. list_all (p x) ys && t) (all_swap p xs ys) ∙ sym (all_and (p x) (λ y. list_all (λ x. p x y) xs) ys)

or_all : {A : Type 0} (t : Bool) (p : A → Bool) (xs : List A) → (t || list_all p xs) ≡ list_all (λ x. t || p x) xs
or_all true p xs = sym (all_true xs)
or_all false p xs = refl

-- Values are in each range of their function where each of them may be given.
pub ranges_kept : (ranges : List StubRange) (it : StubSet) → list_all (λ range. keeps_range range it) ranges ≡ list_all (may_give ranges it.name) it.values
ranges_kept ranges it =
    all_same (λ range. keeps_range range it) (λ range. list_all (λ z. not (bytes_eq it.name range.name) || is_in_range range z) it.values)
    (λ range. or_all (not (bytes_eq it.name range.name)) (is_in_range range) it.values) ranges
    ∙ all_swap (λ (range : StubRange) (z : ℤ). not (bytes_eq it.name range.name) || is_in_range range z) ranges it.values
