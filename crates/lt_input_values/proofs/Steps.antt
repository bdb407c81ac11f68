-- Steps of loops over lists.
use Rattle.std.proofs.Common.{◌≡◌, ℕ, ◌+◌, ◌<◌, Bool, true, false, cond, List, [], ◌∷◌, ◌++◌, length, take, get_or, reverse, Option, Some, None, refl, sym, ap, ◌∙◌, append_assoc}
use Rattle.std.specs.Prelude.{◌||◌, ◌&&◌, is_some, option_map}
use Rattle.std.specs.List.{filter, filter_map, find, list_any, cons_option}
use Rattle.std.specs.Option.{option_or}
use Rattle.std.proofs.lemmas.List.{take_more, reverse-append, append-nil}
use Rattle.std.proofs.lemmas.List.Elements.{filter-append, filter_map-append}
use Rattle.std.proofs.lemmas.List.Folds.{find-append, list_any-append}

one_more : {A : Type 0} (xs : List A) (i : ℕ) (x : A) → i < length xs → x ≡ get_or xs i x → take (i + 1) xs ≡ take i xs ++ x ∷ []
one_more xs i x h is = take_more xs i x h ∙ ap (λ y. take i xs ++ y ∷ []) (sym is)

pub pick_more : {A B : Type 0} (pick : A → Option B) (xs : List A) (i : ℕ) (x : A) (o : Option B) (out : List B) → i < length xs → x ≡ get_or xs i x → o ≡ pick x → out ≡ filter_map pick (take i xs) → out ++ cons_option o [] ≡ filter_map pick (take (i + 1) xs)
pick_more pick xs i x o out h is e before =
    rw (before, e) (sym (ap (filter_map pick) (one_more xs i x h is) ∙ filter_map-append pick (take i xs) (x ∷ [])))

pub keep_more : {A : Type 0} (p : A → Bool) (front xs : List A) (i : ℕ) (x : A) (t : Bool) (out : List A) → i < length xs → x ≡ get_or xs i x → t ≡ p x → out ≡ front ++ filter p (take i xs) → out ++ cond t (x ∷ []) [] ≡ front ++ filter p (take (i + 1) xs)
keep_more p front xs i x t out h is e before =
    rw (before, e) (append_assoc front (filter p (take i xs)) (cond (p x) (x ∷ []) []) ∙ sym (ap (λ ys. front ++ filter p ys) (one_more xs i x h is) ∙ ap (λ ys. front ++ ys) (filter-append p (take i xs) (x ∷ []))))

-- the last so far, searched for from the end
pub last_more : {A : Type 0} (p : A → Bool) (xs : List A) (i : ℕ) (x : A) → i < length xs → x ≡ get_or xs i x → find p (reverse (take (i + 1) xs)) ≡ cond (p x) (Some x) (find p (reverse (take i xs)))
last_more p xs i x h is = ap (find p) (ap reverse (one_more xs i x h is) ∙ reverse-append (take i xs) (x ∷ []))

-- the first so far
pub first_more : {A : Type 0} (p : A → Bool) (xs : List A) (i : ℕ) (x : A) → i < length xs → x ≡ get_or xs i x → find p (take (i + 1) xs) ≡ option_or (find p (take i xs)) (cond (p x) (Some x) None)
first_more p xs i x h is = ap (find p) (one_more xs i x h is) ∙ find-append p (take i xs) (x ∷ [])

or_false : (a : Bool) → (a || false) ≡ a
or_false true = refl
or_false false = refl

or_comm : (a b : Bool) → (a || b) ≡ (b || a)
or_comm true b = sym (true_last b)
  where
    true_last : (b : Bool) → (b || true) ≡ true
    true_last true = refl
    true_last false = refl
or_comm false b = sym (or_false b)

-- whether any does so far
pub any_more : {A : Type 0} (p : A → Bool) (xs : List A) (i : ℕ) (x : A) → i < length xs → x ≡ get_or xs i x → list_any p (take (i + 1) xs) ≡ (p x || list_any p (take i xs))
any_more p xs i x h is =
    ap (list_any p) (one_more xs i x h is) ∙ list_any-append p (take i xs) (x ∷ []) ∙ ap (λ t. list_any p (take i xs) || t) (or_false (p x)) ∙ or_comm (list_any p (take i xs)) (p x)

pub or_none : {A : Type 0} (o : Option A) → option_or o None ≡ o
or_none None = refl
or_none (Some a) = refl

-- The first of its kind is put where there was none.
pub first_put : {A : Type 0} (o : Option A) (t : Bool) (x : A) → (t ≡ true → o ≡ None) → cond t (Some x) o ≡ option_or o (cond t (Some x) None)
first_put o true x none = rw (none refl) refl
first_put o false x none = sym (or_none o)

-- The first stays.
pub first_kept : {A : Type 0} (o : Option A) (t : Bool) (x : A) → (t ≡ true → is_some o ≡ true) → o ≡ option_or o (cond t (Some x) None)
first_kept {A} None true x some = let none : Option A = None in absurd (let h : is_some none ≡ true = some refl in cc)
first_kept (Some a) true x some = refl
first_kept o false x some = sym (or_none o)

pub pick_none : {A B : Type 0} (pick : A → Option B) (xs : List A) (i : ℕ) (x : A) (out : List B) → i < length xs → x ≡ get_or xs i x → None ≡ pick x → out ≡ filter_map pick (take i xs) → out ≡ filter_map pick (take (i + 1) xs)
pick_none pick xs i x out h is e before = sym (append-nil out) ∙ pick_more pick xs i x None out h is e before

pub keep_yes : {A : Type 0} (p : A → Bool) (front xs : List A) (i : ℕ) (x : A) (out : List A) → i < length xs → x ≡ get_or xs i x → p x ≡ true → out ≡ front ++ filter p (take i xs) → out ++ x ∷ [] ≡ front ++ filter p (take (i + 1) xs)
keep_yes p front xs i x out h is e before = keep_more p front xs i x true out h is (sym e) before

pub keep_no : {A : Type 0} (p : A → Bool) (front xs : List A) (i : ℕ) (x : A) (out : List A) → i < length xs → x ≡ get_or xs i x → p x ≡ false → out ≡ front ++ filter p (take i xs) → out ≡ front ++ filter p (take (i + 1) xs)
keep_no p front xs i x out h is e before = sym (append-nil out) ∙ keep_more p front xs i x false out h is (sym e) before

and_true : (a : Bool) → (a && true) ≡ a
and_true true = refl
and_true false = refl

and_false : (a : Bool) → (a && false) ≡ false
and_false true = refl
and_false false = refl

-- whether any does so far that counts
pub any_yes : {A : Type 0} (p q : A → Bool) (xs : List A) (i : ℕ) (x : A) (t : Bool) → i < length xs → x ≡ get_or xs i x → q x ≡ true → t ≡ list_any (λ x. p x && q x) (take i xs) → (p x || t) ≡ list_any (λ x. p x && q x) (take (i + 1) xs)
any_yes p q xs i x t h is e before = sym (any_more (λ x. p x && q x) xs i x h is ∙ rw (e, ← before) (ap (λ b. b || t) (and_true (p x))))

pub any_no : {A : Type 0} (p q : A → Bool) (xs : List A) (i : ℕ) (x : A) (t : Bool) → i < length xs → x ≡ get_or xs i x → q x ≡ false → t ≡ list_any (λ x. p x && q x) (take i xs) → t ≡ list_any (λ x. p x && q x) (take (i + 1) xs)
any_no p q xs i x t h is e before = sym (any_more (λ x. p x && q x) xs i x h is ∙ rw (e, ← before) (ap (λ b. b || t) (and_false (p x))))

pub some_mapped : {A B : Type 0} (f : A → B) (o : Option A) → is_some (option_map f o) ≡ is_some o
some_mapped f None = refl
some_mapped f (Some a) = refl

pub none_from_some : {A : Type 0} (o : Option A) → is_some o ≡ false → o ≡ None
none_from_some None h = refl
none_from_some (Some a) h = absurd (cc)

-- Something is found where something fits.
pub found_any : {A : Type 0} (p : A → Bool) (xs : List A) → is_some (find p xs) ≡ list_any p xs
found_any p [] = refl
found_any p (x ∷ xs) = found_first p x xs (p x) (found_any p xs)
  where
    found_first : {A : Type 0} (p : A → Bool) (x : A) (xs : List A) (t : Bool) → is_some (find p xs) ≡ list_any p xs → is_some (cond t (Some x) (find p xs)) ≡ (t || list_any p xs)
    found_first p x xs true later = refl
    found_first p x xs false later = later
