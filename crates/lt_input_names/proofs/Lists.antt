-- Steps of loops over lists, and lists that are made from others.
use Rattle.std.proofs.Common.{◌≡◌, ℕ, zero, suc, ◌+◌, ◌<◌, arith, slice_get, Bool, true, false, List, [], ◌∷◌, ◌++◌, length, take, get_or, map, Option, Some, None, refl, sym, ap, ◌∙◌, append_assoc}
use Rattle.std.specs.Prelude.{◌&&◌, option_map, option_to_list, Result, Ok, Err, IfOk}
use Rattle.std.specs.List.{filter_map, flat_map, list_all, cons_option}
use Rattle.std.proofs.lemmas.List.{take_more, append-nil, map-append}
use Rattle.std.proofs.lemmas.List.Elements.{filter_map-append}
use Rattle.std.proofs.lemmas.List.Folds.{list_all-append}
use Rattle.std.proofs.lemmas.Grind.{flat_map-append}

pub one_more : {A : Type 0} (xs : List A) (i : ℕ) (x : A) → i < length xs → x ≡ get_or xs i x → take (i + 1) xs ≡ take i xs ++ x ∷ []
one_more xs i x h is = take_more xs i x h ∙ ap (λ y. take i xs ++ y ∷ []) (sym is)

pub mapped_more : {A B : Type 0} (f : A → B) (xs : List A) (i : ℕ) (x : A) (out : List B) → i < length xs → x ≡ get_or xs i x → out ≡ map f (take i xs) → out ++ f x ∷ [] ≡ map f (take (i + 1) xs)
mapped_more f xs i x out h is before = rw before (sym (ap (map f) (one_more xs i x h is) ∙ map-append f (take i xs) (x ∷ [])))

pub pick_more : {A B : Type 0} (pick : A → Option B) (xs : List A) (i : ℕ) (x : A) (o : Option B) (out : List B) → i < length xs → x ≡ get_or xs i x → o ≡ pick x → out ≡ filter_map pick (take i xs) → out ++ cons_option o [] ≡ filter_map pick (take (i + 1) xs)
pick_more pick xs i x o out h is e before =
    rw (before, e) (sym (ap (filter_map pick) (one_more xs i x h is) ∙ filter_map-append pick (take i xs) (x ∷ [])))

pub pick_none : {A B : Type 0} (pick : A → Option B) (xs : List A) (i : ℕ) (x : A) (out : List B) → i < length xs → x ≡ get_or xs i x → None ≡ pick x → out ≡ filter_map pick (take i xs) → out ≡ filter_map pick (take (i + 1) xs)
pick_none pick xs i x out h is e before = sym (append-nil out) ∙ pick_more pick xs i x None out h is e before

pub flat_more : {A B : Type 0} (f : A → List B) (xs : List A) (i : ℕ) (x : A) (front out new : List B) → i < length xs → x ≡ get_or xs i x → out ≡ front ++ flat_map f (take i xs) → new ≡ out ++ f x → new ≡ front ++ flat_map f (take (i + 1) xs)
flat_more f xs i x front out new h is before after =
    after ∙ ap (λ l. l ++ f x) before ∙ append_assoc front (flat_map f (take i xs)) (f x)
    ∙ ap (λ l. front ++ l) (ap (λ l. flat_map f (take i xs) ++ l) (sym (append-nil (f x))) ∙ sym (flat_map-append f (take i xs) (x ∷ [])) ∙ ap (flat_map f) (sym (one_more xs i x h is)))

-- ---- lists that are made from others

pub flat-flat : {A B C : Type 0} (f : B → List C) (g : A → List B) (xs : List A) → flat_map f (flat_map g xs) ≡ flat_map (λ x. flat_map f (g x)) xs
flat-flat f g [] = refl
flat-flat f g (x ∷ xs) = flat_map-append f (g x) (flat_map g xs) ∙ ap (λ l. flat_map f (g x) ++ l) (flat-flat f g xs)

pub flat-single : {A : Type 0} (xs : List A) → flat_map (λ x. x ∷ []) xs ≡ xs
flat-single [] = refl
flat-single (x ∷ xs) = ap (λ l. x ∷ l) (flat-single xs)

pub map-filter_map : {A B C : Type 0} (f : B → C) (g : A → Option B) (xs : List A) → map f (filter_map g xs) ≡ filter_map (λ x. option_map f (g x)) xs
map-filter_map f g [] = refl
map-filter_map {B = B} f g (x ∷ xs) = put (g x) ∙ ap (cons_option (option_map f (g x))) (map-filter_map f g xs)
  where
    put : (o : Option B) → map f (cons_option o (filter_map g xs)) ≡ cons_option (option_map f o) (map f (filter_map g xs))
    put None = refl
    put (Some b) = refl

pub filter_map-map : {A B C : Type 0} (f : B → Option C) (g : A → B) (xs : List A) → filter_map f (map g xs) ≡ filter_map (λ x. f (g x)) xs
filter_map-map f g [] = refl
filter_map-map f g (x ∷ xs) = ap (cons_option (f (g x))) (filter_map-map f g xs)

pub map-map : {A B C : Type 0} (f : B → C) (g : A → B) (xs : List A) → map f (map g xs) ≡ map (λ x. f (g x)) xs
map-map f g [] = refl
map-map f g (x ∷ xs) = ap (λ l. f (g x) ∷ l) (map-map f g xs)

pub list_all-map : {A B : Type 0} (p : B → Bool) (g : A → B) (xs : List A) → list_all p (map g xs) ≡ list_all (λ x. p (g x)) xs
list_all-map p g [] = refl
list_all-map p g (x ∷ xs) = ap (λ b. p (g x) && b) (list_all-map p g xs)

cons_to : {A : Type 0} (o : Option A) → cons_option o [] ≡ option_to_list o
cons_to None = refl
cons_to (Some a) = refl

-- one more, if there is one
pub pick_step : {A B : Type 0} (pick : A → Option B) (xs : List A) (i : ℕ) (x : A) (old new : List B) → i < length xs → x ≡ get_or xs i x → old ≡ filter_map pick (take i xs) → new ≡ old ++ option_to_list (pick x) → new ≡ filter_map pick (take (i + 1) xs)
pick_step pick xs i x old new h is before after = after ∙ ap (λ l. old ++ l) (sym (cons_to (pick x))) ∙ pick_more pick xs i x (pick x) old h is refl before

-- of a list of one
pub pick_one : {A B : Type 0} (pick : A → Option B) (xs : List A) (i : ℕ) (x : A) (old new : List B) → i < length xs → x ≡ get_or xs i x → old ≡ filter_map pick (take i xs) → new ≡ old ++ filter_map pick (x ∷ []) → new ≡ filter_map pick (take (i + 1) xs)
pick_one pick xs i x old new h is before after = after ∙ pick_more pick xs i x (pick x) old h is refl before

pub all_one : {A B : Type 0} (p : B → Bool) (pick : A → Option B) (xs : List A) (i : ℕ) (x : A) (t one : Bool) → i < length xs → x ≡ get_or xs i x → t ≡ list_all p (filter_map pick (take i xs)) → one ≡ list_all p (filter_map pick (x ∷ []))
    → (t && one) ≡ list_all p (filter_map pick (take (i + 1) xs))
all_one p pick xs i x t one h is before here =
    rw (before, here) (sym (list_all-append p (filter_map pick (take i xs)) (filter_map pick (x ∷ []))) ∙ ap (list_all p) (pick_more pick xs i x (pick x) (filter_map pick (take i xs)) h is refl refl))

-- what holds of a result where it is one
pub ok_map : {A E : Type 0} (P Q : A → Type 0) (r : Result A E) → ((a : A) → P a → Q a) → IfOk r P → IfOk r Q
ok_map P Q (Ok a) f h = f a h
ok_map P Q (Err e) f h = tt

-- the item of a list of numbers
pub item_is : {A : Type 0} (xs : List A) (i : ℕ) (d : A) → i < length xs → get_or xs i d ≡ get_or xs i (get_or xs i d)
item_is [] i d h = absurd (omega (arith, h))
item_is (x ∷ xs) zero d h = refl
item_is (x ∷ xs) (suc i) d h = item_is xs i d (omega (arith, h))

pub and_true : (b : Bool) → (b && true) ≡ b
and_true true = refl
and_true false = refl

pub slice_get-map : {A B : Type 0} (f : A → B) (xs : List A) (k : ℕ) → slice_get (map f xs) k ≡ option_map f (slice_get xs k)
slice_get-map f [] k = refl
slice_get-map f (x ∷ xs) zero = refl
slice_get-map f (x ∷ xs) (suc k) = slice_get-map f xs k
