-- Steps of loops over lists.
use Rattle.std.proofs.Common.{◌≡◌, ℕ, zero, suc, ◌+◌, ◌<◌, ◌≤◌, Bool, true, false, cond, List, [], ◌∷◌, ◌++◌, length, take, get_or, map, Option, Some, None, refl, sym, ap, ◌∙◌, arith, append_assoc}
use Rattle.std.specs.Prelude.{◌&&◌, ◌||◌, ◌==◌, not, if◌then◌else◌, option_map, Result, Ok, Err, IfOk, OnOk}
use Rattle.std.specs.List.{list_all, list_any, find, flat_map, filter, filter_map}
use Rattle.std.proofs.lemmas.List.{take_more, take_all, append-nil, map-append}
use Rattle.std.proofs.lemmas.List.Elements.{filter-append}
use Rattle.std.proofs.lemmas.List.Folds.{list_any-append, list_all-append}
use Rattle.std.proofs.lemmas.Grind.{flat_map-append}
use Rattle.std.proofs.lemmas.Bool.Decides.{nat_tests}
use Rattle.lt_tree.specs.Typing.Entities.{or_else}
use Rattle.lt_entry.specs.Naming.{Named}
use Rattle.lt_entry.specs.Conditions.{each_named}
use Rattle.lt_spec_reader.proofs.Bools.{both, and_true, find-append, or_else-assoc, mapped_or}

pub one_more : {A : Type 0} (xs : List A) (i : ℕ) (x : A) → i < length xs → x ≡ get_or xs i x → take (i + 1) xs ≡ take i xs ++ x ∷ []
one_more xs i x h is = take_more xs i x h ∙ ap (λ y. take i xs ++ y ∷ []) (sym is)

pub mapped_more : {A B : Type 0} (f : A → B) (xs : List A) (i : ℕ) (x : A) → i < length xs → x ≡ get_or xs i x → map f (take (i + 1) xs) ≡ map f (take i xs) ++ f x ∷ []
mapped_more f xs i x h is = ap (map f) (one_more xs i x h is) ∙ map-append f (take i xs) (x ∷ [])

-- ---- all of them

pub all_more : {A B : Type 0} (p : B → Bool) (f : A → B) (xs : List A) (i : ℕ) (x : A) → i < length xs → x ≡ get_or xs i x → list_all p (map f (take i xs)) ≡ true → p (f x) ≡ true → list_all p (map f (take (i + 1) xs)) ≡ true
all_more p f xs i x h is before here =
    ap (list_all p) (mapped_more f xs i x h is) ∙ list_all-append p (map f (take i xs)) (f x ∷ []) ∙ rw (before, here) refl

pub all_fails : {A B : Type 0} (p : B → Bool) (f : A → B) (xs : List A) (i : ℕ) (x : A) → i < length xs → x ≡ get_or xs i x → p (f x) ≡ false → list_all p (map f xs) ≡ false
all_fails p f [] i x h is fails = absurd (omega (arith, h))
all_fails p f (y ∷ xs) zero x h is fails = rw (sym (ap (λ z. p (f z)) is) ∙ fails) refl
all_fails p f (y ∷ xs) (suc i) x h is fails = rw (all_fails p f xs i x (omega (arith, h)) is fails) (nothing (p (f y)))
  where
    nothing : (b : Bool) → (b && false) ≡ false
    nothing true = refl
    nothing false = refl

pub all_done : {A B : Type 0} (p : B → Bool) (f : A → B) (xs : List A) (i : ℕ) → length xs ≤ i → list_all p (map f (take i xs)) ≡ true → list_all p (map f xs) ≡ true
all_done p f xs i all so_far = ap (λ l. list_all p (map f l)) (sym (take_all i xs all)) ∙ so_far

-- ---- parts that a place names

each_fails : (test : Named → Bool) (its : List Named) → list_all test its ≡ false → each_named test its ≡ false
each_fails test [] h = refl
each_fails test (it ∷ its) h = h

no_zero : (n : ℕ) → (suc n == 0) ≡ false
no_zero n = grind (arith, nat_tests)

some_length : (n : ℕ) → not (suc n == 0) ≡ true
some_length n = ap not (no_zero n)

each_is : (test : Named → Bool) (its : List Named) → list_all test its ≡ true → each_named test its ≡ not (length its == 0)
each_is test [] h = refl
each_is test (it ∷ its) h = h ∙ sym (some_length (length its))

pub each_stops : {A : Type 0} (test : Named → Bool) (f : A → Named) (xs : List A) (i : ℕ) (x : A) → i < length xs → x ≡ get_or xs i x → test (f x) ≡ false → each_named test (map f xs) ≡ false
each_stops test f xs i x h is fails = each_fails test (map f xs) (all_fails test f xs i x h is fails)

same_length : {A B : Type 0} (f : A → B) (xs : List A) → length (map f xs) ≡ length xs
same_length f [] = refl
same_length f (x ∷ xs) = ap suc (same_length f xs)

pub each_ends : {A : Type 0} (test : Named → Bool) (f : A → Named) (xs : List A) (i : ℕ) (empty : Bool) → length xs ≤ i → list_all test (map f (take i xs)) ≡ true → empty ≡ (length xs == 0) → not empty ≡ each_named test (map f xs)
each_ends test f xs i empty all so_far is =
    ap not is ∙ ap (λ n. not (n == 0)) (sym (same_length f xs)) ∙ sym (each_is test (map f xs) (all_done test f xs i all so_far))

-- ---- the first of them

cond_mapped : {A B : Type 0} (f : A → B) (b : Bool) (x : A) → option_map f (cond b (Some x) None) ≡ (if b then Some (f x) else None)
cond_mapped f true x = refl
cond_mapped f false x = refl

-- what is found first, with one more
pub found_more : {A B : Type 0} (f : A → B) (p : A → Bool) (xs : List A) (i : ℕ) (x : A) (old new first : Option B) → i < length xs → x ≡ get_or xs i x → old ≡ or_else first (option_map f (find p (take i xs))) → new ≡ or_else old (if p x then Some (f x) else None)
    → new ≡ or_else first (option_map f (find p (take (i + 1) xs)))
found_more f p xs i x old new first h is before after =
    after ∙ ap (λ o. or_else o (if p x then Some (f x) else None)) before ∙ or_else-assoc first (option_map f (find p (take i xs))) (if p x then Some (f x) else None)
    ∙ ap (or_else first) (ap (or_else (option_map f (find p (take i xs)))) (sym (cond_mapped f (p x) x)) ∙ sym (mapped_or f (find p (take i xs)) (cond (p x) (Some x) None))
    ∙ ap (option_map f) (sym (find-append p (take i xs) (x ∷ [])) ∙ ap (find p) (sym (one_more xs i x h is))))

pub found_done : {A B : Type 0} (f : A → B) (p : A → Bool) (xs : List A) (i : ℕ) (new first : Option B) → length xs ≤ i → new ≡ or_else first (option_map f (find p (take i xs))) → new ≡ or_else first (option_map f (find p xs))
found_done f p xs i new first all so_far = so_far ∙ ap (λ l. or_else first (option_map f (find p l))) (take_all i xs all)

-- ---- any of them

or_assoc : (a b c : Bool) → ((a || b) || c) ≡ (a || (b || c))
or_assoc true b c = refl
or_assoc false b c = refl

or_false : (a : Bool) → (a || false) ≡ a
or_false true = refl
or_false false = refl

-- whether any is, with one more
pub any_more : {A : Type 0} (p : A → Bool) (xs : List A) (i : ℕ) (x : A) (old new first : Bool) → i < length xs → x ≡ get_or xs i x → old ≡ (first || list_any p (take i xs)) → new ≡ (old || p x) → new ≡ (first || list_any p (take (i + 1) xs))
any_more p xs i x old new first h is before after =
    after ∙ ap (λ b. b || p x) before ∙ or_assoc first (list_any p (take i xs)) (p x)
    ∙ ap (λ b. first || b) (ap (λ b. list_any p (take i xs) || b) (sym (or_false (p x))) ∙ sym (list_any-append p (take i xs) (x ∷ [])) ∙ ap (list_any p) (sym (one_more xs i x h is)))

pub any_done : {A : Type 0} (p : A → Bool) (xs : List A) (i : ℕ) (new first : Bool) → length xs ≤ i → new ≡ (first || list_any p (take i xs)) → new ≡ (first || list_any p xs)
any_done p xs i new first all so_far = so_far ∙ ap (λ l. first || list_any p l) (take_all i xs all)

pub any_none : {A : Type 0} (p : A → Bool) (xs : List A) (b : Bool) → b ≡ false → b ≡ (false || list_any p (take 0 xs))
any_none p xs b h = h

pub any_mapped_more : {A B : Type 0} (p : B → Bool) (f : A → B) (xs : List A) (i : ℕ) (x : A) (old new : Bool) → i < length xs → x ≡ get_or xs i x → old ≡ list_any p (map f (take i xs)) → new ≡ (old || p (f x)) → new ≡ list_any p (map f (take (i + 1) xs))
any_mapped_more p f xs i x old new h is before after =
    after ∙ ap (λ b. b || p (f x)) before ∙ ap (λ b. list_any p (map f (take i xs)) || b) (sym (or_false (p (f x)))) ∙ sym (list_any-append p (map f (take i xs)) (f x ∷ [])) ∙ ap (list_any p) (sym (mapped_more f xs i x h is))

pub any_mapped_done : {A B : Type 0} (p : B → Bool) (f : A → B) (xs : List A) (i : ℕ) (new : Bool) → length xs ≤ i → new ≡ list_any p (map f (take i xs)) → new ≡ list_any p (map f xs)
any_mapped_done p f xs i new all so_far = so_far ∙ ap (λ l. list_any p (map f l)) (take_all i xs all)

-- ---- joined lists

pub joined_more : {A B : Type 0} (f : A → List B) (xs : List A) (i : ℕ) (x : A) (old new : List B) → i < length xs → x ≡ get_or xs i x → old ≡ flat_map f (take i xs) → new ≡ old ++ f x → new ≡ flat_map f (take (i + 1) xs)
joined_more f xs i x old new h is before after =
    after ∙ ap (λ l. l ++ f x) before ∙ ap (λ l. flat_map f (take i xs) ++ l) (sym (append-nil (f x))) ∙ sym (flat_map-append f (take i xs) (x ∷ [])) ∙ ap (flat_map f) (sym (one_more xs i x h is))

-- ---- results

pub ok_map : {A E : Type 0} (P Q : A → Type 0) (r : Result A E) → ((a : A) → P a → Q a) → IfOk r P → IfOk r Q
ok_map P Q (Ok a) f h = f a h
ok_map P Q (Err e) f h = tt

pub on_ok_map : {A E P Q : Type 0} (r : Result A E) → (P → Q) → OnOk r P → OnOk r Q
on_ok_map (Ok a) f h = f h
on_ok_map (Err e) f h = tt

-- the item of a list of what is copied
pub item_is : {A : Type 0} (xs : List A) (i : ℕ) (d : A) → i < length xs → get_or xs i d ≡ get_or xs i (get_or xs i d)
item_is [] i d h = absurd (omega (arith, h))
item_is (x ∷ xs) zero d h = refl
item_is (x ∷ xs) (suc i) d h = item_is xs i d (omega (arith, h))

pub or_both : (a b x y : Bool) → a ≡ x → b ≡ y → (a || b) ≡ (x || y)
or_both a b x y e f = ap (λ z. z || b) e ∙ ap (λ z. x || z) f

pub and_stops : (a b : Bool) → a ≡ false → false ≡ (a && b)
and_stops a b e = sym (ap (λ z. z && b) e)

pub and_goes : (a b r : Bool) → a ≡ true → r ≡ b → r ≡ (a && b)
and_goes a b r e f = f ∙ sym (ap (λ z. z && b) e)

-- one more that is kept, or not
pub keep_more : {A : Type 0} (p : A → Bool) (xs : List A) (i : ℕ) (x : A) (out : List A) → i < length xs → x ≡ get_or xs i x → p x ≡ true → out ≡ filter p (take i xs) → out ++ x ∷ [] ≡ filter p (take (i + 1) xs)
keep_more p xs i x out h is e before =
    rw before (ap (λ b. filter p (take i xs) ++ cond b (x ∷ []) []) (sym e) ∙ sym (ap (filter p) (one_more xs i x h is) ∙ filter-append p (take i xs) (x ∷ [])))

pub drop_more : {A : Type 0} (p : A → Bool) (xs : List A) (i : ℕ) (x : A) (out : List A) → i < length xs → x ≡ get_or xs i x → p x ≡ false → out ≡ filter p (take i xs) → out ≡ filter p (take (i + 1) xs)
drop_more p xs i x out h is e before =
    before ∙ sym (append-nil (filter p (take i xs))) ∙ ap (λ b. filter p (take i xs) ++ cond b (x ∷ []) []) (sym e) ∙ sym (ap (filter p) (one_more xs i x h is) ∙ filter-append p (take i xs) (x ∷ []))

pub or_none : (a b : Bool) → b ≡ false → a ≡ (a || b)
or_none a b e = sym (or_false a) ∙ ap (λ z. a || z) (sym e)
