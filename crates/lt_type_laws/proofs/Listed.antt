-- Which types are in lists: in those of which a type is made, and in lists that have what is made of their types.
use Rattle.std.proofs.Common.{◌≡◌, List, [], ◌∷◌, ◌++◌, Bool, true, false, refl, sym, ap, ◌∙◌}
use Rattle.std.proofs.lemmas.Bool.{false≢true}
use Rattle.std.proofs.lemmas.List.Folds.{list_any-append}
use Rattle.std.specs.Prelude.{◌||◌, if◌then◌else◌}
use Rattle.std.specs.List.{AllByRecursion, flat_map, list_any}
use Rattle.lt_tree.specs.Typing.Types.{CType, CTypes, no_types, a_type, Void, Num, Pointer, Array, Struct, Function, Floating, Qualified, bare, all_bare, same}
use Rattle.lt_tree.specs.Typing.Programs.{made_of, all_made_of, with_new}
use Rattle.lt_type_laws.proofs.Equal.{same_exact, same_self}

-- ---- truths

pub or_first : (a b : Bool) → a ≡ true → a || b ≡ true
or_first a b h = ap (λ x. x || b) h

pub or_second : (a b : Bool) → b ≡ true → a || b ≡ true
or_second true b h = refl
or_second false b h = h

-- ---- types that are listed

pub first_listed : (t : CType) (xs ys : List CType) → list_any (same t) xs ≡ true → list_any (same t) (xs ++ ys) ≡ true
first_listed t xs ys h = list_any-append (same t) xs ys ∙ or_first (list_any (same t) xs) (list_any (same t) ys) h

pub second_listed : (t : CType) (xs ys : List CType) → list_any (same t) ys ≡ true → list_any (same t) (xs ++ ys) ≡ true
second_listed t xs ys h = list_any-append (same t) xs ys ∙ or_second (list_any (same t) xs) (list_any (same t) ys) h

-- what comes new into a list
pub new_listed : (t : CType) (found ts : List CType) → list_any (same t) (with_new found ts) ≡ (list_any (same t) found || list_any (same t) ts)
new_listed t found [] = by (list_any (same t) found)
  where
    by : (b : Bool) → b ≡ b || false
    by true = refl
    by false = refl
new_listed t found (u ∷ us) = by (list_any (same u) found) refl (λ them. new_listed t them us)
  where
    there_already : (a b : Bool) → list_any (same u) found ≡ true → same t u ≡ a → (list_any (same t) found || b) ≡ (list_any (same t) found || (a || b))
    there_already true b h e =
        let found_t : list_any (same t) found ≡ true = ap (λ x. list_any (same x) found) (same_exact t u e) ∙ h in
        ap (λ x. x || b) found_t ∙ sym (ap (λ x. x || true) found_t)
    there_already false b h e = refl

    regrouped : (a b c : Bool) → ((a || (b || false)) || c) ≡ (a || (b || c))
    regrouped true b c = refl
    regrouped false true c = refl
    regrouped false false c = refl

    by : (b : Bool) → list_any (same u) found ≡ b → ((them : List CType) → list_any (same t) (with_new them us) ≡ (list_any (same t) them || list_any (same t) us))
        → list_any (same t) (with_new (if b then found else found ++ u ∷ []) us) ≡ (list_any (same t) found || (same t u || list_any (same t) us))
    by true e go = go found ∙ there_already (same t u) (list_any (same t) us) e refl
    by false e go =
        go (found ++ u ∷ []) ∙ ap (λ b. b || list_any (same t) us) (list_any-append (same t) found (u ∷ [])) ∙ regrouped (list_any (same t) found) (same t u) (list_any (same t) us)

-- what holds of each type that is listed
all_from : (P : CType → Type 0) (types : List CType) → ((t : CType) → list_any (same t) types ≡ true → P t) → AllByRecursion P types
all_from P [] f = tt
all_from P (t ∷ ts) f = (f t (or_first (same t t) (list_any (same t) ts) (same_self t)), all_from P ts (λ u h. f u (or_second (same u t) (list_any (same u) ts) h)))

pub each_from : {A : Type 0} (P : CType → Type 0) (made : A → List CType) (xs : List A) → ((t : CType) → list_any (same t) (flat_map made xs) ≡ true → P t) → AllByRecursion (λ x. AllByRecursion P (made x)) xs
each_from P made [] f = tt
each_from P made (x ∷ xs) f = (
  all_from P (made x) (λ t h. f t (first_listed t (made x) (flat_map made xs) h)),
  each_from P made xs (λ t h. f t (second_listed t (made x) (flat_map made xs) h)),
)

-- ---- types without qualifiers

mutual
  bare-bare : (t : CType) → bare (bare t) ≡ bare t
  bare-bare Void = refl
  bare-bare (Num s) = refl
  bare-bare (Pointer t) = ap Pointer (bare-bare t)
  bare-bare (Array t n) = ap (λ u. Array u n) (bare-bare t)
  bare-bare (Struct k) = refl
  bare-bare (Function t ts dots) = ap (λ u. Function u (all_bare (all_bare ts)) dots) (bare-bare t) ∙ ap (λ us. Function (bare t) us dots) (all_bare-bare ts)
  bare-bare Floating = refl
  bare-bare (Qualified q t) = bare-bare t

  all_bare-bare : (ts : CTypes) → all_bare (all_bare ts) ≡ all_bare ts
  all_bare-bare no_types = refl
  all_bare-bare (a_type t ts) = ap (λ u. a_type u (all_bare (all_bare ts))) (bare-bare t) ∙ ap (a_type (bare t)) (all_bare-bare ts)

mutual
  made_of-bare : (t : CType) → made_of (bare t) ≡ made_of t
  made_of-bare Void = refl
  made_of-bare (Num s) = refl
  made_of-bare (Pointer t) = ap (λ l. l ++ Pointer (bare (bare t)) ∷ []) (made_of-bare t) ∙ ap (λ u. made_of t ++ Pointer u ∷ []) (bare-bare t)
  made_of-bare (Array t n) = ap (λ l. l ++ Array (bare (bare t)) n ∷ []) (made_of-bare t) ∙ ap (λ u. made_of t ++ Array u n ∷ []) (bare-bare t)
  made_of-bare (Struct k) = refl
  made_of-bare (Function t ts dots) =
      ap (λ l. l ++ all_made_of (all_bare ts) ++ bare (bare (Function t ts dots)) ∷ []) (made_of-bare t)
      ∙ ap (λ l. made_of t ++ l ++ bare (bare (Function t ts dots)) ∷ []) (all_made_of-bare ts)
      ∙ ap (λ u. made_of t ++ all_made_of ts ++ u ∷ []) (bare-bare (Function t ts dots))
  made_of-bare Floating = refl
  made_of-bare (Qualified q t) = made_of-bare t

  all_made_of-bare : (ts : CTypes) → all_made_of (all_bare ts) ≡ all_made_of ts
  all_made_of-bare no_types = refl
  all_made_of-bare (a_type t ts) = ap (λ l. l ++ all_made_of (all_bare ts)) (made_of-bare t) ∙ ap (λ l. made_of t ++ l) (all_made_of-bare ts)

last_listed : (t : CType) (xs : List CType) → list_any (same t) (xs ++ t ∷ []) ≡ true
last_listed t xs = second_listed t xs (t ∷ []) (or_first (same t t) false (same_self t))

-- a type is made of itself
pub own_listed : (t : CType) → list_any (same (bare t)) (made_of t) ≡ true
own_listed Void = refl
own_listed (Num s) = last_listed (Num s) []
own_listed (Pointer t) = last_listed (Pointer (bare t)) (made_of t)
own_listed (Array t n) = last_listed (Array (bare t) n) (made_of t)
own_listed (Struct k) = last_listed (Struct k) []
own_listed (Function t ts dots) = last_listed (bare (Function t ts dots)) (made_of t ++ all_made_of ts)
own_listed Floating = refl
own_listed (Qualified q t) = own_listed t

-- ---- lists that have each type of which theirs are made

abbrev pub IsClosed : List CType → Type 0
IsClosed types = (t u : CType) → list_any (same (bare u)) types ≡ true → list_any (same t) (made_of u) ≡ true → list_any (same t) types ≡ true

pub closed_both : (xs ys : List CType) → IsClosed xs → IsClosed ys → IsClosed (xs ++ ys)
closed_both xs ys h g t u f e = by (list_any (same (bare u)) xs) refl (sym (list_any-append (same (bare u)) xs ys) ∙ f)
  where
    by : (b : Bool) → list_any (same (bare u)) xs ≡ b → list_any (same (bare u)) xs || list_any (same (bare u)) ys ≡ true → list_any (same t) (xs ++ ys) ≡ true
    by true i k = first_listed t xs ys (h t u i e)
    by false i k = second_listed t xs ys (g t u (sym (ap (λ b. b || list_any (same (bare u)) ys) i) ∙ k) e)

-- types that are the same without qualifiers are made of the same
same_made : (t u v : CType) → bare u ≡ bare v → list_any (same t) (made_of u) ≡ true → list_any (same t) (made_of v) ≡ true
same_made t u v e h = ap (list_any (same t)) (sym (made_of-bare v) ∙ ap made_of (sym e) ∙ made_of-bare u) ∙ h

one_only : (u v : CType) → same u v || false ≡ true → u ≡ v
one_only u v h = same_exact u v (by (same u v) h)
  where
    by : (b : Bool) → b || false ≡ true → b ≡ true
    by true g = refl
    by false g = g

-- a list with the type of which it is behind it
closed_behind : (v : CType) (xs : List CType) → made_of v ≡ xs ++ bare v ∷ [] → IsClosed xs → IsClosed (made_of v)
closed_behind v xs made h t u f e = by (list_any (same (bare u)) xs) refl (sym (list_any-append (same (bare u)) xs (bare v ∷ [])) ∙ ap (list_any (same (bare u))) (sym made) ∙ f)
  where
    by : (b : Bool) → list_any (same (bare u)) xs ≡ b → list_any (same (bare u)) xs || (same (bare u) (bare v) || false) ≡ true → list_any (same t) (made_of v) ≡ true
    by true i k = ap (list_any (same t)) made ∙ first_listed t xs (bare v ∷ []) (h t u i e)
    by false i k = same_made t u v (one_only (bare u) (bare v) (sym (ap (λ b. b || (same (bare u) (bare v) || false)) i) ∙ k)) e

pub none_closed : IsClosed []
none_closed t u f e = absurd (false≢true f)

mutual
  pub made_closed : (v : CType) → IsClosed (made_of v)
  made_closed Void = closed_behind Void [] refl none_closed
  made_closed (Num s) = closed_behind (Num s) [] refl none_closed
  made_closed (Pointer v) = closed_behind (Pointer v) (made_of v) refl (made_closed v)
  made_closed (Array v n) = closed_behind (Array v n) (made_of v) refl (made_closed v)
  made_closed (Struct k) = closed_behind (Struct k) [] refl none_closed
  made_closed (Function v vs dots) = closed_behind (Function v vs dots) (made_of v ++ all_made_of vs) refl (closed_both (made_of v) (all_made_of vs) (made_closed v) (all_closed vs))
  made_closed Floating = closed_behind Floating [] refl none_closed
  made_closed (Qualified q v) = made_closed v

  all_closed : (vs : CTypes) → IsClosed (all_made_of vs)
  all_closed no_types = none_closed
  all_closed (a_type v vs) = closed_both (made_of v) (all_made_of vs) (made_closed v) (all_closed vs)

pub each_closed : {A : Type 0} (made : A → List CType) → ((x : A) → IsClosed (made x)) → (xs : List A) → IsClosed (flat_map made xs)
each_closed made h [] = none_closed
each_closed made h (x ∷ xs) = closed_both (made x) (flat_map made xs) (h x) (each_closed made h xs)
