-- The places of types in lists that have each once.
use Rattle.std.proofs.Common.{◌≡◌, ◌<◌, ℕ, zero, suc, ◌+◌, List, [], ◌∷◌, ◌++◌, length, Option, Some, None, Bool, true, false, refl, sym, ap, ◌∙◌, subst, arith, get_or}
use Rattle.std.proofs.lemmas.Bool.{false≢true, ltb-true, ltb-false}
use Rattle.std.proofs.lemmas.List.{get_or_append_left, get_or-append-add, length-append}
use Rattle.std.proofs.lemmas.Option.{slice_get_within, slice_get-get_or, get_or_from_slice_get}
use Rattle.std.specs.Prelude.{◌||◌, nat_lt, if◌then◌else◌, slice_get}
use Rattle.std.specs.List.{list_any}
use Rattle.lt_tree.specs.Typing.Types.{CType, Void, bare, same}
use Rattle.lt_tree.specs.Typing.Shapes.{place_among}
use Rattle.lt_tree.specs.Typing.Programs.{with_new}
use Rattle.lt_type_laws.specs.TypeLists.{HaveNumbers, Renumbers, numbers_in}
use Rattle.lt_type_laws.specs.Laws.{TypesAreRenumbered, ListsHaveNumbers}
use Rattle.lt_type_laws.proofs.Equal.{same_exact, same_self}
use Rattle.lt_type_laws.proofs.Lists.{number_within, number_behind}

-- ---- places

-- places that are counted from a number on
counted_from : (types : List CType) (t : CType) (at : ℕ) → place_among (suc at) t types ≡ suc (place_among at t types)
counted_from [] t at = refl
counted_from (u ∷ us) t at = by (same t u) (counted_from us t (suc at))
  where
    by : (b : Bool) → place_among (suc (suc at)) t us ≡ suc (place_among (suc at) t us) → (if b then suc at else place_among (suc (suc at)) t us) ≡ suc (if b then at else place_among (suc at) t us)
    by true h = refl
    by false h = h

-- at its place a type stands
pub stands_there : (types : List CType) (t : CType) → list_any (same t) types ≡ true → get_or types (place_among 0 t types) Void ≡ t
stands_there [] t h = absurd (false≢true h)
stands_there (u ∷ us) t h = by (same t u) refl h (stands_there us t)
  where
    by : (b : Bool) → same t u ≡ b → b || list_any (same t) us ≡ true → (list_any (same t) us ≡ true → get_or us (place_among 0 t us) Void ≡ t)
        → get_or (u ∷ us) (if b then 0 else place_among 1 t us) Void ≡ t
    by true e h f = sym (same_exact t u e)
    by false e h f = ap (λ n. get_or (u ∷ us) n Void) (counted_from us t 0) ∙ f h

-- what stands in a list is listed
pub is_listed : (types : List CType) (n : ℕ) → n < length types → list_any (same (get_or types n Void)) types ≡ true
is_listed [] n less = absurd (omega arith)
is_listed (u ∷ us) zero less = ap (λ b. b || list_any (same u) us) (same_self u)
is_listed (u ∷ us) (suc n) less = one_more (same (get_or us n Void) u) (list_any (same (get_or us n Void)) us) (is_listed us n (omega (arith, less)))
  where
    one_more : (a b : Bool) → b ≡ true → a || b ≡ true
    one_more true b h = refl
    one_more false b h = h

place_first : (types more : List CType) (t : CType) (at : ℕ) → list_any (same t) types ≡ true → place_among at t (types ++ more) ≡ place_among at t types
place_first [] more t at h = absurd (false≢true h)
place_first (u ∷ us) more t at h = by (same t u) h (place_first us more t (suc at))
  where
    by : (b : Bool) → b || list_any (same t) us ≡ true → (list_any (same t) us ≡ true → place_among (suc at) t (us ++ more) ≡ place_among (suc at) t us)
        → (if b then at else place_among (suc at) t (us ++ more)) ≡ (if b then at else place_among (suc at) t us)
    by true h f = refl
    by false h f = f h

place_last : (types : List CType) (t : CType) (at : ℕ) → list_any (same t) types ≡ false → place_among at t (types ++ t ∷ []) ≡ at + length types
place_last [] t at h = ap (λ b. if b then at else suc at) (same_self t) ∙ omega arith
place_last (u ∷ us) t at h = by (same t u) h (place_last us t (suc at))
  where
    by : (b : Bool) → b || list_any (same t) us ≡ false → (list_any (same t) us ≡ false → place_among (suc at) t (us ++ t ∷ []) ≡ suc at + length us) → (if b then at else place_among (suc at) t (us ++ t ∷ [])) ≡ at + suc (length us)
    by true h f = absurd (false≢true (sym h))
    by false h f = let it = f h in omega (arith, it)

-- ---- lists that have each type once

-- what stands at a place has it as its own
abbrev pub AreOnce : List CType → Type 0
AreOnce types = (n : ℕ) → n < length types → place_among 0 (get_or types n Void) types ≡ n

one_more : (types : List CType) (t : CType) → AreOnce types → list_any (same t) types ≡ false → AreOnce (types ++ t ∷ [])
one_more types t once h n less = by (nat_lt n (length types)) refl
  where
    last : n ≡ length types → place_among 0 (get_or (types ++ t ∷ []) n Void) (types ++ t ∷ []) ≡ n
    last e =
        ap (λ k. place_among 0 (get_or (types ++ t ∷ []) k Void) (types ++ t ∷ [])) (e ∙ omega arith)
        ∙ ap (λ u. place_among 0 u (types ++ t ∷ [])) (get_or-append-add types (t ∷ []) 0 Void)
        ∙ place_last types t 0 h ∙ omega (arith, e)

    by : (b : Bool) → nat_lt n (length types) ≡ b → place_among 0 (get_or (types ++ t ∷ []) n Void) (types ++ t ∷ []) ≡ n
    by true e =
        let within : n < length types = ltb-true n (length types) e in
        ap (λ u. place_among 0 u (types ++ t ∷ [])) (get_or_append_left types (t ∷ []) Void n within)
        ∙ place_first types (t ∷ []) (get_or types n Void) 0 (is_listed types n within) ∙ once n within
    by false e = last (omega (arith, less, length-append types (t ∷ []), ltb-false n (length types) e))

pub each_once : (found ts : List CType) → AreOnce found → AreOnce (with_new found ts)
each_once found [] h = h
each_once found (t ∷ ts) h = by (list_any (same t) found) refl (λ them once. each_once them ts once)
  where
    by : (b : Bool) → list_any (same t) found ≡ b → ((them : List CType) → AreOnce them → AreOnce (with_new them ts)) → AreOnce (with_new (if b then found else found ++ t ∷ []) ts)
    by true e go = go found h
    by false e go = go (found ++ t ∷ []) (one_more found t h e)

-- ---- numbers in another list

pub none_there : AreOnce []
none_there n less = absurd (omega arith)

-- the number that the type of a place has in the other list
number_of : (types others : List CType) (n : ℕ) → n < length types → numbers_in types others n ≡ place_among 0 (get_or types n Void) others
number_of types others n less = ap (λ (found : Option CType). elim (found) as (λ _. ℕ) [ None ↦ length others | Some t ↦ place_among 0 t others ]) (slice_get-get_or types n Void less)

number_of_type : (types others : List CType) (t : CType) → list_any (same t) types ≡ true → numbers_in types others (place_among 0 t types) ≡ place_among 0 t others
number_of_type types others t h = number_of types others (place_among 0 t types) (number_within types t h) ∙ ap (λ u. place_among 0 u others) (stands_there types t h)

-- types with one place in a list that has both are one
one_type : (others : List CType) (t u : CType) → list_any (same t) others ≡ true → list_any (same u) others ≡ true → place_among 0 t others ≡ place_among 0 u others → t ≡ u
one_type others t u h g e = sym (stands_there others t h) ∙ ap (λ n. get_or others n Void) e ∙ stands_there others u g

renumbered_by : (types others : List CType) → AreOnce types → ((t : CType) → list_any (same t) types ≡ true → list_any (same t) others ≡ true) → HaveNumbers (numbers_in types others) types others
renumbered_by types others once within = record {
  apart = λ m n first second e.
      sym (once m first)
      ∙ ap (λ t. place_among 0 t types)
      (one_type others (get_or types m Void) (get_or types n Void) (within (get_or types m Void) (is_listed types m first)) (within (get_or types n Void) (is_listed types n second))
      (sym (number_of types others m first) ∙ e ∙ number_of types others n second))
      ∙ once n second;
  listed = λ t h. sym (number_of_type types others (bare t) h);
  unlisted = λ t h n less e. other_places (bare t) (get_or types n Void) h (is_listed types n less) (e ∙ number_of types others n less);
}
  where
    other_places : (t u : CType) → list_any (same t) types ≡ false → list_any (same u) types ≡ true → place_among 0 t others ≡ place_among 0 u others → ⊥
    other_places t u h g e = by (list_any (same t) others) refl
      where
        by : (b : Bool) → list_any (same t) others ≡ b → ⊥
        by true f =
            false≢true
            (sym h ∙ ap (λ x. list_any (same x) types) (one_type others t u f (within u g) e) ∙ g)
        by false f = number_behind others t (place_among 0 u others) f (number_within others u (within u g)) e

-- numbers of the types of both lists
renumbers_by : (types others : List CType) → AreOnce types → Renumbers (numbers_in types others) types others
renumbers_by types others once = record { there = λ t h g. sym (number_of_type types others (bare t) h); apart = λ t h g n e. by (bare t) h g n e (slice_get types n) refl }
  where
    standing : (t u : CType) (n : ℕ) → list_any (same t) others ≡ true → n < length types → get_or types n Void ≡ u → place_among 0 u others ≡ place_among 0 t others → (b : Bool) → list_any (same u) others ≡ b → n ≡ place_among 0 t types
    standing t u n g less e f true i = sym (once n less) ∙ ap (λ x. place_among 0 x types) (e ∙ one_type others u t i g f)
    standing t u n g less e f false i = absurd (number_behind others u (place_among 0 t others) i (number_within others t g) f)

    by : (t : CType) → list_any (same t) types ≡ true → list_any (same t) others ≡ true → (n : ℕ) → numbers_in types others n ≡ place_among 0 t others → (found : Option CType) → slice_get types n ≡ found → n ≡ place_among 0 t types
    by t h g n e None f =
        let behind : length others ≡ place_among 0 t others = ap (λ (it : Option CType). elim (it) as (λ _. ℕ) [ None ↦ length others | Some u ↦ place_among 0 u others ]) (sym f) ∙ e in
        let less = number_within others t g in
        absurd (omega (arith, behind, less))
    by t h g n e (Some u) f =
        standing t u n g (slice_get_within types n u f) (get_or_from_slice_get types n u Void f) (ap (λ (it : Option CType). elim (it) as (λ _. ℕ) [ None ↦ length others | Some x ↦ place_among 0 x others ]) (sym f) ∙ e)
        (list_any (same u) others) refl

-- ---- the laws

pub types_renumbered : TypesAreRenumbered
types_renumbered types others ts us here there within = renumbered_by types others (subst AreOnce (sym here) (each_once [] ts none_there)) within

pub lists_numbered : ListsHaveNumbers
lists_numbered types others ts us here there = renumbers_by types others (subst AreOnce (sym here) (each_once [] ts none_there))
