-- The numbers of objects that are there from the start.
use Rattle.std.proofs.Common.{◌≡◌, ◌==◌, ◌+◌, ◌<◌, ◌≤◌, ℕ, Bool, true, false, cond, ◌&&◌, List, [], ◌∷◌, length, take, count_by, nat_lt, get_or, slice_get, Option, Some, None, refl, sym, ap, ◌∙◌, ⊎_elim, ◌⊎◌, inl, inr, arith, zero, suc, map, add-zero, zero-add, add_assoc}
use Rattle.std.specs.List.{fold}
use Rattle.std.proofs.lemmas.Bool.{cases_Bool, eqb-true}
use Rattle.std.proofs.lemmas.Bool.Decides.{nat_tests}
use Rattle.std.proofs.lemmas.Option.{slice_get_read, slice_get_past}
use Rattle.std.proofs.lemmas.List.Sums.{count_by_more_yes, count_by_more_no}
use Rattle.lt_tree.specs.Typing.Types.{CType}
use Rattle.lt_tree.specs.Typing.Entities.{is_static}
use Rattle.lt_tree.specs.Typing.EntityView.{object_of}
use Rattle.lt_meaning.specs.Runs.{statics_before}
use Rattle.lt_tree.specs.declared.typed.entity.Object.{Object}
use Rattle.lt_tables.specs.Objects.{number_of, is_first_at, is_made_first}

at_one : (objects : List Object) (n count : ℕ) (o : Object) → slice_get objects n ≡ Some o → count ≡ count_by is_made_first (take n objects) → number_of objects n ≡ cond (is_made_first o) (Some count) None
at_one objects n count o at is =
    ap (λ r. cond (elim r [ None ↦ false | Some object ↦ is_made_first object ]) (Some (count_by is_made_first (take n objects))) None) at
    ∙ ap (λ k. cond (is_made_first o) (Some k) None) (sym is)

here : (first : Bool) (count old is : Option ℕ) → old ≡ None → is ≡ cond first count None → cond (first && true) count old ≡ is
here true count old is before e = sym e
here false count old is before e = before ∙ sym e

elsewhere : (first : Bool) (count old : Option ℕ) → cond (first && false) count old ≡ old
elsewhere true count old = refl
elsewhere false count old = refl

step : (first same before after : Bool) (count old new is : Option ℕ) → new ≡ cond (first && same) count old → old ≡ cond before is None
    → ((same ≡ true) × (before ≡ false) × (after ≡ true) × (is ≡ cond first count None)) ⊎ ((same ≡ false) × (after ≡ before)) → new ≡ cond after is None
step first same before after count old new is n o (inl h) =
    n ∙ ap (λ b. cond (first && b) count old) h.0 ∙ here first count old is (o ∙ ap (λ b. cond b is None) h.1) h.3 ∙ ap (λ b. cond b is None) (sym h.2)
step first same before after count old new is n o (inr h) =
    n ∙ ap (λ b. cond (first && b) count old) h.0 ∙ elsewhere first count old ∙ o ∙ ap (λ b. cond b is None) (sym h.1)

below_next : (i n : ℕ) → (i == n) ≡ false → nat_lt n (i + 1) ≡ nat_lt n i
below_next i n e = grind (arith, nat_tests)

below_self : (i n : ℕ) → i ≡ n → nat_lt n i ≡ false
below_self i n e = grind (arith, nat_tests)

self_below : (i n : ℕ) → i ≡ n → nat_lt n (i + 1) ≡ true
self_below i n e = grind (arith, nat_tests)

-- one object more
pub number_more : (objects : List Object) (i count : ℕ) (o : Object) (old new : ℕ → Option ℕ) → i < length objects → o ≡ get_or objects i o → count ≡ count_by is_made_first (take i objects)
    → ((n : ℕ) → old n ≡ cond (nat_lt n i) (number_of objects n) None) → ((n : ℕ) → new n ≡ cond (is_made_first o && (i == n)) (Some count) (old n))
    → (n : ℕ) → new n ≡ cond (nat_lt n (i + 1)) (number_of objects n) None
number_more objects i count o old new within is counted before after n =
    step (is_made_first o) (i == n) (nat_lt n i) (nat_lt n (i + 1)) (Some count) (old n) (new n) (number_of objects n) (after n) (before n)
    (⊎_elim
    (λ same. let e : i ≡ n = eqb-true i n same in
    inl (same, below_self i n e, self_below i n e, ap (number_of objects) (sym e) ∙ at_one objects i count o (slice_get_read objects (length objects) i o refl within is) counted))
    (λ other. inr (other, below_next i n other))
    (cases_Bool (i == n)))

-- how many have a number then
pub few_more : (b : Bool) (count i : ℕ) → count ≤ i → count + cond b 1 0 ≤ i + 1
few_more true count i h = omega arith
few_more false count i h = omega arith

pub count_more : (objects : List Object) (i count : ℕ) (o : Object) → i < length objects → o ≡ get_or objects i o → count ≡ count_by is_made_first (take i objects)
    → count + cond (is_made_first o) 1 0 ≡ count_by is_made_first (take (i + 1) objects)
count_more objects i count o within is counted =
    ⊎_elim
    (λ yes. ap (λ b. count + cond b 1 0) yes ∙ ap (λ k. k + 1) counted ∙ sym (count_by_more_yes is_made_first objects i o within (ap is_made_first (sym is) ∙ yes)))
    (λ no. ap (λ b. count + cond b 1 0) no ∙ add-zero count ∙ counted ∙ sym (count_by_more_no is_made_first objects i o within (ap is_made_first (sym is) ∙ no)))
    (cases_Bool (is_made_first o))

past : (objects : List Object) (n : ℕ) → length objects ≤ n → number_of objects n ≡ None
past objects n h =
    ap (λ r. cond (elim r [ None ↦ false | Some object ↦ is_made_first object ]) (Some (count_by is_made_first (take n objects))) None) (slice_get_past objects n h)

whole : (objects : List Object) (i n : ℕ) → length objects ≤ i → (nat_lt n i ≡ true) ⊎ (nat_lt n i ≡ false) → cond (nat_lt n i) (number_of objects n) None ≡ number_of objects n
whole objects i n h (inl within) = ap (λ b. cond b (number_of objects n) None) within
whole objects i n h (inr beyond) = let le : length objects ≤ n = grind (arith, nat_tests) in ap (λ b. cond b (number_of objects n) None) beyond ∙ sym (past objects n le)

-- behind all of them
pub numbers_all : (objects : List Object) (i : ℕ) (found : ℕ → Option ℕ) → length objects ≤ i → ((n : ℕ) → found n ≡ cond (nat_lt n i) (number_of objects n) None) → (n : ℕ) → found n ≡ number_of objects n
numbers_all objects i found h is n = is n ∙ whole objects i n h (cases_Bool (nat_lt n i))

-- ---- as a typed program has them

counted_from : (a : ℕ) (objects : List Object) → fold (λ k o. k + cond (is_made_first o) 1 0) a objects ≡ a + count_by is_made_first objects
counted_from a [] = sym (add-zero a)
counted_from a (o ∷ objects) =
    counted_from (a + cond (is_made_first o) 1 0) objects ∙ add_assoc a (cond (is_made_first o) 1 0) (count_by is_made_first objects)
    ∙ ap (λ k. a + (k + count_by is_made_first objects)) (sym (zero-add (cond (is_made_first o) 1 0)))
    ∙ ap (λ k. a + k) (sym (counted_from (0 + cond (is_made_first o) 1 0) objects))

counted_first : (o : Object) (objects : List Object) → count_by is_made_first (o ∷ objects) ≡ cond (is_made_first o) 1 0 + count_by is_made_first objects
counted_first o objects = counted_from (0 + cond (is_made_first o) 1 0) objects ∙ ap (λ k. k + count_by is_made_first objects) (zero-add (cond (is_made_first o) 1 0))

one_first : (b : Bool) (k : ℕ) → cond b (suc k) k ≡ cond b 1 0 + k
one_first true k = omega arith
one_first false k = omega arith

module _ (types : List CType) where
  first_same : (objects : List Object) (n : ℕ) → elim (slice_get (map (object_of types) objects) n) [ None ↦ false | Some object ↦ is_static object.life ] ≡ is_first_at objects n
  first_same [] n = refl
  first_same (o ∷ objects) zero = refl
  first_same (o ∷ objects) (suc n) = first_same objects n

  pub before_same : (objects : List Object) (n : ℕ) → statics_before n (map (object_of types) objects) ≡ count_by is_made_first (take n objects)
  before_same objects zero = refl
  before_same [] (suc n) = refl
  before_same (o ∷ objects) (suc n) =
      ap (λ k. cond (is_made_first o) (suc k) k) (before_same objects n)
      ∙ one_first (is_made_first o) (count_by is_made_first (take n objects)) ∙ sym (counted_first o (take n objects))

  pub numbers_same : (objects : List Object) (n : ℕ)
      → cond (elim (slice_get (map (object_of types) objects) n) [ None ↦ false | Some object ↦ is_static object.life ]) (Some (statics_before n (map (object_of types) objects))) None ≡ number_of objects n
  numbers_same objects n = ap (λ b. cond b (Some (statics_before n (map (object_of types) objects))) None) (first_same objects n) ∙ ap (λ k. cond (is_first_at objects n) (Some k) None) (before_same objects n)
