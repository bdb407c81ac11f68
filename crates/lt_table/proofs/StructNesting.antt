-- What is found of a struct by recursion over what it holds stays when others are added or completed, and needs no more depth than there are
-- complete structs.
use Rattle.std.proofs.Common.{◌≡◌, ℕ, zero, suc, ◌<◌, ◌≤◌, Bool, true, false, cond, List, [], ◌∷◌, ◌++◌, length, set, Option, Some, None, is_some, refl, sym, ap, subst, ◌∙◌, arith, true≢false, inl, inr}
use Rattle.std.proofs.lemmas.Bool.{cases_eq}
use Rattle.std.proofs.lemmas.List.{length-set}
use Rattle.lt_tree.specs.Typing.Types.{CType, Void, Num, Pointer, Array, Struct, Function, Floating, Qualified}
use Rattle.lt_tree.specs.Typing.Extents.{Member, StructType, Structs, members_of}
use Rattle.lt_table.specs.StructNesting.{HoldsOnly, AllHoldOnly, Nests, completed, AreNested}

-- ---- what is held

pub holds_map : (P Q : ℕ → Type 0) → ((k : ℕ) → P k → Q k) → (t : CType) → HoldsOnly P t → HoldsOnly Q t
holds_map P Q f (Struct k) h = f k h
holds_map P Q f (Array t n) h = holds_map P Q f t h
holds_map P Q f (Qualified q t) h = holds_map P Q f t h
holds_map P Q f Void h = tt
holds_map P Q f (Num s) h = tt
holds_map P Q f (Pointer t) h = tt
holds_map P Q f (Function t ts dots) h = tt
holds_map P Q f Floating h = tt

pub all_hold_map : (P Q : ℕ → Type 0) → ((k : ℕ) → P k → Q k) → (members : List Member) → AllHoldOnly P members → AllHoldOnly Q members
all_hold_map P Q f [] h = tt
all_hold_map P Q f (member ∷ members) h = (holds_map P Q f member.type h.0, all_hold_map P Q f members h.1)

-- ---- structs that keep their members

-- a complete struct of the first is the same in the second
abbrev pub Keeps : Structs → Structs → Type 0
Keeps a b = (k : ℕ) (members : List Member) → members_of a k ≡ Some members → members_of b k ≡ Some members

pub nests_kept : (a b : Structs) → Keeps a b → (d e k : ℕ) → d ≤ e → Nests a d k → Nests b e k
unfolding Nests
nests_kept a b keeps zero e k less h = absurd h
nests_kept a b keeps (suc d) zero k less h = absurd (omega arith)
nests_kept a b keeps (suc d) (suc e) k less h =
    (h.0, (keeps k h.0 h.1.0, all_hold_map (Nests a d) (Nests b e) (λ j. nests_kept a b keeps d e j (omega arith)) h.0 h.1.1))

pub keeps_same : (a : Structs) → Keeps a a
keeps_same a k members at = at

-- ---- a struct is added

abbrev pub incomplete : StructType
incomplete = record { members = None }

pub keeps_added : (a : Structs) → Keeps a (a ++ incomplete ∷ [])
keeps_added [] k members at = absurd (true≢false (sym (ap is_some at)))
keeps_added (it ∷ a) zero members at = at
keeps_added (it ∷ a) (suc k) members at = keeps_added a k members at

pub members_added : (a : Structs) (k : ℕ) → members_of (a ++ incomplete ∷ []) k ≡ members_of a k
members_added [] zero = refl
members_added [] (suc k) = refl
members_added (it ∷ a) zero = refl
members_added (it ∷ a) (suc k) = members_added a k

pub completed_added : (a : Structs) → completed (a ++ incomplete ∷ []) ≡ completed a
completed_added [] = refl
completed_added (it ∷ a) = ap (λ n. cond (is_some it.members) (suc n) n) (completed_added a)

pub nested_added : (a : Structs) → AreNested a → AreNested (a ++ incomplete ∷ [])
nested_added a nested k members at =
    subst (λ n. Nests (a ++ incomplete ∷ []) n k) (sym (completed_added a))
    (nests_kept a (a ++ incomplete ∷ []) (keeps_added a) (completed a) (completed a) k (omega arith) (nested k members (sym (members_added a k) ∙ at)))

-- ---- a struct is completed

abbrev pub with_members : List Member → StructType
with_members members = record { members = Some members }

pub members_set : (a : Structs) (n : ℕ) (it : StructType) → n < length a → members_of (set a n it) n ≡ it.members
members_set [] n it within = absurd (omega (arith, within))
members_set (x ∷ a) zero it within = refl
members_set (x ∷ a) (suc n) it within = members_set a n it (omega (arith, within))

pub members_set_other : (a : Structs) (n k : ℕ) (it : StructType) → (k ≡ n → ⊥) → members_of (set a n it) k ≡ members_of a k
members_set_other [] n k it apart = refl
members_set_other (x ∷ a) zero zero it apart = absurd (apart refl)
members_set_other (x ∷ a) zero (suc k) it apart = refl
members_set_other (x ∷ a) (suc n) zero it apart = refl
members_set_other (x ∷ a) (suc n) (suc k) it apart = members_set_other a n k it (λ e. apart (ap suc e))

pub keeps_set : (a : Structs) (n : ℕ) (it : StructType) → members_of a n ≡ None → Keeps a (set a n it)
keeps_set a n it none k members at = members_set_other a n k it (λ e. absurd (true≢false (sym (ap is_some at) ∙ ap is_some (ap (members_of a) e ∙ none)))) ∙ at

if_some : (o : Option (List Member)) (n : ℕ) → o ≡ None → cond (is_some o) (suc n) n ≡ n
if_some o n none = ap (λ p. cond (is_some p) (suc n) n) none

pub completed_set : (a : Structs) (n : ℕ) (members : List Member) → n < length a → members_of a n ≡ None → completed (set a n (with_members members)) ≡ suc (completed a)
completed_set [] n members within none = absurd (omega (arith, within))
completed_set (it ∷ a) zero members within none = ap suc (sym (if_some it.members (completed a) none))
completed_set (it ∷ a) (suc n) members within none =
    ap (λ k. cond (is_some it.members) (suc k) k) (completed_set a n members (omega (arith, within)) none) ∙ turn (is_some it.members)
  where
    turn : (b : Bool) → cond b (suc (suc (completed a))) (suc (completed a)) ≡ suc (cond b (suc (completed a)) (completed a))
    turn true = refl
    turn false = refl

cond_least : (b : Bool) (n m : ℕ) → n ≤ m → cond b (suc n) n ≤ suc m
cond_least true n m less = omega arith
cond_least false n m less = omega arith

pub completed_least : (a : Structs) → completed a ≤ length a
completed_least [] = omega arith
completed_least (it ∷ a) = cond_least (is_some it.members) (completed a) (length a) (completed_least a)

cond_less : (b : Bool) (n m : ℕ) → n < m → cond b (suc n) n < suc m
cond_less true n m less = omega arith
cond_less false n m less = omega arith

pub completed_less : (a : Structs) (n : ℕ) → n < length a → members_of a n ≡ None → completed a < length a
completed_less [] n within none = absurd (omega (arith, within))
completed_less (it ∷ a) zero within none =
    let e : cond (is_some it.members) (suc (completed a)) (completed a) ≡ completed a = if_some it.members (completed a) none in omega (arith, e, completed_least a)
completed_less (it ∷ a) (suc n) within none = cond_less (is_some it.members) (completed a) (length a) (completed_less a n (omega (arith, within)) none)

-- the struct is complete
abbrev pub IsComplete : Structs → ℕ → Type 0
IsComplete a k = is_some (members_of a k) ≡ true

members_there : (o : Option (List Member)) → is_some o ≡ true → (members : List Member) × (o ≡ Some members)
members_there None h = absurd (true≢false (sym h))
members_there (Some members) h = (members, refl)

nests_complete : (a : Structs) → AreNested a → (k : ℕ) → IsComplete a k → Nests a (completed a) k
nests_complete a nested k complete = let m = members_there (members_of a k) complete in nested k m.0 m.1

pub nested_set : (a : Structs) (n : ℕ) (members : List Member) → n < length a → members_of a n ≡ None → AreNested a → AllHoldOnly (IsComplete a) members
    → AreNested (set a n (with_members members))
unfolding Nests
nested_set a n members within none nested held k others at = elim (cases_eq k n) [
  | inl same ↦ subst (λ j. Nests b (completed b) j) (sym same) (subst (λ d. Nests b d n) (sym more) new)
  | inr apart ↦ nests_kept a b (keeps_set a n (with_members members) none) (completed a) (completed b) k (omega (arith, more)) (nested k others (sym (members_set_other a n k (with_members members) apart) ∙ at))
]
  where
    b : Structs
    b = set a n (with_members members)

    more : completed b ≡ suc (completed a)
    more = completed_set a n members within none

    new : Nests b (suc (completed a)) n
    new = (
      members,
      (
        members_set a n (with_members members) within,
        all_hold_map (IsComplete a) (Nests b (completed a)) (λ j complete.
            nests_kept a b (keeps_set a n (with_members members) none) (completed a) (completed a) j (omega arith) (nests_complete a nested j complete)) members held,
      ),
    )

-- ---- what is found by recursion

module _ (R : Type 0) (found : Structs → ℕ → ℕ → R) (step : (ℕ → R) → List Member → R)
    (unfolds : (structs : Structs) (d k : ℕ) (members : List Member) → members_of structs k ≡ Some members → found structs (suc d) k ≡ step (found structs d) members)
    (depends : (known other : ℕ → R) (members : List Member) → AllHoldOnly (λ k. known k ≡ other k) members → step known members ≡ step other members)
    (least : R) (nothing : (structs : Structs) (d k : ℕ) → members_of structs k ≡ None → found structs d k ≡ least) where
  -- at the depth of its nest, and at any greater one
  pub found_kept : (a b : Structs) → Keeps a b → (d e k : ℕ) → d ≤ e → Nests a d k → found b e k ≡ found a d k
  unfolding Nests
  found_kept a b keeps zero e k less h = absurd h
  found_kept a b keeps (suc d) zero k less h = absurd (omega arith)
  found_kept a b keeps (suc d) (suc e) k less h =
      unfolds b e k h.0 (keeps k h.0 h.1.0)
      ∙ depends (found b e) (found a d) h.0 (all_hold_map (Nests a d) (λ j. found b e j ≡ found a d j) (λ j. found_kept a b keeps d e j (omega arith)) h.0 h.1.1)
      ∙ sym (unfolds a d k h.0 h.1.0)

  -- it stays
  pub found_stays : (a b : Structs) → Keeps a b → AreNested a → (e k : ℕ) → completed a ≤ e → IsComplete a k → found b e k ≡ found a (length a) k
  found_stays a b keeps nested e k less complete =
      let h = nests_complete a nested k complete in
      found_kept a b keeps (completed a) e k less h ∙ sym (found_kept a a (keeps_same a) (completed a) (length a) k (completed_least a) h)

  -- also of a struct that is incomplete in both
  pub found_same : (a b : Structs) → Keeps a b → AreNested a → completed a ≤ length b → (k : ℕ) → members_of b k ≡ members_of a k → found b (length b) k ≡ found a (length a) k
  found_same a b keeps nested less k same = by (members_of a k) refl
    where
      by : (o : Option (List Member)) → members_of a k ≡ o → found b (length b) k ≡ found a (length a) k
      by None at = nothing b (length b) k (same ∙ at) ∙ sym (nothing a (length a) k at)
      by (Some members) at = found_stays a b keeps nested (length b) k less (ap is_some at)

  -- and of a struct that is completed it is found from what was found before
  pub found_new : (a : Structs) (n : ℕ) (members : List Member) → n < length a → members_of a n ≡ None → AreNested a → AllHoldOnly (IsComplete a) members
      → found (set a n (with_members members)) (length (set a n (with_members members))) n ≡ step (found a (length a)) members
  found_new a n members within none nested held = at_depth (length a) (completed_less a n within none) (length-set a n (with_members members))
    where
      b : Structs
      b = set a n (with_members members)

      at_depth : (e : ℕ) → completed a < e → length b ≡ e → found b (length b) n ≡ step (found a (length a)) members
      at_depth zero less long = absurd (omega (arith, less))
      at_depth (suc e) less long =
          ap (λ d. found b d n) long ∙ unfolds b e n members (members_set a n (with_members members) within)
          ∙ depends (found b e) (found a (length a)) members
          (all_hold_map (IsComplete a) (λ j. found b e j ≡ found a (length a) j)
          (λ j complete. found_stays a b (keeps_set a n (with_members members) none) nested e j (omega (arith, less)) complete) members held)
