-- Where no struct holds itself, a greater bound on the nesting changes no extent.
use Rattle.std.proofs.Common.{arith, ◌≡◌, refl, ap, ℕ, zero, suc, ◌<◌, ◌≤◌, ◌*◌, List, [], ◌∷◌, length, Option, Some, None}
use Rattle.lt_model.specs.declared.scalar.DataModel.{DataModel}
use Rattle.lt_model.specs.declared.sizes.Extent.{Extent}
use Rattle.lt_model.specs.Types.{CType, Void, Num, Pointer, Array, Struct, Function, Floating, Qualified, element}
use Rattle.lt_model.specs.Layout.{then_some, within, rounded, resized, elements, single_extent, type_extent, with_member, no_members, members_extent, Member, Structs, members_of, struct_extent, IsBelow, AreBelow, AreRanked}

then_some_same : {A B : Type 0} (o : Option A) (f g : A → Option B) → ((a : A) → o ≡ Some a → f a ≡ g a) → then_some o f ≡ then_some o g
then_some_same None f g h = refl
then_some_same (Some a) f g h = h a refl

-- below struct k both know the same extents
abbrev AgreeBelow : (ℕ → ℕ) → ℕ → (ℕ → Option Extent) → (ℕ → Option Extent) → Type 0
AgreeBelow rank k known other = (j : ℕ) → rank j < rank k → known j ≡ other j

single_same : (m : DataModel) (structs : Structs) (rank : ℕ → ℕ) (k : ℕ) (known other : ℕ → Option Extent) (t : CType) → AgreeBelow rank k known other → IsBelow structs rank k t → single_extent m known t ≡ single_extent m other t
single_same m structs rank k known other (Struct j) h below = h j below.1
single_same m structs rank k known other (Qualified q t) h below = single_same m structs rank k known other t h below
single_same m structs rank k known other Void h below = refl
single_same m structs rank k known other (Num s) h below = refl
single_same m structs rank k known other (Pointer t) h below = refl
single_same m structs rank k known other (Array t n) h below = refl
single_same m structs rank k known other (Function t ts dots) h below = refl
single_same m structs rank k known other Floating h below = refl

element_below : (structs : Structs) (rank : ℕ → ℕ) (k : ℕ) (t : CType) → IsBelow structs rank k t → IsBelow structs rank k (element t)
element_below structs rank k (Array t n) below = element_below structs rank k t below
element_below structs rank k Void below = below
element_below structs rank k (Num s) below = below
element_below structs rank k (Pointer t) below = below
element_below structs rank k (Struct j) below = below
element_below structs rank k (Function t ts dots) below = below
element_below structs rank k Floating below = below
element_below structs rank k (Qualified q t) below = below

type_same : (m : DataModel) (structs : Structs) (rank : ℕ → ℕ) (k : ℕ) (known other : ℕ → Option Extent) (t : CType) → AgreeBelow rank k known other → IsBelow structs rank k t → type_extent m known t ≡ type_extent m other t
type_same m structs rank k known other t h below =
    ap (λ o. then_some o (λ e. resized e (within (e.size * elements t)))) (single_same m structs rank k known other (element t) h (element_below structs rank k t below))

members_same : (of other : CType → Option Extent) (structs : Structs) (rank : ℕ → ℕ) (k : ℕ) (before : Extent) (members : List Member) → ((t : CType) → IsBelow structs rank k t → of t ≡ other t) → AreBelow structs rank k members → members_extent of before members ≡ members_extent other before members
members_same of other structs rank k before [] h all = refl
members_same of other structs rank k before (member ∷ members) h all =
    rw (h member.type all.0) (then_some_same (other member.type) _ _ (λ e _. then_some_same (with_member before e) _ _ (λ after _. members_same of other structs rank k after members h all.1)))

-- two bounds above the rank of a struct give the same extent
pub bounds_agree : (m : DataModel) (structs : Structs) (rank : ℕ → ℕ) → AreRanked structs rank → (d e k : ℕ) → rank k < d → rank k < e → struct_extent m structs d k ≡ struct_extent m structs e k
unfolding struct_extent
bounds_agree m structs rank h zero e k p q = absurd (omega arith)
bounds_agree m structs rank h (suc d) zero k p q = absurd (omega arith)
bounds_agree m structs rank h (suc d) (suc e) k p q =
    then_some_same (members_of structs k) _ _ (λ members is.
    ap (λ o. then_some o (λ all. resized all (rounded all.size all.alignment)))
    (members_same (type_extent m (struct_extent m structs d)) (type_extent m (struct_extent m structs e)) structs rank k no_members members
    (λ t below. type_same m structs rank k (struct_extent m structs d) (struct_extent m structs e) t (λ j less. bounds_agree m structs rank h d e j (omega arith) (omega arith)) below)
    (h.falls k members is)))

pub nesting_bounded : (m : DataModel) (structs : Structs) (rank : ℕ → ℕ) → AreRanked structs rank → (depth k : ℕ) → k < length structs → length structs ≤ depth → struct_extent m structs depth k ≡ struct_extent m structs (length structs) k
nesting_bounded m structs rank h depth k p q =
    let low = h.low k p in
    bounds_agree m structs rank h depth (length structs) k (omega arith) low
