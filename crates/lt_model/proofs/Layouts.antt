-- Types and structs that lie in memory: their elements, members and offsets.
use Rattle.std.proofs.Common.{◌≡◌, refl, sym, ap, ◌∙◌, ℕ, zero, suc, ◌+◌, ◌*◌, ◌||◌, max, cond, Bool, true, false, List, [], ◌∷◌, map, take, slice_get, Option, Some, None, option_map, unwrap_or}
use Rattle.lt_model.specs.declared.scalar.DataModel.{DataModel}
use Rattle.lt_model.specs.declared.ctype.MemberType.{MemberType}
use Rattle.lt_model.specs.declared.ctype.StructType.{StructType as HeldStruct}
use Rattle.lt_model.specs.declared.sizes.Extent.{Extent}
use Rattle.lt_model.specs.Types.{Qualifiers, CType, Void, Num, Pointer, Array, Struct, Function, Floating, Qualified, qualified, unqualified, element}
use Rattle.lt_model.specs.Layout.{then_some, within, elements, single_extent, member_offset, with_member, members_extent, Member, Placed, placed_at, placed_behind, offset_among, members_of}
use Rattle.lt_model.specs.TypeView.{type_of, member_of, structs_of}

-- ---- qualifiers

element_added : (q : Qualifiers) (t : CType) (b : Bool) → element t ≡ t → unqualified t ≡ t → unqualified (element (cond b (Qualified q t) t)) ≡ unqualified (element t)
element_added q t true e u = sym (ap unqualified e ∙ u)
element_added q t false e u = refl

-- the elements of an array, but for their own qualifiers, and their number are the same whatever qualifiers it has
pub element_qualified : (q : Qualifiers) (t : CType) → unqualified (element (qualified q t)) ≡ unqualified (element t)
element_qualified q (Array t n) = element_qualified q t
element_qualified q (Qualified p t) = refl
element_qualified q (Function t ts dots) = refl
element_qualified q Void = element_added q Void (q.constant || q.volatile) refl refl
element_qualified q (Num s) = element_added q (Num s) (q.constant || q.volatile) refl refl
element_qualified q (Pointer t) = element_added q (Pointer t) (q.constant || q.volatile) refl refl
element_qualified q (Struct k) = element_added q (Struct k) (q.constant || q.volatile) refl refl
element_qualified q Floating = element_added q Floating (q.constant || q.volatile) refl refl

count_added : (q : Qualifiers) (t : CType) (b : Bool) → elements t ≡ 1 → elements (cond b (Qualified q t) t) ≡ elements t
count_added q t true e = sym e
count_added q t false e = refl

pub elements_qualified : (q : Qualifiers) (t : CType) → elements (qualified q t) ≡ elements t
elements_qualified q (Array t n) = ap (λ k. n * k) (elements_qualified q t)
elements_qualified q (Qualified p t) = refl
elements_qualified q (Function t ts dots) = refl
elements_qualified q Void = count_added q Void (q.constant || q.volatile) refl
elements_qualified q (Num s) = count_added q (Num s) (q.constant || q.volatile) refl
elements_qualified q (Pointer t) = count_added q (Pointer t) (q.constant || q.volatile) refl
elements_qualified q (Struct k) = count_added q (Struct k) (q.constant || q.volatile) refl
elements_qualified q Floating = count_added q Floating (q.constant || q.volatile) refl

-- no more of its extent
pub single_unqualified : (m : DataModel) (known : ℕ → Option Extent) (t : CType) → single_extent m known (unqualified t) ≡ single_extent m known t
single_unqualified m known (Qualified q t) = refl
single_unqualified m known (Array t n) = refl
single_unqualified m known (Function t ts dots) = refl
single_unqualified m known Void = refl
single_unqualified m known (Num s) = refl
single_unqualified m known (Pointer t) = refl
single_unqualified m known (Struct k) = refl
single_unqualified m known Floating = refl

-- ---- members

pub members_held : (list : List HeldStruct) (k : ℕ) → members_of (structs_of list) k ≡ option_map (map member_of) (then_some (slice_get list k) (λ it. it.members))
members_held [] k = refl
members_held (it ∷ list) zero = refl
members_held (it ∷ list) (suc k) = members_held list k

-- ---- offsets

none_behind : {B C : Type 0} (o : Option B) → then_some {B = C} o (λ b. None) ≡ None
none_behind None = refl
none_behind (Some b) = refl

none_there : {A B C : Type 0} (o : Option A) (f : A → Option B) → then_some {B = C} o (λ a. then_some (f a) (λ b. None)) ≡ None
none_there None f = refl
none_there (Some a) f = none_behind (f a)

-- the first of the members, where it has an offset and an end
first_offset : (o : Option Extent) (f : Extent → Option ℕ) (g : Extent → Option Extent) (member : Member) (rest : Extent → List Placed)
    → offset_among (unwrap_or (then_some o (λ e. then_some (f e) (λ offset. then_some (g e) (λ after. Some (placed_at member offset ∷ rest after))))) []) 0
    ≡ then_some o (λ e. then_some (f e) (λ offset. then_some (g e) (λ after. Some offset)))
first_offset None f g member rest = refl
first_offset (Some e) f g member rest = by (f e) (g e)
  where
    by : (p : Option ℕ) (r : Option Extent) → offset_among (unwrap_or (then_some p (λ offset. then_some r (λ after. Some (placed_at member offset ∷ rest after)))) []) 0 ≡ then_some p (λ offset. then_some r (λ after. Some offset))
    by None r = refl
    by (Some offset) None = refl
    by (Some offset) (Some after) = refl

-- a later one stands behind the end of the first; what follows from no end is none
later_offset : (o : Option Extent) (f : Extent → Option ℕ) (w : Extent → ℕ → Option Extent) (member : Member) (rest : Extent → List Placed) (n : ℕ) (ends : Extent → Option Extent) (follows : Option Extent → Option ℕ)
    → follows None ≡ None → ((after : Extent) → offset_among (rest after) n ≡ follows (ends after))
    → offset_among (unwrap_or (then_some o (λ e. then_some (f e) (λ offset. then_some (then_some (f e) (w e)) (λ after. Some (placed_at member offset ∷ rest after))))) []) (suc n)
    ≡ follows (then_some o (λ e. then_some (then_some (f e) (w e)) ends))
later_offset None f w member rest n ends follows none h = sym none
later_offset (Some e) f w member rest n ends follows none h = by (f e)
  where
    next : (offset : ℕ) (r : Option Extent) → offset_among (unwrap_or (then_some r (λ after. Some (placed_at member offset ∷ rest after))) []) (suc n) ≡ follows (then_some r ends)
    next offset None = sym none
    next offset (Some after) = h after

    by : (p : Option ℕ) → offset_among (unwrap_or (then_some p (λ offset. then_some (then_some p (w e)) (λ after. Some (placed_at member offset ∷ rest after)))) []) (suc n) ≡ follows (then_some (then_some p (w e)) ends)
    by None = sym none
    by (Some offset) = next offset (w e offset)

-- the offset of a member of this extent behind others, where its end fits too
abbrev offset_behind : Extent → Extent → Option ℕ
offset_behind end e = then_some (member_offset end e) (λ offset. then_some (with_member end e) (λ after. Some offset))

-- a member stands behind the end of those before it
offset_held : (of : CType → Option Extent) (before : Extent) (members : List MemberType) (n : ℕ)
    → offset_among (placed_behind of before (map member_of members)) n
    ≡ then_some (slice_get members n) (λ member. then_some (of (type_of member.ty)) (λ e. then_some (members_extent of before (map member_of (take n members))) (λ end. offset_behind end e)))
offset_held of before [] n = refl
offset_held of before (member ∷ members) zero =
    first_offset (of (type_of member.ty)) (member_offset before) (with_member before) (member_of member) (λ after. placed_behind of after (map member_of members))
offset_held of before (member ∷ members) (suc n) =
    later_offset (of (type_of member.ty)) (member_offset before) (λ e offset. then_some (within (offset + e.size)) (λ end. Some (record { size = end; alignment = max before.alignment e.alignment })))
    (member_of member) (λ after. placed_behind of after (map member_of members)) n (λ after. members_extent of after (map member_of (take n members)))
    (λ all. then_some (slice_get members n) (λ member. then_some (of (type_of member.ty)) (λ e. then_some all (λ end. offset_behind end e))))
    (none_there (slice_get members n) (λ member. of (type_of member.ty)))
    (λ after. offset_held of after members n)

pub offset_found : (of : CType → Option Extent) (before : Extent) (members : List MemberType) (n : ℕ) (member : MemberType) (extent end : Option Extent)
    → slice_get members n ≡ Some member → of (type_of member.ty) ≡ extent → members_extent of before (map member_of (take n members)) ≡ end
    → offset_among (placed_behind of before (map member_of members)) n ≡ then_some extent (λ e. then_some end (λ end. offset_behind end e))
offset_found of before members n member extent end found typed ended =
    offset_held of before members n
    ∙ ap (λ o. then_some o (λ member. then_some (of (type_of member.ty)) (λ e. then_some (members_extent of before (map member_of (take n members))) (λ end. offset_behind end e)))) found
    ∙ ap (λ o. then_some o (λ e. then_some (members_extent of before (map member_of (take n members))) (λ end. offset_behind end e))) typed
    ∙ ap (λ o. then_some extent (λ e. then_some o (λ end. offset_behind end e))) ended

pub no_offset : (of : CType → Option Extent) (before : Extent) (members : List MemberType) (n : ℕ) → slice_get members n ≡ None
    → offset_among (placed_behind of before (map member_of members)) n ≡ None
no_offset of before members n none =
    offset_held of before members n
    ∙ ap (λ o. then_some o (λ member. then_some (of (type_of member.ty)) (λ e. then_some (members_extent of before (map member_of (take n members))) (λ end. offset_behind end e)))) none
