-- What is looked up where all types are made.
use Rattle.std.proofs.Common.{ℕ, zero, suc, List, [], ◌∷◌, Bool, true, false, Option, Some, None}
use Rattle.std.specs.Prelude.{if◌then◌else◌, slice_get, unwrap_or, option_and_then}
use Rattle.std.specs.Str.{bytes_eq}
use Rattle.std.specs.List.{AllByRecursion}
use Rattle.lt_model.specs.declared.scalar.DataModel.{DataModel}
use Rattle.lt_model.specs.declared.sizes.Extent.{Extent}
use Rattle.lt_model.specs.Layout.{then_some, member_offset, with_member, no_members}
use Rattle.lt_tree.specs.Typing.Types.{CType, Void, struct_of}
use Rattle.lt_tree.specs.Typing.Extents.{Member, StructType, Structs, members_in, Placed, placed_at, placed_behind, placed_members, named_among, member_of, extent_of}
use Rattle.lt_tree.specs.Typing.Entities.{Known, Object, Declared, declared_among, Entity, Bound, Tagged, Frame, bound_among, or_else, bound_in, type_of_object, binding, tagging}
use Rattle.lt_tree.specs.Typing.Operations.{member_in}
use Rattle.lt_made_types.proofs.MadeTypes.{Made}
use Rattle.lt_made_types.proofs.Keeping.{WhenThere, EntityMade, BoundMade, FrameMade, MembersMade, StructMade, ObjectMade, DeclaredMade, Sound}

-- ---- names

there_or_later : {A : Type 0} (Is : A → Type 0) (test : Bool) (a : A) (found : Option A) → Is a → WhenThere Is found → WhenThere Is (if test then Some a else found)
there_or_later Is true a found h i = h
there_or_later Is false a found h i = i

or_else_made : (first other : Option Entity) → WhenThere EntityMade first → WhenThere EntityMade other → WhenThere EntityMade (or_else first other)
or_else_made None other h i = i
or_else_made (Some a) other h i = h

bound_among_made : (name : List ℕ) (them : List Bound) → AllByRecursion BoundMade them → WhenThere EntityMade (bound_among name them)
bound_among_made name [] h = tt
bound_among_made name (it ∷ them) h = there_or_later EntityMade (bytes_eq it.name name) it.entity (bound_among name them) h.0 (bound_among_made name them h.1)

pub bound_made : (name : List ℕ) (frames : List Frame) → AllByRecursion FrameMade frames → WhenThere EntityMade (bound_in name frames)
bound_made name [] h = tt
bound_made name (frame ∷ frames) h =
    or_else_made (bound_among name frame.names) (bound_in name frames) (bound_among_made name frame.names h.0) (bound_made name frames h.1)

-- one more name, and one more tag
pub binding_made : (name : List ℕ) (entity : Entity) (frames : List Frame) → EntityMade entity → AllByRecursion FrameMade frames → AllByRecursion FrameMade (binding name entity frames)
binding_made name entity [] h i = tt
binding_made name entity (frame ∷ frames) h i = ((h, i.0), i.1)

pub tagging_made : (name : List ℕ) (tagged : Tagged) (frames : List Frame) → AllByRecursion FrameMade frames → AllByRecursion FrameMade (tagging name tagged frames)
tagging_made name tagged [] h = tt
tagging_made name tagged (frame ∷ frames) h = (h.0, h.1)

-- ---- objects and functions

pub found_made : {A : Type 0} (Is : A → Type 0) (list : List A) (n : ℕ) → AllByRecursion Is list → WhenThere Is (slice_get list n)
found_made Is [] n h = tt
found_made Is (a ∷ list) zero h = h.0
found_made Is (a ∷ list) (suc n) h = found_made Is list n h.1

type_or_void : (found : Option Object) → WhenThere ObjectMade found → Made (unwrap_or (then_some found (λ object. Some object.type)) Void)
type_or_void None h = record { so = tt }
type_or_void (Some object) h = h

pub object_type_made : (known : Known) (n : ℕ) → Sound known → Made (type_of_object known n)
object_type_made known n s = type_or_void (slice_get known.objects n) (found_made ObjectMade known.objects n s.objects)

pub declared_among_made : (name : List ℕ) (fs : List Declared) → AllByRecursion DeclaredMade fs → WhenThere Made (declared_among name fs)
declared_among_made name [] h = tt
declared_among_made name (f ∷ fs) h = there_or_later Made (bytes_eq f.name name) f.type (declared_among name fs) h.0 (declared_among_made name fs h.1)

-- ---- members

abbrev pub PlacedMade : Placed → Type 0
PlacedMade it = Made it.type

abbrev pub AllPlaced : List Placed → Type 0
AllPlaced placed = AllByRecursion PlacedMade placed

members_or_none : (found : Option StructType) → WhenThere StructMade found → MembersMade (unwrap_or (then_some found (λ it. it.members)) [])
members_or_none None h = tt
members_or_none (Some it) h = whole it.members h
  where
    whole : (members : Option (List Member)) → WhenThere MembersMade members → MembersMade (unwrap_or members [])
    whole None h = tt
    whole (Some members) h = h

members_made : (structs : Structs) (k : ℕ) → AllByRecursion StructMade structs → MembersMade (members_in structs k)
members_made structs k h = members_or_none (slice_get structs k) (found_made StructMade structs k h)

-- a member, where its offset and the end behind it are known
abbrev placed_next : Member → (Extent → List Placed) → Option ℕ → Option Extent → Option (List Placed)
placed_next member rest offset after = then_some offset (λ offset. then_some after (λ after. Some (placed_at member offset ∷ rest after)))

placed_next_made : (member : Member) (rest : Extent → List Placed) (offset : Option ℕ) (after : Option Extent) → Made member.type → ((after : Extent) → AllPlaced (rest after))
    → AllPlaced (unwrap_or (placed_next member rest offset after) [])
placed_next_made member rest None after h f = tt
placed_next_made member rest (Some offset) None h f = tt
placed_next_made member rest (Some offset) (Some after) h f = (h, f after)

placed_member_made : (member : Member) (before : Extent) (rest : Extent → List Placed) (extent : Option Extent) → Made member.type → ((after : Extent) → AllPlaced (rest after))
    → AllPlaced (unwrap_or (then_some extent (λ e. placed_next member rest (member_offset before e) (with_member before e))) [])
placed_member_made member before rest None h f = tt
placed_member_made member before rest (Some e) h f = placed_next_made member rest (member_offset before e) (with_member before e) h f

placed_behind_made : (of : CType → Option Extent) (before : Extent) (members : List Member) → MembersMade members → AllPlaced (placed_behind of before members)
placed_behind_made of before [] h = tt
placed_behind_made of before (member ∷ members) h =
    placed_member_made member before (λ after. placed_behind of after members) (of member.type) h.0 (λ after. placed_behind_made of after members h.1)

named_among_made : (name : List ℕ) (placed : List Placed) → AllPlaced placed → WhenThere PlacedMade (named_among name placed)
named_among_made name [] h = tt
named_among_made name (it ∷ rest) h = there_or_later PlacedMade (bytes_eq it.name name) it (named_among name rest) h.0 (named_among_made name rest h.1)

member_of_struct : (m : DataModel) (structs : Structs) (name : List ℕ) (k : Option ℕ) → AllByRecursion StructMade structs
    → WhenThere PlacedMade (option_and_then (λ k. member_of m structs k name) k)
member_of_struct m structs name None h = tt
member_of_struct m structs name (Some k) h =
    named_among_made name (placed_members m structs k) (placed_behind_made (extent_of m structs) no_members (members_in structs k) (members_made structs k h))

pub member_made : (known : Known) (t : CType) (name : List ℕ) → Sound known → WhenThere PlacedMade (member_in known t name)
member_made known t name s = member_of_struct known.model known.structs name (struct_of t) s.structs
