-- What is looked up where all is in range.
use Rattle.std.proofs.Common.{◌≡◌, refl, subst, ℕ, zero, suc, ◌+◌, ◌<◌, List, [], ◌∷◌, length, Bool, true, false, Option, Some, None, arith}
use Rattle.std.specs.Prelude.{if◌then◌else◌, slice_get, unwrap_or, option_and_then, ◌&&◌}
use Rattle.std.specs.Str.{bytes_eq}
use Rattle.std.specs.List.{flat_map}
use Rattle.std.proofs.lemmas.Slice.Eq.{bytes_eq-Decides}
use Rattle.lt_model.specs.declared.scalar.DataModel.{DataModel}
use Rattle.lt_model.specs.declared.sizes.Extent.{Extent}
use Rattle.lt_model.specs.Layout.{then_some, member_offset, with_member, no_members}
use Rattle.lt_tree.specs.Typing.Types.{CType, Void, struct_of}
use Rattle.lt_tree.specs.Typing.Extents.{Member, StructType, Structs, members_in, Placed, placed_at, placed_behind, placed_members, named_among, member_of, extent_of}
use Rattle.lt_tree.specs.Typing.Entities.{Known, Object, Declared, declared_among, Entity, Bound, Tagged, Tag, Frame, innermost, bound_among, tagged_among, or_else, bound_in, tagged_in, is_linked, linked_from, type_of_object, binding, tagging}
use Rattle.lt_tree.specs.Typing.Operations.{member_in}
use Rattle.lt_tree.specs.Typing.Ranges.{Reference, Lists, in_type, in_option, in_member, in_struct, in_object, in_declared, in_entity, in_bound, in_tagged, in_tag, in_frame}
use Rattle.lt_ranges.proofs.References.{Has, none, both, front, back}
use Rattle.lt_ranges.proofs.Steps.{Sound, lists_of}
use Rattle.lt_ranges.proofs.TypesInRange.{T}

-- ---- names and tags

abbrev pub EntityIn : List ℕ → Lists → Option Entity → Type 0
EntityIn name b found = Has b (in_option (in_entity name) found)

abbrev pub TagIn : Lists → Option Tagged → Type 0
TagIn b found = Has b (in_option in_tagged found)

bound_or_later : {b : Lists} (name : List ℕ) (it : Bound) (found : Option Entity) (is_it : Bool) → bytes_eq it.name name ≡ is_it → Has b (in_bound it) → EntityIn name b found
    → EntityIn name b (if is_it then Some it.entity else found)
bound_or_later {b} name it found true is h i = subst (λ n. Has b (in_entity n it.entity)) ((bytes_eq-Decides it.name name).0 is) h
bound_or_later name it found false is h i = i

pub bound_among_in : {b : Lists} (name : List ℕ) (bs : List Bound) → Has b (flat_map in_bound bs) → EntityIn name b (bound_among name bs)
bound_among_in name [] h = none
bound_among_in name (it ∷ bs) h =
    bound_or_later name it (bound_among name bs) (bytes_eq it.name name) refl (front {rs = in_bound it} _ h) (bound_among_in name bs (back (in_bound it) h))

or_else_in : {b : Lists} {A : Type 0} (of : A → List Reference) (first other : Option A) → Has b (in_option of first) → Has b (in_option of other) → Has b (in_option of (or_else first other))
or_else_in of None other h i = i
or_else_in of (Some a) other h i = h

pub bound_in_range : {b : Lists} (name : List ℕ) (frames : List Frame) → Has b (flat_map in_frame frames) → EntityIn name b (bound_in name frames)
bound_in_range name [] h = none
bound_in_range {b} name (frame ∷ frames) h =
    let here : Has b (in_frame frame) = front {rs = in_frame frame} _ h in
    or_else_in (in_entity name) (bound_among name frame.names) (bound_in name frames) (bound_among_in name frame.names (front {rs = flat_map in_bound frame.names} _ here)) (bound_in_range name frames (back (in_frame frame) h))

tag_or_later : {b : Lists} (it : Tag) (found : Option Tagged) (is_it : Bool) → Has b (in_tag it) → TagIn b found → TagIn b (if is_it then Some it.tagged else found)
tag_or_later it found true h i = h
tag_or_later it found false h i = i

pub tagged_among_in : {b : Lists} (name : List ℕ) (tags : List Tag) → Has b (flat_map in_tag tags) → TagIn b (tagged_among name tags)
tagged_among_in name [] h = none
tagged_among_in name (it ∷ tags) h =
    tag_or_later it (tagged_among name tags) (bytes_eq it.name name) (front {rs = in_tag it} _ h) (tagged_among_in name tags (back (in_tag it) h))

pub tagged_in_range : {b : Lists} (name : List ℕ) (frames : List Frame) → Has b (flat_map in_frame frames) → TagIn b (tagged_in name frames)
tagged_in_range name [] h = none
tagged_in_range {b} name (frame ∷ frames) h =
    let here : Has b (in_frame frame) = front {rs = in_frame frame} _ h in
    or_else_in in_tagged (tagged_among name frame.tags) (tagged_in name frames) (tagged_among_in name frame.tags (back (flat_map in_bound frame.names) here)) (tagged_in_range name frames (back (in_frame frame) h))

pub tag_here_in : {b : Lists} (name : List ℕ) (frames : List Frame) → Has b (flat_map in_frame frames) → TagIn b (tagged_among name (innermost frames).tags)
tag_here_in name [] h = none
tag_here_in {b} name (frame ∷ frames) h =
    let here : Has b (in_frame frame) = front {rs = in_frame frame} _ h in tagged_among_in name frame.tags (back (flat_map in_bound frame.names) here)

-- one more name, and one more tag
pub binding_in : {b : Lists} (name : List ℕ) (entity : Entity) (frames : List Frame) → Has b (in_entity name entity) → Has b (flat_map in_frame frames) → Has b (flat_map in_frame (binding name entity frames))
binding_in name entity [] h i = none
binding_in {b} name entity (frame ∷ frames) h i =
    let here : Has b (in_frame frame) = front {rs = in_frame frame} _ i in
    let names : Has b (flat_map in_bound (record { name = name; entity = entity } ∷ frame.names)) = both h (front {rs = flat_map in_bound frame.names} _ here) in
    let again : Has b (in_frame (record frame { names = record { name = name; entity = entity } ∷ frame.names })) = both names (back (flat_map in_bound frame.names) here) in
    both again (back (in_frame frame) i)

pub tagging_in : {b : Lists} (name : List ℕ) (tagged : Tagged) (frames : List Frame) → Has b (in_tagged tagged) → Has b (flat_map in_frame frames) → Has b (flat_map in_frame (tagging name tagged frames))
tagging_in name tagged [] h i = none
tagging_in {b} name tagged (frame ∷ frames) h i =
    let here : Has b (in_frame frame) = front {rs = in_frame frame} _ i in
    let tags : Has b (flat_map in_tag (record { name = name; tagged = tagged } ∷ frame.tags)) = both h (back (flat_map in_bound frame.names) here) in
    let again : Has b (in_frame (record frame { tags = record { name = name; tagged = tagged } ∷ frame.tags })) = both (front {rs = flat_map in_bound frame.names} _ here) tags in
    both again (back (in_frame frame) i)

-- ---- objects and functions

-- what stands in an element of a list
pub found_in : {A : Type 0} (of : A → List Reference) {b : Lists} (list : List A) (n : ℕ) → Has b (flat_map of list) → Has b (in_option of (slice_get list n))
found_in of [] n h = none
found_in of (a ∷ list) zero h = front {rs = of a} _ h
found_in of (a ∷ list) (suc n) h = found_in of list n (back (of a) h)

type_or_void : {b : Lists} (found : Option Object) → Has b (in_option in_object found) → T b (unwrap_or (then_some found (λ object. Some object.type)) Void)
type_or_void None h = none
type_or_void (Some object) h = front {rs = in_type object.type} _ h

pub object_type_in : (known : Known) (n : ℕ) → Sound known → T (lists_of known) (type_of_object known n)
object_type_in known n s = type_or_void (slice_get known.objects n) (found_in in_object known.objects n s.objects)

declared_or_later : {b : Lists} (name : List ℕ) (it : Declared) (found : Option CType) (is_it : Bool) → Has b (in_declared it) → Has b (in_option in_type found)
    → Has b (in_option in_type (if is_it then Some it.type else found))
declared_or_later name it found true h i = h
declared_or_later name it found false h i = i

pub declared_among_in : {b : Lists} (name : List ℕ) (fs : List Declared) → Has b (flat_map in_declared fs) → Has b (in_option in_type (declared_among name fs))
declared_among_in name [] h = none
declared_among_in name (f ∷ fs) h =
    declared_or_later name f (declared_among name fs) (bytes_eq f.name name) (front {rs = in_declared f} _ h) (declared_among_in name fs (back (in_declared f) h))

-- a linked object is one of the list
linked_or_later : (at end : ℕ) (found : Option ℕ) (is_it : Bool) → at < end → ((n : ℕ) → found ≡ Some n → n < end) → (n : ℕ) → (if is_it then Some at else found) ≡ Some n → n < end
linked_or_later at end found true h i n is = let eq : at ≡ n = cc in omega arith
linked_or_later at end found false h i n is = i n is

linked_from_in : (at : ℕ) (name : List ℕ) (objects : List Object) (n : ℕ) → linked_from at name objects ≡ Some n → n < at + length objects
linked_from_in at name [] n is = absurd cc
linked_from_in at name (object ∷ objects) n is =
    linked_or_later at (at + length (object ∷ objects)) (linked_from (at + 1) name objects) (is_linked object.life && bytes_eq object.name name) (omega arith)
    (λ m there. let below : m < at + 1 + length objects = linked_from_in (at + 1) name objects m there in omega arith) n is

pub linked_in : (name : List ℕ) (objects : List Object) (n : ℕ) → linked_from 0 name objects ≡ Some n → n < length objects
linked_in name objects n is = let below : n < 0 + length objects = linked_from_in 0 name objects n is in omega arith

-- ---- members

abbrev pub Ms : Lists → List Member → Type 0
Ms b members = Has b (flat_map in_member members)

-- the types of members with their offsets
abbrev pub Ps : Lists → List Placed → Type 0
Ps b placed = Has b (flat_map (λ it. in_type it.type) placed)

abbrev pub PlacedIn : Lists → Option Placed → Type 0
PlacedIn b found = Has b (in_option (λ it. in_type it.type) found)

members_or_none : {b : Lists} (found : Option StructType) → Has b (in_option in_struct found) → Ms b (unwrap_or (then_some found (λ it. it.members)) [])
members_or_none None h = none
members_or_none (Some it) h = whole it.members h
  where
    whole : {b : Lists} (members : Option (List Member)) → Has b (in_option (flat_map in_member) members) → Ms b (unwrap_or members [])
    whole None h = none
    whole (Some members) h = h

pub members_in_range : {b : Lists} (structs : Structs) (k : ℕ) → Has b (flat_map in_struct structs) → Ms b (members_in structs k)
members_in_range structs k h = members_or_none (slice_get structs k) (found_in in_struct structs k h)

-- a member, where its offset and the end behind it are known
abbrev placed_next : Member → (Extent → List Placed) → Option ℕ → Option Extent → Option (List Placed)
placed_next member rest offset after = then_some offset (λ offset. then_some after (λ after. Some (placed_at member offset ∷ rest after)))

placed_next_in : {b : Lists} (member : Member) (rest : Extent → List Placed) (offset : Option ℕ) (after : Option Extent) → T b member.type → ((after : Extent) → Ps b (rest after))
    → Ps b (unwrap_or (placed_next member rest offset after) [])
placed_next_in member rest None after h f = none
placed_next_in member rest (Some offset) None h f = none
placed_next_in member rest (Some offset) (Some after) h f = both h (f after)

placed_member_in : {b : Lists} (member : Member) (before : Extent) (rest : Extent → List Placed) (extent : Option Extent) → T b member.type → ((after : Extent) → Ps b (rest after))
    → Ps b (unwrap_or (then_some extent (λ e. placed_next member rest (member_offset before e) (with_member before e))) [])
placed_member_in member before rest None h f = none
placed_member_in member before rest (Some e) h f = placed_next_in member rest (member_offset before e) (with_member before e) h f

pub placed_behind_in : {b : Lists} (of : CType → Option Extent) (before : Extent) (members : List Member) → Ms b members → Ps b (placed_behind of before members)
placed_behind_in of before [] h = none
placed_behind_in of before (member ∷ members) h =
    placed_member_in member before (λ after. placed_behind of after members) (of member.type) (front {rs = in_member member} _ h)
    (λ after. placed_behind_in of after members (back (in_member member) h))

pub placed_members_in : {b : Lists} (m : DataModel) (structs : Structs) (k : ℕ) → Has b (flat_map in_struct structs) → Ps b (placed_members m structs k)
placed_members_in m structs k h = placed_behind_in (extent_of m structs) no_members (members_in structs k) (members_in_range structs k h)

named_or_later : {b : Lists} (it : Placed) (found : Option Placed) (is_it : Bool) → T b it.type → PlacedIn b found → PlacedIn b (if is_it then Some it else found)
named_or_later it found true h i = h
named_or_later it found false h i = i

named_among_in : {b : Lists} (name : List ℕ) (placed : List Placed) → Ps b placed → PlacedIn b (named_among name placed)
named_among_in name [] h = none
named_among_in name (it ∷ rest) h =
    named_or_later it (named_among name rest) (bytes_eq it.name name) (front {rs = in_type it.type} _ h) (named_among_in name rest (back (in_type it.type) h))

member_of_struct : {b : Lists} (m : DataModel) (structs : Structs) (name : List ℕ) (k : Option ℕ) → Has b (flat_map in_struct structs) → PlacedIn b (option_and_then (λ k. member_of m structs k name) k)
member_of_struct m structs name None h = none
member_of_struct m structs name (Some k) h = named_among_in name (placed_members m structs k) (placed_members_in m structs k h)

pub member_in_range : (known : Known) (t : CType) (name : List ℕ) → Sound known → PlacedIn (lists_of known) (member_in known t name)
member_in_range known t name s = member_of_struct known.model known.structs name (struct_of t) s.structs
