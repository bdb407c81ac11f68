-- Specifiers, declarators and members in range.
use Rattle.std.proofs.Common.{refl, ℕ, List, [], ◌∷◌, ◌++◌, length, map, Bool, true, false, Option, Some, None}
use Rattle.std.specs.Prelude.{if◌then◌else◌, unwrap_or}
use Rattle.std.specs.List.{flat_map}
use Rattle.lt_model.specs.declared.scalar.Scalar.TheVariants as S
use Rattle.lt_tree.specs.declared.specifier.BasicType.{BasicType}
use Rattle.lt_tree.specs.declared.specifier.BasicType.TheVariants as basic
use Rattle.lt_tree.specs.Tree as c
use Rattle.lt_tree.specs.Typing.Types.{CType, a_type, Num, Pointer, unqualified, adjusted}
use Rattle.lt_tree.specs.Typing.Extents.{Member, StructType}
use Rattle.lt_tree.specs.Typing.Rules.{Rule, declared_twice}
use Rattle.lt_tree.specs.Typing.Entities.{Known, Entity, an_object, a_function, a_typedef, an_enumerator, Tagged, a_struct, an_enum, tagged_in, tag_here, Object, parameter, unmade, bind_tag, Frame, innermost}
use Rattle.lt_tree.specs.Typing.Specifying.{Naming, basic_type, typedef_named, Specified, only_type, specified, Setting, is_alone, struct_by_tag, struct_tagged, enum_tagged, OpenStruct, open_new, open_tagged, open_struct, is_complete_struct, with_members, close_struct, open_enum, close_enum}
use Rattle.lt_tree.specs.Typing.Declarators.{Parameters, Built, array_of, function_of, pointer_to, Declares, binds_parameter, parameter_before, with_member, Membered}
use Rattle.lt_tree.specs.Typing.NodeEnds.{with_dots}
use Rattle.lt_tree.specs.Typing.Ranges.{Reference, to_object, to_parameter, to_struct, Lists, is_parameter, IsThere, in_type, in_types, in_option, in_member, in_frame}
use Rattle.lt_ranges.proofs.References.{Has, none, one, cons, head, tail, both, front, back, Kept, same, later, pushed}
use Rattle.lt_ranges.proofs.Steps.{Sound, lists_of, Good, went, done, Any, in_innermost}
use Rattle.lt_ranges.proofs.TypesInRange.{T, unqualified_in, qualified_in, adjusted_in}
use Rattle.lt_ranges.proofs.Lookups.{EntityIn, TagIn, tagged_in_range, tag_here_in, Ms}
use Rattle.lt_ranges.proofs.Growth.{bound, tagged, with_object, object_kept, object_lives, object_there, object_added, with_struct, struct_kept, struct_there, struct_added, IsStarted, struct_changed}

-- ---- what specifiers name

abbrev pub NamingIn : Lists → Naming → Type 0
NamingIn b naming = Has b (in_option in_type naming.type)

abbrev pub NamingsIn : Lists → List Naming → Type 0
NamingsIn b namings = Has b (flat_map (λ naming. in_option in_type naming.type) namings)

abbrev pub SpecifiedIn : Lists → Specified → Type 0
SpecifiedIn b it = T b it.type

pub basic_in : {b : Lists} (type : BasicType) → T b (basic_type type)
basic_in basic.Void = none
basic_in _ = none

pub typedef_in : {b : Lists} (name : List ℕ) (found : Option Entity) → EntityIn name b found → NamingIn b (typedef_named found)
typedef_in name (Some (a_typedef t)) h = h
typedef_in name None h = none
typedef_in name (Some (an_object n is_register)) h = none
typedef_in name (Some a_function) h = none
typedef_in name (Some (an_enumerator z)) h = none

only_in : {b : Lists} (namings : List Naming) → NamingsIn b namings → Has b (in_option in_type (only_type namings))
only_in [] h = none
only_in (naming ∷ []) h = front {rs = in_option in_type naming.type} _ h
only_in (naming ∷ other ∷ namings) h = none

type_or_int : {b : Lists} (found : Option CType) → Has b (in_option in_type found) → T b (unwrap_or found (Num S.Int))
type_or_int None h = none
type_or_int (Some t) h = h

pub specified_in : {b : Lists} (words : c.Words) (namings : List Naming) → NamingsIn b namings → SpecifiedIn b (specified words namings)
specified_in words namings h = qualified_in words.qualifiers (unwrap_or (only_type namings) (Num S.Int)) (type_or_int (only_type namings) (only_in namings h))

-- ---- structs and enums by their tags

new_struct_in : (tag : List ℕ) (known : Known) → Sound known → Sound (bind_tag tag (a_struct (length known.structs)) (with_struct (record { members = None }) known))
new_struct_in tag known s =
    let it : StructType = record { members = None } in tagged tag (a_struct (length known.structs)) (with_struct it known) (one (struct_there it known)) (struct_added it known none s)

pub tagged_struct_in : (tag : List ℕ) (found : Option Tagged) (known : Known) → TagIn (lists_of known) found → Sound known → Good NamingIn (lists_of known) (struct_tagged tag found known)
tagged_struct_in tag None known h s =
    let it : StructType = record { members = None } in went (struct_kept it known) (new_struct_in tag known s) (one (struct_there it known))
tagged_struct_in tag (Some (a_struct k)) known h s = done known s h
tagged_struct_in tag (Some (an_enum is_complete)) known h s = done known s none

here_or_around : (alone : Bool) (tag : List ℕ) (known : Known) → Sound known → TagIn (lists_of known) (if alone then tag_here tag known else tagged_in tag known.frames)
here_or_around true tag known s = tag_here_in tag known.frames s.frames
here_or_around false tag known s = tagged_in_range tag known.frames s.frames

pub struct_tag_in : (setting : Setting) (tag : List ℕ) (known : Known) → Sound known → Good NamingIn (lists_of known) (struct_by_tag setting tag known)
struct_tag_in setting tag known s =
    tagged_struct_in tag (if is_alone setting then tag_here tag known else tagged_in tag known.frames) known (here_or_around (is_alone setting) tag known s) s

pub enum_tag_in : {b : Lists} (setting : Setting) (found : Option Tagged) → NamingIn b (enum_tagged setting found)
enum_tag_in setting (Some (an_enum true)) = none
enum_tag_in setting (Some (an_enum false)) = none
enum_tag_in setting (Some (a_struct k)) = none
enum_tag_in setting None = none

abbrev pub OpenIn : Lists → OpenStruct → Type 0
OpenIn b opened = Has b (to_struct opened.number ∷ [])

opened_new_in : (tag : Option (List ℕ)) (faults : List Rule) (known : Known) → Sound known → Good OpenIn (lists_of known) (open_new tag faults known)
opened_new_in None faults known s = let it : StructType = record { members = None } in went (struct_kept it known) (struct_added it known none s) (one (struct_there it known))
opened_new_in (Some tag) faults known s = let it : StructType = record { members = None } in went (struct_kept it known) (new_struct_in tag known s) (one (struct_there it known))

opened_tagged_in : (tag : List ℕ) (found : Option Tagged) (known : Known) → TagIn (lists_of known) found → Sound known → Good OpenIn (lists_of known) (open_tagged tag found known)
opened_tagged_in tag None known h s = opened_new_in (Some tag) [] known s
opened_tagged_in tag (Some (a_struct k)) known h s = done known s h
opened_tagged_in tag (Some (an_enum is_complete)) known h s = opened_new_in None (declared_twice ∷ []) known s

pub open_struct_in : (tag : Option (List ℕ)) (known : Known) → Sound known → Good OpenIn (lists_of known) (open_struct tag known)
open_struct_in None known s = opened_new_in None [] known s
open_struct_in (Some tag) known s = opened_tagged_in tag (tag_here tag known) known (tag_here_in tag known.frames s.frames) s

closed_in : (is_complete : Bool) (k : ℕ) (members : List Member) (known : Known) → Ms (lists_of known) members → Sound known
    → IsStarted known ((if is_complete then (λ it. it) else with_members k members) known)
closed_in true k members known h s = (same, s)
closed_in false k members known h s = struct_changed k (record { members = Some members }) known h s

pub close_struct_in : (opened : OpenStruct) (members : List Member) (known : Known) → OpenIn (lists_of known) opened → Ms (lists_of known) members → Sound known
    → Good NamingIn (lists_of known) (close_struct opened members known)
close_struct_in opened members known h i s =
    let closed = closed_in (is_complete_struct known.structs opened.number) opened.number members known i s in went closed.0 closed.1 (later closed.0 h)

pub open_enum_in : (tag : Option (List ℕ)) (known : Known) → Sound known → Good Any (lists_of known) (open_enum tag known)
open_enum_in None known s = done known s tt
open_enum_in (Some tag) known s = went same (tagged tag (an_enum false) known none s) tt

pub close_enum_in : (tag : Option (List ℕ)) (faults : List Rule) (known : Known) → Sound known → Good NamingIn (lists_of known) (close_enum tag faults known)
close_enum_in None faults known s = done known s none
close_enum_in (Some tag) faults known s = went same (tagged tag (an_enum true) known none s) none

-- ---- declarators

-- a parameter's object: one that is made, where the function has a body
abbrev pub to_declared : (is_definition : Bool) → ℕ → Reference
to_declared true n = to_parameter n
to_declared false n = to_object n

-- what stands in parameters
abbrev pub in_parameters : Bool → Parameters → List Reference
in_parameters is_definition them = in_types them.types ++ (map (to_declared is_definition) them.objects ++ in_frame them.frame)

abbrev pub ParametersIn : Bool → Lists → Parameters → Type 0
ParametersIn is_definition b them = Has b (in_parameters is_definition them)

pub record BuiltIn (is_definition : Bool) (b : Lists) (it : Built) : Type 0 where
  pub type : T b it.type
  pub parameters : Has b (in_option (in_parameters is_definition) it.parameters)

pub record DeclaresIn (is_definition : Bool) (b : Lists) (it : Declares) : Type 0 where
  pub type : T b it.type
  pub parameters : Has b (in_option (in_parameters is_definition) it.parameters)

pub later_declares : {is_definition : Bool} {b b' : Lists} {it : Declares} → Kept b b' → DeclaresIn is_definition b it → DeclaresIn is_definition b' it
later_declares kept h = record { type = later kept h.type; parameters = later kept h.parameters }

pub array_in : {is_definition inside : Bool} {b : Lists} {inner : Built} (known : Known) (n : Option ℕ) → BuiltIn inside b inner → BuiltIn is_definition b (array_of known n inner)
array_in known n h = record { type = h.type; parameters = none }

pub function_built_in : {is_definition inside : Bool} {b : Lists} {inner : Built} (them : Parameters) → ParametersIn is_definition b them → BuiltIn inside b inner
    → BuiltIn is_definition b (function_of them inner)
function_built_in them h i = record { type = both i.type (front {rs = in_types them.types} _ h); parameters = h }

pub pointer_in : {is_definition inside : Bool} {b : Lists} {inner : Built} (qualifiers : c.Qualifiers) → BuiltIn inside b inner → BuiltIn is_definition b (pointer_to qualifiers inner)
pointer_in {b = b} {inner = inner} qualifiers h = record { type = qualified_in qualifiers (Pointer inner.type) h.type; parameters = none }

pub dots_in : (is_definition : Bool) {b : Lists} (them : Parameters) → ParametersIn is_definition b them → ParametersIn is_definition b (with_dots them)
dots_in is_definition them h = h

pub no_parameters_in : {b : Lists} (frames : List Frame) → Has b (flat_map in_frame frames) → Has b (in_frame (innermost frames))
no_parameters_in frames h = in_innermost frames h

-- a parameter's object, if it has a name
abbrev pub ObjectsIn : Bool → Lists → List ℕ → Type 0
ObjectsIn is_definition b ns = Has b (map (to_declared is_definition) ns)

abbrev parameter_object : Bool → ℕ → List ℕ → CType → Object
parameter_object is_definition node name t = record { node = node; name = name; type = t; life = if is_definition then parameter else unmade; start = None }

parameter_there : (is_definition : Bool) (node : ℕ) (name : List ℕ) (t : CType) (known : Known)
    → IsThere (lists_of (with_object (parameter_object is_definition node name t) known)) (to_declared is_definition (length known.objects))
parameter_there true node name t known = object_lives is_parameter (parameter_object true node name t) known refl
parameter_there false node name t known = object_there (parameter_object false node name t) known

pub binds_in : (is_definition is_register : Bool) (node : ℕ) (name : Option (List ℕ)) (t : CType) (known : Known) → T (lists_of known) t → Sound known
    → Good (ObjectsIn is_definition) (lists_of known) (binds_parameter is_definition is_register node name t known)
binds_in is_definition is_register node None t known h s = done known s none
binds_in is_definition is_register node (Some name) t known h s =
    let object : Object = parameter_object is_definition node name t in
    went (object_kept object known) (bound name (an_object (length known.objects) is_register) (with_object object known) (one {r = to_object (length known.objects)} (object_there object known)) (object_added object known (both h none) s))
    (one {r = to_declared is_definition (length known.objects)} (parameter_there is_definition node name t known))

objects_appended : (is_definition : Bool) {b : Lists} (xs ys : List ℕ) → ObjectsIn is_definition b xs → ObjectsIn is_definition b ys → ObjectsIn is_definition b (xs ++ ys)
objects_appended is_definition [] ys h i = i
objects_appended is_definition (x ∷ xs) ys h i = cons {r = to_declared is_definition x} (head h) (objects_appended is_definition xs ys (tail h) i)

pub parameter_in : (is_definition : Bool) {inside : Bool} {b : Lists} {it : Declares} (objects : List ℕ) (others : Parameters) → DeclaresIn inside b it → ObjectsIn is_definition b objects
    → ParametersIn is_definition b others → ParametersIn is_definition b (parameter_before it objects others)
parameter_in is_definition {b = b} {it = it} objects others h i j =
    let behind : Has b (map (to_declared is_definition) others.objects ++ in_frame others.frame) = back (in_types others.types) j in
    let list : Has b (in_types (a_type (unqualified (adjusted it.type)) others.types)) =
    both (unqualified_in (adjusted it.type) (adjusted_in it.type h.type)) (front {rs = in_types others.types} _ j) in
    both list (both (objects_appended is_definition objects others.objects i (front {rs = map (to_declared is_definition) others.objects} _ behind))
    (back (map (to_declared is_definition) others.objects) behind))

-- ---- members

abbrev pub MemberedIn : Lists → Membered → Type 0
MemberedIn b it = Ms b it.members

abbrev with_member_of : List Member → CType → Option (List ℕ) → List Member
with_member_of members t None = members
with_member_of members t (Some name) = members ++ record { name = name; type = t } ∷ []

member_of_in : {b : Lists} (members : List Member) (t : CType) (name : Option (List ℕ)) → Ms b members → T b t → Ms b (with_member_of members t name)
member_of_in members t None h i = h
member_of_in members t (Some name) h i = pushed in_member members (record { name = name; type = t }) h i

pub member_added : {b : Lists} {it : Declares} (members : List Member) → Ms b members → DeclaresIn false b it → Ms b (with_member members it)
member_added {b} {it} members h i = member_of_in members it.type it.name h i.type
