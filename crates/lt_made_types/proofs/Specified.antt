-- The types that specifiers, declarators and members make.
use Rattle.std.proofs.Common.{◌≡◌, ℕ, List, [], ◌∷◌, ◌++◌, length, Bool, true, false, Option, Some, None}
use Rattle.std.specs.Prelude.{if◌then◌else◌, unwrap_or, ◌||◌}
use Rattle.std.specs.List.{AllByRecursion}
use Rattle.lt_model.specs.declared.scalar.Scalar.TheVariants as S
use Rattle.lt_tree.specs.declared.specifier.BasicType.{BasicType}
use Rattle.lt_tree.specs.declared.specifier.BasicType.TheVariants as basic
use Rattle.lt_tree.specs.Tree as c
use Rattle.lt_tree.specs.Typing.Types.{CType, Num, Pointer, Array, Struct, is_function, is_array}
use Rattle.lt_tree.specs.Typing.Extents.{Structs, Member, StructType, has_too_many_cells}
use Rattle.lt_tree.specs.Typing.Rules.{Rule, broken_if, unless, declared_twice, incomplete_type, bad_length, function_as_value}
use Rattle.lt_tree.specs.Typing.Entities.{Known, Entity, an_object, a_function, a_typedef, an_enumerator, Tagged, a_struct, an_enum, tagged_in, tag_here, Object, parameter, unmade, bind_tag}
use Rattle.lt_tree.specs.Typing.Specifying.{Naming, basic_type, typedef_named, Specified, only_type, specified, Setting, is_alone, struct_by_tag, struct_tagged, enum_tagged, OpenStruct, open_new, open_tagged, open_struct, is_complete_struct, with_members, close_struct, open_enum, close_enum}
use Rattle.lt_tree.specs.Typing.Declarators.{Parameters, is_incomplete, is_length, array_faults, Built, array_of, function_of, pointer_to, Declares, binds_parameter, with_member, Membered}
use Rattle.lt_made_types.proofs.MadeTypes.{Made, of_none, qualified_made, pointer_made}
use Rattle.lt_made_types.proofs.Keeping.{WhenThere, EntityMade, FrameMade, MemberMade, MembersMade, Sound, Good, went, Any, front_empty, back_empty}
use Rattle.lt_made_types.proofs.Growth.{pushed, bound, tagged, with_object, object_added, with_struct, struct_added, struct_changed}
use Rattle.lt_made_types.proofs.MadeOperations.{number_made, none_broken}

-- ---- what specifiers name

abbrev pub NamingMade : Naming → Type 0
NamingMade naming = WhenThere Made naming.type

abbrev pub SpecifiedMade : Specified → Type 0
SpecifiedMade it = Made it.type

pub basic_made : (type : BasicType) → Made (basic_type type)
basic_made basic.Void = record { so = tt }
basic_made _ = record { so = tt }

pub typedef_made : (found : Option Entity) → WhenThere EntityMade found → NamingMade (typedef_named found)
typedef_made (Some (a_typedef t)) h = h
typedef_made None h = tt
typedef_made (Some (an_object n is_register)) h = tt
typedef_made (Some a_function) h = tt
typedef_made (Some (an_enumerator z)) h = tt

only_made : (namings : List Naming) → AllByRecursion NamingMade namings → WhenThere Made (only_type namings)
only_made [] h = tt
only_made (naming ∷ []) h = h.0
only_made (naming ∷ other ∷ namings) h = tt

type_or_int : (found : Option CType) → WhenThere Made found → Made (unwrap_or found (Num S.Int))
type_or_int None h = number_made
type_or_int (Some t) h = h

pub specified_made : (words : c.Words) (namings : List Naming) → AllByRecursion NamingMade namings → SpecifiedMade (specified words namings)
specified_made words namings h = qualified_made words.qualifiers (unwrap_or (only_type namings) (Num S.Int)) (type_or_int (only_type namings) (only_made namings h))

-- ---- structs and enums by their tags

struct_type_made : {k : ℕ} → Made (Struct k)
struct_type_made = record { so = tt }

new_struct_made : (tag : List ℕ) (known : Known) → Sound known → Sound (bind_tag tag (a_struct (length known.structs)) (with_struct (record { members = None }) known))
new_struct_made tag known s =
    let it : StructType = record { members = None } in tagged tag (a_struct (length known.structs)) (with_struct it known) (struct_added it known tt s)

tagged_struct_made : (tag : List ℕ) (found : Option Tagged) (known : Known) → Sound known → Good NamingMade (struct_tagged tag found known)
tagged_struct_made tag None known s = went (new_struct_made tag known s) struct_type_made
tagged_struct_made tag (Some (a_struct k)) known s = went s struct_type_made
tagged_struct_made tag (Some (an_enum is_complete)) known s = went s number_made

pub struct_tag_made : (setting : Setting) (tag : List ℕ) (known : Known) → Sound known → Good NamingMade (struct_by_tag setting tag known)
struct_tag_made setting tag known s = tagged_struct_made tag (if is_alone setting then tag_here tag known else tagged_in tag known.frames) known s

pub enum_tag_made : (setting : Setting) (found : Option Tagged) → NamingMade (enum_tagged setting found)
enum_tag_made setting (Some (an_enum true)) = number_made
enum_tag_made setting (Some (an_enum false)) = number_made
enum_tag_made setting (Some (a_struct k)) = tt
enum_tag_made setting None = tt

opened_new : (tag : Option (List ℕ)) (faults : List Rule) (known : Known) → Sound known → Good Any (open_new tag faults known)
opened_new None faults known s = let it : StructType = record { members = None } in went (struct_added it known tt s) tt
opened_new (Some tag) faults known s = went (new_struct_made tag known s) tt

opened_tagged : (tag : List ℕ) (found : Option Tagged) (known : Known) → Sound known → Good Any (open_tagged tag found known)
opened_tagged tag None known s = opened_new (Some tag) [] known s
opened_tagged tag (Some (a_struct k)) known s = went s tt
opened_tagged tag (Some (an_enum is_complete)) known s = opened_new None (declared_twice ∷ []) known s

pub opened_struct : (tag : Option (List ℕ)) (known : Known) → Sound known → Good Any (open_struct tag known)
opened_struct None known s = opened_new None [] known s
opened_struct (Some tag) known s = opened_tagged tag (tag_here tag known) known s

closed_made : (is_complete : Bool) (k : ℕ) (members : List Member) (known : Known) → MembersMade members → Sound known
    → Sound ((if is_complete then (λ it. it) else with_members k members) known)
closed_made true k members known h s = s
closed_made false k members known h s = struct_changed k (record { members = Some members }) known h s

pub closed_struct : (opened : OpenStruct) (members : List Member) (known : Known) → MembersMade members → Sound known → Good NamingMade (close_struct opened members known)
closed_struct opened members known h s = went (closed_made (is_complete_struct known.structs opened.number) opened.number members known h s) struct_type_made

pub opened_enum : (tag : Option (List ℕ)) (known : Known) → Sound known → Good Any (open_enum tag known)
opened_enum None known s = went s tt
opened_enum (Some tag) known s = went (tagged tag (an_enum false) known s) tt

pub closed_enum : (tag : Option (List ℕ)) (faults : List Rule) (known : Known) → Sound known → Good NamingMade (close_enum tag faults known)
closed_enum None faults known s = went s number_made
closed_enum (Some tag) faults known s = went (tagged tag (an_enum true) known s) number_made

-- ---- declarators

abbrev pub ParametersMade : Parameters → Type 0
ParametersMade them = FrameMade them.frame

-- The type that parts make is made if they break no rule.
pub record BuiltMade (it : Built) : Type 0 where
  pub type : it.faults ≡ [] → Made it.type
  pub parameters : WhenThere ParametersMade it.parameters

pub record DeclaresMade (it : Declares) : Type 0 where
  pub type : Made it.type
  pub parameters : WhenThere ParametersMade it.parameters

no_function_elements : (structs : Structs) (n : Option ℕ) (t : CType) → array_faults structs n t ≡ [] → is_function t ≡ false
no_function_elements structs n t clean =
    let before = unless (is_length n) bad_length ++ broken_if incomplete_type (is_incomplete structs t) in
    let it = broken_if function_as_value (is_function t) in
    none_broken function_as_value (is_function t) (back_empty before it (front_empty (before ++ it) (broken_if bad_length (has_too_many_cells structs (Array t (unwrap_or n 0)))) clean))

pub array_made : {inner : Built} (known : Known) (n : Option ℕ) → BuiltMade inner → BuiltMade (array_of known n inner)
array_made {inner} known n h = record {
  type = λ clean.
      let t : Made inner.type = h.type (back_empty (array_faults known.structs n inner.type) inner.faults clean) in
      record { so = (of_none inner.type t (no_function_elements known.structs n inner.type (front_empty (array_faults known.structs n inner.type) inner.faults clean)), t.so) };
  parameters = tt;
}

pub function_made : {inner : Built} (them : Parameters) → ParametersMade them → BuiltMade inner → BuiltMade (function_of them inner)
function_made {inner} them h i = record {
  type = λ clean.
      let t : Made inner.type = i.type (back_empty (broken_if function_as_value (is_function inner.type || is_array inner.type) ++ them.faults) inner.faults clean) in
      record { so = t.so };
  parameters = h;
}

pub pointer_built : {inner : Built} (qualifiers : c.Qualifiers) → BuiltMade inner → BuiltMade (pointer_to qualifiers inner)
pointer_built {inner} qualifiers h = record { type = λ clean. qualified_made qualifiers (Pointer inner.type) (pointer_made (h.type clean)); parameters = tt }

pub binds_made : (is_definition is_register : Bool) (node : ℕ) (name : Option (List ℕ)) (t : CType) (known : Known) → Made t → Sound known
    → Good Any (binds_parameter is_definition is_register node name t known)
binds_made is_definition is_register node None t known h s = went s tt
binds_made is_definition is_register node (Some name) t known h s =
    let object : Object = record { node = node; name = name; type = t; life = if is_definition then parameter else unmade; start = None } in
    went (bound name (an_object (length known.objects) is_register) (with_object object known) tt (object_added object known h s)) tt

-- ---- members

abbrev pub MemberedMade : Membered → Type 0
MemberedMade it = MembersMade it.members

abbrev with_member_of : List Member → CType → Option (List ℕ) → List Member
with_member_of members t None = members
with_member_of members t (Some name) = members ++ record { name = name; type = t } ∷ []

member_of_made : (members : List Member) (t : CType) (name : Option (List ℕ)) → MembersMade members → Made t → MembersMade (with_member_of members t name)
member_of_made members t None h i = h
member_of_made members t (Some name) h i = pushed MemberMade members (record { name = name; type = t }) h i

pub member_added : {it : Declares} (members : List Member) → MembersMade members → DeclaresMade it → MembersMade (with_member members it)
member_added {it} members h i = member_of_made members it.type it.name h i.type
