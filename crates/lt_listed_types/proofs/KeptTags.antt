-- Structs and enums by their tags, and the ends of nodes that are no expressions, keep the types of what is known.
use Rattle.std.proofs.Common.{◌≡◌, refl, ℕ, ℤ, Bool, true, false, List, [], ◌∷◌, Option, Some, None}
use Rattle.std.specs.Prelude.{if◌then◌else◌}
use Rattle.std.specs.List.{AllByRecursion}
use Rattle.lt_tree.specs.Tree as c
use Rattle.lt_tree.specs.Typing.Types.{CType}
use Rattle.lt_tree.specs.Typing.Extents.{Member}
use Rattle.lt_tree.specs.Typing.Rules.{Rule, unless, bad_mark, declared_twice}
use Rattle.lt_tree.specs.Typing.Entities.{Known, Tagged, a_struct, an_enum, parameter, unmade, tagged_in, tag_here}
use Rattle.lt_tree.specs.Typing.Expressions.{Typed, as_value}
use Rattle.lt_tree.specs.Typing.MarkRules.{TypedBinding, is_good_mark}
use Rattle.lt_tree.specs.Typing.Specifying.{Setting, is_alone, struct_by_tag, struct_tagged, OpenStruct, open_new, open_tagged, open_struct, is_complete_struct, with_members, close_struct, open_enum, close_enum, enumerator_faults}
use Rattle.lt_tree.specs.Typing.Declarators.{Built, binds_parameter}
use Rattle.lt_tree.specs.Typing.NodeEnds.{end_of_mark, end_of_enumerator, end_of_declarator}
use Rattle.lt_type_laws.specs.Accesses.{is_named_in, AccessesMark}
use Rattle.lt_listed_types.proofs.Keeping.{lists_of, Names, Keeps, Once, Good, Kept, went, same, judges}
use Rattle.lt_listed_types.proofs.Growth.{object_added, struct_added, struct_closed}
use Rattle.lt_listed_types.proofs.Reaching.{Reaches}
use Rattle.lt_listed_types.proofs.ReachingBinary.{BindingReaches, bindings_access}

module _ {types : List CType} where
  -- ---- structs and enums by their tags

  tagged_struct : (tag : List ℕ) (found : Option Tagged) (known : Known) → Kept types known (struct_tagged tag found known)
  tagged_struct tag None known = went (struct_added (record { members = None }) known) tt
  tagged_struct tag (Some (a_struct k)) known = went same tt
  tagged_struct tag (Some (an_enum is_complete)) known = went same tt

  pub struct_tag : (setting : Setting) (tag : List ℕ) (known : Known) → Kept types known (struct_by_tag setting tag known)
  struct_tag setting tag known = tagged_struct tag (if is_alone setting then tag_here tag known else tagged_in tag known.frames) known

  opened_new : (tag : Option (List ℕ)) (faults : List Rule) (known : Known) → Kept types known (open_new tag faults known)
  opened_new None faults known = went (struct_added (record { members = None }) known) tt
  opened_new (Some tag) faults known = went (struct_added (record { members = None }) known) tt

  opened_tagged : (tag : List ℕ) (found : Option Tagged) (known : Known) → Kept types known (open_tagged tag found known)
  opened_tagged tag None known = opened_new (Some tag) [] known
  opened_tagged tag (Some (a_struct k)) known = went same tt
  opened_tagged tag (Some (an_enum is_complete)) known = opened_new None (declared_twice ∷ []) known

  pub opened_struct : (tag : Option (List ℕ)) (known : Known) → Kept types known (open_struct tag known)
  opened_struct None known = opened_new None [] known
  opened_struct (Some tag) known = opened_tagged tag (tag_here tag known) known

  closed_known : (is_complete : Bool) (k : ℕ) (members : List Member) (known : Known) → is_complete_struct known.structs k ≡ is_complete
      → Keeps types (lists_of known) (lists_of ((if is_complete then (λ it. it) else with_members k members) known))
  closed_known true k members known e = same
  closed_known false k members known e = struct_closed k members known e

  pub closed_struct : (opened : OpenStruct) (members : List Member) (known : Known) → Kept types known (close_struct opened members known)
  closed_struct opened members known = went (closed_known (is_complete_struct known.structs opened.number) opened.number members known refl) tt

  pub opened_enum : (tag : Option (List ℕ)) (known : Known) → Kept types known (open_enum tag known)
  opened_enum None known = went same tt
  opened_enum (Some tag) known = went same tt

  pub closed_enum : (tag : Option (List ℕ)) (faults : List Rule) (known : Known) → Kept types known (close_enum tag faults known)
  closed_enum None faults known = went same tt
  closed_enum (Some tag) faults known = went same tt

  -- ---- ends of nodes

  pub ended_mark : (node : ℕ) (written : c.Expression) (x : Typed) (id tag : List ℕ) (bs : List TypedBinding) (known : Known)
      → (Names types (lists_of known) → Reaches types as_value x) → (Names types (lists_of known) → AllByRecursion (BindingReaches types) bs)
      → Good types (Once types (AccessesMark (is_named_in types))) (lists_of known) (end_of_mark node written x id tag bs known)
  ended_mark node written x id tag bs known h i = judges node (unless (is_good_mark known written x id tag bs) bad_mark) known _ (went same (λ named. ((h named).value, bindings_access types bs (i named))))

  pub ended_enumerator : (node : ℕ) (name : List ℕ) (z : Option ℤ) (known : Known) → Kept types known (end_of_enumerator node name z known)
  ended_enumerator node name z known = judges node (enumerator_faults known name z) known _ (went same tt)

  pub ended_declarator : (node : Option ℕ) (name : Option (List ℕ)) (it : Built) (faults : List Rule) (known : Known) → Kept types known (end_of_declarator node name it faults known)
  ended_declarator None name it faults known = went same tt
  ended_declarator (Some node) name it faults known = judges node faults known _ (went same tt)

  pub bound_parameter : (is_definition is_register : Bool) (node : ℕ) (name : Option (List ℕ)) (t : CType) (known : Known) → Kept types known (binds_parameter is_definition is_register node name t known)
  bound_parameter is_definition is_register node None t known = went same tt
  bound_parameter is_definition is_register node (Some name) t known =
      went (object_added (record { node = node; name = name; type = t; life = if is_definition then parameter else unmade; start = None }) known) tt
