-- Structs and enums by their tags, and the ends of nodes that are no expressions, keep the scopes that are open.
use Rattle.std.proofs.Common.{◌≡◌, refl, ℕ, ℤ, Bool, true, false, List, [], ◌∷◌, Option, Some, None}
use Rattle.std.specs.Prelude.{if◌then◌else◌, is_some, option_to_list}
use Rattle.lt_tree.specs.Tree as c
use Rattle.lt_tree.specs.Typing.Types.{CType}
use Rattle.lt_tree.specs.Typing.Extents.{Member}
use Rattle.lt_tree.specs.Typing.Rules.{Rule, unless, bad_mark}
use Rattle.lt_tree.specs.Typing.Entities.{Known, Frame, Tagged, a_struct, an_enum, an_object, an_enumerator, tagged_in, tag_here}
use Rattle.lt_tree.specs.Typing.Expressions.{Typed}
use Rattle.lt_tree.specs.Typing.MarkRules.{TypedBinding, is_good_mark}
use Rattle.lt_tree.specs.Typing.Specifying.{Setting, is_alone, struct_by_tag, struct_tagged, OpenStruct, open_tagged, open_struct, is_complete_struct, with_members, close_struct, open_enum, close_enum, enumerator_faults}
use Rattle.lt_tree.specs.Typing.Declarators.{Built, Declares, binds_parameter}
use Rattle.lt_tree.specs.Typing.NodeEnds.{end_of_mark, end_of_enumerator, end_of_declarator}
use Rattle.lt_tree.specs.Typing.UnitTyping.{frame_of}
use Rattle.lt_objectives.specs.Tags.{Tags}
use Rattle.lt_simple_copies.specs.Scopes.{IsInScope, AreInScope}
use Rattle.lt_simple_copies.proofs.KeptScopes.{Leads, in_scope_here, same, there, then_last, bound, tagged, Good, Kept, Brings, went, judges}

-- ---- structs and enums by their tags

tagged_struct : (tag : List ℕ) (found : Option Tagged) (known : Known) → (is_some found ≡ true → IsInScope known.frames tag) → Brings (tag ∷ []) known (struct_tagged tag found known)
tagged_struct tag None known f = went (tagged tag (a_struct _) known.frames) tt
tagged_struct tag (Some (a_struct k)) known f = went (there tag (f refl)) tt
tagged_struct tag (Some (an_enum is_complete)) known f = went (there tag (f refl)) tt

pub struct_tag : (setting : Setting) (tag : List ℕ) (known : Known) → Brings (tag ∷ []) known (struct_by_tag setting tag known)
struct_tag setting tag known = tagged_struct tag (if is_alone setting then tag_here tag known else tagged_in tag known.frames) known (by (is_alone setting))
  where
    by : (b : Bool) → is_some (if b then tag_here tag known else tagged_in tag known.frames) ≡ true → IsInScope known.frames tag
    by true h = in_scope_here tag known h
    by false h = h

opened_tagged : (tag : List ℕ) (found : Option Tagged) (known : Known) → (is_some found ≡ true → IsInScope known.frames tag) → Brings (tag ∷ []) known (open_tagged tag found known)
opened_tagged tag None known f = went (tagged tag (a_struct _) known.frames) tt
opened_tagged tag (Some (a_struct k)) known f = went (there tag (f refl)) tt
opened_tagged tag (Some (an_enum is_complete)) known f = went (there tag (f refl)) tt

pub opened_struct : (tag : Option (List ℕ)) (known : Known) → Brings (option_to_list tag) known (open_struct tag known)
opened_struct None known = went same tt
opened_struct (Some tag) known = opened_tagged tag (tag_here tag known) known (in_scope_here tag known)

closed_known : (is_complete : Bool) (k : ℕ) (members : List Member) (known : Known) → Leads [] known.frames ((if is_complete then (λ (it : Known). it) else with_members k members) known).frames
closed_known true k members known = same
closed_known false k members known = same

pub closed_struct : (opened : OpenStruct) (members : List Member) (known : Known) → Kept known (close_struct opened members known)
closed_struct opened members known = went (closed_known (is_complete_struct known.structs opened.number) opened.number members known) tt

pub opened_enum : (tag : Option (List ℕ)) (known : Known) → Kept known (open_enum tag known)
opened_enum None known = went same tt
opened_enum (Some tag) known = went (then_last (tagged tag (an_enum false) known.frames) same) tt

pub closed_enum : (tag : Option (List ℕ)) (faults : List Rule) (known : Known) → Kept known (close_enum tag faults known)
closed_enum None faults known = went same tt
closed_enum (Some tag) faults known = went (then_last (tagged tag (an_enum true) known.frames) same) tt

-- ---- ends of nodes

pub ended_mark : (node : ℕ) (written : c.Expression) (x : Typed) (id tag : List ℕ) (bs : List TypedBinding) (known : Known) → Kept known (end_of_mark node written x id tag bs known)
ended_mark node written x id tag bs known = judges node (unless (is_good_mark known written x id tag bs) bad_mark) known _ (went same tt)

pub ended_enumerator : (node : ℕ) (name : List ℕ) (z : Option ℤ) (known : Known) → Kept known (end_of_enumerator node name z known)
ended_enumerator node name z known = judges node (enumerator_faults known name z) known _ (went (bound name (an_enumerator _) known.frames) tt)

-- these tags are in scope where the parameters are, if there are any
abbrev pub InParameters : Tags → Declares → List Frame → Type 0
InParameters tags it frames = AreInScope (frame_of it.parameters ∷ frames) tags

abbrev pub BuiltWith : Tags → Built → List Frame → Type 0
BuiltWith tags it frames = AreInScope (frame_of it.parameters ∷ frames) tags

pub ended_declarator : (tags : Tags) (node : Option ℕ) (name : Option (List ℕ)) (it : Built) (faults : List Rule) (known : Known) → BuiltWith tags it known.frames
    → Good [] (InParameters tags) known.frames (end_of_declarator node name it faults known)
ended_declarator tags None name it faults known h = went same h
ended_declarator tags (Some node) name it faults known h = judges node faults known _ (went same h)

pub bound_parameter : (is_definition is_register : Bool) (node : ℕ) (name : Option (List ℕ)) (t : CType) (known : Known) → Kept known (binds_parameter is_definition is_register node name t known)
bound_parameter is_definition is_register node None t known = went same tt
bound_parameter is_definition is_register node (Some name) t known = went (bound name (an_object _ is_register) known.frames) tt
