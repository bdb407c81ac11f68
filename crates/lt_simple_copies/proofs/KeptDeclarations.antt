-- Typing of declarations keeps the tags that are in scope, and brings those that their specifiers name.
use Rattle.std.proofs.Common.{ℕ, Bool, true, false, List, [], ◌∷◌, ◌++◌, Option, Some, None}
use Rattle.std.specs.Prelude.{if◌then◌else◌, is_some, slice_get, slice_set}
use Rattle.lt_tree.specs.declared.specifier.Storage.{Storage}
use Rattle.lt_tree.specs.Tree as c
use Rattle.lt_tree.specs.Typing.Types.{CType}
use Rattle.lt_tree.specs.Typing.TypedTree.{Start, Local}
use Rattle.lt_tree.specs.Typing.Entities.{Known, Life, an_object, a_typedef, a_function, is_linked, is_static, linked_object, bind_name, declared_among, type_of_object}
use Rattle.lt_tree.specs.Typing.Steps.{Walk, Goes}
use Rattle.lt_tree.specs.Typing.Specifying.{Specified, alone, elsewhere}
use Rattle.lt_tree.specs.Typing.Declarators.{Declares}
use Rattle.lt_tree.specs.Typing.Declaring.{Kind, a_type_name, a_function_name, an_object_of, kind_of, declaration_faults, with_declared, new_object, object_for, declare_object, with_start, length_faults}
use Rattle.lt_tree.specs.Typing.DeclarationTyping.{no_object, started_object, declare, init_declarator, init_declarators, has_no_declarator, declaration_by}
use Rattle.lt_objectives.specs.Tags.{tags_in}
use Rattle.lt_simple_copies.proofs.KeptScopes.{Leads, same, bound, Kept, Brings, went, behind, bind, bind_first}
use Rattle.lt_simple_copies.proofs.KeptExpressions.{of_specifiers, of_declarator}
use Rattle.lt_simple_copies.proofs.KeptInitialisers.{of_object_initialiser, of_initialiser_of_none}

-- ---- objects

of_new_object : (life : Life) (node : ℕ) (name : List ℕ) (t : CType) (known : Known) → Kept known (new_object life node name t known)
of_new_object life node name t known = went same tt

of_object_for : (life : Life) (node : ℕ) (name : List ℕ) (t : CType) (found : Option ℕ) (known : Known) → Kept known (object_for life node name t found known)
of_object_for life node name t None known = of_new_object life node name t known
of_object_for life node name t (Some n) known =
    elim (is_linked life) as (λ linked. Kept known ((if linked then (λ (it : Known). Goes n it) else new_object life node name t) known))
    [ true ↦ went same tt | false ↦ of_new_object life node name t known ]

pub of_declare_object : (life : Life) (is_register : Bool) (node : ℕ) (name : List ℕ) (t : CType) (known : Known) → Kept known (declare_object life is_register node name t known)
of_declare_object life is_register node name t known =
    bind (of_object_for life node name t (linked_object name known) known) (λ n k kept h. went (bound name (an_object n is_register) k.frames) tt)

of_no_object : (i : Option c.Initialiser) (known : Known) → Kept known (no_object i known)
of_no_object None known = went same tt
of_no_object (Some i) known = bind (of_initialiser_of_none i known) (λ u k kept h. went same tt)

with_start_frames : (n : ℕ) (start : Option Start) (t : CType) (known : Known) → Leads [] known.frames (with_start n start t known).frames
with_start_frames n start t known =
    elim (slice_get known.objects n) as
    (λ found. Leads [] known.frames (elim found as (λ _. Known) [ None ↦ known | Some object ↦ record known { objects = slice_set known.objects n (record object { type = t; start = start }) } ]).frames)
    [ None ↦ same | Some object ↦ same ]

of_started_object : (life : Life) (n : ℕ) (i : Option c.Initialiser) (known : Known) → Kept known (started_object life n i known)
of_started_object life n None known = went same tt
of_started_object life n (Some i) known =
    bind (of_object_initialiser i (is_static life) (type_of_object known n) length_faults known)
    (λ it k kept h. went (with_start_frames n (if is_static life then Some it.start else None) it.type k) tt)

-- ---- what is declared

pub declared_frames : (name : List ℕ) (t : CType) (known : Known) → Leads [] known.frames (with_declared name t known).frames
declared_frames name t known =
    elim (declared_among name known.declared) as
    (λ found. Leads [] known.frames (elim found as (λ _. Known) [ None ↦ record known { declared = known.declared ++ record { name = name; type = t } ∷ [] } | Some u ↦ known ]).frames)
    [ None ↦ same | Some u ↦ same ]

of_declare : (kind : Kind) (node : ℕ) (name : List ℕ) (t : CType) (i : Option c.Initialiser) (known : Known) → Kept known (declare kind node name t i known)
of_declare a_type_name node name t i known = behind (bound name (a_typedef t) known.frames) (of_no_object i (bind_name name (a_typedef t) known))
of_declare a_function_name node name t i known =
    behind (declared_frames name t known) (behind (bound name a_function (with_declared name t known).frames) (of_no_object i (bind_name name a_function (with_declared name t known))))
of_declare (an_object_of life is_register) node name t i known = bind (of_declare_object life is_register node name t known) (λ n k kept h. of_started_object life n i k)

-- what is declared, if it has a name
abbrev declare_if_named : Specified → Declares → Option c.Initialiser → Known → Option (List ℕ) → Walk (List Local)
declare_if_named it declared i known None = no_object i
declare_if_named it declared i known (Some name) = declare (kind_of known it.storage declared.type) declared.node name declared.type i

of_declare_if_named : (it : Specified) (declared : Declares) (name : Option (List ℕ)) (i : Option c.Initialiser) (known : Known) → Kept known (declare_if_named it declared i known name known)
of_declare_if_named it declared None i known = of_no_object i known
of_declare_if_named it declared (Some name) i known = of_declare (kind_of known it.storage declared.type) declared.node name declared.type i known

pub of_init_declarator : (it : Specified) (d : c.InitDeclarator) (known : Known) → Kept known (init_declarator it d known)
of_init_declarator it d known =
    bind (of_declarator d.declarator it false (declaration_faults it.storage (is_some d.initialiser)) known) (λ declared k kept h. of_declare_if_named it declared declared.name d.initialiser k)

of_init_declarators : (it : Specified) (them : List c.InitDeclarator) (known : Known) → Kept known (init_declarators it them known)
of_init_declarators it [] known = went same tt
of_init_declarators it (d ∷ ds) known = bind (of_init_declarator it d known) (λ first k kept h. bind (of_init_declarators it ds k) (λ rest k kept i. went same tt))

pub of_declaration_by : (effective : Option Storage → Option Storage) (d : c.Declaration) (known : Known) → Brings (tags_in d.specifiers) known (declaration_by effective d known)
of_declaration_by effective d known =
    bind_first (of_specifiers d.specifiers (if has_no_declarator d.declarators then alone else elsewhere) known)
    (λ it k h. bind (of_init_declarators (record it { storage = effective it.storage }) d.declarators k) (λ locals k kept i. went same tt))
