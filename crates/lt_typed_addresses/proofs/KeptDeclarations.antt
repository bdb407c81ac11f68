-- Typing of declarations keeps the objects that are known: what those hold from the start rests on them too.
use Rattle.std.proofs.Common.{◌≡◌, ◌∙◌, ℕ, Bool, true, false, List, [], ◌∷◌, ◌++◌, Option, Some, None}
use Rattle.std.specs.Prelude.{if◌then◌else◌, is_some}
use Rattle.lt_tree.specs.declared.specifier.Storage.{Storage}
use Rattle.lt_tree.specs.Tree as c
use Rattle.lt_tree.specs.Typing.Types.{CType}
use Rattle.lt_tree.specs.Typing.TypedTree.{Start, Local}
use Rattle.lt_tree.specs.Typing.Entities.{Known, Object, Life, a_typedef, a_function, is_linked, is_static, linked_object, bind_name, declared_among, type_of_object}
use Rattle.lt_tree.specs.Typing.Steps.{Walk, Goes}
use Rattle.lt_tree.specs.Typing.Specifying.{Specified, alone, elsewhere}
use Rattle.lt_tree.specs.Typing.Declarators.{Declares}
use Rattle.lt_tree.specs.Typing.Declaring.{Kind, a_type_name, a_function_name, an_object_of, kind_of, declaration_faults, with_declared, new_object, object_for, declare_object, length_faults}
use Rattle.lt_tree.specs.Typing.DeclarationTyping.{no_object, started_object, declare, init_declarators, has_no_declarator, declaration_by}
use Rattle.lt_meaning.specs.Statements.{parts_in}
use Rattle.lt_typed_addresses.proofs.Resting.{PartsRest}
use Rattle.lt_typed_addresses.proofs.Keeping.{KeepsTo, same, Kept, went, behind, bind}
use Rattle.lt_typed_addresses.proofs.Growth.{added, started}
use Rattle.lt_typed_addresses.proofs.KeptExpressions.{of_specifiers, of_declarator}
use Rattle.lt_typed_addresses.proofs.KeptInitialisers.{of_object_initialiser, of_initialiser_of_none}

-- ---- objects

of_object_for : (life : Life) (node : ℕ) (name : List ℕ) (t : CType) (found : Option ℕ) (known : Known) → Kept known (object_for life node name t found known)
of_object_for life node name t found known = by found
  where
    object : Object
    object = record { node = node; name = name; type = t; life = life; start = None }

    one_of : (linked : Bool) (n : ℕ) → Kept known ((if linked then (λ known. Goes n known) else new_object life node name t) known)
    one_of true n = went same tt
    one_of false n = went (added object known tt) tt

    by : (found : Option ℕ) → Kept known (object_for life node name t found known)
    by None = went (added object known tt) tt
    by (Some n) = one_of (is_linked life) n

of_declare_object : (life : Life) (is_register : Bool) (node : ℕ) (name : List ℕ) (t : CType) (known : Known) → Kept known (declare_object life is_register node name t known)
of_declare_object life is_register node name t known = bind (of_object_for life node name t (linked_object name known) known) (λ n k kept h. went same tt)

if_static : (known : Known) (is_static : Bool) (start : Start) → PartsRest known.objects start.parts → PartsRest known.objects (parts_in (if is_static then Some start else None))
if_static known true start h = h
if_static known false start h = tt

of_no_object : (i : Option c.Initialiser) (known : Known) → Kept known (no_object i known)
of_no_object None known = went same tt
of_no_object (Some i) known = bind (of_initialiser_of_none i known) (λ u k kept h. went same tt)

-- declarations stand where marks may stand
of_started_object : (life : Life) (n : ℕ) (i : Option c.Initialiser) (known : Known) → known.is_unmarked ≡ false → Kept known (started_object life n i known)
of_started_object life n None known clean = went same tt
of_started_object life n (Some i) known clean =
    bind (of_object_initialiser i (is_static life) (type_of_object known n) length_faults known)
    (λ it k kept h. went (started n (if is_static life then Some it.start else None) it.type k (if_static k (is_static life) it.start (h (kept.marks ∙ clean)))) tt)

-- ---- what is declared

abbrev with_declared_of : List ℕ → CType → Known → Option CType → Known
with_declared_of name t known None = record known { declared = known.declared ++ record { name = name; type = t } ∷ [] }
with_declared_of name t known (Some u) = known

pub declared : (name : List ℕ) (t : CType) (known : Known) → KeepsTo known (with_declared name t known)
declared name t known = by (declared_among name known.declared)
  where
    by : (found : Option CType) → KeepsTo known (with_declared_of name t known found)
    by None = same
    by (Some u) = same

of_declare : (kind : Kind) (node : ℕ) (name : List ℕ) (t : CType) (i : Option c.Initialiser) (known : Known) → known.is_unmarked ≡ false → Kept known (declare kind node name t i known)
of_declare a_type_name node name t i known clean = of_no_object i (bind_name name (a_typedef t) known)
of_declare a_function_name node name t i known clean = behind (declared name t known) (of_no_object i (bind_name name a_function (with_declared name t known)))
of_declare (an_object_of life is_register) node name t i known clean =
    bind (of_declare_object life is_register node name t known) (λ n k kept h. of_started_object life n i k (kept.marks ∙ clean))

abbrev declare_if_named : Specified → Declares → Option c.Initialiser → Known → Option (List ℕ) → Walk (List Local)
declare_if_named it declared i known None = no_object i
declare_if_named it declared i known (Some name) = declare (kind_of known it.storage declared.type) declared.node name declared.type i

of_declare_if_named : (it : Specified) (declared : Declares) (name : Option (List ℕ)) (i : Option c.Initialiser) (known : Known) → known.is_unmarked ≡ false → Kept known (declare_if_named it declared i known name known)
of_declare_if_named it declared None i known clean = of_no_object i known
of_declare_if_named it declared (Some name) i known clean = of_declare (kind_of known it.storage declared.type) declared.node name declared.type i known clean

of_init_declarators : (it : Specified) (them : List c.InitDeclarator) (known : Known) → known.is_unmarked ≡ false → Kept known (init_declarators it them known)
of_init_declarators it [] known clean = went same tt
of_init_declarators it (d ∷ ds) known clean =
    bind (bind (of_declarator d.declarator it false (declaration_faults it.storage (is_some d.initialiser)) known)
    (λ declared k kept h. of_declare_if_named it declared declared.name d.initialiser k (kept.marks ∙ clean)))
    (λ first k kept h. bind (of_init_declarators it ds k (kept.marks ∙ clean)) (λ rest k kept i. went same tt))

pub of_declaration_by : (effective : Option Storage → Option Storage) (d : c.Declaration) (known : Known) → known.is_unmarked ≡ false → Kept known (declaration_by effective d known)
of_declaration_by effective d known clean =
    bind (of_specifiers d.specifiers (if has_no_declarator d.declarators then alone else elsewhere) known)
    (λ it k kept h. bind (of_init_declarators (record it { storage = effective it.storage }) d.declarators k (kept.marks ∙ clean)) (λ locals k kept i. went same tt))
