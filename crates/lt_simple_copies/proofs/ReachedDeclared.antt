-- Typing goes over the nodes of initialisers, declarations and labels, and of what a `for` has before its body.
use Rattle.std.proofs.Common.{◌≡◌, refl, ℕ, suc, Bool, true, false, if◌then◌else◌, List, [], ◌∷◌, ◌++◌, length, slice_get, slice_set, Option, Some, None}
use Rattle.std.specs.Prelude.{is_some}
use Rattle.std.specs.List.{flat_map}
use Rattle.lt_model.specs.declared.scalar.Scalar.{Scalar}
use Rattle.lt_tree.specs.declared.specifier.Storage.{Storage}
use Rattle.lt_tree.specs.Tree as c
use Rattle.lt_tree.specs.Nodes as n
use Rattle.lt_tree.specs.Nodes.{in_expression, in_initialiser, in_initialisers, in_optional_initialiser, in_init_declarator, in_declaration, in_optional, in_start, in_label}
use Rattle.lt_tree.specs.Typing.Types.{CType, struct_of}
use Rattle.lt_tree.specs.Typing.Extents.{has_too_many_cells}
use Rattle.lt_tree.specs.Typing.Rules.{broken_if, unless, bad_case, bad_length, bad_initialiser}
use Rattle.lt_tree.specs.Typing.TypedTree.{Start, Local}
use Rattle.lt_tree.specs.Typing.Entities.{Known, Object, Life, a_typedef, a_function, is_linked, is_static, linked_object, bind_name, type_of_object, declared_among}
use Rattle.lt_tree.specs.Typing.Steps.{Walk, ◌>>◌, gives, settle}
use Rattle.lt_tree.specs.Typing.Expressions.{Typed, as_value, as_truth, own_type}
use Rattle.lt_tree.specs.Typing.Operations.{text_type}
use Rattle.lt_tree.specs.Typing.Specifying.{Specified, alone, elsewhere}
use Rattle.lt_tree.specs.Typing.Declarators.{Declares}
use Rattle.lt_tree.specs.Typing.Filling.{Run, Filling, opened, is_struct_of, is_character_array, is_too_long_for, letters_of, value_faults, text_in, nothing_to_fill}
use Rattle.lt_tree.specs.Typing.InitialiserTyping.{literal_alone, filled_by, fill_value, value_initialiser, fill_text, initialiser_without_braces, filling_for, faults_of_list, initialiser, initialisers, object_initialiser, initialiser_of_none}
use Rattle.lt_tree.specs.Typing.Declaring.{Kind, a_type_name, a_function_name, an_object_of, kind_of, declaration_faults, with_declared, new_object, object_for, declare_object, length_faults}
use Rattle.lt_tree.specs.Typing.DeclarationTyping.{no_object, started_object, declare, init_declarator, init_declarators, has_no_declarator, declaration_by, effective_in_for}
use Rattle.lt_tree.specs.Typing.StatementTyping.{optional_expression, optional_test, for_start, Seen, is_new_case, with_case, case_value, labels}
use Rattle.lt_tree_laws.specs.Typing.NodeNumbers.{PartsAreNumbered}
use Rattle.lt_simple_copies.proofs.ReachedSteps.{Whole, as_law, entered, unmarked_here, done, done_at, after, joined, quiet, node, settled, unmarked, as_many, from_here}
use Rattle.lt_simple_copies.proofs.ReachedDeclarators.{of_expression, of_specifiers, of_declarator}

-- ---- initialisers in lists

-- what is a string literal is one node
single : (e : c.Expression) (bytes : List ℕ) → text_in e ≡ Some bytes → suc 0 ≡ length (in_expression e)
single (c.Text text) bytes same = refl
single _ bytes same = absurd cc

of_literal : (bytes : List ℕ) (known : Known) → Whole known (n.an_expression (c.Text bytes) ∷ []) (literal_alone bytes known)
of_literal bytes known = node known (after (settled known.next (broken_if bad_length (has_too_many_cells known.structs (text_type bytes))) (entered known)) (λ u k. done _))

of_fill_value : (at : ℕ) (is_static : Bool) (filling : Filling) (x : Typed) (runs : List Run) (known : Known) → Whole known [] (fill_value at is_static filling x known runs known)
of_fill_value at is_static filling x [] known = done known
of_fill_value at is_static filling x (run ∷ runs) known = after (settled at (value_faults known is_static run.type x) known) (λ u k. done k)

of_value : PartsAreNumbered → (at : ℕ) (is_static : Bool) (filling : Filling) (e : c.Expression) (known : Known) → Whole known (in_expression e) (value_initialiser at is_static filling e known)
of_value law at is_static filling e known =
    after (of_expression law e as_value known) (λ x k. of_fill_value at is_static filling x (opened k (is_struct_of (struct_of (own_type x))) filling.left) k)

of_letters : (at : ℕ) {A : Type 0} (a : A) (bytes : List ℕ) (run : Run) (known : Known)
    → Whole known (n.an_expression (c.Text bytes) ∷ []) ((literal_alone bytes >> (settle at (broken_if bad_initialiser (is_too_long_for run.type bytes)) >> gives a)) known)
of_letters at a bytes run known = after (of_literal bytes known) (λ u k. after (settled at (broken_if bad_initialiser (is_too_long_for run.type bytes)) k) (λ u k. done k))

of_text_or_value : PartsAreNumbered → (at : ℕ) (is_text is_static : Bool) (filling : Filling) (e : c.Expression) (bytes : List ℕ) (run : Run) (runs : List Run) (known : Known)
    → text_in e ≡ Some bytes
    → Whole known (in_expression e) ((if is_text then (literal_alone bytes >> (settle at (broken_if bad_initialiser (is_too_long_for run.type bytes)) >> gives (filled_by filling (letters_of run.offset run.type bytes) runs))) else value_initialiser at is_static filling e) known)
of_text_or_value law at true is_static filling e bytes run runs known is = as_many (single e bytes is) (of_letters at (filled_by filling (letters_of run.offset run.type bytes) runs) bytes run known)
of_text_or_value law at false is_static filling e bytes run runs known is = of_value law at is_static filling e known

of_fill_text : PartsAreNumbered → (at : ℕ) (is_static : Bool) (filling : Filling) (e : c.Expression) (bytes : List ℕ) (runs : List Run) (known : Known)
    → text_in e ≡ Some bytes → Whole known (in_expression e) (fill_text at is_static filling e bytes runs known)
of_fill_text law at is_static filling e bytes [] known is = of_value law at is_static filling e known
of_fill_text law at is_static filling e bytes (run ∷ runs) known is = of_text_or_value law at (is_character_array run.type) is_static filling e bytes run runs known is

of_unbraced : PartsAreNumbered → (at : ℕ) (is_static : Bool) (filling : Filling) (e : c.Expression) (found : Option (List ℕ)) (known : Known)
    → text_in e ≡ found → Whole known (in_expression e) (initialiser_without_braces at is_static filling e found known)
of_unbraced law at is_static filling e None known is = of_value law at is_static filling e known
of_unbraced law at is_static filling e (Some bytes) known is = of_fill_text law at is_static filling e bytes (opened known is_character_array filling.left) known is

mutual
  pub of_initialiser : PartsAreNumbered → (it : c.Initialiser) (is_static : Bool) (filling : Filling) (known : Known) → Whole known (in_initialiser it) (initialiser it is_static filling known)
  of_initialiser law (c.Value e) is_static filling known = node known (of_unbraced law known.next is_static filling e (text_in e) (entered known) refl)
  of_initialiser law (c.Braces list) is_static filling known =
      node known (after (of_initialisers law list is_static (filling_for (entered known) list filling.left) (entered known))
      (λ inner k. after (settled known.next (faults_of_list list inner filling.left) k) (λ u k. done k)))

  of_initialisers : PartsAreNumbered → (them : c.Initialisers) (is_static : Bool) (filling : Filling) (known : Known) → Whole known (in_initialisers them) (initialisers them is_static filling known)
  of_initialisers law c.no_initialisers is_static filling known = done known
  of_initialisers law (c.an_initialiser first rest) is_static filling known = joined (of_initialiser law first is_static filling known) (λ next k. of_initialisers law rest is_static next k)

of_initialiser_of_none : PartsAreNumbered → (it : c.Initialiser) (known : Known) → Whole known (in_initialiser it) (initialiser_of_none it known)
of_initialiser_of_none law (c.Value e) known = node known (after (of_expression law e as_value (entered known)) (λ x k. settled known.next (bad_initialiser ∷ []) k))
of_initialiser_of_none law (c.Braces list) known =
    node known (after (of_initialisers law list false nothing_to_fill (entered known)) (λ filled k. settled known.next (bad_initialiser ∷ []) k))

-- ---- declarations

of_no_object : PartsAreNumbered → (i : Option c.Initialiser) (known : Known) → Whole known (in_optional_initialiser i) (no_object i known)
of_no_object law None known = done known
of_no_object law (Some i) known = after (of_initialiser_of_none law i known) (λ u k. done k)

-- an object, a function and a name leave the number of the next node
abbrev with_start_of : ℕ → Option Start → CType → Known → Option Object → Known
with_start_of n start t known None = known
with_start_of n start t known (Some object) = record known { objects = slice_set known.objects n (record object { type = t; start = start }) }

start_leaves : (n : ℕ) (start : Option Start) (t : CType) (known : Known) (found : Option Object) → (with_start_of n start t known found).next ≡ known.next
start_leaves n start t known None = refl
start_leaves n start t known (Some object) = refl

abbrev pub with_declared_of : List ℕ → CType → Known → Option CType → Known
with_declared_of name t known None = record known { declared = known.declared ++ record { name = name; type = t } ∷ [] }
with_declared_of name t known (Some u) = known

declared_leaves : (name : List ℕ) (t : CType) (known : Known) (found : Option CType) → (with_declared_of name t known found).next ≡ known.next
declared_leaves name t known None = refl
declared_leaves name t known (Some u) = refl

pub function_leaves : (name : List ℕ) (t : CType) (known : Known) → (with_declared name t known).next ≡ known.next
function_leaves name t known = declared_leaves name t known (declared_among name known.declared)

of_started_object : PartsAreNumbered → (life : Life) (n : ℕ) (i : Option c.Initialiser) (known : Known) → Whole known (in_optional_initialiser i) (started_object life n i known)
of_started_object law life n None known = done known
of_started_object law life n (Some i) known =
    after (as_law known (in_initialiser i) (object_initialiser (is_static life) (type_of_object known n) length_faults i known) (law.2 i (is_static life) (type_of_object known n) length_faults known))
    (λ it k. done_at k _ (start_leaves n (if is_static life then Some it.start else None) it.type k (slice_get k.objects n)))

of_linked_or_new : (is_one : Bool) (life : Life) (at : ℕ) (name : List ℕ) (t : CType) (n : ℕ) (known : Known) → Whole known [] ((if is_one then gives n else new_object life at name t) known)
of_linked_or_new true life at name t n known = done known
of_linked_or_new false life at name t n known = done _

of_object_for : (life : Life) (at : ℕ) (name : List ℕ) (t : CType) (found : Option ℕ) (known : Known) → Whole known [] (object_for life at name t found known)
of_object_for life at name t None known = done _
of_object_for life at name t (Some n) known = of_linked_or_new (is_linked life) life at name t n known

pub of_declare_object : (life : Life) (is_register : Bool) (at : ℕ) (name : List ℕ) (t : CType) (known : Known) → Whole known [] (declare_object life is_register at name t known)
of_declare_object life is_register at name t known = after (of_object_for life at name t (linked_object name known) known) (λ n k. done _)

of_declare : PartsAreNumbered → (kind : Kind) (at : ℕ) (name : List ℕ) (t : CType) (i : Option c.Initialiser) (known : Known) → Whole known (in_optional_initialiser i) (declare kind at name t i known)
of_declare law a_type_name at name t i known = of_no_object law i (bind_name name (a_typedef t) known)
of_declare law a_function_name at name t i known =
    from_here known (bind_name name a_function (with_declared name t known)) (function_leaves name t known) (of_no_object law i (bind_name name a_function (with_declared name t known)))
of_declare law (an_object_of life is_register) at name t i known = quiet (of_declare_object life is_register at name t known) (λ n k. of_started_object law life n i k)

abbrev declare_if_named : Specified → Declares → Option c.Initialiser → Known → Option (List ℕ) → Walk (List Local)
declare_if_named s declared i known None = no_object i
declare_if_named s declared i known (Some name) = declare (kind_of known s.storage declared.type) declared.node name declared.type i

of_declare_if_named : PartsAreNumbered → (s : Specified) (declared : Declares) (name : Option (List ℕ)) (i : Option c.Initialiser) (known : Known)
    → Whole known (in_optional_initialiser i) (declare_if_named s declared i known name known)
of_declare_if_named law s declared None i known = of_no_object law i known
of_declare_if_named law s declared (Some name) i known = of_declare law (kind_of known s.storage declared.type) declared.node name declared.type i known

pub of_init_declarator : PartsAreNumbered → (s : Specified) (d : c.InitDeclarator) (known : Known) → Whole known (in_init_declarator d) (init_declarator s d known)
of_init_declarator law s d known =
    joined (of_declarator law d.declarator s false (declaration_faults s.storage (is_some d.initialiser)) known)
    (λ declared k. of_declare_if_named law s declared declared.name d.initialiser k)

of_init_declarators : PartsAreNumbered → (s : Specified) (them : List c.InitDeclarator) (known : Known) → Whole known (flat_map in_init_declarator them) (init_declarators s them known)
of_init_declarators law s [] known = done known
of_init_declarators law s (d ∷ ds) known = joined (of_init_declarator law s d known) (λ first k. after (of_init_declarators law s ds k) (λ rest k. done k))

pub of_declaration_by : PartsAreNumbered → (effective : Option Storage → Option Storage) (d : c.Declaration) (known : Known) → Whole known (in_declaration d) (declaration_by effective d known)
of_declaration_by law effective d known =
    joined (of_specifiers law d.specifiers (if has_no_declarator d.declarators then alone else elsewhere) known)
    (λ it k. after (of_init_declarators law (record it { storage = effective it.storage }) d.declarators k) (λ locals k. done k))

-- ---- before the body of a `for`, and labels

pub of_optional : PartsAreNumbered → (it : Option c.Expression) (known : Known) → Whole known (in_optional it) (optional_expression it known)
of_optional law None known = done known
of_optional law (Some it) known = after (of_expression law it as_value known) (λ x k. done k)

pub of_optional_test : PartsAreNumbered → (it : Option c.Expression) (known : Known) → Whole known (in_optional it) (optional_test it known)
of_optional_test law None known = done known
of_optional_test law (Some it) known = after (of_expression law it as_truth known) (λ x k. done k)

pub of_start : PartsAreNumbered → (start : c.ForStart) (known : Known) → Whole known (in_start start) (for_start start known)
of_start law c.Nothing known = done known
of_start law (c.First it) known = after (of_expression law it as_value known) (λ x k. done k)
of_start law (c.Declares d) known = after (of_declaration_by law effective_in_for d known) (λ it k. done k)

pub of_labels : PartsAreNumbered → (them : List c.Label) (s : Option Scalar) (seen : Seen) (known : Known) → Whole known (flat_map in_label them) (labels them s seen known)
of_labels law [] s seen known = done known
of_labels law (c.Case it ∷ rest) s seen known =
    node known (joined (unmarked known.is_unmarked (of_expression law it as_value (unmarked_here (entered known))))
    (λ x k. quiet (after (settled known.next (unless (is_new_case seen (case_value k.model s x)) bad_case) k) (λ u k. done k))
    (λ z k. after (of_labels law rest s (with_case seen z) k) (λ others k. done k))))
of_labels law (c.Default ∷ rest) s seen known =
    node known (quiet (settled known.next (broken_if bad_case seen.has_default) (entered known))
    (λ u k. after (of_labels law rest s (record seen { has_default = true }) k) (λ others k. done k)))
