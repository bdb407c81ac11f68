-- The nodes of initialisers and declarations have the numbers of their walk.
use Rattle.std.proofs.Common.{◌≡◌, refl, ℕ, suc, ◌<◌, Bool, true, false, if◌then◌else◌, List, [], ◌∷◌, ◌++◌, length, slice_get, slice_set, Option, Some, None}
use Rattle.std.specs.Prelude.{is_some}
use Rattle.std.specs.List.{flat_map}
use Rattle.lt_tree.specs.declared.specifier.Storage.{Storage}
use Rattle.lt_tree.specs.Tree as c
use Rattle.lt_tree.specs.Nodes as n
use Rattle.lt_tree.specs.Nodes.{in_expression, in_initialiser, in_initialisers, in_optional_initialiser, in_init_declarator, in_declaration}
use Rattle.lt_tree.specs.Typing.Types.{CType, struct_of, is_array}
use Rattle.lt_tree.specs.Typing.Extents.{has_too_many_cells}
use Rattle.lt_tree.specs.Typing.Rules.{broken_if, bad_length, bad_initialiser}
use Rattle.lt_tree.specs.Typing.TypedTree.{Start, Local}
use Rattle.lt_tree.specs.Typing.Entities.{Known, Object, Life, a_typedef, a_function, is_linked, is_static, linked_object, bind_name, type_of_object, declared_among}
use Rattle.lt_tree.specs.Typing.Steps.{Walk, ◌>>◌, gives, settle}
use Rattle.lt_tree.specs.Typing.Expressions.{Typed, as_value, own_type}
use Rattle.lt_tree.specs.Typing.Operations.{text_type}
use Rattle.lt_tree.specs.Typing.Specifying.{Specified, alone, elsewhere}
use Rattle.lt_tree.specs.Typing.Declarators.{Declares}
use Rattle.lt_tree.specs.Typing.Filling.{Run, Filling, opened, is_struct_of, is_character_array, is_too_long_for, letters_of, value_faults, text_in, filling_of, nothing_to_fill, list_faults}
use Rattle.lt_tree.specs.Typing.InitialiserTyping.{Judges, literal_alone, filled_by, fill_value, value_initialiser, fill_text, initialiser_without_braces, filling_for, faults_of_list, initialiser, initialisers, with_length, whole_value, whole_text, whole_without_braces, listed_length, object_initialiser, initialiser_of_none}
use Rattle.lt_tree.specs.Typing.Declaring.{Kind, a_type_name, a_function_name, an_object_of, kind_of, declaration_faults, with_declared, new_object, object_for, declare_object, length_faults}
use Rattle.lt_tree.specs.Typing.DeclarationTyping.{no_object, started_object, declare, init_declarators, has_no_declarator, declaration_by}
use Rattle.lt_tree_laws.proofs.NodeSteps.{Covers, Whole, entered, done, done_at, after, joined, quiet, node, last, judges, as_many, from_here}
use Rattle.lt_tree_laws.proofs.NumberedExpressions.{of_expression, of_specifiers, of_declarator}

-- ---- string literals

-- what is a string literal is one node
single : (e : c.Expression) (bytes : List ℕ) → text_in e ≡ Some bytes → suc 0 ≡ length (in_expression e)
single (c.Text text) bytes same = refl
single _ bytes same = absurd cc

of_literal : (bytes : List ℕ) (known : Known) → Whole known (n.an_expression (c.Text bytes) ∷ []) (literal_alone bytes known)
of_literal bytes known = node known (λ i. after (judges (broken_if bad_length (has_too_many_cells known.structs (text_type bytes))) (entered known) i) (λ u k le. done _))

-- ---- initialisers in lists

of_fill_value : {at : ℕ} (is_static : Bool) (filling : Filling) (x : Typed) (runs : List Run) (known : Known)
    → at < known.next → Covers at known.next [] (fill_value at is_static filling x known runs known)
of_fill_value is_static filling x [] known i = done known
of_fill_value is_static filling x (run ∷ runs) known i = after (judges (value_faults known is_static run.type x) known i) (λ u k le. done k)

of_value : {at : ℕ} (is_static : Bool) (filling : Filling) (e : c.Expression) (known : Known)
    → at < known.next → Covers at known.next (in_expression e) (value_initialiser at is_static filling e known)
of_value is_static filling e known i = last known i (of_expression e as_value known) (λ x k i. of_fill_value is_static filling x (opened k (is_struct_of (struct_of (own_type x))) filling.left) k i)

of_letters : {at : ℕ} {A : Type 0} (a : A) (bytes : List ℕ) (run : Run) (known : Known)
    → at < known.next → Covers at known.next (n.an_expression (c.Text bytes) ∷ []) ((literal_alone bytes >> (settle at (broken_if bad_initialiser (is_too_long_for run.type bytes)) >> gives a)) known)
of_letters a bytes run known i =
    last known i (of_literal bytes known) (λ u k i. after (judges (broken_if bad_initialiser (is_too_long_for run.type bytes)) k i) (λ u k le. done k))

of_text_or_value : {at : ℕ} (is_text is_static : Bool) (filling : Filling) (e : c.Expression) (bytes : List ℕ) (run : Run) (runs : List Run) (known : Known)
    → text_in e ≡ Some bytes → at < known.next
    → Covers at known.next (in_expression e) ((if is_text then (literal_alone bytes >> (settle at (broken_if bad_initialiser (is_too_long_for run.type bytes)) >> gives (filled_by filling (letters_of run.offset run.type bytes) runs))) else value_initialiser at is_static filling e) known)
of_text_or_value true is_static filling e bytes run runs known is i = as_many (single e bytes is) (of_letters (filled_by filling (letters_of run.offset run.type bytes) runs) bytes run known i)
of_text_or_value false is_static filling e bytes run runs known is i = of_value is_static filling e known i

of_fill_text : {at : ℕ} (is_static : Bool) (filling : Filling) (e : c.Expression) (bytes : List ℕ) (runs : List Run) (known : Known)
    → text_in e ≡ Some bytes → at < known.next → Covers at known.next (in_expression e) (fill_text at is_static filling e bytes runs known)
of_fill_text is_static filling e bytes [] known is i = of_value is_static filling e known i
of_fill_text is_static filling e bytes (run ∷ runs) known is i = of_text_or_value (is_character_array run.type) is_static filling e bytes run runs known is i

of_unbraced : {at : ℕ} (is_static : Bool) (filling : Filling) (e : c.Expression) (found : Option (List ℕ)) (known : Known)
    → text_in e ≡ found → at < known.next → Covers at known.next (in_expression e) (initialiser_without_braces at is_static filling e found known)
of_unbraced is_static filling e None known is i = of_value is_static filling e known i
of_unbraced is_static filling e (Some bytes) known is i = of_fill_text is_static filling e bytes (opened known is_character_array filling.left) known is i

mutual
  of_initialiser : (it : c.Initialiser) (is_static : Bool) (filling : Filling) (known : Known) → Whole known (in_initialiser it) (initialiser it is_static filling known)
  of_initialiser (c.Value e) is_static filling known = node known (λ i. of_unbraced is_static filling e (text_in e) (entered known) refl i)
  of_initialiser (c.Braces list) is_static filling known =
      node known (λ i. last (entered known) i (of_initialisers list is_static (filling_for (entered known) list filling.left) (entered known))
      (λ inner k i. after (judges (faults_of_list list inner filling.left) k i) (λ u k le. done k)))

  of_initialisers : (them : c.Initialisers) (is_static : Bool) (filling : Filling) (known : Known) → Whole known (in_initialisers them) (initialisers them is_static filling known)
  of_initialisers c.no_initialisers is_static filling known = done known
  of_initialisers (c.an_initialiser first rest) is_static filling known = joined known (of_initialiser first is_static filling known) (λ next k. of_initialisers rest is_static next k)

-- ---- initialisers of objects

of_whole_value : {at : ℕ} (is_static : Bool) (t : CType) (judge : Judges) (e : c.Expression) (known : Known)
    → at < known.next → Covers at known.next (in_expression e) (whole_value at is_static t judge e known)
of_whole_value is_static t judge e known i =
    last known i (of_expression e as_value known)
    (λ x k i. after (judges ((if is_array t then bad_initialiser ∷ [] else value_faults k is_static t x) ++ judge k t) k i) (λ u k le. done k))

of_whole_text : {at : ℕ} (t : CType) (judge : Judges) (bytes : List ℕ) (known : Known)
    → at < known.next → Covers at known.next (n.an_expression (c.Text bytes) ∷ []) (whole_text at t judge bytes known)
of_whole_text t judge bytes known i =
    last known i (of_literal bytes known)
    (λ u k i. after (judges (broken_if bad_initialiser (is_too_long_for t bytes) ++ judge k (with_length t (suc (length bytes)))) k i) (λ u k le. done k))

of_text_or_whole : {at : ℕ} (is_text is_static : Bool) (t : CType) (judge : Judges) (e : c.Expression) (bytes : List ℕ) (known : Known)
    → text_in e ≡ Some bytes → at < known.next
    → Covers at known.next (in_expression e) ((if is_text then whole_text at t judge bytes else whole_value at is_static t judge e) known)
of_text_or_whole true is_static t judge e bytes known is i = as_many (single e bytes is) (of_whole_text t judge bytes known i)
of_text_or_whole false is_static t judge e bytes known is i = of_whole_value is_static t judge e known i

of_whole : {at : ℕ} (is_static : Bool) (t : CType) (judge : Judges) (e : c.Expression) (found : Option (List ℕ)) (known : Known)
    → text_in e ≡ found → at < known.next → Covers at known.next (in_expression e) (whole_without_braces at is_static t judge e found known)
of_whole is_static t judge e None known is i = of_whole_value is_static t judge e known i
of_whole is_static t judge e (Some bytes) known is i = of_text_or_whole (is_character_array t) is_static t judge e bytes known is i

pub of_object_initialiser : (it : c.Initialiser) (is_static : Bool) (t : CType) (judge : Judges) (known : Known)
    → Whole known (in_initialiser it) (object_initialiser is_static t judge it known)
of_object_initialiser (c.Value e) is_static t judge known = node known (λ i. of_whole is_static t judge e (text_in e) (entered known) refl i)
of_object_initialiser (c.Braces list) is_static t judge known =
    node known (λ i. last (entered known) i (of_initialisers list is_static (filling_of (entered known) 0 t list) (entered known))
    (λ filled k i. after (judges (list_faults t list filled ++ judge k (with_length t (listed_length k t list filled))) k i) (λ u k le. done k)))

of_initialiser_of_none : (it : c.Initialiser) (known : Known) → Whole known (in_initialiser it) (initialiser_of_none it known)
of_initialiser_of_none (c.Value e) known = node known (λ i. last (entered known) i (of_expression e as_value (entered known)) (λ x k i. judges (bad_initialiser ∷ []) k i))
of_initialiser_of_none (c.Braces list) known =
    node known (λ i. last (entered known) i (of_initialisers list false nothing_to_fill (entered known)) (λ filled k i. judges (bad_initialiser ∷ []) k i))

-- ---- declarations

of_no_object : (i : Option c.Initialiser) (known : Known) → Whole known (in_optional_initialiser i) (no_object i known)
of_no_object None known = done known
of_no_object (Some i) known = after (of_initialiser_of_none i known) (λ u k le. done k)

-- an object, a function and a name leave the number of the next node
abbrev with_start_of : ℕ → Option Start → CType → Known → Option Object → Known
with_start_of n start t known None = known
with_start_of n start t known (Some object) = record known { objects = slice_set known.objects n (record object { type = t; start = start }) }

start_leaves : (n : ℕ) (start : Option Start) (t : CType) (known : Known) (found : Option Object) → (with_start_of n start t known found).next ≡ known.next
start_leaves n start t known None = refl
start_leaves n start t known (Some object) = refl

abbrev with_declared_of : List ℕ → CType → Known → Option CType → Known
with_declared_of name t known None = record known { declared = known.declared ++ record { name = name; type = t } ∷ [] }
with_declared_of name t known (Some u) = known

declared_leaves : (name : List ℕ) (t : CType) (known : Known) (found : Option CType) → (with_declared_of name t known found).next ≡ known.next
declared_leaves name t known None = refl
declared_leaves name t known (Some u) = refl

pub function_leaves : (name : List ℕ) (t : CType) (known : Known) → (with_declared name t known).next ≡ known.next
function_leaves name t known = declared_leaves name t known (declared_among name known.declared)

of_started_object : (life : Life) (n : ℕ) (i : Option c.Initialiser) (known : Known) → Whole known (in_optional_initialiser i) (started_object life n i known)
of_started_object life n None known = done known
of_started_object life n (Some i) known =
    after (of_object_initialiser i (is_static life) (type_of_object known n) length_faults known) (λ it k le. done_at k _ (start_leaves n (if is_static life then Some it.start else None) it.type k (slice_get k.objects n)))

of_linked_or_new : (is_one : Bool) (life : Life) (at : ℕ) (name : List ℕ) (t : CType) (n : ℕ) (known : Known) → Whole known [] ((if is_one then gives n else new_object life at name t) known)
of_linked_or_new true life at name t n known = done known
of_linked_or_new false life at name t n known = done _

of_object_for : (life : Life) (at : ℕ) (name : List ℕ) (t : CType) (found : Option ℕ) (known : Known) → Whole known [] (object_for life at name t found known)
of_object_for life at name t None known = done _
of_object_for life at name t (Some n) known = of_linked_or_new (is_linked life) life at name t n known

of_declare_object : (life : Life) (is_register : Bool) (at : ℕ) (name : List ℕ) (t : CType) (known : Known) → Whole known [] (declare_object life is_register at name t known)
of_declare_object life is_register at name t known = after (of_object_for life at name t (linked_object name known) known) (λ n k le. done _)

of_declare : (kind : Kind) (at : ℕ) (name : List ℕ) (t : CType) (i : Option c.Initialiser) (known : Known) → Whole known (in_optional_initialiser i) (declare kind at name t i known)
of_declare a_type_name at name t i known = of_no_object i (bind_name name (a_typedef t) known)
of_declare a_function_name at name t i known =
    from_here known (bind_name name a_function (with_declared name t known)) (function_leaves name t known) (of_no_object i (bind_name name a_function (with_declared name t known)))
of_declare (an_object_of life is_register) at name t i known = quiet known (of_declare_object life is_register at name t known) (λ n k. of_started_object life n i k)

abbrev declare_if_named : Specified → Declares → Option c.Initialiser → Known → Option (List ℕ) → Walk (List Local)
declare_if_named s declared i known None = no_object i
declare_if_named s declared i known (Some name) = declare (kind_of known s.storage declared.type) declared.node name declared.type i

of_declare_if_named : (s : Specified) (declared : Declares) (name : Option (List ℕ)) (i : Option c.Initialiser) (known : Known)
    → Whole known (in_optional_initialiser i) (declare_if_named s declared i known name known)
of_declare_if_named s declared None i known = of_no_object i known
of_declare_if_named s declared (Some name) i known = of_declare (kind_of known s.storage declared.type) declared.node name declared.type i known

of_init_declarators : (s : Specified) (them : List c.InitDeclarator) (known : Known) → Whole known (flat_map in_init_declarator them) (init_declarators s them known)
of_init_declarators s [] known = done known
of_init_declarators s (d ∷ ds) known =
    joined known (joined known (of_declarator d.declarator s false (declaration_faults s.storage (is_some d.initialiser)) known)
    (λ declared k. of_declare_if_named s declared declared.name d.initialiser k))
    (λ first k. after (of_init_declarators s ds k) (λ rest k le. done k))

pub of_declaration_by : (effective : Option Storage → Option Storage) (d : c.Declaration) (known : Known) → Whole known (in_declaration d) (declaration_by effective d known)
of_declaration_by effective d known =
    joined known (of_specifiers d.specifiers (if has_no_declarator d.declarators then alone else elsewhere) known)
    (λ it k. after (of_init_declarators (record it { storage = effective it.storage }) d.declarators k) (λ locals k le. done k))
