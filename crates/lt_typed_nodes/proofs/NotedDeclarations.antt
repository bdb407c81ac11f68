-- Initialisers and declarations note facts of their nodes.
use Rattle.std.proofs.Common.{◌≡◌, refl, ℕ, suc, ◌<◌, Bool, true, false, if◌then◌else◌, List, [], ◌∷◌, ◌++◌, length, slice_get, slice_set, Option, Some, None, arith}
use Rattle.std.specs.Prelude.{is_some}
use Rattle.lt_tree.specs.declared.specifier.Storage.{Storage}
use Rattle.lt_tree.specs.Tree as c
use Rattle.lt_tree.specs.Typing.Types.{CType, struct_of, is_array}
use Rattle.lt_tree.specs.Typing.Constants.{varying}
use Rattle.lt_tree.specs.Typing.Extents.{has_too_many_cells}
use Rattle.lt_tree.specs.Typing.Rules.{broken_if, bad_length, bad_initialiser}
use Rattle.lt_tree.specs.Typing.TypedTree.{Start, Local}
use Rattle.lt_tree.specs.Typing.Entities.{Known, Object, Life, a_typedef, a_function, is_linked, is_static, linked_object, bind_name, type_of_object, declared_among}
use Rattle.lt_tree.specs.Typing.Steps.{Walk, ◌>>◌, gives, settle}
use Rattle.lt_tree.specs.Typing.Expressions.{Typed, as_value, own_type}
use Rattle.lt_tree.specs.Typing.Operations.{text_type}
use Rattle.lt_tree.specs.Typing.Specifying.{Specified, alone, elsewhere}
use Rattle.lt_tree.specs.Typing.Declarators.{Declares}
use Rattle.lt_tree.specs.Typing.Filling.{Run, Filling, opened, is_struct_of, is_character_array, is_too_long_for, letters_of, value_faults, text_in, filling_of, nothing_to_fill, list_faults}
use Rattle.lt_tree.specs.Typing.InitialiserTyping.{Judges, literal_alone, filled_by, fill_value, value_initialiser, fill_text, initialiser_without_braces, filling_for, faults_of_list, initialiser, initialisers, with_length, whole_value, whole_text, whole_without_braces, listed_length, object_initialiser, initialiser_of_none}
use Rattle.lt_tree.specs.Typing.Declaring.{Kind, a_type_name, a_function_name, an_object_of, kind_of, declaration_faults, with_declared, new_object, object_for, declare_object, length_faults}
use Rattle.lt_tree.specs.Typing.DeclarationTyping.{no_object, started_object, declare, init_declarator, init_declarators, has_no_declarator, declaration_by}
use Rattle.lt_typed_nodes.specs.Coming.{entered}
use Rattle.lt_typed_nodes.proofs.FactSteps.{Notes, Whole, done, done_at, after, joined, node, part, judges, noted, whole, from_here}
use Rattle.lt_typed_nodes.proofs.NotedExpressions.{of_expression, of_specifiers, of_declarator}

-- ---- string literals

of_literal : (bytes : List ℕ) (known : Known) → Whole known (literal_alone bytes known)
of_literal bytes known =
    node known (λ i. after (judges (broken_if bad_length (has_too_many_cells known.structs (text_type bytes))) (entered known))
    (λ u k le. noted (record { node = known.next; type = text_type bytes; is_place = true; constancy = varying; object = None }) k (omega arith) (omega arith)))

-- ---- initialisers in lists

pub of_fill_value : {at : ℕ} (is_static : Bool) (filling : Filling) (x : Typed) (runs : List Run) (known : Known)
    → Notes at known.next known.facts (fill_value at is_static filling x known runs known)
of_fill_value is_static filling x [] known = done known
of_fill_value is_static filling x (run ∷ runs) known = after (judges (value_faults known is_static run.type x) known) (λ u k le. done k)

of_value : {at : ℕ} (is_static : Bool) (filling : Filling) (e : c.Expression) (known : Known)
    → at < known.next → Notes at known.next known.facts (value_initialiser at is_static filling e known)
of_value is_static filling e known i =
    part known i (whole known (of_expression e as_value known)) (λ x k i. of_fill_value is_static filling x (opened k (is_struct_of (struct_of (own_type x))) filling.left) k)

of_letters : {at : ℕ} {A : Type 0} (a : A) (bytes : List ℕ) (run : Run) (known : Known)
    → at < known.next → Notes at known.next known.facts ((literal_alone bytes >> (settle at (broken_if bad_initialiser (is_too_long_for run.type bytes)) >> gives a)) known)
of_letters a bytes run known i =
    part known i (of_literal bytes known) (λ u k i. after (judges (broken_if bad_initialiser (is_too_long_for run.type bytes)) k) (λ u k le. done k))

of_text_or_value : {at : ℕ} (is_text is_static : Bool) (filling : Filling) (e : c.Expression) (bytes : List ℕ) (run : Run) (runs : List Run) (known : Known)
    → at < known.next
    → Notes at known.next known.facts ((if is_text then (literal_alone bytes >> (settle at (broken_if bad_initialiser (is_too_long_for run.type bytes)) >> gives (filled_by filling (letters_of run.offset run.type bytes) runs))) else value_initialiser at is_static filling e) known)
of_text_or_value true is_static filling e bytes run runs known i = of_letters (filled_by filling (letters_of run.offset run.type bytes) runs) bytes run known i
of_text_or_value false is_static filling e bytes run runs known i = of_value is_static filling e known i

of_fill_text : {at : ℕ} (is_static : Bool) (filling : Filling) (e : c.Expression) (bytes : List ℕ) (runs : List Run) (known : Known)
    → at < known.next → Notes at known.next known.facts (fill_text at is_static filling e bytes runs known)
of_fill_text is_static filling e bytes [] known i = of_value is_static filling e known i
of_fill_text is_static filling e bytes (run ∷ runs) known i = of_text_or_value (is_character_array run.type) is_static filling e bytes run runs known i

of_unbraced : {at : ℕ} (is_static : Bool) (filling : Filling) (e : c.Expression) (found : Option (List ℕ)) (known : Known)
    → at < known.next → Notes at known.next known.facts (initialiser_without_braces at is_static filling e found known)
of_unbraced is_static filling e None known i = of_value is_static filling e known i
of_unbraced is_static filling e (Some bytes) known i = of_fill_text is_static filling e bytes (opened known is_character_array filling.left) known i

mutual
  pub of_initialiser : (it : c.Initialiser) (is_static : Bool) (filling : Filling) (known : Known) → Whole known (initialiser it is_static filling known)
  of_initialiser (c.Value e) is_static filling known = node known (λ i. of_unbraced is_static filling e (text_in e) (entered known) i)
  of_initialiser (c.Braces list) is_static filling known =
      node known (λ i. part (entered known) i (of_initialisers list is_static (filling_for (entered known) list filling.left) (entered known))
      (λ inner k i. after (judges (faults_of_list list inner filling.left) k) (λ u k le. done k)))

  pub of_initialisers : (them : c.Initialisers) (is_static : Bool) (filling : Filling) (known : Known) → Whole known (initialisers them is_static filling known)
  of_initialisers c.no_initialisers is_static filling known = done known
  of_initialisers (c.an_initialiser first rest) is_static filling known = joined known (of_initialiser first is_static filling known) (λ next k. of_initialisers rest is_static next k)

-- ---- initialisers of objects

of_whole_value : {at : ℕ} (is_static : Bool) (t : CType) (judge : Judges) (e : c.Expression) (known : Known)
    → at < known.next → Notes at known.next known.facts (whole_value at is_static t judge e known)
of_whole_value is_static t judge e known i =
    part known i (whole known (of_expression e as_value known))
    (λ x k i. after (judges ((if is_array t then bad_initialiser ∷ [] else value_faults k is_static t x) ++ judge k t) k) (λ u k le. done k))

of_whole_text : {at : ℕ} (t : CType) (judge : Judges) (bytes : List ℕ) (known : Known)
    → at < known.next → Notes at known.next known.facts (whole_text at t judge bytes known)
of_whole_text t judge bytes known i =
    part known i (of_literal bytes known)
    (λ u k i. after (judges (broken_if bad_initialiser (is_too_long_for t bytes) ++ judge k (with_length t (suc (length bytes)))) k) (λ u k le. done k))

of_text_or_whole : {at : ℕ} (is_text is_static : Bool) (t : CType) (judge : Judges) (e : c.Expression) (bytes : List ℕ) (known : Known)
    → at < known.next → Notes at known.next known.facts ((if is_text then whole_text at t judge bytes else whole_value at is_static t judge e) known)
of_text_or_whole true is_static t judge e bytes known i = of_whole_text t judge bytes known i
of_text_or_whole false is_static t judge e bytes known i = of_whole_value is_static t judge e known i

of_whole : {at : ℕ} (is_static : Bool) (t : CType) (judge : Judges) (e : c.Expression) (found : Option (List ℕ)) (known : Known)
    → at < known.next → Notes at known.next known.facts (whole_without_braces at is_static t judge e found known)
of_whole is_static t judge e None known i = of_whole_value is_static t judge e known i
of_whole is_static t judge e (Some bytes) known i = of_text_or_whole (is_character_array t) is_static t judge e bytes known i

pub of_object_initialiser : (it : c.Initialiser) (is_static : Bool) (t : CType) (judge : Judges) (known : Known) → Whole known (object_initialiser is_static t judge it known)
of_object_initialiser (c.Value e) is_static t judge known = node known (λ i. of_whole is_static t judge e (text_in e) (entered known) i)
of_object_initialiser (c.Braces list) is_static t judge known =
    node known (λ i. part (entered known) i (of_initialisers list is_static (filling_of (entered known) 0 t list) (entered known))
    (λ filled k i. after (judges (list_faults t list filled ++ judge k (with_length t (listed_length k t list filled))) k) (λ u k le. done k)))

of_initialiser_of_none : (it : c.Initialiser) (known : Known) → Whole known (initialiser_of_none it known)
of_initialiser_of_none (c.Value e) known =
    node known (λ i. part (entered known) i (whole (entered known) (of_expression e as_value (entered known))) (λ x k i. judges (bad_initialiser ∷ []) k))
of_initialiser_of_none (c.Braces list) known =
    node known (λ i. part (entered known) i (of_initialisers list false nothing_to_fill (entered known)) (λ filled k i. judges (bad_initialiser ∷ []) k))

-- ---- declarations

of_no_object : (i : Option c.Initialiser) (known : Known) → Whole known (no_object i known)
of_no_object None known = done known
of_no_object (Some i) known = after (of_initialiser_of_none i known) (λ u k le. done k)

-- an object, a function and a name leave the number of the next node, and what is noted
abbrev pub with_start_of : ℕ → Option Start → CType → Known → Option Object → Known
with_start_of n start t known None = known
with_start_of n start t known (Some object) = record known { objects = slice_set known.objects n (record object { type = t; start = start }) }

pub start_leaves : (n : ℕ) (start : Option Start) (t : CType) (known : Known) (found : Option Object)
    → ((with_start_of n start t known found).next ≡ known.next) × ((with_start_of n start t known found).facts ≡ known.facts)
start_leaves n start t known None = (refl, refl)
start_leaves n start t known (Some object) = (refl, refl)

abbrev with_declared_of : List ℕ → CType → Known → Option CType → Known
with_declared_of name t known None = record known { declared = known.declared ++ record { name = name; type = t } ∷ [] }
with_declared_of name t known (Some u) = known

declared_leaves : (name : List ℕ) (t : CType) (known : Known) (found : Option CType)
    → ((with_declared_of name t known found).next ≡ known.next) × ((with_declared_of name t known found).facts ≡ known.facts)
declared_leaves name t known None = (refl, refl)
declared_leaves name t known (Some u) = (refl, refl)

pub function_leaves : (name : List ℕ) (t : CType) (known : Known) → ((with_declared name t known).next ≡ known.next) × ((with_declared name t known).facts ≡ known.facts)
function_leaves name t known = declared_leaves name t known (declared_among name known.declared)

pub of_started_object : (life : Life) (n : ℕ) (i : Option c.Initialiser) (known : Known) → Whole known (started_object life n i known)
of_started_object life n None known = done known
of_started_object life n (Some i) known =
    after (of_object_initialiser i (is_static life) (type_of_object known n) length_faults known)
    (λ it k le. let same = start_leaves n (if is_static life then Some it.start else None) it.type k (slice_get k.objects n) in done_at k _ same.0 same.1)

of_linked_or_new : (is_one : Bool) (life : Life) (at : ℕ) (name : List ℕ) (t : CType) (n : ℕ) (known : Known) → Whole known ((if is_one then gives n else new_object life at name t) known)
of_linked_or_new true life at name t n known = done known
of_linked_or_new false life at name t n known = done _

of_object_for : (life : Life) (at : ℕ) (name : List ℕ) (t : CType) (found : Option ℕ) (known : Known) → Whole known (object_for life at name t found known)
of_object_for life at name t None known = done _
of_object_for life at name t (Some n) known = of_linked_or_new (is_linked life) life at name t n known

pub of_declare_object : (life : Life) (is_register : Bool) (at : ℕ) (name : List ℕ) (t : CType) (known : Known) → Whole known (declare_object life is_register at name t known)
of_declare_object life is_register at name t known = after (of_object_for life at name t (linked_object name known) known) (λ n k le. done _)

of_declare : (kind : Kind) (at : ℕ) (name : List ℕ) (t : CType) (i : Option c.Initialiser) (known : Known) → Whole known (declare kind at name t i known)
of_declare a_type_name at name t i known = of_no_object i (bind_name name (a_typedef t) known)
of_declare a_function_name at name t i known =
    let there : Known = bind_name name a_function (with_declared name t known) in
    let same = function_leaves name t known in from_here known there same.0 same.1 (of_no_object i there)
of_declare (an_object_of life is_register) at name t i known = joined known (of_declare_object life is_register at name t known) (λ n k. of_started_object life n i k)

abbrev pub declare_if_named : Specified → Declares → Option c.Initialiser → Known → Option (List ℕ) → Walk (List Local)
declare_if_named s declared i known None = no_object i
declare_if_named s declared i known (Some name) = declare (kind_of known s.storage declared.type) declared.node name declared.type i

of_declare_if_named : (s : Specified) (declared : Declares) (name : Option (List ℕ)) (i : Option c.Initialiser) (known : Known)
    → Whole known (declare_if_named s declared i known name known)
of_declare_if_named s declared None i known = of_no_object i known
of_declare_if_named s declared (Some name) i known = of_declare (kind_of known s.storage declared.type) declared.node name declared.type i known

pub of_init_declarator : (s : Specified) (d : c.InitDeclarator) (known : Known) → Whole known (init_declarator s d known)
of_init_declarator s d known =
    joined known (of_declarator d.declarator s false (declaration_faults s.storage (is_some d.initialiser)) known) (λ declared k. of_declare_if_named s declared declared.name d.initialiser k)

pub of_init_declarators : (s : Specified) (them : List c.InitDeclarator) (known : Known) → Whole known (init_declarators s them known)
of_init_declarators s [] known = done known
of_init_declarators s (d ∷ ds) known = joined known (of_init_declarator s d known) (λ first k. after (of_init_declarators s ds k) (λ rest k le. done k))

pub of_declaration_by : (effective : Option Storage → Option Storage) (d : c.Declaration) (known : Known) → Whole known (declaration_by effective d known)
of_declaration_by effective d known =
    joined known (of_specifiers d.specifiers (if has_no_declarator d.declarators then alone else elsewhere) known)
    (λ it k. after (of_init_declarators (record it { storage = effective it.storage }) d.declarators k) (λ locals k le. done k))
