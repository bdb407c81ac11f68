-- The walks over declarations and statements leave the functions that were found before as they are.
use Rattle.std.proofs.Common.{◌≡◌, ℕ, suc, Bool, true, false, List, [], ◌∷◌, ◌++◌, length, Option, Some, None}
use Rattle.std.specs.Prelude.{if◌then◌else◌, is_some, slice_get, slice_set, ◌||◌}
use Rattle.lt_model.specs.declared.scalar.Scalar.{Scalar}
use Rattle.lt_tree.specs.declared.specifier.Storage.{Storage}
use Rattle.lt_tree.specs.Tree as c
use Rattle.lt_tree.specs.Typing.Types.{CType, struct_of, is_array, is_integer}
use Rattle.lt_tree.specs.Typing.Extents.{has_too_many_cells}
use Rattle.lt_tree.specs.Typing.Rules.{broken_if, unless, bad_length, bad_initialiser, bad_case, stray_jump}
use Rattle.lt_tree.specs.Typing.TypedTree.{Start}
use Rattle.lt_tree.specs.Typing.Entities.{Known, Function, Object, Life, is_linked, is_static, linked_object, type_of_object, declared_among}
use Rattle.lt_tree.specs.Typing.Steps.{◌>>◌, gives, settle}
use Rattle.lt_tree.specs.Typing.Expressions.{Typed, as_value, as_truth, own_type}
use Rattle.lt_tree.specs.Typing.Operations.{text_type}
use Rattle.lt_tree.specs.Typing.Specifying.{Specified, alone, elsewhere}
use Rattle.lt_tree.specs.Typing.Declarators.{Declares}
use Rattle.lt_tree.specs.Typing.Filling.{Run, Filling, opened, is_struct_of, is_character_array, is_too_long_for, letters_of, value_faults, text_in, filling_of, nothing_to_fill, list_faults}
use Rattle.lt_tree.specs.Typing.InitialiserTyping.{Judges, literal_alone, filled_by, fill_value, value_initialiser, fill_text, initialiser_without_braces, filling_for, faults_of_list, initialiser, initialisers, with_length, whole_value, whole_text, whole_without_braces, listed_length, object_initialiser, initialiser_of_none}
use Rattle.lt_tree.specs.Typing.Declaring.{Kind, a_type_name, a_function_name, an_object_of, kind_of, declaration_faults, with_declared, new_object, object_for, declare_object, length_faults}
use Rattle.lt_tree.specs.Typing.DeclarationTyping.{no_object, started_object, declare, init_declarators, has_no_declarator, declaration_by, effective_in_for}
use Rattle.lt_tree.specs.Typing.StatementTyping.{Around, in_a_loop, in_a_switch, test_faults, optional_test_faults, optional_expression, optional_test, for_start, switch_type, Seen, is_new_case, with_case, case_value, labels, return_faults, statement, items, cases}
use Rattle.lt_sizes.proofs.Walks.{entered, declare_if_named}
use Rattle.lt_sizes.proofs.FunctionsStay.{Stays, went, bind, judged, unmarked, scoped, of_expression, of_mark, of_specifiers, of_declarator}

-- an object that starts so
abbrev starting : ℕ → Option Start → CType → Known → Option Object → Known
starting n start t known None = known
starting n start t known (Some object) = record known { objects = slice_set known.objects n (record object { type = t; start = start }) }

abbrev declared_of : List ℕ → CType → Known → Option CType → Known
declared_of name t known None = record known { declared = known.declared ++ record { name = name; type = t } ∷ [] }
declared_of name t known (Some u) = known

module _ {fs : List Function} where
  -- ---- initialisers

  of_literal : (bytes : List ℕ) (known : Known) → known.functions ≡ fs → Stays fs (literal_alone bytes known)
  of_literal bytes known h = bind (judged known.next (broken_if bad_length (has_too_many_cells known.structs (text_type bytes))) (entered known) h) (λ u k h. went h)

  of_fill_value : (node : ℕ) (is_static : Bool) (filling : Filling) (x : Typed) (at : Known) (runs : List Run) (known : Known) → known.functions ≡ fs → Stays fs (fill_value node is_static filling x at runs known)
  of_fill_value node is_static filling x at [] known h = went h
  of_fill_value node is_static filling x at (run ∷ runs) known h = bind (judged node (value_faults at is_static run.type x) known h) (λ u k h. went h)

  of_value : (node : ℕ) (is_static : Bool) (filling : Filling) (it : c.Expression) (known : Known) → known.functions ≡ fs → Stays fs (value_initialiser node is_static filling it known)
  of_value node is_static filling it known h =
      bind (of_expression it as_value known h) (λ x k h. of_fill_value node is_static filling x k (opened k (is_struct_of (struct_of (own_type x))) filling.left) k h)

  of_text_or_value : (node : ℕ) (is_text is_static : Bool) (filling : Filling) (it : c.Expression) (bytes : List ℕ) (run : Run) (runs : List Run) (known : Known) → known.functions ≡ fs
      → Stays fs ((if is_text then (literal_alone bytes >> (settle node (broken_if bad_initialiser (is_too_long_for run.type bytes)) >> gives (filled_by filling (letters_of run.offset run.type bytes) runs)))
      else value_initialiser node is_static filling it) known)
  of_text_or_value node true is_static filling it bytes run runs known h =
      bind (of_literal bytes known h) (λ u k h. bind (judged node (broken_if bad_initialiser (is_too_long_for run.type bytes)) k h) (λ u k h. went h))
  of_text_or_value node false is_static filling it bytes run runs known h = of_value node is_static filling it known h

  of_fill_text : (node : ℕ) (is_static : Bool) (filling : Filling) (it : c.Expression) (bytes : List ℕ) (runs : List Run) (known : Known) → known.functions ≡ fs
      → Stays fs (fill_text node is_static filling it bytes runs known)
  of_fill_text node is_static filling it bytes [] known h = of_value node is_static filling it known h
  of_fill_text node is_static filling it bytes (run ∷ runs) known h = of_text_or_value node (is_character_array run.type) is_static filling it bytes run runs known h

  of_unbraced : (node : ℕ) (is_static : Bool) (filling : Filling) (it : c.Expression) (found : Option (List ℕ)) (known : Known) → known.functions ≡ fs
      → Stays fs (initialiser_without_braces node is_static filling it found known)
  of_unbraced node is_static filling it None known h = of_value node is_static filling it known h
  of_unbraced node is_static filling it (Some bytes) known h = of_fill_text node is_static filling it bytes (opened known is_character_array filling.left) known h

  mutual
    of_initialiser : (it : c.Initialiser) (is_static : Bool) (filling : Filling) (known : Known) → known.functions ≡ fs → Stays fs (initialiser it is_static filling known)
    of_initialiser (c.Value it) is_static filling known h = of_unbraced known.next is_static filling it (text_in it) (entered known) h
    of_initialiser (c.Braces list) is_static filling known h =
        bind (of_initialisers list is_static (filling_for (entered known) list filling.left) (entered known) h)
        (λ inner k h. bind (judged known.next (faults_of_list list inner filling.left) k h) (λ u k h. went h))

    of_initialisers : (them : c.Initialisers) (is_static : Bool) (filling : Filling) (known : Known) → known.functions ≡ fs → Stays fs (initialisers them is_static filling known)
    of_initialisers c.no_initialisers is_static filling known h = went h
    of_initialisers (c.an_initialiser first rest) is_static filling known h = bind (of_initialiser first is_static filling known h) (λ next k h. of_initialisers rest is_static next k h)

  of_whole_value : (node : ℕ) (is_static : Bool) (t : CType) (judge : Judges) (it : c.Expression) (known : Known) → known.functions ≡ fs → Stays fs (whole_value node is_static t judge it known)
  of_whole_value node is_static t judge it known h =
      bind (of_expression it as_value known h) (λ x k h. bind (judged node ((if is_array t then bad_initialiser ∷ [] else value_faults k is_static t x) ++ judge k t) k h) (λ u k h. went h))

  of_text_or_whole : (node : ℕ) (is_text is_static : Bool) (t : CType) (judge : Judges) (it : c.Expression) (bytes : List ℕ) (known : Known) → known.functions ≡ fs
      → Stays fs ((if is_text then whole_text node t judge bytes else whole_value node is_static t judge it) known)
  of_text_or_whole node true is_static t judge it bytes known h =
      bind (of_literal bytes known h) (λ u k h. bind (judged node (broken_if bad_initialiser (is_too_long_for t bytes) ++ judge k (with_length t (suc (length bytes)))) k h) (λ u k h. went h))
  of_text_or_whole node false is_static t judge it bytes known h = of_whole_value node is_static t judge it known h

  of_whole : (node : ℕ) (is_static : Bool) (t : CType) (judge : Judges) (it : c.Expression) (found : Option (List ℕ)) (known : Known) → known.functions ≡ fs
      → Stays fs (whole_without_braces node is_static t judge it found known)
  of_whole node is_static t judge it None known h = of_whole_value node is_static t judge it known h
  of_whole node is_static t judge it (Some bytes) known h = of_text_or_whole node (is_character_array t) is_static t judge it bytes known h

  of_object_initialiser : (it : c.Initialiser) (is_static : Bool) (t : CType) (judge : Judges) (known : Known) → known.functions ≡ fs → Stays fs (object_initialiser is_static t judge it known)
  of_object_initialiser (c.Value it) is_static t judge known h = of_whole known.next is_static t judge it (text_in it) (entered known) h
  of_object_initialiser (c.Braces list) is_static t judge known h =
      bind (of_initialisers list is_static (filling_of (entered known) 0 t list) (entered known) h)
      (λ filled k h. bind (judged known.next (list_faults t list filled ++ judge k (with_length t (listed_length k t list filled))) k h) (λ u k h. went h))

  of_initialiser_of_none : (it : c.Initialiser) (known : Known) → known.functions ≡ fs → Stays fs (initialiser_of_none it known)
  of_initialiser_of_none (c.Value it) known h = bind (of_expression it as_value (entered known) h) (λ x k h. judged known.next (bad_initialiser ∷ []) k h)
  of_initialiser_of_none (c.Braces list) known h = bind (of_initialisers list false nothing_to_fill (entered known) h) (λ filled k h. judged known.next (bad_initialiser ∷ []) k h)

  -- ---- declarations

  of_no_object : (i : Option c.Initialiser) (known : Known) → known.functions ≡ fs → Stays fs (no_object i known)
  of_no_object None known h = went h
  of_no_object (Some i) known h = bind (of_initialiser_of_none i known h) (λ u k h. went h)

  with_start_stays : (n : ℕ) (start : Option Start) (t : CType) (known : Known) (found : Option Object) → known.functions ≡ fs → (starting n start t known found).functions ≡ fs
  with_start_stays n start t known None h = h
  with_start_stays n start t known (Some object) h = h

  of_started_object : (life : Life) (n : ℕ) (i : Option c.Initialiser) (known : Known) → known.functions ≡ fs → Stays fs (started_object life n i known)
  of_started_object life n None known h = went h
  of_started_object life n (Some i) known h =
      bind (of_object_initialiser i (is_static life) (type_of_object known n) length_faults known h)
      (λ it k h. went (with_start_stays n (if is_static life then Some it.start else None) it.type k (slice_get k.objects n) h))

  of_linked_or_new : (is_one : Bool) (life : Life) (node : ℕ) (name : List ℕ) (t : CType) (n : ℕ) (known : Known) → known.functions ≡ fs
      → Stays fs ((if is_one then gives n else new_object life node name t) known)
  of_linked_or_new true life node name t n known h = went h
  of_linked_or_new false life node name t n known h = went h

  of_object_for : (life : Life) (node : ℕ) (name : List ℕ) (t : CType) (found : Option ℕ) (known : Known) → known.functions ≡ fs → Stays fs (object_for life node name t found known)
  of_object_for life node name t None known h = went h
  of_object_for life node name t (Some n) known h = of_linked_or_new (is_linked life) life node name t n known h

  of_declare_object : (life : Life) (is_register : Bool) (node : ℕ) (name : List ℕ) (t : CType) (known : Known) → known.functions ≡ fs → Stays fs (declare_object life is_register node name t known)
  of_declare_object life is_register node name t known h = bind (of_object_for life node name t (linked_object name known) known h) (λ n k h. went h)

  declared_of_stays : (name : List ℕ) (t : CType) (known : Known) (found : Option CType) → known.functions ≡ fs → (declared_of name t known found).functions ≡ fs
  declared_of_stays name t known None h = h
  declared_of_stays name t known (Some u) h = h

  pub declared_stays : (name : List ℕ) (t : CType) (known : Known) → known.functions ≡ fs → (with_declared name t known).functions ≡ fs
  declared_stays name t known h = declared_of_stays name t known (declared_among name known.declared) h

  of_declare : (kind : Kind) (node : ℕ) (name : List ℕ) (t : CType) (i : Option c.Initialiser) (known : Known) → known.functions ≡ fs → Stays fs (declare kind node name t i known)
  of_declare a_type_name node name t i known h = of_no_object i _ h
  of_declare a_function_name node name t i known h = of_no_object i _ (declared_stays name t known h)
  of_declare (an_object_of life is_register) node name t i known h = bind (of_declare_object life is_register node name t known h) (λ n k h. of_started_object life n i k h)

  of_declare_if_named : (it : Specified) (declared : Declares) (name : Option (List ℕ)) (i : Option c.Initialiser) (at known : Known) → known.functions ≡ fs
      → Stays fs (declare_if_named it declared i at name known)
  of_declare_if_named it declared None i at known h = of_no_object i known h
  of_declare_if_named it declared (Some name) i at known h = of_declare (kind_of at it.storage declared.type) declared.node name declared.type i known h

  of_init_declarators : (it : Specified) (them : List c.InitDeclarator) (known : Known) → known.functions ≡ fs → Stays fs (init_declarators it them known)
  of_init_declarators it [] known h = went h
  of_init_declarators it (d ∷ ds) known h =
      bind (bind (of_declarator d.declarator it false (declaration_faults it.storage (is_some d.initialiser)) known h) (λ declared k h. of_declare_if_named it declared declared.name d.initialiser k k h))
      (λ first k h. bind (of_init_declarators it ds k h) (λ rest k h. went h))

  pub of_declaration_by : (effective : Option Storage → Option Storage) (d : c.Declaration) (known : Known) → known.functions ≡ fs → Stays fs (declaration_by effective d known)
  of_declaration_by effective d known h =
      bind (of_specifiers d.specifiers (if has_no_declarator d.declarators then alone else elsewhere) known h)
      (λ it k h. bind (of_init_declarators (record it { storage = effective it.storage }) d.declarators k h) (λ locals k h. went h))

  -- ---- statements

  of_optional : (it : Option c.Expression) (known : Known) → known.functions ≡ fs → Stays fs (optional_expression it known)
  of_optional None known h = went h
  of_optional (Some it) known h = bind (of_expression it as_value known h) (λ x k h. went h)

  of_optional_test : (it : Option c.Expression) (known : Known) → known.functions ≡ fs → Stays fs (optional_test it known)
  of_optional_test None known h = went h
  of_optional_test (Some it) known h = bind (of_expression it as_truth known h) (λ x k h. went h)

  of_start : (it : c.ForStart) (known : Known) → known.functions ≡ fs → Stays fs (for_start it known)
  of_start c.Nothing known h = went h
  of_start (c.First it) known h = bind (of_expression it as_value known h) (λ x k h. went h)
  of_start (c.Declares d) known h = bind (of_declaration_by effective_in_for d known h) (λ it k h. went h)

  of_labels : (them : List c.Label) (scalar : Option Scalar) (seen : Seen) (known : Known) → known.functions ≡ fs → Stays fs (labels them scalar seen known)
  of_labels [] scalar seen known h = went h
  of_labels (c.Case it ∷ rest) scalar seen known h =
      bind (unmarked known.is_unmarked (of_expression it as_value _ h)) (λ x k h. bind
      (bind (judged known.next (unless (is_new_case seen (case_value k.model scalar x)) bad_case) k h) (λ u k h. went h))
      (λ z k h. bind (of_labels rest scalar (with_case seen z) k h) (λ others k h. went h)))
  of_labels (c.Default ∷ rest) scalar seen known h =
      bind (judged known.next (broken_if bad_case seen.has_default) (entered known) h)
      (λ u k h. bind (of_labels rest scalar (record seen { has_default = true }) k h) (λ others k h. went h))

  mutual
    of_statement : (it : c.Statement) (around : Around) (known : Known) → known.functions ≡ fs → Stays fs (statement it around known)
    of_statement (c.Compound list) around known h = bind (scoped _ (of_items list around _ h)) (λ found k h. went h)
    of_statement (c.Evaluates it) around known h = bind (of_expression it as_value _ h) (λ x k h. went h)
    of_statement c.Null around known h = went h
    of_statement (c.If test body) around known h =
        scoped _ (bind (of_expression test as_truth _ h) (λ x k h. bind (scoped _ (of_statement body around _ h)) (λ first k h. bind (judged known.next (test_faults x) k h) (λ u k h. went h))))
    of_statement (c.IfElse test body other) around known h =
        scoped _ (bind (of_expression test as_truth _ h) (λ x k h. bind (scoped _ (of_statement body around _ h)) (λ first k h. bind (scoped _ (of_statement other around _ h))
        (λ second k h. bind (judged known.next (test_faults x) k h) (λ u k h. went h)))))
    of_statement (c.While test body) around known h =
        scoped _ (bind (of_expression test as_truth _ h) (λ x k h. bind (scoped _ (of_statement body (in_a_loop around) _ h)) (λ first k h. bind (judged known.next (test_faults x) k h) (λ u k h. went h))))
    of_statement (c.Do body test) around known h =
        scoped _ (bind (scoped _ (of_statement body (in_a_loop around) _ h)) (λ first k h. bind (of_expression test as_truth k h) (λ x k h. bind (judged known.next (test_faults x) k h) (λ u k h. went h))))
    of_statement (c.For begin test step body) around known h =
        scoped _ (bind (of_start begin _ h) (λ b k h. bind (of_optional_test test k h) (λ x k h. bind (of_optional step k h) (λ y k h. bind (scoped _ (of_statement body (in_a_loop around) _ h))
        (λ first k h. bind (judged known.next (b.faults ++ optional_test_faults x) k h) (λ u k h. went h))))))
    of_statement (c.Switch operand list) around known h =
        scoped _ (bind (of_expression operand as_truth _ h) (λ x k h. bind (of_cases list (switch_type k.model x) (record { values = []; has_default = false }) (in_a_switch around) k h)
        (λ found k h. bind (judged known.next (test_faults x ++ unless (is_integer (own_type x)) bad_case) k h) (λ u k h. went h))))
    of_statement c.Break around known h = bind (judged known.next (unless (around.in_loop || around.in_switch) stray_jump) (entered known) h) (λ u k h. went h)
    of_statement c.Continue around known h = bind (judged known.next (unless around.in_loop stray_jump) (entered known) h) (λ u k h. went h)
    of_statement (c.Return it) around known h = bind (of_optional it _ h) (λ x k h. bind (judged known.next (return_faults around.result x) k h) (λ u k h. went h))

    pub of_items : (them : c.Items) (around : Around) (known : Known) → known.functions ≡ fs → Stays fs (items them around known)
    of_items c.no_items around known h = went h
    of_items (c.a_declaration first rest) around known h =
        bind (of_declaration_by (λ class. class) first _ h) (λ it k h. bind (judged known.next it.faults k h) (λ u k h. bind (of_items rest around k h) (λ others k h. went h)))
    of_items (c.a_statement first rest) around known h = bind (of_statement first around _ h) (λ s k h. bind (of_items rest around k h) (λ others k h. went h))
    of_items (c.a_label first rest) around known h = bind (of_mark first _ h) (λ m k h. bind (of_items rest around k h) (λ others k h. went h))

    of_cases : (them : c.Cases) (scalar : Option Scalar) (seen : Seen) (around : Around) (known : Known) → known.functions ≡ fs → Stays fs (cases them scalar seen around known)
    of_cases c.no_cases scalar seen around known h = went h
    of_cases (c.a_case list first rest) scalar seen around known h =
        bind (of_labels list scalar seen known h) (λ it k h. bind (scoped _ (of_statement first around _ h)) (λ s k h. bind (of_cases rest scalar it.seen around k h) (λ others k h. went h)))
