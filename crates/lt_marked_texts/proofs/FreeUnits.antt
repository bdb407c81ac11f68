-- In a typed unit no mark stands in type names and operands of `sizeof`: declarations, statements and externals.
use Rattle.std.proofs.Common.{◌≡◌, ℕ, suc, Bool, true, false, List, [], ◌∷◌, ◌++◌, length, Option, Some, None, refl}
use Rattle.std.specs.Prelude.{if◌then◌else◌, is_some, ◌||◌}
use Rattle.lt_model.specs.declared.scalar.Scalar.{Scalar}
use Rattle.lt_tree.specs.declared.specifier.Storage.{Storage}
use Rattle.lt_tree.specs.Tree as c
use Rattle.lt_tree.specs.Typing.Types.{CType, struct_of, is_array, is_integer}
use Rattle.lt_tree.specs.Typing.Extents.{has_too_many_cells}
use Rattle.lt_tree.specs.Typing.Rules.{broken_if, unless, bad_length, bad_initialiser, bad_case, stray_jump}
use Rattle.lt_tree.specs.Typing.TypedTree.{Local}
use Rattle.lt_tree.specs.Typing.Entities.{Known, Life, no_names, declared_among, is_linked, is_static, linked_object, type_of_object}
use Rattle.lt_tree.specs.Typing.Steps.{Goes, Walk, gives, settle, ◌>>◌}
use Rattle.lt_tree.specs.Typing.Expressions.{Typed, as_value, as_truth, own_type}
use Rattle.lt_tree.specs.Typing.Operations.{text_type}
use Rattle.lt_tree.specs.Typing.Specifying.{Specified, alone, elsewhere}
use Rattle.lt_tree.specs.Typing.Declarators.{Declares}
use Rattle.lt_tree.specs.Typing.Filling.{Run, Filling, opened, is_struct_of, is_character_array, is_too_long_for, letters_of, value_faults, text_in, filling_of, nothing_to_fill, list_faults}
use Rattle.lt_tree.specs.Typing.InitialiserTyping.{Judges, literal_alone, filled_by, fill_value, value_initialiser, fill_text, initialiser_without_braces, filling_for, faults_of_list, initialiser, initialisers, with_length, whole_value, whole_text, whole_without_braces, listed_length, object_initialiser, initialiser_of_none}
use Rattle.lt_tree.specs.Typing.Declaring.{Kind, a_type_name, a_function_name, an_object_of, kind_of, declaration_faults, declare_function, with_declared, new_object, object_for, declare_object, length_faults}
use Rattle.lt_tree.specs.Typing.DeclarationTyping.{no_object, started_object, declare, init_declarators, has_no_declarator, declaration_by, declaration, effective_in_for}
use Rattle.lt_tree.specs.Typing.StatementTyping.{Around, in_a_loop, in_a_switch, test_faults, optional_test_faults, optional_expression, optional_test, for_start, switch_type, Seen, is_new_case, with_case, case_value, labels, return_faults, statement, items, cases}
use Rattle.lt_marked_texts.proofs.Free.{Free, FreeInitialiser, FreeInitialisers, FreeInit, FreeDeclarators, FreeDeclaration, FreeOptional, FreeStart, FreeStatement, FreeItems, FreeCases}
use Rattle.lt_marked_texts.proofs.Walking.{inside_node, Past, Since, Walks, went, bind, onward, judged, entered, in_frames, scoped, unmarked_here, marked_behind, one_more, started}
use Rattle.lt_marked_texts.proofs.FreeExpressions.{nothing, of_expression, of_mark, of_specifiers, of_declarator}

literal_free : (e : c.Expression) (bytes : List ℕ) → text_in e ≡ Some bytes → Free false e
literal_free (c.Text bytes) other h = tt
literal_free e bytes h = absurd cc

abbrev declare_if_named : Specified → Declares → Option c.Initialiser → Known → Option (List ℕ) → Walk (List Local)
declare_if_named it declared i known None = no_object i
declare_if_named it declared i known (Some name) = declare (kind_of known it.storage declared.type) declared.node name declared.type i

module _ {past : Past} where
  done : {A P : Type 0} {a : A} (known : Known) → Since false past known → P → Walks P false past (Goes a known)
  done known s p = went s p

  -- ---- initialisers

  of_literal : (bytes : List ℕ) (known : Known) → Since false past known → Walks (Unit {0}) false past (literal_alone bytes known)
  of_literal bytes known s =
      bind (judged _ (broken_if bad_length (has_too_many_cells known.structs (text_type bytes))) _ (entered known s) (λ clean. nothing)) (λ u k s p. went (record { unmarked = s.unmarked; behind = s.behind; functions = s.functions }) tt)

  of_fill_value : {P : Type 0} (node : ℕ) (is_static : Bool) (filling : Filling) (x : Typed) (runs : List Run) (known : Known) → Since false past known → P
      → Walks P false past (fill_value node is_static filling x known runs known)
  of_fill_value node is_static filling x [] known s p = done known s p
  of_fill_value node is_static filling x (run ∷ runs) known s p = bind (judged node (value_faults known is_static run.type x) known s (λ clean. p)) (λ u k s p. done k s p)

  of_value : (node : ℕ) (is_static : Bool) (filling : Filling) (e : c.Expression) (known : Known) → Since false past known → Walks (Free false e) false past (value_initialiser node is_static filling e known)
  of_value node is_static filling e known s =
      bind (of_expression e as_value known s) (λ x k s p. of_fill_value node is_static filling x (opened k (is_struct_of (struct_of (own_type x))) filling.left) k s p)

  of_text_or_value : (node : ℕ) (is_text is_static : Bool) (filling : Filling) (e : c.Expression) (bytes : List ℕ) (run : Run) (runs : List Run) (known : Known) → Since false past known
      → Free false e
      → Walks (Free false e) false past ((if is_text then (literal_alone bytes >> (settle node (broken_if bad_initialiser (is_too_long_for run.type bytes)) >> gives (filled_by filling (letters_of run.offset run.type bytes) runs)))
      else value_initialiser node is_static filling e) known)
  of_text_or_value node true is_static filling e bytes run runs known s free =
      bind (of_literal bytes known s) (λ u k s p. bind (judged node (broken_if bad_initialiser (is_too_long_for run.type bytes)) k s (λ clean. free)) (λ u k s p. done k s p))
  of_text_or_value node false is_static filling e bytes run runs known s free = of_value node is_static filling e known s

  of_fill_text : (node : ℕ) (is_static : Bool) (filling : Filling) (e : c.Expression) (bytes : List ℕ) (runs : List Run) (known : Known) → Since false past known → Free false e
      → Walks (Free false e) false past (fill_text node is_static filling e bytes runs known)
  of_fill_text node is_static filling e bytes [] known s free = of_value node is_static filling e known s
  of_fill_text node is_static filling e bytes (run ∷ runs) known s free = of_text_or_value node (is_character_array run.type) is_static filling e bytes run runs known s free

  of_unbraced : (node : ℕ) (is_static : Bool) (filling : Filling) (e : c.Expression) (found : Option (List ℕ)) (known : Known) → text_in e ≡ found → Since false past known
      → Walks (Free false e) false past (initialiser_without_braces node is_static filling e found known)
  of_unbraced node is_static filling e None known is s = of_value node is_static filling e known s
  of_unbraced node is_static filling e (Some bytes) known is s = of_fill_text node is_static filling e bytes (opened known is_character_array filling.left) known s (literal_free e bytes is)

  mutual
    of_initialiser : (it : c.Initialiser) (is_static : Bool) (filling : Filling) (known : Known) → Since false past known → Walks (FreeInitialiser it) false past (initialiser it is_static filling known)
    of_initialiser (c.Value e) is_static filling known s = of_unbraced _ is_static filling e (text_in e) _ refl (entered known s)
    of_initialiser (c.Braces list) is_static filling known s =
        bind (of_initialisers list is_static (filling_for (inside_node known) list filling.left) _ (entered known s))
        (λ inner k s a. bind (judged _ (faults_of_list list inner filling.left) k s (λ clean. a)) (λ u k s a. done k s a))

    of_initialisers : (them : c.Initialisers) (is_static : Bool) (filling : Filling) (known : Known) → Since false past known → Walks (FreeInitialisers them) false past (initialisers them is_static filling known)
    of_initialisers c.no_initialisers is_static filling known s = done known s tt
    of_initialisers (c.an_initialiser first rest) is_static filling known s =
        bind (of_initialiser first is_static filling known s) (λ next k s a. onward (of_initialisers rest is_static next k s) (λ b. (a, b)))

  of_whole_value : (node : ℕ) (is_static : Bool) (t : CType) (judge : Judges) (e : c.Expression) (known : Known) → Since false past known → Walks (Free false e) false past (whole_value node is_static t judge e known)
  of_whole_value node is_static t judge e known s =
      bind (of_expression e as_value known s) (λ x k s a. bind (judged node ((if is_array t then bad_initialiser ∷ [] else value_faults k is_static t x) ++ judge k t) k s (λ clean. a)) (λ u k s a. done k s a))

  of_text_or_whole : (node : ℕ) (is_text is_static : Bool) (t : CType) (judge : Judges) (e : c.Expression) (bytes : List ℕ) (known : Known) → Since false past known → Free false e
      → Walks (Free false e) false past ((if is_text then whole_text node t judge bytes else whole_value node is_static t judge e) known)
  of_text_or_whole node true is_static t judge e bytes known s free =
      bind (of_literal bytes known s) (λ u k s p. bind (judged node (broken_if bad_initialiser (is_too_long_for t bytes) ++ judge k (with_length t (suc (length bytes)))) k s (λ clean. free)) (λ u k s p. done k s p))
  of_text_or_whole node false is_static t judge e bytes known s free = of_whole_value node is_static t judge e known s

  of_whole : (node : ℕ) (is_static : Bool) (t : CType) (judge : Judges) (e : c.Expression) (found : Option (List ℕ)) (known : Known) → text_in e ≡ found → Since false past known
      → Walks (Free false e) false past (whole_without_braces node is_static t judge e found known)
  of_whole node is_static t judge e None known is s = of_whole_value node is_static t judge e known s
  of_whole node is_static t judge e (Some bytes) known is s = of_text_or_whole node (is_character_array t) is_static t judge e bytes known s (literal_free e bytes is)

  of_object_initialiser : (it : c.Initialiser) (is_static : Bool) (t : CType) (judge : Judges) (known : Known) → Since false past known → Walks (FreeInitialiser it) false past (object_initialiser is_static t judge it known)
  of_object_initialiser (c.Value e) is_static t judge known s = of_whole _ is_static t judge e (text_in e) _ refl (entered known s)
  of_object_initialiser (c.Braces list) is_static t judge known s =
      bind (of_initialisers list is_static (filling_of (inside_node known) 0 t list) _ (entered known s))
      (λ filled k s a. bind (judged _ (list_faults t list filled ++ judge k (with_length t (listed_length k t list filled))) k s (λ clean. a)) (λ u k s a. done k s a))

  of_initialiser_of_none : (it : c.Initialiser) (known : Known) → Since false past known → Walks (FreeInitialiser it) false past (initialiser_of_none it known)
  of_initialiser_of_none (c.Value e) known s = bind (of_expression e as_value _ (entered known s)) (λ x k s a. judged _ (bad_initialiser ∷ []) k s (λ clean. a))
  of_initialiser_of_none (c.Braces list) known s = bind (of_initialisers list false nothing_to_fill _ (entered known s)) (λ filled k s a. judged _ (bad_initialiser ∷ []) k s (λ clean. a))

  -- ---- declarations

  of_no_object : (i : Option c.Initialiser) (known : Known) → Since false past known → Walks (FreeInit i) false past (no_object i known)
  of_no_object None known s = done known s tt
  of_no_object (Some i) known s = bind (of_initialiser_of_none i known s) (λ u k s a. done k s a)

  of_started_object : (life : Life) (n : ℕ) (i : Option c.Initialiser) (known : Known) → Since false past known → Walks (FreeInit i) false past (started_object life n i known)
  of_started_object life n None known s = done known s tt
  of_started_object life n (Some i) known s =
      bind (of_object_initialiser i (is_static life) (type_of_object known n) length_faults known s) (λ it k s a. went (started n (if is_static life then Some it.start else None) it.type k s) a)

  of_new_object : (life : Life) (node : ℕ) (name : List ℕ) (t : CType) (known : Known) → Since false past known → Walks (Unit {0}) false past (new_object life node name t known)
  of_new_object life node name t known s = went (one_more _ known s) tt

  of_linked_or_new : (is_one : Bool) (life : Life) (node : ℕ) (name : List ℕ) (t : CType) (n : ℕ) (known : Known) → Since false past known
      → Walks (Unit {0}) false past ((if is_one then gives n else new_object life node name t) known)
  of_linked_or_new true life node name t n known s = done known s tt
  of_linked_or_new false life node name t n known s = of_new_object life node name t known s

  of_object_for : (life : Life) (node : ℕ) (name : List ℕ) (t : CType) (found : Option ℕ) (known : Known) → Since false past known → Walks (Unit {0}) false past (object_for life node name t found known)
  of_object_for life node name t None known s = of_new_object life node name t known s
  of_object_for life node name t (Some n) known s = of_linked_or_new (is_linked life) life node name t n known s

  of_declare_object : (life : Life) (is_register : Bool) (node : ℕ) (name : List ℕ) (t : CType) (known : Known) → Since false past known
      → Walks (Unit {0}) false past (declare_object life is_register node name t known)
  of_declare_object life is_register node name t known s =
      bind (of_object_for life node name t (linked_object name known) known s) (λ n k s p. went (in_frames _ k s) tt)

  with_function_by : (found : Option CType) (name : List ℕ) (t : CType) (known : Known) → Since false past known
      → Since false past (elim found [ None ↦ record known { declared = known.declared ++ record { name = name; type = t } ∷ [] } | Some u ↦ known ])
  with_function_by None name t known s = record { unmarked = s.unmarked; behind = s.behind; functions = s.functions }
  with_function_by (Some u) name t known s = s

  -- a function is declared
  pub with_function : (name : List ℕ) (t : CType) (known : Known) → Since false past known → Walks (Unit {0}) false past (declare_function name t known)
  with_function name t known s = went (in_frames _ (with_declared name t known) (with_function_by (declared_among name known.declared) name t known s)) tt

  of_declare : (kind : Kind) (node : ℕ) (name : List ℕ) (t : CType) (i : Option c.Initialiser) (known : Known) → Since false past known → Walks (FreeInit i) false past (declare kind node name t i known)
  of_declare a_type_name node name t i known s = of_no_object i _ (in_frames _ known s)
  of_declare a_function_name node name t i known s = bind (with_function name t known s) (λ u k s p. of_no_object i k s)
  of_declare (an_object_of life is_register) node name t i known s = bind (of_declare_object life is_register node name t known s) (λ n k s p. of_started_object life n i k s)

  of_declare_if_named : (it : Specified) (declared : Declares) (name : Option (List ℕ)) (i : Option c.Initialiser) (known : Known) → Since false past known
      → Walks (FreeInit i) false past (declare_if_named it declared i known name known)
  of_declare_if_named it declared None i known s = of_no_object i known s
  of_declare_if_named it declared (Some name) i known s = of_declare (kind_of known it.storage declared.type) declared.node name declared.type i known s

  of_init_declarators : (it : Specified) (them : List c.InitDeclarator) (known : Known) → Since false past known → Walks (FreeDeclarators them) false past (init_declarators it them known)
  of_init_declarators it [] known s = done known s tt
  of_init_declarators it (d ∷ ds) known s =
      bind (bind (of_declarator d.declarator it false (declaration_faults it.storage (is_some d.initialiser)) known s) (λ declared k s p. of_declare_if_named it declared declared.name d.initialiser k s))
      (λ first k s a. bind (of_init_declarators it ds k s) (λ rest k s b. done k s (a, b)))

  of_declaration_by : (effective : Option Storage → Option Storage) (d : c.Declaration) (known : Known) → Since false past known → Walks (FreeDeclaration d) false past (declaration_by effective d known)
  of_declaration_by effective d known s =
      bind (of_specifiers d.specifiers (if has_no_declarator d.declarators then alone else elsewhere) known s)
      (λ it k s p. bind (of_init_declarators (record it { storage = effective it.storage }) d.declarators k s) (λ locals k s a. done k s a))

  pub of_declaration : (d : c.Declaration) (known : Known) → Since false past known → Walks (FreeDeclaration d) false past (declaration d known)
  of_declaration d known s = of_declaration_by (λ class. class) d known s

  -- ---- parts of statements

  of_optional : (it : Option c.Expression) (known : Known) → Since false past known → Walks (FreeOptional it) false past (optional_expression it known)
  of_optional None known s = done known s tt
  of_optional (Some it) known s = bind (of_expression it as_value known s) (λ x k s a. done k s a)

  of_optional_test : (it : Option c.Expression) (known : Known) → Since false past known → Walks (FreeOptional it) false past (optional_test it known)
  of_optional_test None known s = done known s tt
  of_optional_test (Some it) known s = bind (of_expression it as_truth known s) (λ x k s a. done k s a)

  of_start : (it : c.ForStart) (known : Known) → Since false past known → Walks (FreeStart it) false past (for_start it known)
  of_start c.Nothing known s = done known s tt
  of_start (c.First it) known s = bind (of_expression it as_value known s) (λ x k s a. done k s a)
  of_start (c.Declares d) known s = bind (of_declaration_by effective_in_for d known s) (λ it k s a. done k s a)

  of_labels : (them : List c.Label) (scalar : Option Scalar) (seen : Seen) (known : Known) → Since false past known → Walks (Unit {0}) false past (labels them scalar seen known)
  of_labels [] scalar seen known s = done known s tt
  of_labels (c.Case it ∷ rest) scalar seen known s =
      bind (marked_behind known.is_unmarked s.unmarked (of_expression it as_value _ (unmarked_here _ (entered known s)))) (λ x k s p. bind
      (bind (judged _ (unless (is_new_case seen (case_value k.model scalar x)) bad_case) k s (λ clean. nothing)) (λ u k s p. done {P = Unit {0}} k s tt))
      (λ z k s p. bind (of_labels rest scalar (with_case seen z) k s) (λ others k s p. done k s tt)))
  of_labels (c.Default ∷ rest) scalar seen known s =
      bind (judged _ (broken_if bad_case seen.has_default) _ (entered known s) (λ clean. nothing)) (λ u k s p. bind (of_labels rest scalar (record seen { has_default = true }) k s) (λ others k s p. done k s tt))

  -- ---- statements

  inner : (known : Known) → Since false past known → Since false past (record known { frames = no_names ∷ known.frames })
  inner known s = in_frames _ known s

  mutual
    of_statement : (it : c.Statement) (around : Around) (known : Known) → Since false past known → Walks (FreeStatement it) false past (statement it around known)
    of_statement (c.Compound list) around known s = bind (scoped known.frames (of_items list around _ (inner _ (entered known s)))) (λ found k s a. done k s a)
    of_statement (c.Evaluates it) around known s = bind (of_expression it as_value _ (entered known s)) (λ x k s a. done k s a)
    of_statement c.Null around known s = done _ (entered known s) tt
    of_statement (c.If test body) around known s =
        scoped known.frames (bind (of_expression test as_truth _ (inner _ (entered known s))) (λ x k s a. bind (scoped k.frames (of_statement body around _ (inner k s)))
        (λ first k s b. bind (judged _ (test_faults x) k s (λ clean. nothing)) (λ u k s p. done k s (a, b)))))
    of_statement (c.IfElse test body other) around known s =
        scoped known.frames (bind (of_expression test as_truth _ (inner _ (entered known s))) (λ x k s a. bind (scoped k.frames (of_statement body around _ (inner k s)))
        (λ first k s b. bind (scoped k.frames (of_statement other around _ (inner k s))) (λ second k s e. bind (judged _ (test_faults x) k s (λ clean. nothing)) (λ u k s p. done k s (a, b, e))))))
    of_statement (c.While test body) around known s =
        scoped known.frames (bind (of_expression test as_truth _ (inner _ (entered known s))) (λ x k s a. bind (scoped k.frames (of_statement body (in_a_loop around) _ (inner k s)))
        (λ first k s b. bind (judged _ (test_faults x) k s (λ clean. nothing)) (λ u k s p. done k s (a, b)))))
    of_statement (c.Do body test) around known s =
        scoped known.frames (bind (scoped _ (of_statement body (in_a_loop around) _ (inner _ (inner _ (entered known s))))) (λ first k s a. bind (of_expression test as_truth k s)
        (λ x k s b. bind (judged _ (test_faults x) k s (λ clean. nothing)) (λ u k s p. done k s (a, b)))))
    of_statement (c.For begin test step body) around known s =
        scoped known.frames (bind (of_start begin _ (inner _ (entered known s))) (λ b k s p1. bind (of_optional_test test k s) (λ x k s p2. bind (of_optional step k s)
        (λ y k s p3. bind (scoped k.frames (of_statement body (in_a_loop around) _ (inner k s))) (λ first k s p4. bind (judged _ (b.faults ++ optional_test_faults x) k s (λ clean. nothing)) (λ u k s p. done k s (p1, p2, p3, p4)))))))
    of_statement (c.Switch operand list) around known s =
        scoped known.frames (bind (of_expression operand as_truth _ (inner _ (entered known s))) (λ x k0 s a.
        bind (of_cases list (switch_type k0.model x) (record { values = []; has_default = false }) (in_a_switch around) k0 s)
        (λ found k s b. bind (judged _ (test_faults x ++ unless (is_integer (own_type x)) bad_case) k s (λ clean. nothing)) (λ u k s p. done k s (a, b)))))
    of_statement c.Break around known s = bind (judged _ (unless (around.in_loop || around.in_switch) stray_jump) _ (entered known s) (λ clean. nothing)) (λ u k s p. done k s tt)
    of_statement c.Continue around known s = bind (judged _ (unless around.in_loop stray_jump) _ (entered known s) (λ clean. nothing)) (λ u k s p. done k s tt)
    of_statement (c.Return it) around known s =
        bind (of_optional it _ (entered known s)) (λ x k s a. bind (judged _ (return_faults around.result x) k s (λ clean. a)) (λ u k s a. done k s a))

    pub of_items : (them : c.Items) (around : Around) (known : Known) → Since false past known → Walks (FreeItems them) false past (items them around known)
    of_items c.no_items around known s = done known s tt
    of_items (c.a_declaration first rest) around known s =
        bind (of_declaration first _ (entered known s)) (λ it k s a. bind (judged _ it.faults k s (λ clean. a)) (λ u k s a. bind (of_items rest around k s) (λ others k s b. done k s (a, b))))
    of_items (c.a_statement first rest) around known s =
        bind (of_statement first around _ (entered known s)) (λ it k s a. bind (of_items rest around k s) (λ others k s b. done k s (a, b)))
    of_items (c.a_label first rest) around known s =
        bind (of_mark first _ (entered known s)) (λ m k s a. bind (of_items rest around k s) (λ others k s b. done k s (a, b)))

    of_cases : (them : c.Cases) (scalar : Option Scalar) (seen : Seen) (around : Around) (known : Known) → Since false past known → Walks (FreeCases them) false past (cases them scalar seen around known)
    of_cases c.no_cases scalar seen around known s = done known s tt
    of_cases (c.a_case list first rest) scalar seen around known s =
        bind (of_labels list scalar seen known s) (λ it k s p. bind (scoped k.frames (of_statement first around _ (inner k s)))
        (λ body k s a. bind (of_cases rest scalar it.seen around k s) (λ others k s b. done k s (a, b))))
