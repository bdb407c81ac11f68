-- So does a walk over a declaration or a statement in a body.
use Rattle.std.proofs.Common.{◌≡◌, refl, sym, ap, ◌∙◌, ℕ, zero, suc, ◌+◌, Bool, arith, true, false, List, [], ◌∷◌, ◌++◌, length, Option, Some, None}
use Rattle.std.specs.Prelude.{if◌then◌else◌, ◌&&◌, is_some, slice_get, slice_set, ◌||◌}
use Rattle.lt_model.specs.declared.scalar.Scalar.{Scalar}
use Rattle.lt_tree.specs.declared.specifier.Storage.{Storage}
use Rattle.lt_tree.specs.Tree as c
use Rattle.lt_tree.specs.Typing.Types.{CType, struct_of, is_array, is_integer}
use Rattle.lt_tree.specs.Typing.Extents.{has_too_many_cells}
use Rattle.lt_tree.specs.Typing.Rules.{broken_if, unless, bad_length, bad_initialiser, bad_case, stray_jump}
use Rattle.lt_tree.specs.Typing.TypedTree.{Start}
use Rattle.lt_tree.specs.Typing.Entities.{Known, Function, Object, Life, parameter, linked_from, bind_name, an_object, is_linked, is_static, linked_object, type_of_object, declared_among}
use Rattle.lt_tree.specs.Typing.Steps.{Outcome, Goes, Breaks, goes_on, ◌>>◌, gives, settle}
use Rattle.lt_tree.specs.Typing.Expressions.{Typed, as_value, as_truth, own_type}
use Rattle.lt_tree.specs.Typing.Operations.{text_type}
use Rattle.lt_tree.specs.Typing.Specifying.{Specified, alone, elsewhere}
use Rattle.lt_tree.specs.Typing.Declarators.{Declares}
use Rattle.lt_tree.specs.Typing.Filling.{Run, Filling, opened, is_struct_of, is_character_array, is_too_long_for, letters_of, value_faults, text_in, filling_of, nothing_to_fill, list_faults}
use Rattle.lt_tree.specs.Typing.InitialiserTyping.{Judges, literal_alone, filled_by, fill_value, value_initialiser, fill_text, initialiser_without_braces, filling_for, faults_of_list, initialiser, initialisers, with_length, whole_value, whole_text, whole_without_braces, listed_length, object_initialiser, initialiser_of_none}
use Rattle.lt_tree.specs.Typing.Declaring.{Kind, a_type_name, a_function_name, an_object_of, kind_of, declaration_faults, with_declared, new_object, object_for, declare_object, length_faults}
use Rattle.lt_tree.specs.Typing.DeclarationTyping.{no_object, started_object, declare, init_declarators, has_no_declarator, declaration_by, effective_in_for}
use Rattle.lt_tree.specs.Typing.StatementTyping.{Around, in_a_loop, in_a_switch, test_faults, optional_test_faults, optional_expression, optional_test, for_start, switch_type, Seen, is_new_case, with_case, case_value, labels, return_faults, statement, items, cases}
use Rattle.std.proofs.lemmas.Option.{slice_get_within}
use Rattle.std.specs.Str.{bytes_eq}
use Rattle.lt_mark_typing.specs.Placed.{entered}
use Rattle.lt_objective_marks.proofs.KeepingUnits.{starting, declared_of, declare_if_named}
use Rattle.lt_objective_marks.proofs.Lasting.{AreAt, Lasts, Stays, went, broke, one_more, bind, judged, unmarked, scoped, of_expression, of_mark, of_specifiers, of_declarator}

-- ---- objects that are changed

-- a linked object that is found
linked_there : (at : ℕ) (name : List ℕ) (objects : List Object) (m : ℕ) → linked_from at name objects ≡ Some m → (n : ℕ) × (o : Object) × (m ≡ at + n) × (slice_get objects n ≡ Some o) × (is_linked o.life ≡ true)
linked_there at name [] m is = absurd cc
linked_there at name (o ∷ rest) m is = by (is_linked o.life) (bytes_eq o.name name) refl is (linked_there (at + 1) name rest m)
  where
    by : (a b : Bool) → is_linked o.life ≡ a → (if a && b then Some at else linked_from (at + 1) name rest) ≡ Some m
        → (linked_from (at + 1) name rest ≡ Some m → (n : ℕ) × (o : Object) × (m ≡ at + 1 + n) × (slice_get rest n ≡ Some o) × (is_linked o.life ≡ true))
        → (n : ℕ) × (x : Object) × (m ≡ at + n) × (slice_get (o ∷ rest) n ≡ Some x) × (is_linked x.life ≡ true)
    by true true linked e f = let same : at ≡ m = cc in (0, o, omega arith, refl, linked)
    by true false linked e f = let it = f e in (suc it.0, it.1, omega (arith, it.2), it.3, it.4)
    by false b linked e f = let it = f e in (suc it.0, it.1, omega (arith, it.2), it.3, it.4)

others_stay : (xs : List Object) (m n : ℕ) (y o : Object) → (m ≡ n → ⊥) → slice_get xs n ≡ Some o → slice_get (slice_set xs m y) n ≡ Some o
others_stay [] m n y o other is = absurd cc
others_stay (x ∷ xs) zero zero y o other is = absurd (other refl)
others_stay (x ∷ xs) zero (suc n) y o other is = is
others_stay (x ∷ xs) (suc m) zero y o other is = is
others_stay (x ∷ xs) (suc m) (suc n) y o other is = others_stay xs m n y o (λ e. other (ap suc e)) is

-- none of these objects has this number
abbrev IsOther : (ℕ → Object → Type 0) → ℕ → Type 0
IsOther Was m = (n : ℕ) (o : Object) → Was n o → m ≡ n → ⊥

module _ {Was : ℕ → Object → Type 0} (parameters : (n : ℕ) (o : Object) → Was n o → o.life ≡ parameter) where
  linked_other : (objects : List Object) (name : List ℕ) (m : ℕ) → AreAt Was objects → linked_from 0 name objects ≡ Some m → IsOther Was m
  linked_other objects name m are is n o was same =
      let it = linked_there 0 name objects m is in
      let number : it.0 ≡ n = omega (arith, it.2, same) in
      let both : Some it.1 ≡ Some o = sym it.3 ∙ ap (slice_get objects) number ∙ are n o was in
      let one : it.1 ≡ o = cc in
      not_linked (sym (ap (λ (x : Object). is_linked x.life) one) ∙ it.4) (parameters n o was)
    where
      not_linked : is_linked o.life ≡ true → o.life ≡ parameter → ⊥
      not_linked a b = let c : is_linked parameter ≡ true = sym (ap is_linked b) ∙ a in cc

new_other : {Was : ℕ → Object → Type 0} (objects : List Object) → AreAt Was objects → IsOther Was (length objects)
new_other objects are n o was same = let inside = slice_get_within objects n o (are n o was) in omega (arith, inside, same)

module _ {fs : List Function} {Was : ℕ → Object → Type 0} (parameters : (n : ℕ) (o : Object) → Was n o → o.life ≡ parameter) where
  -- ---- initialisers

  of_literal : (bytes : List ℕ) (known : Known) → Lasts fs Was known → Stays fs Was (literal_alone bytes known)
  of_literal bytes known h = bind (judged known.next (broken_if bad_length (has_too_many_cells known.structs (text_type bytes))) (entered known) h) (λ u k h. went h)

  of_fill_value : (node : ℕ) (is_static : Bool) (filling : Filling) (x : Typed) (at : Known) (runs : List Run) (known : Known) → Lasts fs Was known → Stays fs Was (fill_value node is_static filling x at runs known)
  of_fill_value node is_static filling x at [] known h = went h
  of_fill_value node is_static filling x at (run ∷ runs) known h = bind (judged node (value_faults at is_static run.type x) known h) (λ u k h. went h)

  of_value : (node : ℕ) (is_static : Bool) (filling : Filling) (it : c.Expression) (known : Known) → Lasts fs Was known → Stays fs Was (value_initialiser node is_static filling it known)
  of_value node is_static filling it known h =
      bind (of_expression it as_value known h) (λ x k h. of_fill_value node is_static filling x k (opened k (is_struct_of (struct_of (own_type x))) filling.left) k h)

  of_text_or_value : (node : ℕ) (is_text is_static : Bool) (filling : Filling) (it : c.Expression) (bytes : List ℕ) (run : Run) (runs : List Run) (known : Known) → Lasts fs Was known
      → Stays fs Was ((if is_text then (literal_alone bytes >> (settle node (broken_if bad_initialiser (is_too_long_for run.type bytes)) >> gives (filled_by filling (letters_of run.offset run.type bytes) runs)))
      else value_initialiser node is_static filling it) known)
  of_text_or_value node true is_static filling it bytes run runs known h =
      bind (of_literal bytes known h) (λ u k h. bind (judged node (broken_if bad_initialiser (is_too_long_for run.type bytes)) k h) (λ u k h. went h))
  of_text_or_value node false is_static filling it bytes run runs known h = of_value node is_static filling it known h

  of_fill_text : (node : ℕ) (is_static : Bool) (filling : Filling) (it : c.Expression) (bytes : List ℕ) (runs : List Run) (known : Known) → Lasts fs Was known
      → Stays fs Was (fill_text node is_static filling it bytes runs known)
  of_fill_text node is_static filling it bytes [] known h = of_value node is_static filling it known h
  of_fill_text node is_static filling it bytes (run ∷ runs) known h = of_text_or_value node (is_character_array run.type) is_static filling it bytes run runs known h

  of_unbraced : (node : ℕ) (is_static : Bool) (filling : Filling) (it : c.Expression) (found : Option (List ℕ)) (known : Known) → Lasts fs Was known
      → Stays fs Was (initialiser_without_braces node is_static filling it found known)
  of_unbraced node is_static filling it None known h = of_value node is_static filling it known h
  of_unbraced node is_static filling it (Some bytes) known h = of_fill_text node is_static filling it bytes (opened known is_character_array filling.left) known h

  mutual
    of_initialiser : (it : c.Initialiser) (is_static : Bool) (filling : Filling) (known : Known) → Lasts fs Was known → Stays fs Was (initialiser it is_static filling known)
    of_initialiser (c.Value it) is_static filling known h = of_unbraced known.next is_static filling it (text_in it) (entered known) h
    of_initialiser (c.Braces list) is_static filling known h =
        bind (of_initialisers list is_static (filling_for (entered known) list filling.left) (entered known) h)
        (λ inner k h. bind (judged known.next (faults_of_list list inner filling.left) k h) (λ u k h. went h))

    of_initialisers : (them : c.Initialisers) (is_static : Bool) (filling : Filling) (known : Known) → Lasts fs Was known → Stays fs Was (initialisers them is_static filling known)
    of_initialisers c.no_initialisers is_static filling known h = went h
    of_initialisers (c.an_initialiser first rest) is_static filling known h = bind (of_initialiser first is_static filling known h) (λ next k h. of_initialisers rest is_static next k h)

  of_whole_value : (node : ℕ) (is_static : Bool) (t : CType) (judge : Judges) (it : c.Expression) (known : Known) → Lasts fs Was known → Stays fs Was (whole_value node is_static t judge it known)
  of_whole_value node is_static t judge it known h =
      bind (of_expression it as_value known h) (λ x k h. bind (judged node ((if is_array t then bad_initialiser ∷ [] else value_faults k is_static t x) ++ judge k t) k h) (λ u k h. went h))

  of_text_or_whole : (node : ℕ) (is_text is_static : Bool) (t : CType) (judge : Judges) (it : c.Expression) (bytes : List ℕ) (known : Known) → Lasts fs Was known
      → Stays fs Was ((if is_text then whole_text node t judge bytes else whole_value node is_static t judge it) known)
  of_text_or_whole node true is_static t judge it bytes known h =
      bind (of_literal bytes known h) (λ u k h. bind (judged node (broken_if bad_initialiser (is_too_long_for t bytes) ++ judge k (with_length t (suc (length bytes)))) k h) (λ u k h. went h))
  of_text_or_whole node false is_static t judge it bytes known h = of_whole_value node is_static t judge it known h

  of_whole : (node : ℕ) (is_static : Bool) (t : CType) (judge : Judges) (it : c.Expression) (found : Option (List ℕ)) (known : Known) → Lasts fs Was known
      → Stays fs Was (whole_without_braces node is_static t judge it found known)
  of_whole node is_static t judge it None known h = of_whole_value node is_static t judge it known h
  of_whole node is_static t judge it (Some bytes) known h = of_text_or_whole node (is_character_array t) is_static t judge it bytes known h

  of_object_initialiser : (it : c.Initialiser) (is_static : Bool) (t : CType) (judge : Judges) (known : Known) → Lasts fs Was known → Stays fs Was (object_initialiser is_static t judge it known)
  of_object_initialiser (c.Value it) is_static t judge known h = of_whole known.next is_static t judge it (text_in it) (entered known) h
  of_object_initialiser (c.Braces list) is_static t judge known h =
      bind (of_initialisers list is_static (filling_of (entered known) 0 t list) (entered known) h)
      (λ filled k h. bind (judged known.next (list_faults t list filled ++ judge k (with_length t (listed_length k t list filled))) k h) (λ u k h. went h))

  of_initialiser_of_none : (it : c.Initialiser) (known : Known) → Lasts fs Was known → Stays fs Was (initialiser_of_none it known)
  of_initialiser_of_none (c.Value it) known h = bind (of_expression it as_value (entered known) h) (λ x k h. judged known.next (bad_initialiser ∷ []) k h)
  of_initialiser_of_none (c.Braces list) known h = bind (of_initialisers list false nothing_to_fill (entered known) h) (λ filled k h. judged known.next (bad_initialiser ∷ []) k h)

  -- ---- declarations

  of_no_object : (i : Option c.Initialiser) (known : Known) → Lasts fs Was known → Stays fs Was (no_object i known)
  of_no_object None known h = went h
  of_no_object (Some i) known h = bind (of_initialiser_of_none i known h) (λ u k h. went h)

  with_start_stays : (m : ℕ) (start : Option Start) (t : CType) (known : Known) (found : Option Object) → IsOther Was m → Lasts fs Was known → Lasts fs Was (starting m start t known found)
  with_start_stays m start t known None other h = h
  with_start_stays m start t known (Some object) other h = (h.0, λ n o was. others_stay known.objects m n (record object { type = t; start = start }) o (other n o was) (h.1 n o was))

  of_started_object : (life : Life) (n : ℕ) (i : Option c.Initialiser) (known : Known) → IsOther Was n → Lasts fs Was known → Stays fs Was (started_object life n i known)
  of_started_object life n None known other h = went h
  of_started_object life n (Some i) known other h =
      bind (of_object_initialiser i (is_static life) (type_of_object known n) length_faults known h)
      (λ it k h. went (with_start_stays n (if is_static life then Some it.start else None) it.type k (slice_get k.objects n) other h))

  of_object_for : {B : Type 0} (life : Life) (node : ℕ) (name : List ℕ) (t : CType) (known : Known) (rest : ℕ → Known → Outcome B) (found : Option ℕ) → linked_from 0 name known.objects ≡ found → Lasts fs Was known
      → ((n : ℕ) (k : Known) → IsOther Was n → Lasts fs Was k → Stays fs Was (rest n k)) → Stays fs Was (goes_on (object_for life node name t found known) rest)
  of_object_for life node name t known rest None is h f = f (length known.objects) _ (new_other known.objects h.1) (h.0, one_more known.objects _ h.1)
  of_object_for {B} life node name t known rest (Some m) is h f = by (is_linked life)
    where
      by : (is_one : Bool) → Stays fs Was (goes_on ((if is_one then gives m else new_object life node name t) known) rest)
      by true = f m known (linked_other parameters known.objects name m h.1 is) h
      by false = f (length known.objects) _ (new_other known.objects h.1) (h.0, one_more known.objects _ h.1)

  of_declare_object : (life : Life) (is_register : Bool) (node : ℕ) (name : List ℕ) (t : CType) (i : Option c.Initialiser) (known : Known) → Lasts fs Was known
      → Stays fs Was (goes_on (declare_object life is_register node name t known) (λ n. started_object life n i))
  of_declare_object life is_register node name t i known h = by (object_for life node name t (linked_object name known) known) (of_object_for life node name t known (λ n k. started_object life n i (bind_name name (an_object n is_register) k)) (linked_object name known) refl h (λ n k other h. of_started_object life n i (bind_name name (an_object n is_register) k) other h))
    where
      by : (o : Outcome ℕ) → Stays fs Was (goes_on o (λ n k. started_object life n i (bind_name name (an_object n is_register) k)))
          → Stays fs Was (goes_on (goes_on o (λ n k. Goes n (bind_name name (an_object n is_register) k))) (λ n. started_object life n i))
      by (Goes n k) s = s
      by (Breaks rule node) s = broke

  declared_of_stays : (name : List ℕ) (t : CType) (known : Known) (found : Option CType) → Lasts fs Was known → Lasts fs Was (declared_of name t known found)
  declared_of_stays name t known None h = h
  declared_of_stays name t known (Some u) h = h

  pub declared_stays : (name : List ℕ) (t : CType) (known : Known) → Lasts fs Was known → Lasts fs Was (with_declared name t known)
  declared_stays name t known h = declared_of_stays name t known (declared_among name known.declared) h

  of_declare : (kind : Kind) (node : ℕ) (name : List ℕ) (t : CType) (i : Option c.Initialiser) (known : Known) → Lasts fs Was known → Stays fs Was (declare kind node name t i known)
  of_declare a_type_name node name t i known h = of_no_object i _ h
  of_declare a_function_name node name t i known h = of_no_object i _ (declared_stays name t known h)
  of_declare (an_object_of life is_register) node name t i known h = of_declare_object life is_register node name t i known h

  of_declare_if_named : (it : Specified) (declared : Declares) (name : Option (List ℕ)) (i : Option c.Initialiser) (at known : Known) → Lasts fs Was known
      → Stays fs Was (declare_if_named it declared i at name known)
  of_declare_if_named it declared None i at known h = of_no_object i known h
  of_declare_if_named it declared (Some name) i at known h = of_declare (kind_of at it.storage declared.type) declared.node name declared.type i known h

  of_init_declarators : (it : Specified) (them : List c.InitDeclarator) (known : Known) → Lasts fs Was known → Stays fs Was (init_declarators it them known)
  of_init_declarators it [] known h = went h
  of_init_declarators it (d ∷ ds) known h =
      bind (bind (of_declarator d.declarator it false (declaration_faults it.storage (is_some d.initialiser)) known h) (λ declared k h. of_declare_if_named it declared declared.name d.initialiser k k h))
      (λ first k h. bind (of_init_declarators it ds k h) (λ rest k h. went h))

  pub of_declaration_by : (effective : Option Storage → Option Storage) (d : c.Declaration) (known : Known) → Lasts fs Was known → Stays fs Was (declaration_by effective d known)
  of_declaration_by effective d known h =
      bind (of_specifiers d.specifiers (if has_no_declarator d.declarators then alone else elsewhere) known h)
      (λ it k h. bind (of_init_declarators (record it { storage = effective it.storage }) d.declarators k h) (λ locals k h. went h))

  -- ---- statements

  of_optional : (it : Option c.Expression) (known : Known) → Lasts fs Was known → Stays fs Was (optional_expression it known)
  of_optional None known h = went h
  of_optional (Some it) known h = bind (of_expression it as_value known h) (λ x k h. went h)

  of_optional_test : (it : Option c.Expression) (known : Known) → Lasts fs Was known → Stays fs Was (optional_test it known)
  of_optional_test None known h = went h
  of_optional_test (Some it) known h = bind (of_expression it as_truth known h) (λ x k h. went h)

  of_start : (it : c.ForStart) (known : Known) → Lasts fs Was known → Stays fs Was (for_start it known)
  of_start c.Nothing known h = went h
  of_start (c.First it) known h = bind (of_expression it as_value known h) (λ x k h. went h)
  of_start (c.Declares d) known h = bind (of_declaration_by effective_in_for d known h) (λ it k h. went h)

  of_labels : (them : List c.Label) (scalar : Option Scalar) (seen : Seen) (known : Known) → Lasts fs Was known → Stays fs Was (labels them scalar seen known)
  of_labels [] scalar seen known h = went h
  of_labels (c.Case it ∷ rest) scalar seen known h =
      bind (unmarked known.is_unmarked (of_expression it as_value _ h)) (λ x k h. bind
      (bind (judged known.next (unless (is_new_case seen (case_value k.model scalar x)) bad_case) k h) (λ u k h. went h))
      (λ z k h. bind (of_labels rest scalar (with_case seen z) k h) (λ others k h. went h)))
  of_labels (c.Default ∷ rest) scalar seen known h =
      bind (judged known.next (broken_if bad_case seen.has_default) (entered known) h)
      (λ u k h. bind (of_labels rest scalar (record seen { has_default = true }) k h) (λ others k h. went h))

  mutual
    of_statement : (it : c.Statement) (around : Around) (known : Known) → Lasts fs Was known → Stays fs Was (statement it around known)
    of_statement (c.Compound list) around known h = bind (scoped _ (of_items list around _ h)) (λ found k h. went h)
    of_statement (c.Evaluates it) around known h = bind (of_expression it as_value _ h) (λ x k h. went h)
    of_statement c.Null around known h = went h
    of_statement (c.If test body) around known h =
        scoped _ (bind (of_expression test as_truth _ h) (λ x k h. bind (scoped _ (of_statement body around _ h)) (λ first k h. bind (judged known.next (test_faults x) k h) (λ u k h. went h))))
    of_statement (c.IfElse test body other) around known h =
        scoped _ (bind (of_expression test as_truth _ h) (λ x k h. bind (scoped _ (of_statement body around _ h)) (λ first k h. bind (scoped _ (of_statement other around _ h))
        (λ second k h. bind (judged known.next (test_faults x) k h) (λ u k h. went h)))))
    of_statement (c.While test body) around known h =
        scoped _ (bind (of_expression test as_truth _ h) (λ x k h. bind (scoped _ (of_statement body (in_a_loop around) _ h)) (λ first k h. bind (judged known.next (test_faults x) k h) (λ u k h. went h))))
    of_statement (c.Do body test) around known h =
        scoped _ (bind (scoped _ (of_statement body (in_a_loop around) _ h)) (λ first k h. bind (of_expression test as_truth k h) (λ x k h. bind (judged known.next (test_faults x) k h) (λ u k h. went h))))
    of_statement (c.For begin test step body) around known h =
        scoped _ (bind (of_start begin _ h) (λ b k h. bind (of_optional_test test k h) (λ x k h. bind (of_optional step k h) (λ y k h. bind (scoped _ (of_statement body (in_a_loop around) _ h))
        (λ first k h. bind (judged known.next (b.faults ++ optional_test_faults x) k h) (λ u k h. went h))))))
    of_statement (c.Switch operand list) around known h =
        scoped _ (bind (of_expression operand as_truth _ h) (λ x k h. bind (of_cases list (switch_type k.model x) (record { values = []; has_default = false }) (in_a_switch around) k h)
        (λ found k h. bind (judged known.next (test_faults x ++ unless (is_integer (own_type x)) bad_case) k h) (λ u k h. went h))))
    of_statement c.Break around known h = bind (judged known.next (unless (around.in_loop || around.in_switch) stray_jump) (entered known) h) (λ u k h. went h)
    of_statement c.Continue around known h = bind (judged known.next (unless around.in_loop stray_jump) (entered known) h) (λ u k h. went h)
    of_statement (c.Return it) around known h = bind (of_optional it _ h) (λ x k h. bind (judged known.next (return_faults around.result x) k h) (λ u k h. went h))

    pub of_items : (them : c.Items) (around : Around) (known : Known) → Lasts fs Was known → Stays fs Was (items them around known)
    of_items c.no_items around known h = went h
    of_items (c.a_declaration first rest) around known h =
        bind (of_declaration_by (λ class. class) first _ h) (λ it k h. bind (judged known.next it.faults k h) (λ u k h. bind (of_items rest around k h) (λ others k h. went h)))
    of_items (c.a_statement first rest) around known h = bind (of_statement first around _ h) (λ s k h. bind (of_items rest around k h) (λ others k h. went h))
    of_items (c.a_label first rest) around known h = bind (of_mark first _ h) (λ m k h. bind (of_items rest around k h) (λ others k h. went h))

    of_cases : (them : c.Cases) (scalar : Option Scalar) (seen : Seen) (around : Around) (known : Known) → Lasts fs Was known → Stays fs Was (cases them scalar seen around known)
    of_cases c.no_cases scalar seen around known h = went h
    of_cases (c.a_case list first rest) scalar seen around known h =
        bind (of_labels list scalar seen known h) (λ it k h. bind (scoped _ (of_statement first around _ h)) (λ s k h. bind (of_cases rest scalar it.seen around k h) (λ others k h. went h)))
