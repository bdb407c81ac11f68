-- Typing of initialisers and declarations keeps the functions, and ids are in range.
use Rattle.std.proofs.Common.{◌≡◌, refl, subst, ℕ, suc, Bool, true, false, List, [], ◌∷◌, ◌++◌, length, slice_get, slice_set, Option, Some, None}
use Rattle.std.specs.Prelude.{is_some, if◌then◌else◌}
use Rattle.std.specs.List.{flat_map}
use Rattle.lt_tree.specs.declared.specifier.Storage.{Storage}
use Rattle.lt_tree.specs.Tree as c
use Rattle.lt_tree.specs.Ids.{ids_in, ids_in_initialiser, ids_in_initialisers, ids_in_some, ids_in_init_declarator, ids_in_declaration}
use Rattle.lt_tree.specs.Typing.Types.{CType, struct_of, is_array}
use Rattle.lt_tree.specs.Typing.Extents.{has_too_many_cells}
use Rattle.lt_tree.specs.Typing.Rules.{broken_if, bad_length, bad_initialiser}
use Rattle.lt_tree.specs.Typing.TypedTree.{Start, Local}
use Rattle.lt_tree.specs.Typing.Entities.{Known, Function, Object, Life, a_typedef, a_function, is_linked, is_static, linked_object, bind_name, type_of_object, declared_among}
use Rattle.lt_tree.specs.Typing.Steps.{Walk, ◌>>◌, gives, settle}
use Rattle.lt_tree.specs.Typing.Expressions.{Typed, as_value, own_type}
use Rattle.lt_tree.specs.Typing.Operations.{text_type}
use Rattle.lt_tree.specs.Typing.Specifying.{Specified, alone, elsewhere}
use Rattle.lt_tree.specs.Typing.Declarators.{Declares}
use Rattle.lt_tree.specs.Typing.Filling.{Run, Filling, opened, is_struct_of, is_character_array, is_too_long_for, letters_of, value_faults, text_in, filling_of, nothing_to_fill, list_faults}
use Rattle.lt_tree.specs.Typing.InitialiserTyping.{Judges, literal_alone, filled_by, fill_value, value_initialiser, fill_text, initialiser_without_braces, filling_for, faults_of_list, initialiser, initialisers, with_length, whole_value, whole_text, whole_without_braces, listed_length, object_initialiser, initialiser_of_none}
use Rattle.lt_tree.specs.Typing.Declaring.{Kind, a_type_name, a_function_name, an_object_of, kind_of, declaration_faults, with_declared, new_object, object_for, declare_object, length_faults}
use Rattle.lt_tree.specs.Typing.DeclarationTyping.{no_object, started_object, declare, init_declarators, has_no_declarator, declaration_by}
use Rattle.lt_label_counts.proofs.Keeping.{Has, Keeps, Any, done, joined, after, quiet, judges, entered}
use Rattle.lt_label_counts.proofs.KeptInExpressions.{of_expression, of_specifiers, of_declarator}

-- what is a string literal has no ids
none_in : (e : c.Expression) (bytes : List ℕ) → text_in e ≡ Some bytes → [] ≡ ids_in e
none_in (c.Text text) bytes same = refl
none_in _ bytes same = absurd cc

-- ---- what keeps the functions

abbrev with_start_of : ℕ → Option Start → CType → Known → Option Object → Known
with_start_of n start t known None = known
with_start_of n start t known (Some object) = record known { objects = slice_set known.objects n (record object { type = t; start = start }) }

start_keeps : {fs : List Function} (n : ℕ) (start : Option Start) (t : CType) (known : Known) (found : Option Object) → Has fs known → Has fs (with_start_of n start t known found)
start_keeps n start t known None h = h
start_keeps n start t known (Some object) h = h

abbrev with_declared_of : List ℕ → CType → Known → Option CType → Known
with_declared_of name t known None = record known { declared = known.declared ++ record { name = name; type = t } ∷ [] }
with_declared_of name t known (Some u) = known

declared_keeps : {fs : List Function} (name : List ℕ) (t : CType) (known : Known) (found : Option CType) → Has fs known → Has fs (with_declared_of name t known found)
declared_keeps name t known None h = h
declared_keeps name t known (Some u) h = h

pub function_keeps : {fs : List Function} (name : List ℕ) (t : CType) (known : Known) → Has fs known → Has fs (with_declared name t known)
function_keeps name t known h = declared_keeps name t known (declared_among name known.declared) h

abbrev declare_if_named : Specified → Declares → Option c.Initialiser → Known → Option (List ℕ) → Walk (List Local)
declare_if_named s declared i known None = no_object i
declare_if_named s declared i known (Some name) = declare (kind_of known s.storage declared.type) declared.node name declared.type i

module _ {fs : List Function} where
  of_literal : (bytes : List ℕ) (known : Known) → Has fs known → Keeps fs [] Any (literal_alone bytes known)
  of_literal bytes known h = after (judges _ (broken_if bad_length (has_too_many_cells known.structs (text_type bytes))) (entered known) h) (λ u k h w. done h tt)

  -- ---- initialisers in lists

  of_fill_value : (at : ℕ) (is_static : Bool) (filling : Filling) (x : Typed) (runs : List Run) (known : Known) → Has fs known
      → Keeps fs [] Any (fill_value at is_static filling x known runs known)
  of_fill_value at is_static filling x [] known h = done h tt
  of_fill_value at is_static filling x (run ∷ runs) known h = after (judges at (value_faults known is_static run.type x) known h) (λ u k h w. done h tt)

  of_value : (at : ℕ) (is_static : Bool) (filling : Filling) (e : c.Expression) (known : Known) → Has fs known → Keeps fs (ids_in e) Any (value_initialiser at is_static filling e known)
  of_value at is_static filling e known h =
      after (of_expression e as_value known h) (λ x k h w. of_fill_value at is_static filling x (opened k (is_struct_of (struct_of (own_type x))) filling.left) k h)

  of_letters : {A : Type 0} (at : ℕ) (a : A) (bytes : List ℕ) (run : Run) (known : Known) → Has fs known
      → Keeps fs [] Any ((literal_alone bytes >> (settle at (broken_if bad_initialiser (is_too_long_for run.type bytes)) >> gives a)) known)
  of_letters at a bytes run known h = after (of_literal bytes known h) (λ u k h w. after (judges at (broken_if bad_initialiser (is_too_long_for run.type bytes)) k h) (λ u k h w. done h tt))

  of_text_or_value : (at : ℕ) (is_text is_static : Bool) (filling : Filling) (e : c.Expression) (bytes : List ℕ) (run : Run) (runs : List Run) (known : Known) → text_in e ≡ Some bytes → Has fs known
      → Keeps fs (ids_in e) Any ((if is_text then (literal_alone bytes >> (settle at (broken_if bad_initialiser (is_too_long_for run.type bytes)) >> gives (filled_by filling (letters_of run.offset run.type bytes) runs))) else value_initialiser at is_static filling e) known)
  of_text_or_value at true is_static filling e bytes run runs known is h =
      let o = (literal_alone bytes >> (settle at (broken_if bad_initialiser (is_too_long_for run.type bytes)) >> gives (filled_by filling (letters_of run.offset run.type bytes) runs))) known in
      subst (λ ids. Keeps fs ids Any o) (none_in e bytes is) (of_letters at (filled_by filling (letters_of run.offset run.type bytes) runs) bytes run known h)
  of_text_or_value at false is_static filling e bytes run runs known is h = of_value at is_static filling e known h

  of_fill_text : (at : ℕ) (is_static : Bool) (filling : Filling) (e : c.Expression) (bytes : List ℕ) (runs : List Run) (known : Known) → text_in e ≡ Some bytes → Has fs known
      → Keeps fs (ids_in e) Any (fill_text at is_static filling e bytes runs known)
  of_fill_text at is_static filling e bytes [] known is h = of_value at is_static filling e known h
  of_fill_text at is_static filling e bytes (run ∷ runs) known is h = of_text_or_value at (is_character_array run.type) is_static filling e bytes run runs known is h

  of_unbraced : (at : ℕ) (is_static : Bool) (filling : Filling) (e : c.Expression) (found : Option (List ℕ)) (known : Known) → text_in e ≡ found → Has fs known
      → Keeps fs (ids_in e) Any (initialiser_without_braces at is_static filling e found known)
  of_unbraced at is_static filling e None known is h = of_value at is_static filling e known h
  of_unbraced at is_static filling e (Some bytes) known is h = of_fill_text at is_static filling e bytes (opened known is_character_array filling.left) known is h

  mutual
    of_initialiser : (it : c.Initialiser) (is_static : Bool) (filling : Filling) (known : Known) → Has fs known → Keeps fs (ids_in_initialiser it) Any (initialiser it is_static filling known)
    of_initialiser (c.Value e) is_static filling known h = of_unbraced _ is_static filling e (text_in e) (entered known) refl h
    of_initialiser (c.Braces list) is_static filling known h =
        after (of_initialisers list is_static (filling_for (entered known) list filling.left) (entered known) h)
        (λ inner k h w. after (judges _ (faults_of_list list inner filling.left) k h) (λ u k h w. done h tt))

    of_initialisers : (them : c.Initialisers) (is_static : Bool) (filling : Filling) (known : Known) → Has fs known → Keeps fs (ids_in_initialisers them) Any (initialisers them is_static filling known)
    of_initialisers c.no_initialisers is_static filling known h = done h tt
    of_initialisers (c.an_initialiser first rest) is_static filling known h = joined (of_initialiser first is_static filling known h) (λ next k h w. of_initialisers rest is_static next k h)

  -- ---- initialisers of objects

  of_whole_value : (at : ℕ) (is_static : Bool) (t : CType) (judge : Judges) (e : c.Expression) (known : Known) → Has fs known → Keeps fs (ids_in e) Any (whole_value at is_static t judge e known)
  of_whole_value at is_static t judge e known h =
      after (of_expression e as_value known h)
      (λ x k h w. after (judges at ((if is_array t then bad_initialiser ∷ [] else value_faults k is_static t x) ++ judge k t) k h) (λ u k h w. done h tt))

  of_whole_text : (at : ℕ) (t : CType) (judge : Judges) (bytes : List ℕ) (known : Known) → Has fs known → Keeps fs [] Any (whole_text at t judge bytes known)
  of_whole_text at t judge bytes known h =
      after (of_literal bytes known h)
      (λ u k h w. after (judges at (broken_if bad_initialiser (is_too_long_for t bytes) ++ judge k (with_length t (suc (length bytes)))) k h) (λ u k h w. done h tt))

  of_text_or_whole : (at : ℕ) (is_text is_static : Bool) (t : CType) (judge : Judges) (e : c.Expression) (bytes : List ℕ) (known : Known) → text_in e ≡ Some bytes → Has fs known
      → Keeps fs (ids_in e) Any ((if is_text then whole_text at t judge bytes else whole_value at is_static t judge e) known)
  of_text_or_whole at true is_static t judge e bytes known is h = subst (λ ids. Keeps fs ids Any (whole_text at t judge bytes known)) (none_in e bytes is) (of_whole_text at t judge bytes known h)
  of_text_or_whole at false is_static t judge e bytes known is h = of_whole_value at is_static t judge e known h

  of_whole : (at : ℕ) (is_static : Bool) (t : CType) (judge : Judges) (e : c.Expression) (found : Option (List ℕ)) (known : Known) → text_in e ≡ found → Has fs known
      → Keeps fs (ids_in e) Any (whole_without_braces at is_static t judge e found known)
  of_whole at is_static t judge e None known is h = of_whole_value at is_static t judge e known h
  of_whole at is_static t judge e (Some bytes) known is h = of_text_or_whole at (is_character_array t) is_static t judge e bytes known is h

  of_object_initialiser : (it : c.Initialiser) (is_static : Bool) (t : CType) (judge : Judges) (known : Known) → Has fs known
      → Keeps fs (ids_in_initialiser it) Any (object_initialiser is_static t judge it known)
  of_object_initialiser (c.Value e) is_static t judge known h = of_whole _ is_static t judge e (text_in e) (entered known) refl h
  of_object_initialiser (c.Braces list) is_static t judge known h =
      after (of_initialisers list is_static (filling_of (entered known) 0 t list) (entered known) h)
      (λ filled k h w. after (judges _ (list_faults t list filled ++ judge k (with_length t (listed_length k t list filled))) k h) (λ u k h w. done h tt))

  of_initialiser_of_none : (it : c.Initialiser) (known : Known) → Has fs known → Keeps fs (ids_in_initialiser it) Any (initialiser_of_none it known)
  of_initialiser_of_none (c.Value e) known h = after (of_expression e as_value (entered known) h) (λ x k h w. judges _ (bad_initialiser ∷ []) k h)
  of_initialiser_of_none (c.Braces list) known h = after (of_initialisers list false nothing_to_fill (entered known) h) (λ filled k h w. judges _ (bad_initialiser ∷ []) k h)

  -- ---- declarations

  of_no_object : (i : Option c.Initialiser) (known : Known) → Has fs known → Keeps fs (ids_in_some ids_in_initialiser i) Any (no_object i known)
  of_no_object None known h = done h tt
  of_no_object (Some i) known h = after (of_initialiser_of_none i known h) (λ u k h w. done h tt)

  of_started_object : (life : Life) (n : ℕ) (i : Option c.Initialiser) (known : Known) → Has fs known → Keeps fs (ids_in_some ids_in_initialiser i) Any (started_object life n i known)
  of_started_object life n None known h = done h tt
  of_started_object life n (Some i) known h =
      after (of_object_initialiser i (is_static life) (type_of_object known n) length_faults known h)
      (λ it k h w. done (start_keeps n (if is_static life then Some it.start else None) it.type k (slice_get k.objects n) h) tt)

  of_linked_or_new : (is_one : Bool) (life : Life) (at : ℕ) (name : List ℕ) (t : CType) (n : ℕ) (known : Known) → Has fs known → Keeps fs [] Any ((if is_one then gives n else new_object life at name t) known)
  of_linked_or_new true life at name t n known h = done h tt
  of_linked_or_new false life at name t n known h = done h tt

  of_object_for : (life : Life) (at : ℕ) (name : List ℕ) (t : CType) (found : Option ℕ) (known : Known) → Has fs known → Keeps fs [] Any (object_for life at name t found known)
  of_object_for life at name t None known h = done h tt
  of_object_for life at name t (Some n) known h = of_linked_or_new (is_linked life) life at name t n known h

  of_declare_object : (life : Life) (is_register : Bool) (at : ℕ) (name : List ℕ) (t : CType) (known : Known) → Has fs known → Keeps fs [] Any (declare_object life is_register at name t known)
  of_declare_object life is_register at name t known h = after (of_object_for life at name t (linked_object name known) known h) (λ n k h w. done h tt)

  of_declare : (kind : Kind) (at : ℕ) (name : List ℕ) (t : CType) (i : Option c.Initialiser) (known : Known) → Has fs known → Keeps fs (ids_in_some ids_in_initialiser i) Any (declare kind at name t i known)
  of_declare a_type_name at name t i known h = of_no_object i (bind_name name (a_typedef t) known) h
  of_declare a_function_name at name t i known h = of_no_object i (bind_name name a_function (with_declared name t known)) (function_keeps name t known h)
  of_declare (an_object_of life is_register) at name t i known h = quiet (of_declare_object life is_register at name t known h) (λ n k h w. of_started_object life n i k h)

  of_declare_if_named : (s : Specified) (declared : Declares) (name : Option (List ℕ)) (i : Option c.Initialiser) (known : Known) → Has fs known
      → Keeps fs (ids_in_some ids_in_initialiser i) Any (declare_if_named s declared i known name known)
  of_declare_if_named s declared None i known h = of_no_object i known h
  of_declare_if_named s declared (Some name) i known h = of_declare (kind_of known s.storage declared.type) declared.node name declared.type i known h

  of_init_declarators : (s : Specified) (them : List c.InitDeclarator) (known : Known) → Has fs known → Keeps fs (flat_map ids_in_init_declarator them) Any (init_declarators s them known)
  of_init_declarators s [] known h = done h tt
  of_init_declarators s (d ∷ ds) known h =
      joined {Was = Any} (joined (of_declarator d.declarator s false (declaration_faults s.storage (is_some d.initialiser)) known h)
      (λ declared k h w. of_declare_if_named s declared declared.name d.initialiser k h))
      (λ first k h w. after (of_init_declarators s ds k h) (λ rest k h w. done h tt))

  pub of_declaration_by : (effective : Option Storage → Option Storage) (d : c.Declaration) (known : Known) → Has fs known → Keeps fs (ids_in_declaration d) Any (declaration_by effective d known)
  of_declaration_by effective d known h =
      joined (of_specifiers d.specifiers (if has_no_declarator d.declarators then alone else elsewhere) known h)
      (λ it k h w. after (of_init_declarators (record it { storage = effective it.storage }) d.declarators k h) (λ locals k h w. done h tt))
