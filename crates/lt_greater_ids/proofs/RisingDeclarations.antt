-- Initialisers and declarations are gone over alike where greater ids are good.
use Rattle.std.proofs.Common.{◌≡◌, ◌≤◌, refl, ap, ◌∙◌, ℕ, suc, Bool, true, false, List, [], ◌∷◌, ◌++◌, length, slice_get, slice_set, Option, Some, None}
use Rattle.std.specs.Prelude.{is_some, if◌then◌else◌}
use Rattle.lt_tree.specs.declared.specifier.Storage.{Storage}
use Rattle.lt_tree.specs.Tree as c
use Rattle.lt_tree.specs.Typing.Types.{CType, struct_of, is_array}
use Rattle.lt_tree.specs.Typing.Extents.{has_too_many_cells}
use Rattle.lt_tree.specs.Typing.Rules.{broken_if, bad_length, bad_initialiser, declared_twice}
use Rattle.lt_tree.specs.Typing.TypedTree.{Start, Local}
use Rattle.lt_tree.specs.Typing.Entities.{Known, Object, Life, a_typedef, a_function, is_linked, is_static, linked_object, bind_name, type_of_object, declared_among}
use Rattle.lt_tree.specs.Typing.Steps.{Walk, Goes, ◌>>◌, gives, settle, binds}
use Rattle.lt_tree.specs.Typing.Expressions.{Typed, as_value, own_type}
use Rattle.lt_tree.specs.Typing.Operations.{text_type}
use Rattle.lt_tree.specs.Typing.Specifying.{Specified, alone, elsewhere}
use Rattle.lt_tree.specs.Typing.Declarators.{Built, Declares}
use Rattle.lt_tree.specs.Typing.Filling.{Run, Filling, first_in_struct, opened, is_struct_of, is_character_array, is_too_long_for, letters_of, value_faults, text_in, filling_of, nothing_to_fill, list_faults}
use Rattle.lt_tree.specs.Typing.InitialiserTyping.{Started, literal_alone, filled_by, fill_value, value_initialiser, fill_text, initialiser_without_braces, filling_for, faults_of_list, initialiser, initialisers, with_length, whole_value, whole_text, whole_without_braces, listed_length, object_initialiser, initialiser_of_none}
use Rattle.lt_tree.specs.Typing.Declaring.{Kind, a_type_name, a_function_name, an_object_of, kind_of, kind_faults, named_faults, is_declared_twice, declaration_faults, declare_function, new_object, object_for, declare_object, length_faults}
use Rattle.lt_tree.specs.Typing.DeclarationTyping.{no_object, created, started_object, declare, init_declarators, has_no_declarator, declaration_by}
use Rattle.lt_greater_ids.proofs.Rising.{raised, Rises, goes, bind, judged, entered}
use Rattle.lt_greater_ids.proofs.RisingExpressions.{of_expression, of_specifiers, of_declarator}

abbrev with_start_of : ℕ → Option Start → CType → Known → Option Object → Known
with_start_of n start t known None = known
with_start_of n start t known (Some object) = record known { objects = slice_set known.objects n (record object { type = t; start = start }) }

abbrev with_declared_of : List ℕ → CType → Known → Option CType → Known
with_declared_of name t known None = record known { declared = known.declared ++ record { name = name; type = t } ∷ [] }
with_declared_of name t known (Some u) = known

abbrev declare_if_named : Specified → Declares → Option c.Initialiser → Known → Option (List ℕ) → Walk (List Local)
declare_if_named s declared i known None = no_object i
declare_if_named s declared i known (Some name) = declare (kind_of known s.storage declared.type) declared.node name declared.type i

-- ---- rules

module _ (more : ℕ) where
  twice_alike : (kind : Kind) (name : List ℕ) (t : CType) (has_initialiser : Bool) (known : Known)
      → is_declared_twice (raised more known) kind name t has_initialiser ≡ is_declared_twice known kind name t has_initialiser
  twice_alike a_type_name name t has_initialiser known = refl
  twice_alike a_function_name name t has_initialiser known = refl
  twice_alike (an_object_of life is_register) name t has_initialiser known = refl

  kind_alike : (kind : Kind) (name : List ℕ) (t : CType) (has_initialiser : Bool) (known : Known) → kind_faults (raised more known) kind name t has_initialiser ≡ kind_faults known kind name t has_initialiser
  kind_alike a_type_name name t has_initialiser known = refl
  kind_alike a_function_name name t has_initialiser known = refl
  kind_alike (an_object_of life is_register) name t has_initialiser known = refl

  named_alike : (name : Option (List ℕ)) (kind : Kind) (t : CType) (has_initialiser : Bool) (known : Known)
      → named_faults (raised more known) name kind t has_initialiser ≡ named_faults known name kind t has_initialiser
  named_alike None kind t has_initialiser known = kind_alike kind [] t has_initialiser known
  named_alike (Some name) kind t has_initialiser known =
      ap (λ b. broken_if declared_twice b ++ kind_faults (raised more known) kind name t has_initialiser) (twice_alike kind name t has_initialiser known)
      ∙ ap (λ l. broken_if declared_twice (is_declared_twice known kind name t has_initialiser) ++ l) (kind_alike kind name t has_initialiser known)

  pub declaration_alike : (class : Option Storage) (has_initialiser : Bool) (name : Option (List ℕ)) (known : Known) (it : Built)
      → declaration_faults class has_initialiser name (raised more known) it ≡ declaration_faults class has_initialiser name known it
  declaration_alike class has_initialiser name known it = named_alike name (kind_of known class it.type) it.type has_initialiser known

module _ {more : ℕ} where
  -- ---- initialisers in lists

  of_literal : (bytes : List ℕ) (known : Known) → known.greatest_id ≤ more → Rises more (literal_alone bytes known) (literal_alone bytes (raised more known))
  of_literal bytes known h = bind (judged known.next (broken_if bad_length (has_too_many_cells known.structs (text_type bytes))) (entered known) h) (λ u k h. goes refl h)

  of_fill_value : (at : ℕ) (is_static : Bool) (filling : Filling) (x : Typed) (runs : List Run) (known : Known) → known.greatest_id ≤ more
      → Rises more (fill_value at is_static filling x known runs known) (fill_value at is_static filling x (raised more known) runs (raised more known))
  of_fill_value at is_static filling x [] known h = goes refl h
  of_fill_value at is_static filling x (run ∷ runs) known h = bind (judged at (value_faults known is_static run.type x) known h) (λ u k h. goes refl h)

  of_value : (at : ℕ) (is_static : Bool) (filling : Filling) (e : c.Expression) (known : Known) → known.greatest_id ≤ more → Rises more (value_initialiser at is_static filling e known) (value_initialiser at is_static filling e (raised more known))
  unfolding first_in_struct
  of_value at is_static filling e known h =
      bind (of_expression e as_value known h) (λ x k h. of_fill_value at is_static filling x (opened k (is_struct_of (struct_of (own_type x))) filling.left) k h)

  of_letters : {A : Type 0} (at : ℕ) (a : A) (bytes : List ℕ) (run : Run) (known : Known) → known.greatest_id ≤ more
      → Rises more ((literal_alone bytes >> (settle at (broken_if bad_initialiser (is_too_long_for run.type bytes)) >> gives a)) known) ((literal_alone bytes >> (settle at (broken_if bad_initialiser (is_too_long_for run.type bytes)) >> gives a)) (raised more known))
  of_letters at a bytes run known h = bind (of_literal bytes known h) (λ u k h. bind (judged at (broken_if bad_initialiser (is_too_long_for run.type bytes)) k h) (λ u k h. goes refl h))

  of_text_or_value : (at : ℕ) (is_text is_static : Bool) (filling : Filling) (e : c.Expression) (bytes : List ℕ) (run : Run) (runs : List Run) (known : Known) → known.greatest_id ≤ more
      → Rises more ((if is_text then (literal_alone bytes >> (settle at (broken_if bad_initialiser (is_too_long_for run.type bytes)) >> gives (filled_by filling (letters_of run.offset run.type bytes) runs))) else value_initialiser at is_static filling e) known) ((if is_text then (literal_alone bytes >> (settle at (broken_if bad_initialiser (is_too_long_for run.type bytes)) >> gives (filled_by filling (letters_of run.offset run.type bytes) runs))) else value_initialiser at is_static filling e) (raised more known))
  of_text_or_value at true is_static filling e bytes run runs known h =
      of_letters at (filled_by filling (letters_of run.offset run.type bytes) runs) bytes run known h
  of_text_or_value at false is_static filling e bytes run runs known h = of_value at is_static filling e known h

  of_fill_text : (at : ℕ) (is_static : Bool) (filling : Filling) (e : c.Expression) (bytes : List ℕ) (runs : List Run) (known : Known) → known.greatest_id ≤ more
      → Rises more (fill_text at is_static filling e bytes runs known) (fill_text at is_static filling e bytes runs (raised more known))
  of_fill_text at is_static filling e bytes [] known h = of_value at is_static filling e known h
  of_fill_text at is_static filling e bytes (run ∷ runs) known h = of_text_or_value at (is_character_array run.type) is_static filling e bytes run runs known h

  of_unbraced : (at : ℕ) (is_static : Bool) (filling : Filling) (e : c.Expression) (found : Option (List ℕ)) (known : Known) → known.greatest_id ≤ more
      → Rises more (initialiser_without_braces at is_static filling e found known) (initialiser_without_braces at is_static filling e found (raised more known))
  unfolding first_in_struct
  of_unbraced at is_static filling e None known h = of_value at is_static filling e known h
  of_unbraced at is_static filling e (Some bytes) known h = of_fill_text at is_static filling e bytes (opened known is_character_array filling.left) known h

  mutual
    of_initialiser : (it : c.Initialiser) (is_static : Bool) (filling : Filling) (known : Known) → known.greatest_id ≤ more → Rises more (initialiser it is_static filling known) (initialiser it is_static filling (raised more known))
    of_initialiser (c.Value e) is_static filling known h = of_unbraced _ is_static filling e (text_in e) (entered known) h
    of_initialiser (c.Braces list) is_static filling known h =
        bind (of_initialisers list is_static (filling_for (entered known) list filling.left) (entered known) h)
        (λ inner k h. bind (judged known.next (faults_of_list list inner filling.left) k h) (λ u k h. goes refl h))

    of_initialisers : (them : c.Initialisers) (is_static : Bool) (filling : Filling) (known : Known) → known.greatest_id ≤ more → Rises more (initialisers them is_static filling known) (initialisers them is_static filling (raised more known))
    of_initialisers c.no_initialisers is_static filling known h = goes refl h
    of_initialisers (c.an_initialiser first rest) is_static filling known h = bind (of_initialiser first is_static filling known h) (λ next k h. of_initialisers rest is_static next k h)

  -- ---- initialisers of objects

  of_whole_value : (at : ℕ) (is_static : Bool) (t : CType) (e : c.Expression) (known : Known) → known.greatest_id ≤ more → Rises more (whole_value at is_static t length_faults e known) (whole_value at is_static t length_faults e (raised more known))
  of_whole_value at is_static t e known h =
      bind (of_expression e as_value known h)
      (λ x k h. bind (judged at ((if is_array t then bad_initialiser ∷ [] else value_faults k is_static t x) ++ length_faults k t) k h) (λ u k h. goes refl h))

  of_whole_text : (at : ℕ) (t : CType) (bytes : List ℕ) (known : Known) → known.greatest_id ≤ more → Rises more (whole_text at t length_faults bytes known) (whole_text at t length_faults bytes (raised more known))
  of_whole_text at t bytes known h =
      bind (of_literal bytes known h)
      (λ u k h. bind (judged at (broken_if bad_initialiser (is_too_long_for t bytes) ++ length_faults k (with_length t (suc (length bytes)))) k h) (λ u k h. goes refl h))

  of_text_or_whole : (at : ℕ) (is_text is_static : Bool) (t : CType) (e : c.Expression) (bytes : List ℕ) (known : Known) → known.greatest_id ≤ more
      → Rises more ((if is_text then whole_text at t length_faults bytes else whole_value at is_static t length_faults e) known) ((if is_text then whole_text at t length_faults bytes else whole_value at is_static t length_faults e) (raised more known))
  of_text_or_whole at true is_static t e bytes known h = of_whole_text at t bytes known h
  of_text_or_whole at false is_static t e bytes known h = of_whole_value at is_static t e known h

  of_whole : (at : ℕ) (is_static : Bool) (t : CType) (e : c.Expression) (found : Option (List ℕ)) (known : Known) → known.greatest_id ≤ more
      → Rises more (whole_without_braces at is_static t length_faults e found known) (whole_without_braces at is_static t length_faults e found (raised more known))
  of_whole at is_static t e None known h = of_whole_value at is_static t e known h
  of_whole at is_static t e (Some bytes) known h = of_text_or_whole at (is_character_array t) is_static t e bytes known h

  of_object_initialiser : (it : c.Initialiser) (is_static : Bool) (t : CType) (known : Known) → known.greatest_id ≤ more
      → Rises more (object_initialiser is_static t length_faults it known) (object_initialiser is_static t length_faults it (raised more known))
  of_object_initialiser (c.Value e) is_static t known h = of_whole _ is_static t e (text_in e) (entered known) h
  of_object_initialiser (c.Braces list) is_static t known h =
      bind (of_initialisers list is_static (filling_of (entered known) 0 t list) (entered known) h)
      (λ filled k h. bind (judged known.next (list_faults t list filled ++ length_faults k (with_length t (listed_length k t list filled))) k h) (λ u k h. goes refl h))

  of_initialiser_of_none : (it : c.Initialiser) (known : Known) → known.greatest_id ≤ more → Rises more (initialiser_of_none it known) (initialiser_of_none it (raised more known))
  of_initialiser_of_none (c.Value e) known h = bind (of_expression e as_value (entered known) h) (λ x k h. judged known.next (bad_initialiser ∷ []) k h)
  of_initialiser_of_none (c.Braces list) known h = bind (of_initialisers list false nothing_to_fill (entered known) h) (λ filled k h. judged known.next (bad_initialiser ∷ []) k h)

  -- ---- declarations

  of_no_object : (i : Option c.Initialiser) (known : Known) → known.greatest_id ≤ more → Rises more (no_object i known) (no_object i (raised more known))
  of_no_object None known h = goes refl h
  of_no_object (Some i) known h = bind (of_initialiser_of_none i known h) (λ u k h. goes refl h)

  with_start_rises : (life : Life) (n : ℕ) (it : Started) (known : Known) (found : Option Object) → known.greatest_id ≤ more
      → Rises more (Goes (created (is_static life) n (Some it.start)) (with_start_of n (if is_static life then Some it.start else None) it.type known found))
      (Goes (created (is_static life) n (Some it.start)) (with_start_of n (if is_static life then Some it.start else None) it.type (raised more known) found))
  with_start_rises life n it known None h = goes refl h
  with_start_rises life n it known (Some object) h = goes refl h

  of_started_object : (life : Life) (n : ℕ) (i : Option c.Initialiser) (known : Known) → known.greatest_id ≤ more → Rises more (started_object life n i known) (started_object life n i (raised more known))
  of_started_object life n None known h = goes refl h
  of_started_object life n (Some i) known h =
      bind (of_object_initialiser i (is_static life) (type_of_object known n) known h)
      (λ it k h. with_start_rises life n it k (slice_get k.objects n) h)

  of_linked_or_new : (is_one : Bool) (life : Life) (at : ℕ) (name : List ℕ) (t : CType) (n : ℕ) (known : Known) → known.greatest_id ≤ more → Rises more ((if is_one then gives n else new_object life at name t) known) ((if is_one then gives n else new_object life at name t) (raised more known))
  of_linked_or_new true life at name t n known h = goes refl h
  of_linked_or_new false life at name t n known h = goes refl h

  of_object_for : (life : Life) (at : ℕ) (name : List ℕ) (t : CType) (found : Option ℕ) (known : Known) → known.greatest_id ≤ more → Rises more (object_for life at name t found known) (object_for life at name t found (raised more known))
  of_object_for life at name t None known h = goes refl h
  of_object_for life at name t (Some n) known h = of_linked_or_new (is_linked life) life at name t n known h

  of_declare_object : (life : Life) (is_register : Bool) (at : ℕ) (name : List ℕ) (t : CType) (known : Known) → known.greatest_id ≤ more → Rises more (declare_object life is_register at name t known) (declare_object life is_register at name t (raised more known))
  of_declare_object life is_register at name t known h = bind (of_object_for life at name t (linked_object name known) known h) (λ n k h. goes refl h)

  with_declared_rises : (name : List ℕ) (t : CType) (known : Known) (found : Option CType) → known.greatest_id ≤ more
      → Rises more (binds name a_function (with_declared_of name t known found)) (binds name a_function (with_declared_of name t (raised more known) found))
  with_declared_rises name t known None h = goes refl h
  with_declared_rises name t known (Some u) h = goes refl h

  pub of_function : (name : List ℕ) (t : CType) (known : Known) → known.greatest_id ≤ more → Rises more (declare_function name t known) (declare_function name t (raised more known))
  of_function name t known h = with_declared_rises name t known (declared_among name known.declared) h

  of_declare : (kind : Kind) (at : ℕ) (name : List ℕ) (t : CType) (i : Option c.Initialiser) (known : Known) → known.greatest_id ≤ more → Rises more (declare kind at name t i known) (declare kind at name t i (raised more known))
  of_declare a_type_name at name t i known h = of_no_object i (bind_name name (a_typedef t) known) h
  of_declare a_function_name at name t i known h = bind (of_function name t known h) (λ u k h. of_no_object i k h)
  of_declare (an_object_of life is_register) at name t i known h = bind (of_declare_object life is_register at name t known h) (λ n k h. of_started_object life n i k h)

  of_declare_if_named : (s : Specified) (declared : Declares) (name : Option (List ℕ)) (i : Option c.Initialiser) (known : Known) → known.greatest_id ≤ more
      → Rises more (declare_if_named s declared i known name known) (declare_if_named s declared i (raised more known) name (raised more known))
  of_declare_if_named s declared None i known h = of_no_object i known h
  of_declare_if_named s declared (Some name) i known h = of_declare (kind_of known s.storage declared.type) declared.node name declared.type i known h

  of_init_declarators : (s : Specified) (them : List c.InitDeclarator) (known : Known) → known.greatest_id ≤ more → Rises more (init_declarators s them known) (init_declarators s them (raised more known))
  of_init_declarators s [] known h = goes refl h
  of_init_declarators s (d ∷ ds) known h =
      bind (bind (of_declarator d.declarator s false (declaration_faults s.storage (is_some d.initialiser)) (declaration_alike more s.storage (is_some d.initialiser)) known h)
      (λ declared k h. of_declare_if_named s declared declared.name d.initialiser k h))
      (λ first k h. bind (of_init_declarators s ds k h) (λ rest k h. goes refl h))

  pub of_declaration_by : (effective : Option Storage → Option Storage) (d : c.Declaration) (known : Known) → known.greatest_id ≤ more → Rises more (declaration_by effective d known) (declaration_by effective d (raised more known))
  of_declaration_by effective d known h =
      bind (of_specifiers d.specifiers (if has_no_declarator d.declarators then alone else elsewhere) known h)
      (λ it k h. bind (of_init_declarators (record it { storage = effective it.storage }) d.declarators k h) (λ locals k h. goes refl h))
