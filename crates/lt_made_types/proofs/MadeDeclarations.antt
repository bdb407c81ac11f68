-- Typing of initialisers and declarations makes no array of functions.
use Rattle.std.proofs.Common.{refl, ℕ, suc, Bool, true, false, List, [], ◌∷◌, ◌++◌, length, Option, Some, None}
use Rattle.std.specs.Prelude.{if◌then◌else◌, is_some}
use Rattle.lt_tree.specs.declared.specifier.Storage.{Storage}
use Rattle.lt_tree.specs.Tree as c
use Rattle.lt_tree.specs.Typing.Types.{CType, struct_of, is_array}
use Rattle.lt_tree.specs.Typing.Extents.{has_too_many_cells}
use Rattle.lt_tree.specs.Typing.Constants.{varying}
use Rattle.lt_tree.specs.Typing.Rules.{broken_if, bad_length, bad_initialiser}
use Rattle.lt_tree.specs.Typing.TypedTree.{Local}
use Rattle.lt_tree.specs.Typing.Entities.{Known, Object, Fact, Life, an_object, a_typedef, a_function, is_linked, is_static, linked_object, bind_name, type_of_object}
use Rattle.lt_tree.specs.Typing.Steps.{Walk, ◌>>◌, gives, settle}
use Rattle.lt_tree.specs.Typing.Expressions.{Typed, as_value, own_type}
use Rattle.lt_tree.specs.Typing.Operations.{text_type}
use Rattle.lt_tree.specs.Typing.Specifying.{Specified, alone, elsewhere}
use Rattle.lt_tree.specs.Typing.Declarators.{Declares}
use Rattle.lt_tree.specs.Typing.Filling.{Run, Filling, opened, is_struct_of, is_character_array, is_too_long_for, letters_of, value_faults, text_in, filling_of, nothing_to_fill, list_faults}
use Rattle.lt_tree.specs.Typing.InitialiserTyping.{Judges, literal_alone, filled_by, fill_value, value_initialiser, fill_text, initialiser_without_braces, filling_for, faults_of_list, initialiser, initialisers, Started, with_length, whole_value, whole_text, whole_without_braces, listed_length, object_initialiser, initialiser_of_none}
use Rattle.lt_tree.specs.Typing.Declaring.{Kind, a_type_name, a_function_name, an_object_of, kind_of, declaration_faults, with_declared, new_object, object_for, declare_object, length_faults}
use Rattle.lt_tree.specs.Typing.DeclarationTyping.{no_object, started_object, declare, init_declarators, has_no_declarator, declaration_by}
use Rattle.lt_made_types.proofs.MadeTypes.{Made, with_length_made}
use Rattle.lt_made_types.proofs.Keeping.{Sound, Good, went, Any, bind, judged, entered}
use Rattle.lt_made_types.proofs.Lookups.{object_type_made}
use Rattle.lt_made_types.proofs.Growth.{bound, noted, object_added, start_made, declared_made}
use Rattle.lt_made_types.proofs.MadeOperations.{letters_made}
use Rattle.lt_made_types.proofs.Specified.{SpecifiedMade, DeclaresMade}
use Rattle.lt_made_types.proofs.MadeExpressions.{of_expression, of_specifiers, of_declarator}

-- ---- string literals

of_literal : (bytes : List ℕ) (known : Known) → Sound known → Good Any (literal_alone bytes known)
of_literal bytes known s =
    let fact : Fact = record { node = known.next; type = text_type bytes; is_place = true; constancy = varying; object = None } in
    bind (judged known.next (broken_if bad_length (has_too_many_cells known.structs (text_type bytes))) (entered known) s) (λ u k s h. went (noted fact k (letters_made bytes, refl) s) tt)

-- ---- initialisers in lists

of_fill_value : (node : ℕ) (is_static : Bool) (filling : Filling) (x : Typed) (runs : List Run) (known : Known) → Sound known → Good Any (fill_value node is_static filling x known runs known)
of_fill_value node is_static filling x [] known s = went s tt
of_fill_value node is_static filling x (run ∷ runs) known s = bind (judged node (value_faults known is_static run.type x) known s) (λ u k s h. went s tt)

of_value : (node : ℕ) (is_static : Bool) (filling : Filling) (e : c.Expression) (known : Known) → Sound known → Good Any (value_initialiser node is_static filling e known)
of_value node is_static filling e known s =
    bind (of_expression e as_value known s) (λ x k s h. of_fill_value node is_static filling x (opened k (is_struct_of (struct_of (own_type x))) filling.left) k s)

of_letters : (node : ℕ) (filling : Filling) (bytes : List ℕ) (run : Run) (runs : List Run) (known : Known) → Sound known
    → Good Any ((literal_alone bytes >> (settle node (broken_if bad_initialiser (is_too_long_for run.type bytes)) >> gives (filled_by filling (letters_of run.offset run.type bytes) runs))) known)
of_letters node filling bytes run runs known s =
    bind (of_literal bytes known s) (λ u k s h. bind (judged node (broken_if bad_initialiser (is_too_long_for run.type bytes)) k s) (λ u k s h. went s tt))

of_text_or_value : (node : ℕ) (is_text is_static : Bool) (filling : Filling) (e : c.Expression) (bytes : List ℕ) (run : Run) (runs : List Run) (known : Known) → Sound known
    → Good Any ((if is_text then (literal_alone bytes >> (settle node (broken_if bad_initialiser (is_too_long_for run.type bytes)) >> gives (filled_by filling (letters_of run.offset run.type bytes) runs))) else value_initialiser node is_static filling e) known)
of_text_or_value node true is_static filling e bytes run runs known s = of_letters node filling bytes run runs known s
of_text_or_value node false is_static filling e bytes run runs known s = of_value node is_static filling e known s

of_fill_text : (node : ℕ) (is_static : Bool) (filling : Filling) (e : c.Expression) (bytes : List ℕ) (runs : List Run) (known : Known) → Sound known
    → Good Any (fill_text node is_static filling e bytes runs known)
of_fill_text node is_static filling e bytes [] known s = of_value node is_static filling e known s
of_fill_text node is_static filling e bytes (run ∷ runs) known s = of_text_or_value node (is_character_array run.type) is_static filling e bytes run runs known s

of_unbraced : (node : ℕ) (is_static : Bool) (filling : Filling) (e : c.Expression) (found : Option (List ℕ)) (known : Known) → Sound known
    → Good Any (initialiser_without_braces node is_static filling e found known)
of_unbraced node is_static filling e None known s = of_value node is_static filling e known s
of_unbraced node is_static filling e (Some bytes) known s = of_fill_text node is_static filling e bytes (opened known is_character_array filling.left) known s

mutual
  of_initialiser : (it : c.Initialiser) (is_static : Bool) (filling : Filling) (known : Known) → Sound known → Good Any (initialiser it is_static filling known)
  of_initialiser (c.Value e) is_static filling known s = of_unbraced known.next is_static filling e (text_in e) (entered known) s
  of_initialiser (c.Braces list) is_static filling known s =
      bind (of_initialisers list is_static (filling_for (entered known) list filling.left) (entered known) s)
      (λ inner k s h. bind (judged known.next (faults_of_list list inner filling.left) k s) (λ u k s h. went s tt))

  of_initialisers : (them : c.Initialisers) (is_static : Bool) (filling : Filling) (known : Known) → Sound known → Good Any (initialisers them is_static filling known)
  of_initialisers c.no_initialisers is_static filling known s = went s tt
  of_initialisers (c.an_initialiser first rest) is_static filling known s = bind (of_initialiser first is_static filling known s) (λ next k s h. of_initialisers rest is_static next k s)

-- ---- initialisers of objects

abbrev StartedMade : Started → Type 0
StartedMade it = Made it.type

of_whole_value : (node : ℕ) (is_static : Bool) (t : CType) (judge : Judges) (e : c.Expression) (known : Known) → Sound known → Made t
    → Good StartedMade (whole_value node is_static t judge e known)
of_whole_value node is_static t judge e known s h =
    bind (of_expression e as_value known s) (λ x k s i. bind (judged node ((if is_array t then bad_initialiser ∷ [] else value_faults k is_static t x) ++ judge k t) k s) (λ u k s r. went s h))

of_whole_text : (node : ℕ) (t : CType) (judge : Judges) (bytes : List ℕ) (known : Known) → Sound known → Made t → Good StartedMade (whole_text node t judge bytes known)
of_whole_text node t judge bytes known s h =
    bind (of_literal bytes known s) (λ u k s r. bind (judged node (broken_if bad_initialiser (is_too_long_for t bytes) ++ judge k (with_length t (suc (length bytes)))) k s)
    (λ u k s r. went s (with_length_made t (suc (length bytes)) h)))

of_text_or_whole : (node : ℕ) (is_text is_static : Bool) (t : CType) (judge : Judges) (e : c.Expression) (bytes : List ℕ) (known : Known) → Sound known → Made t
    → Good StartedMade ((if is_text then whole_text node t judge bytes else whole_value node is_static t judge e) known)
of_text_or_whole node true is_static t judge e bytes known s h = of_whole_text node t judge bytes known s h
of_text_or_whole node false is_static t judge e bytes known s h = of_whole_value node is_static t judge e known s h

of_whole : (node : ℕ) (is_static : Bool) (t : CType) (judge : Judges) (e : c.Expression) (found : Option (List ℕ)) (known : Known) → Sound known → Made t
    → Good StartedMade (whole_without_braces node is_static t judge e found known)
of_whole node is_static t judge e None known s h = of_whole_value node is_static t judge e known s h
of_whole node is_static t judge e (Some bytes) known s h = of_text_or_whole node (is_character_array t) is_static t judge e bytes known s h

of_object_initialiser : (it : c.Initialiser) (is_static : Bool) (t : CType) (judge : Judges) (known : Known) → Sound known → Made t
    → Good StartedMade (object_initialiser is_static t judge it known)
of_object_initialiser (c.Value e) is_static t judge known s h = of_whole known.next is_static t judge e (text_in e) (entered known) s h
of_object_initialiser (c.Braces list) is_static t judge known s h =
    bind (of_initialisers list is_static (filling_of (entered known) 0 t list) (entered known) s)
    (λ filled k s i. bind (judged known.next (list_faults t list filled ++ judge k (with_length t (listed_length k t list filled))) k s)
    (λ u k2 s r. went s (with_length_made t (listed_length k t list filled) h)))

of_initialiser_of_none : (it : c.Initialiser) (known : Known) → Sound known → Good Any (initialiser_of_none it known)
of_initialiser_of_none (c.Value e) known s = bind (of_expression e as_value (entered known) s) (λ x k s h. judged known.next (bad_initialiser ∷ []) k s)
of_initialiser_of_none (c.Braces list) known s = bind (of_initialisers list false nothing_to_fill (entered known) s) (λ filled k s h. judged known.next (bad_initialiser ∷ []) k s)

-- ---- declarations

of_no_object : (i : Option c.Initialiser) (known : Known) → Sound known → Good Any (no_object i known)
of_no_object None known s = went s tt
of_no_object (Some i) known s = bind (of_initialiser_of_none i known s) (λ u k s h. went s tt)

of_started_object : (life : Life) (n : ℕ) (i : Option c.Initialiser) (known : Known) → Sound known → Good Any (started_object life n i known)
of_started_object life n None known s = went s tt
of_started_object life n (Some i) known s =
    bind (of_object_initialiser i (is_static life) (type_of_object known n) length_faults known s (object_type_made known n s))
    (λ it k s h. went (start_made n (if is_static life then Some it.start else None) it.type k h s) tt)

of_new_object : (life : Life) (node : ℕ) (name : List ℕ) (t : CType) (known : Known) → Sound known → Made t → Good Any (new_object life node name t known)
of_new_object life node name t known s h =
    let object : Object = record { node = node; name = name; type = t; life = life; start = None } in went (object_added object known h s) tt

of_linked_or_new : (is_one : Bool) (life : Life) (node : ℕ) (name : List ℕ) (t : CType) (n : ℕ) (known : Known) → Sound known → Made t
    → Good Any ((if is_one then gives n else new_object life node name t) known)
of_linked_or_new true life node name t n known s h = went s tt
of_linked_or_new false life node name t n known s h = of_new_object life node name t known s h

of_object_for : (life : Life) (node : ℕ) (name : List ℕ) (t : CType) (found : Option ℕ) (known : Known) → Sound known → Made t → Good Any (object_for life node name t found known)
of_object_for life node name t None known s h = of_new_object life node name t known s h
of_object_for life node name t (Some n) known s h = of_linked_or_new (is_linked life) life node name t n known s h

of_declare_object : (life : Life) (is_register : Bool) (node : ℕ) (name : List ℕ) (t : CType) (known : Known) → Sound known → Made t
    → Good Any (declare_object life is_register node name t known)
of_declare_object life is_register node name t known s h =
    bind (of_object_for life node name t (linked_object name known) known s h) (λ n k s r. went (bound name (an_object n is_register) k tt s) tt)

of_declare : (kind : Kind) (node : ℕ) (name : List ℕ) (t : CType) (i : Option c.Initialiser) (known : Known) → Sound known → Made t → Good Any (declare kind node name t i known)
of_declare a_type_name node name t i known s h = of_no_object i (bind_name name (a_typedef t) known) (bound name (a_typedef t) known h s)
of_declare a_function_name node name t i known s h =
    of_no_object i (bind_name name a_function (with_declared name t known)) (bound name a_function (with_declared name t known) tt (declared_made name t known h s))
of_declare (an_object_of life is_register) node name t i known s h = bind (of_declare_object life is_register node name t known s h) (λ n k s r. of_started_object life n i k s)

abbrev declare_if_named : Specified → Declares → Option c.Initialiser → Known → Option (List ℕ) → Walk (List Local)
declare_if_named it declared i known None = no_object i
declare_if_named it declared i known (Some name) = declare (kind_of known it.storage declared.type) declared.node name declared.type i

of_declare_if_named : (it : Specified) (declared : Declares) (name : Option (List ℕ)) (i : Option c.Initialiser) (known : Known) → Sound known → DeclaresMade declared
    → Good Any (declare_if_named it declared i known name known)
of_declare_if_named it declared None i known s h = of_no_object i known s
of_declare_if_named it declared (Some name) i known s h = of_declare (kind_of known it.storage declared.type) declared.node name declared.type i known s h.type

of_init_declarators : (it : Specified) (them : List c.InitDeclarator) (known : Known) → Sound known → SpecifiedMade it → Good Any (init_declarators it them known)
of_init_declarators it [] known s h = went s tt
of_init_declarators it (d ∷ ds) known s h =
    bind (bind (of_declarator d.declarator it false (declaration_faults it.storage (is_some d.initialiser)) known s h)
    (λ declared k s i. of_declare_if_named it declared declared.name d.initialiser k s i))
    (λ first k s r. bind (of_init_declarators it ds k s h) (λ rest k s r. went s tt))

pub of_declaration_by : (effective : Option Storage → Option Storage) (d : c.Declaration) (known : Known) → Sound known → Good Any (declaration_by effective d known)
of_declaration_by effective d known s =
    bind (of_specifiers d.specifiers (if has_no_declarator d.declarators then alone else elsewhere) known s)
    (λ it k s h. bind (of_init_declarators (record it { storage = effective it.storage }) d.declarators k s h) (λ locals k s r. went s tt))
