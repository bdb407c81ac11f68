-- Declarations in which no mark is added declare the same, but for the numbers of objects.
use Rattle.std.proofs.Common.{◌≡◌, ℕ, suc, ◌+◌, List, [], ◌∷◌, Option, Some, None, Bool, true, false, refl, sym, ap, ◌∙◌, subst}
use Rattle.std.specs.Prelude.{◌++◌, length, is_some, if◌then◌else◌}
use Rattle.std.specs.List.{flat_map}
use Rattle.lt_tree.specs.declared.specifier.Storage.{Storage}
use Rattle.lt_tree.specs.Tree as c
use Rattle.lt_tree.specs.Nodes.{in_expression, in_specifiers, in_declarator, in_initialiser, in_optional_initialiser, in_init_declarator, in_declaration}
use Rattle.lt_tree.specs.Typing.Types.{CType, is_array}
use Rattle.lt_tree.specs.Typing.Rules.{broken_if, bad_initialiser}
use Rattle.lt_tree.specs.Typing.TypedTree.{Local}
use Rattle.lt_tree.specs.Typing.Entities.{Known, Life, a_typedef, type_of_object, is_static}
use Rattle.lt_tree.specs.Typing.Steps.{Walk}
use Rattle.lt_tree.specs.Typing.Expressions.{as_value}
use Rattle.lt_tree.specs.Typing.Specifying.{Specified, alone, elsewhere}
use Rattle.lt_tree.specs.Typing.Filling.{Filling, is_character_array, is_too_long_for, value_faults, text_in, filling_of, nothing_to_fill, list_faults}
use Rattle.lt_tree.specs.Typing.InitialiserTyping.{initialisers, Started, with_length, started, whole_value, whole_text, whole_without_braces, listed_length, end_of_list, object_initialiser, initialiser_of_none}
use Rattle.lt_tree.specs.Typing.DeclarationTyping.{DeclaredLocals, no_object, started_object, declare, init_declarator, init_declarators, has_no_declarator, declaration_by}
use Rattle.lt_tree.specs.Typing.Declaring.{Kind, a_type_name, a_function_name, an_object_of, kind_of, declaration_faults, with_start, length_faults}
use Rattle.lt_object_laws.specs.Renamed.{renumbered, start_with, parts_with, locals_with}
use Rattle.lt_mark_typing.specs.Further.{Agrees}
use Rattle.lt_mark_typing.specs.Beside.{IsBeside, Follows}
use Rattle.lt_mark_typing.specs.Placed.{AreOld}
use Rattle.lt_mark_typing.proofs.Numbers.{agrees_so_far, later}
use Rattle.lt_mark_typing.proofs.Going.{same_of, bind, goes_here, entered_beside}
use Rattle.lt_mark_typing.proofs.Nodes.{old_first, old_second}
use Rattle.lt_mark_typing.proofs.Steps.{Same, bind_same, bind_declares, judged_same, bound_beside}
use Rattle.lt_mark_typing.proofs.Unchanged.{of_expression, of_specifiers, of_declarator}
use Rattle.lt_mark_typing.proofs.ObjectsThere.{type_known}
use Rattle.lt_mark_typing.proofs.Linked.{kind_known, declaration_known}
use Rattle.lt_mark_typing.proofs.Filled.{Fills, SameParts, parts_behind, locals_joined}
use Rattle.lt_mark_typing.proofs.Fillings.{letters_alone, value_faults_same, value_part_same, of_initialisers}
use Rattle.lt_mark_typing.proofs.Declared.{SameNumber, SameLocals, created_with, function_declared, object_declared, start_beside}

-- how an object starts, where objects have other numbers
abbrev pub started_with : (ℕ → ℕ) → Started → Started
started_with r it = record { start = record { zeroed = it.start.zeroed; parts = parts_with r it.start.parts }; type = it.type }

abbrev pub SameStart : (ℕ → ℕ) → Started → Started → Type 0
SameStart r a b = b ≡ started_with r a

abbrev pub SameDeclared : (ℕ → ℕ) → DeclaredLocals → DeclaredLocals → Type 0
SameDeclared r a b = b ≡ record a { locals = locals_with r a.locals }

-- what a declarator that has a name declares, and one that has none
abbrev pub declare_if_named : Specified → ℕ → CType → Option c.Initialiser → Known → Option (List ℕ) → Walk (List Local)
declare_if_named it node t i known None = no_object i
declare_if_named it node t i known (Some name) = declare (kind_of known it.storage t) node name t i

filling_of_itself : (known : Known) (t : CType) (list : c.Initialisers) (r : ℕ → ℕ) → Fills SameParts r (filling_of known 0 t list) (filling_of known 0 t list)
filling_of_itself known t list r = record { left = refl; parts = refl; surplus = refl }

nothing_itself : (r : ℕ → ℕ) → Fills SameParts r nothing_to_fill nothing_to_fill
nothing_itself r = record { left = refl; parts = refl; surplus = refl }

module _ {new : ℕ → Bool} {used : List ℕ} where
  -- ---- whole objects

  whole_same : (n m : ℕ) (is_static : Bool) (t : CType) (it : c.Expression) {further : List Bool} {k j : Known} → AreOld new (in_expression it) → IsBeside new used further k j
      → Follows new used further SameStart (whole_value n is_static t length_faults it k) (whole_value m is_static t length_faults it j)
  whole_same n m is_static t it h b =
      bind (of_expression it as_value h b) (λ x y k j behind e s b.
      bind_same (judged_same n m ((if is_array t then bad_initialiser ∷ [] else value_faults k is_static t x) ++ length_faults k t) ((if is_array t then bad_initialiser ∷ [] else value_faults j is_static t y) ++ length_faults j t)
      (ap (λ l. (if is_array t then bad_initialiser ∷ [] else l) ++ length_faults j t) (value_faults_same is_static t x y s b)
      ∙ same_of (λ (known : Known). (if is_array t then bad_initialiser ∷ [] else value_faults k is_static t x) ++ length_faults known t) b (λ r n os fs ls facts h. refl)) b)
      (λ u p q last e' b'. goes_here (later e' (λ r a. ap (λ part. started false (part ∷ []) t) (value_part_same is_static 0 t x y r (s r a) b))) b'))

  whole_text_same : (n m : ℕ) (t : CType) (bytes : List ℕ) {further : List Bool} {k j : Known} → IsBeside new used further k j
      → Follows new used further SameStart (whole_text n t length_faults bytes k) (whole_text m t length_faults bytes j)
  whole_text_same n m t bytes b =
      bind_same (letters_alone bytes b) (λ u k j behind e b.
      bind_same (judged_same n m (broken_if bad_initialiser (is_too_long_for t bytes) ++ length_faults k (with_length t (suc (length bytes)))) (broken_if bad_initialiser (is_too_long_for t bytes) ++ length_faults j (with_length t (suc (length bytes))))
      (same_of (λ (known : Known). broken_if bad_initialiser (is_too_long_for t bytes) ++ length_faults known (with_length t (suc (length bytes)))) b (λ r n os fs ls facts h. refl)) b)
      (λ u k j last e' b. goes_here (λ r a. refl) b))

  whole_by : (is_letters : Bool) (n m : ℕ) (is_static : Bool) (t : CType) (it : c.Expression) (bytes : List ℕ) {further : List Bool} {k j : Known} → AreOld new (in_expression it) → IsBeside new used further k j
      → Follows new used further SameStart
      ((if is_letters then whole_text n t length_faults bytes else whole_value n is_static t length_faults it) k) ((if is_letters then whole_text m t length_faults bytes else whole_value m is_static t length_faults it) j)
  whole_by true n m is_static t it bytes h b = whole_text_same n m t bytes b
  whole_by false n m is_static t it bytes h b = whole_same n m is_static t it h b

  unbraced_whole : (n m : ℕ) (is_static : Bool) (t : CType) (it : c.Expression) (text : Option (List ℕ)) {further : List Bool} {k j : Known} → AreOld new (in_expression it) → IsBeside new used further k j
      → Follows new used further SameStart (whole_without_braces n is_static t length_faults it text k) (whole_without_braces m is_static t length_faults it text j)
  unbraced_whole n m is_static t it None h b = whole_same n m is_static t it h b
  unbraced_whole n m is_static t it (Some bytes) h b = whole_by (is_character_array t) n m is_static t it bytes h b

  lengths_same : (t : CType) (list : c.Initialisers) (f g : Filling) {further : List Bool} {k j : Known} → g.left ≡ f.left → IsBeside new used further k j → listed_length j t list g ≡ listed_length k t list f
  lengths_same t list f g {j = j} e b = ap (λ left. listed_length j t list (record g { left = left })) e ∙ same_of (λ (known : Known). listed_length known t list f) b (λ r n os fs ls facts h. refl)

  list_ended : (n m : ℕ) (t : CType) (list : c.Initialisers) (f g : Filling) {further : List Bool} {k j : Known} → ((r : ℕ → ℕ) → Agrees r further → Fills SameParts r f g) → IsBeside new used further k j
      → Follows new used further SameStart (end_of_list n t length_faults list f k) (end_of_list m t length_faults list g j)
  list_ended n m t list f g {further} {k} {j} q b =
      let now = q (renumbered further) (agrees_so_far further) in
      let lengths = lengths_same t list f g now.left b in
      bind_same (judged_same n m (list_faults t list f ++ length_faults k (with_length t (listed_length k t list f))) (list_faults t list g ++ length_faults j (with_length t (listed_length j t list g)))
      (ap (λ s. list_faults t list (record f { has_surplus = s }) ++ length_faults j (with_length t (listed_length j t list g))) now.surplus
      ∙ ap (λ i. list_faults t list f ++ length_faults j (with_length t i)) lengths
      ∙ same_of (λ (known : Known). list_faults t list f ++ length_faults known (with_length t (listed_length k t list f))) b (λ r n os fs ls facts h. refl)) b)
      (λ u p o behind e b. goes_here (later e (λ r a. ap (λ i. started true g.parts (with_length t i)) lengths ∙ ap (λ parts. started true parts (with_length t (listed_length k t list f))) (q r a).parts)) b)

  of_object : (is_static : Bool) (t : CType) (it : c.Initialiser) {further : List Bool} {k j : Known} → AreOld new (in_initialiser it) → IsBeside new used further k j
      → Follows new used further SameStart (object_initialiser is_static t length_faults it k) (object_initialiser is_static t length_faults it j)
  of_object is_static t (c.Value it) {k = k} {j = j} h b = unbraced_whole k.next j.next is_static t it (text_in it) h.1 (entered_beside b)
  of_object is_static t (c.Braces list) {further} {k} {j} h b =
      let there = entered_beside b in
      bind (subst (λ filling. Follows new used further (Fills SameParts) (initialisers list is_static (filling_of k 0 t list) (record k { next = k.next + 1 })) (initialisers list is_static filling (record j { next = j.next + 1 })))
      (sym (same_of (λ (known : Known). filling_of known 0 t list) there (λ r n os fs ls facts h. refl)))
      (of_initialisers SameParts parts_behind list is_static (filling_of k 0 t list) (filling_of k 0 t list) h.1 (λ r a. filling_of_itself k t list r) there))
      (λ f g m n behind e q b. list_ended k.next j.next t list f g q b)

  of_none : (it : c.Initialiser) {further : List Bool} {k j : Known} → AreOld new (in_initialiser it) → IsBeside new used further k j → Follows new used further (Same {A = Unit {0}}) (initialiser_of_none it k) (initialiser_of_none it j)
  of_none (c.Value it) {k = k} {j = j} h b = bind (of_expression it as_value h.1 (entered_beside b)) (λ x y m n behind e s b. judged_same k.next j.next (bad_initialiser ∷ []) (bad_initialiser ∷ []) refl b)
  of_none (c.Braces list) {k = k} {j = j} h b =
      bind (of_initialisers SameParts parts_behind list false nothing_to_fill nothing_to_fill h.1 (λ r a. nothing_itself r) (entered_beside b))
      (λ f g m n behind e s b. judged_same k.next j.next (bad_initialiser ∷ []) (bad_initialiser ∷ []) refl b)

  -- ---- declarations

  of_no_object : (i : Option c.Initialiser) {further : List Bool} {k j : Known} → AreOld new (in_optional_initialiser i) → IsBeside new used further k j → Follows new used further SameLocals (no_object i k) (no_object i j)
  of_no_object None h b = goes_here (λ r a. refl) b
  of_no_object (Some i) h b = bind_same (of_none i h b) (λ u m n behind e b. goes_here (λ r a. refl) b)

  of_started : (life : Life) (n m : ℕ) (it : Option c.Initialiser) {further : List Bool} {k j : Known} → AreOld new (in_optional_initialiser it) → ((r : ℕ → ℕ) → Agrees r further → SameNumber r n m) → IsBeside new used further k j
      → Follows new used further SameLocals (started_object life n it k) (started_object life m it j)
  of_started life n m None h s b = goes_here (λ r a. created_with r (is_static life) n m None None (s r a) refl) b
  of_started life n m (Some it) {further} {k} {j} h s b =
      bind (subst (λ t. Follows new used further SameStart (object_initialiser (is_static life) (type_of_object k n) length_faults it k) (object_initialiser (is_static life) t length_faults it j))
      (sym (ap (type_of_object j) (s (renumbered further) (agrees_so_far further)) ∙ type_known b (renumbered further) (agrees_so_far further) n))
      (of_object (is_static life) (type_of_object k n) it h b))
      (λ x y k' j' behind e q b. goes_here (λ r a. created_with r (is_static life) n m (Some x.start) (Some y.start) (later e s r a) (ap (λ (it : Started). Some it.start) (q r a)))
      (subst (λ t. IsBeside new used behind (with_start n (if is_static life then Some x.start else None) x.type k') (with_start m (if is_static life then Some y.start else None) t j'))
      (sym (ap (λ (it : Started). it.type) (q (renumbered behind) (agrees_so_far behind))))
      (start_beside n m (if is_static life then Some x.start else None) (if is_static life then Some y.start else None) x.type (later e s) (λ r a. starts (is_static life) r x y (q r a)) b)))
    where
      starts : (is_there : Bool) (r : ℕ → ℕ) (x y : Started) → SameStart r x y → (if is_there then Some y.start else None) ≡ start_with r (if is_there then Some x.start else None)
      starts true r x y h = ap (λ (it : Started). Some it.start) h
      starts false r x y h = refl

  of_declared : (kind : Kind) (n m : ℕ) (name : List ℕ) (t : CType) (i : Option c.Initialiser) {further : List Bool} {k j : Known} → AreOld new (in_optional_initialiser i) → IsBeside new used further k j
      → Follows new used further SameLocals (declare kind n name t i k) (declare kind m name t i j)
  of_declared a_type_name n m name t i h b = of_no_object i h (bound_beside name (a_typedef t) (a_typedef t) (λ r a. refl) b)
  of_declared a_function_name n m name t i h b = bind_same (function_declared name t b) (λ u m n behind e b. of_no_object i h b)
  of_declared (an_object_of life is_register) n m name t i h b = bind (object_declared life is_register n m name t b) (λ n n' k j behind e s b. of_started life n n' i h s b)

  declared_if_named : (it : Specified) (n m : ℕ) (t : CType) (name : Option (List ℕ)) (i : Option c.Initialiser) {further : List Bool} {k j : Known} → AreOld new (in_optional_initialiser i) → IsBeside new used further k j
      → Follows new used further SameLocals (declare_if_named it n t i k name k) (declare_if_named it m t i j name j)
  declared_if_named it n m t None i h b = of_no_object i h b
  declared_if_named it n m t (Some name) i {further} {k} {j} h b =
      subst (λ kind. Follows new used further SameLocals (declare (kind_of k it.storage t) n name t i k) (declare kind m name t i j))
      (sym (kind_known b (renumbered further) (agrees_so_far further) it.storage t)) (of_declared (kind_of k it.storage t) n m name t i h b)

  pub of_init : (it : Specified) (d : c.InitDeclarator) {further : List Bool} {k j : Known} → AreOld new (in_init_declarator d) → IsBeside new used further k j
      → Follows new used further SameLocals (init_declarator it d k) (init_declarator it d j)
  of_init it d h b =
      bind_declares (λ declared known. declare_if_named it declared.node declared.type d.initialiser known declared.name known)
      (of_declarator d.declarator it false (declaration_faults it.storage (is_some d.initialiser)) (λ name further k j r a b built. declaration_known b r a it.storage (is_some d.initialiser) name built)
      (old_first new (in_declarator d.declarator) (in_optional_initialiser d.initialiser) h) b)
      (λ declared i parameters k j behind e s b. declared_if_named it declared.node i declared.type declared.name d.initialiser (old_second new (in_declarator d.declarator) (in_optional_initialiser d.initialiser) h) b)

  of_inits : (it : Specified) (ds : List c.InitDeclarator) {further : List Bool} {k j : Known} → AreOld new (flat_map in_init_declarator ds) → IsBeside new used further k j
      → Follows new used further SameLocals (init_declarators it ds k) (init_declarators it ds j)
  of_inits it [] h b = goes_here (λ r a. refl) b
  of_inits it (d ∷ ds) h b =
      bind (of_init it d (old_first new (in_init_declarator d) (flat_map in_init_declarator ds) h) b) (λ first first' k j behind e s b.
      bind (of_inits it ds (old_second new (in_init_declarator d) (flat_map in_init_declarator ds) h) b) (λ rest rest' k j last e' q b.
      goes_here (λ r a. ap (λ l. l ++ rest') (later e' s r a) ∙ ap (λ l. locals_with r first ++ l) (q r a) ∙ sym (locals_joined r first rest)) b))

  pub of_declaration : (effective : Option Storage → Option Storage) (d : c.Declaration) {further : List Bool} {k j : Known} → AreOld new (in_declaration d) → IsBeside new used further k j
      → Follows new used further SameDeclared (declaration_by effective d k) (declaration_by effective d j)
  of_declaration effective d h b =
      bind_same (of_specifiers d.specifiers (if has_no_declarator d.declarators then alone else elsewhere) (old_first new (in_specifiers d.specifiers) (flat_map in_init_declarator d.declarators) h) b)
      (λ it k j behind e b. bind (of_inits (record it { storage = effective it.storage }) d.declarators (old_second new (in_specifiers d.specifiers) (flat_map in_init_declarator d.declarators) h) b)
      (λ locals others k j last e' s b. goes_here (λ r a. ap (λ them. record { locals = them; faults = if has_no_declarator d.declarators then it.faults else [] }) (s r a)) b))
