-- Declarations note the same in both texts.
use Rattle.std.proofs.Common.{◌≡◌, refl, sym, ap, ◌∙◌, subst, ℕ, Bool, true, false, if◌then◌else◌, List, [], ◌∷◌, ◌++◌, Option, Some, None, is_some, slice_get, slice_set}
use Rattle.std.specs.List.{flat_map}
use Rattle.lt_tree.specs.declared.specifier.Storage.{Storage}
use Rattle.lt_tree.specs.Tree as c
use Rattle.lt_tree.specs.Nodes.{an_initialiser, in_mark, in_specifiers, in_declarator, in_initialiser, in_optional_initialiser, in_init_declarator, in_declaration}
use Rattle.lt_tree.specs.Typing.Types.{CType}
use Rattle.lt_tree.specs.Typing.Rules.{bad_initialiser}
use Rattle.lt_tree.specs.Typing.TypedTree.{Start}
use Rattle.lt_tree.specs.Typing.Entities.{Known, Object, Fact, Life, automatic, is_linked, linked_object, an_object, a_function, a_typedef, type_of_object, declared_among, is_static}
use Rattle.lt_tree.specs.Typing.Steps.{goes_on, gives, binds, ◌>>◌}
use Rattle.lt_tree.specs.Typing.Specifying.{Specified, alone, elsewhere}
use Rattle.lt_tree.specs.Typing.Filling.{nothing_to_fill}
use Rattle.lt_tree.specs.Typing.Declarators.{Declares}
use Rattle.lt_tree.specs.Typing.Declaring.{Kind, a_type_name, a_function_name, an_object_of, kind_of, declaration_faults, declare_function, new_object as create_object, object_for, declare_object, with_start, length_faults}
use Rattle.lt_tree.specs.Typing.ExpressionTyping.{specifiers, mark}
use Rattle.lt_tree.specs.Typing.InitialiserTyping.{object_initialiser, initialiser_of_none}
use Rattle.lt_tree.specs.Typing.DeclarationTyping.{no_object, started_object, declare, DeclaredLocals, init_declarator, init_declarators, has_no_declarator, declaration_by}
use Rattle.lt_tree_laws.specs.Typing.NodeNumbers.{GoesOver}
use Rattle.lt_typed_nodes.specs.Laws.{NotesItsNodes}
use Rattle.lt_object_laws.specs.Renamed.{renumbered}
use Rattle.lt_mark_typing.specs.Further.{Agrees}
use Rattle.lt_mark_typing.specs.Beside.{IsBeside}
use Rattle.lt_mark_typing.specs.Laws.{ExpressionsAreTypedAgain}
use Rattle.lt_mark_typing.specs.Placed.{AreOld, entered}
use Rattle.lt_mark_typing.specs.PlacedInitialisers as p
use Rattle.lt_mark_typing.specs.PlacedInitialisers.{AddsToObject, AddsToStartOf, AddsToDeclarators, AddsToDeclaration}
use Rattle.lt_mark_typing.proofs.Numbers.{extends_itself, agrees_so_far, later}
use Rattle.lt_mark_typing.proofs.Going.{entered_beside}
use Rattle.lt_mark_typing.proofs.Nodes.{old_first, old_second}
use Rattle.lt_mark_typing.proofs.ObjectsThere.{type_known}
use Rattle.lt_mark_typing.proofs.Steps.{bound_beside}
use Rattle.lt_mark_typing.proofs.Linked.{kind_known, declaration_known}
use Rattle.lt_mark_typing.proofs.Declared.{SameNumber, function_declared, object_declared, start_beside}
use Rattle.lt_mark_typing.proofs.Declarations as u
use Rattle.lt_mark_typing.proofs.Declarations.{declare_if_named}
use Rattle.lt_kept_facts.proofs.KeptSteps.{Same, Piece, went, done, joined, after, after_more, judges, unnoted}
use Rattle.lt_kept_facts.proofs.KeptLeaves.{Stays, still_part, still, joined_at, joined_same, joined_declares}
use Rattle.lt_kept_facts.proofs.KeptNoted.{Noted, both, at_once, noted, with_known, noted_behind, noted_after, noted_at, noted_declares}
use Rattle.lt_kept_facts.proofs.KeptOld.{of_specs, of_decl}
use Rattle.lt_kept_facts.proofs.KeptInitialisers.{Like, type_given, old_value, old_initialisers, old_object, new_object}
use Rattle.lt_kept_facts.proofs.KeptPieces.{OldDeclarationsKeep, DeclarationsKeep}

-- of what comes nothing is said
abbrev Any : {A B : Type 0} → A → B → Type 0
Any x y = Unit {0}

-- ---- steps that neither go over nodes nor note facts

pub function_stays : (name : List ℕ) (t : CType) (known : Known) → Stays known (declare_function name t known)
function_stays name t known = by (declared_among name known.declared)
  where
    by : (found : Option CType) → Stays known (binds name a_function (elim (found) as (λ _. Known) [ None ↦ record known { declared = known.declared ++ record { name = name; type = t } ∷ [] } | Some u ↦ known ]))
    by None = (refl, refl)
    by (Some u) = (refl, refl)

object_stays : (life : Life) (is_register : Bool) (node : ℕ) (name : List ℕ) (t : CType) (known : Known) → Stays known (declare_object life is_register node name t known)
object_stays life is_register node name t known = by (linked_object name known)
  where
    linked_by : (linkage : Bool) (n : ℕ) → Stays known (goes_on ((if linkage then gives n else create_object life node name t) known) (λ n. binds name (an_object n is_register) >> gives n))
    linked_by true n = (refl, refl)
    linked_by false n = (refl, refl)

    by : (found : Option ℕ) → Stays known (goes_on (object_for life node name t found known) (λ n. binds name (an_object n is_register) >> gives n))
    by None = (refl, refl)
    by (Some n) = linked_by (is_linked life) n

start_stays : (n : ℕ) (start : Option Start) (t : CType) (known : Known) → ((with_start n start t known).next ≡ known.next) × ((with_start n start t known).facts ≡ known.facts)
start_stays n start t known = by (slice_get known.objects n)
  where
    starting : Option Object → Known
    starting found = elim (found) [ None ↦ known | Some object ↦ record known { objects = slice_set known.objects n (record object { type = t; start = start }) } ]

    by : (found : Option Object) → ((starting found).next ≡ known.next) × ((starting found).facts ≡ known.facts)
    by None = (refl, refl)
    by (Some object) = (refl, refl)

-- ---- how objects start

module _ {F G : List Fact} {new : ℕ → Bool} {ids : List ℕ} {further : List Bool} where
  started_noted : (life : Life) (n m : ℕ) (it other : c.Initialiser) (k l : Known)
      → Piece F G new ids further (Like type_given) k (in_initialiser it) l (in_initialiser other) (object_initialiser (is_static life) (type_of_object k n) length_faults it k) (object_initialiser (is_static life) (type_of_object l m) length_faults other l)
      → Noted F G k.next k.facts (in_initialiser it) l.next l.facts (in_initialiser other) (started_object life n (Some it) k) (started_object life m (Some other) l)
  started_noted life n m it other k l o = noted_after o (λ x y k l e i r behind b.
      both (still_part k _ (start_stays n (if is_static life then Some x.start else None) x.type k)) (still_part l _ (start_stays m (if is_static life then Some y.start else None) y.type l)) (λ f g. refl))

  -- an object that isn't there from the start
  started_kept : (n m : ℕ) (it other : c.Initialiser) (k l : Known) → ((r : ℕ → ℕ) → Agrees r further → SameNumber r n m)
      → Piece F G new ids further (Like type_given) k (in_initialiser it) l (in_initialiser other) (object_initialiser false (type_of_object k n) length_faults it k) (object_initialiser false (type_of_object l m) length_faults other l)
      → Piece F G new ids further Any k (in_initialiser it) l (in_initialiser other) (started_object automatic n (Some it) k) (started_object automatic m (Some other) l)
  started_kept n m it other k l number o = after_more o (λ x y k l e i r behind v b. went (extends_itself behind) tt
      (subst (λ t. IsBeside new ids behind (with_start n None x.type k) (with_start m None t l)) (sym r) (start_beside n m None None x.type (later v number) (λ r a. refl) b))
      (still_part k _ (start_stays n None x.type k)) (still_part l _ (start_stays m None y.type l)) (λ f g. refl))

  -- a name in both texts
  bound_kept : (name : List ℕ) (t : CType) (k l : Known) → IsBeside new ids further k l → Piece F G new ids further Same k [] l [] (binds name (a_typedef t) k) (binds name (a_typedef t) l)
  bound_kept name t k l b = went (extends_itself further) refl (bound_beside name (a_typedef t) (a_typedef t) (λ r a. refl) b) (still_part k _ (refl, refl)) (still_part l _ (refl, refl)) (λ f g. refl)

module _ {F G : List Fact} {new : ℕ → Bool} (numbered : (it : c.Mark) (known : Known) → GoesOver (in_mark it) known (mark it known)) (noting : (it : c.Mark) (known : Known) → NotesItsNodes known (mark it known)) where
  -- ---- declarations in which no mark is added

  of_none : {ids : List ℕ} {further : List Bool} (it : c.Initialiser) (k l : Known) → AreOld new (in_initialiser it) → IsBeside new ids further k l → Piece F G new ids further (λ (u v : Unit {0}). Unit {0}) k (in_initialiser it) l (in_initialiser it) (initialiser_of_none it k) (initialiser_of_none it l)
  of_none (c.Value it) k l h b = unnoted (an_initialiser (c.Value it)) (an_initialiser (c.Value it)) refl refl (λ whole n zs. refl) (λ whole n zs. refl)
      (after (old_value numbered noting false it (entered k) (entered l) h.1 (entered_beside b)) (λ x y m n e i r flags b. judges k.next l.next (bad_initialiser ∷ []) (bad_initialiser ∷ []) b))
  of_none (c.Braces list) k l h b = unnoted (an_initialiser (c.Braces list)) (an_initialiser (c.Braces list)) refl refl (λ whole n zs. refl) (λ whole n zs. refl)
      (after (old_initialisers numbered noting list false nothing_to_fill nothing_to_fill (entered k) (entered l) h.1 refl (entered_beside b)) (λ x y m n e i r flags b. judges k.next l.next (bad_initialiser ∷ []) (bad_initialiser ∷ []) b))

  of_no_object : {ids : List ℕ} {further : List Bool} (i : Option c.Initialiser) (k l : Known) → AreOld new (in_optional_initialiser i) → IsBeside new ids further k l
      → Piece F G new ids further Any k (in_optional_initialiser i) l (in_optional_initialiser i) (no_object i k) (no_object i l)
  of_no_object None k l h b = done {R = Any} tt b
  of_no_object (Some i) k l h b = after (of_none i k l h b) (λ u v m n e e' r flags b. done {R = Any} tt b)

  of_started : {ids : List ℕ} {further : List Bool} (life : Life) (n m : ℕ) (it : Option c.Initialiser) (k l : Known) → type_of_object l m ≡ type_of_object k n → AreOld new (in_optional_initialiser it) → IsBeside new ids further k l
      → Noted F G k.next k.facts (in_optional_initialiser it) l.next l.facts (in_optional_initialiser it) (started_object life n it k) (started_object life m it l)
  of_started life n m None k l t h b = at_once k l
  of_started {ids} {further} life n m (Some it) k l t h b = started_noted life n m it it k l
      (subst (λ t. Piece F G new ids further (Like type_given) k (in_initialiser it) l (in_initialiser it) (object_initialiser (is_static life) (type_of_object k n) length_faults it k) (object_initialiser (is_static life) t length_faults it l))
      (sym t) (old_object numbered noting it (is_static life) (type_of_object k n) k l h b))

  of_declared : {ids : List ℕ} {further : List Bool} (kind : Kind) (n m : ℕ) (name : List ℕ) (t : CType) (i : Option c.Initialiser) (k l : Known) → AreOld new (in_optional_initialiser i) → IsBeside new ids further k l
      → Noted F G k.next k.facts (in_optional_initialiser i) l.next l.facts (in_optional_initialiser i) (declare kind n name t i k) (declare kind m name t i l)
  of_declared a_type_name n m name t i k l h b = noted_behind {xs = []} {ys = []} (bound_kept name t k l b) (λ u v k l e e' r flags b. noted (of_no_object i k l h b))
  of_declared a_function_name n m name t i k l h b =
      noted_behind {xs = []} {ys = []} (still k l (function_declared name t b) (function_stays name t k) (function_stays name t l)) (λ u v k l e e' r flags b. noted (of_no_object i k l h b))
  of_declared (an_object_of life is_register) n m name t i k l h b =
      let declared = object_declared life is_register n m name t b in
      noted_at {xs = []} {ys = []} declared (still k l declared (object_stays life is_register n name t k) (object_stays life is_register m name t l))
      (λ n m k l flags s b. of_started life n m i k l (ap (type_of_object l) (s (renumbered flags) (agrees_so_far flags)) ∙ type_known b (renumbered flags) (agrees_so_far flags) n) h b)

  of_named : {ids : List ℕ} {further : List Bool} (it : Specified) (n m : ℕ) (t : CType) (name : Option (List ℕ)) (i : Option c.Initialiser) (k l : Known) → AreOld new (in_optional_initialiser i) → IsBeside new ids further k l
      → Noted F G k.next k.facts (in_optional_initialiser i) l.next l.facts (in_optional_initialiser i) (declare_if_named it n t i k name k) (declare_if_named it m t i l name l)
  of_named it n m t None i k l h b = noted (of_no_object i k l h b)
  of_named {further = further} it n m t (Some name) i k l h b =
      subst (λ kind. Noted F G k.next k.facts (in_optional_initialiser i) l.next l.facts (in_optional_initialiser i) (declare (kind_of k it.storage t) n name t i k) (declare kind m name t i l))
      (sym (kind_known b (renumbered further) (agrees_so_far further) it.storage t)) (of_declared (kind_of k it.storage t) n m name t i k l h b)

  of_init : {ids : List ℕ} {further : List Bool} (it : Specified) (d : c.InitDeclarator) (k l : Known) → AreOld new (in_init_declarator d) → IsBeside new ids further k l
      → Piece F G new ids further Any k (in_init_declarator d) l (in_init_declarator d) (init_declarator it d k) (init_declarator it d l)
  of_init it d k l h b = with_known (u.of_init it d h b)
      (noted_declares (λ declared known. declare_if_named it declared.node declared.type d.initialiser known declared.name known)
      (of_decl numbered noting d.declarator it false (declaration_faults it.storage (is_some d.initialiser)) (λ name further k j r a b built. declaration_known b r a it.storage (is_some d.initialiser) name built) k l
      (old_first new (in_declarator d.declarator) (in_optional_initialiser d.initialiser) h) b)
      (λ declared i parameters m n e flags b. of_named it declared.node i declared.type declared.name d.initialiser m n (old_second new (in_declarator d.declarator) (in_optional_initialiser d.initialiser) h) b))

  of_inits : {ids : List ℕ} {further : List Bool} (it : Specified) (ds : List c.InitDeclarator) (k l : Known) → AreOld new (flat_map in_init_declarator ds) → IsBeside new ids further k l
      → Piece F G new ids further Any k (flat_map in_init_declarator ds) l (flat_map in_init_declarator ds) (init_declarators it ds k) (init_declarators it ds l)
  of_inits it [] k l h b = done {R = Any} tt b
  of_inits it (d ∷ ds) k l h b = joined (of_init it d k l (old_first new (in_init_declarator d) (flat_map in_init_declarator ds) h) b) (λ x y m n e i r flags b.
      after (of_inits it ds m n (old_second new (in_init_declarator d) (flat_map in_init_declarator ds) h) b) (λ xs ys m n e i r flags b. done {R = Any} tt b))

  pub old_declarations : OldDeclarationsKeep F G new
  old_declarations effective ids further k l d h b =
      joined_same (of_specs numbered noting d.specifiers (if has_no_declarator d.declarators then alone else elsewhere) k l (old_first new (in_specifiers d.specifiers) (flat_map in_init_declarator d.declarators) h) b) (λ it m n e flags b.
      after (of_inits (record it { storage = effective it.storage }) d.declarators m n (old_second new (in_specifiers d.specifiers) (flat_map in_init_declarator d.declarators) h) b) (λ x y m n e i r flags b. done {R = Any} tt b))

-- ---- declarations with marks added

module _ {F G : List Fact} {new : ℕ → Bool} (numbered : (it : c.Mark) (known : Known) → GoesOver (in_mark it) known (mark it known)) (noting : (it : c.Mark) (known : Known) → NotesItsNodes known (mark it known)) (again : ExpressionsAreTypedAgain) where
  new_started : {ids last : List ℕ} {further : List Bool} {k : Known} (n m : ℕ) (it other : c.Initialiser) → AddsToObject new ids last k (type_of_object k n) it other → (l : Known) → ((r : ℕ → ℕ) → Agrees r further → SameNumber r n m)
      → IsBeside new ids further k l → Piece F G new last further Any k (in_initialiser it) l (in_initialiser other) (started_object automatic n (Some it) k) (started_object automatic m (Some other) l)
  new_started {last = last} {further} {k} n m it other d l number b = started_kept n m it other k l number
      (subst (λ t. Piece F G new last further (Like type_given) k (in_initialiser it) l (in_initialiser other) (object_initialiser false (type_of_object k n) length_faults it k) (object_initialiser false t length_faults other l))
      (sym (ap (type_of_object l) (number (renumbered further) (agrees_so_far further)) ∙ type_known b (renumbered further) (agrees_so_far further) n)) (new_object numbered noting again d l b))

  new_start_of : {ids last : List ℕ} {further : List Bool} {k : Known} (n : ℕ) (it : Specified) (declared : Declares) (i other : c.Initialiser) → AddsToStartOf new ids last it declared k i other → (l : Known) → IsBeside new ids further k l
      → Piece F G new last further Any k (in_initialiser i) l (in_initialiser other) (declare_if_named it declared.node declared.type (Some i) k declared.name k) (declare_if_named it n declared.type (Some other) l declared.name l)
  new_start_of {last = last} {further} {k} n it declared i other h l b =
      let name = h.0 in
      let objects = object_declared automatic h.1 declared.node n name declared.type b in
      subst (λ found. Piece F G new last further Any k (in_initialiser i) l (in_initialiser other) (declare_if_named it declared.node declared.type (Some i) k found k) (declare_if_named it n declared.type (Some other) l found l)) (sym h.2)
      (subst (λ what. Piece F G new last further Any k (in_initialiser i) l (in_initialiser other) (declare what declared.node name declared.type (Some i) k) (declare (kind_of l it.storage declared.type) n name declared.type (Some other) l)) (sym h.3)
      (subst (λ what. Piece F G new last further Any k (in_initialiser i) l (in_initialiser other) (declare (an_object_of automatic h.1) declared.node name declared.type (Some i) k) (declare what n name declared.type (Some other) l))
      (sym (kind_known b (renumbered further) (agrees_so_far further) it.storage declared.type ∙ h.3))
      (joined_at {xs = []} {ys = []} objects (still k l objects (object_stays automatic h.1 declared.node name declared.type k) (object_stays automatic h.1 n name declared.type l))
      (λ a a' m o q q' r behind v s b. new_started a a' i other (h.4 a m q) o s b))))

  new_declarators : {ids last : List ℕ} {further : List Bool} {it : Specified} {k : Known} {ds es : List c.InitDeclarator} → AddsToDeclarators new ids last it k ds es → (l : Known) → IsBeside new ids further k l
      → Piece F G new last further Any k (flat_map in_init_declarator ds) l (flat_map in_init_declarator es) (init_declarators it ds k) (init_declarators it es l)
  new_declarators p.no_declarators l b = done {R = Any} tt b
  new_declarators (p.a_declarator {it = it} {known = k} {d = d} h f) l b = joined (of_init numbered noting it d k l h b) (λ x y m n q i r flags b. after (new_declarators (f x m q) n b) (λ xs ys m n q i r flags b. done {R = Any} tt b))
  new_declarators (p.an_initialised {it = it} {known = k} {d = d} {i = i} {j = other} h f g) l b =
      joined (joined_declares (λ declared known. declare_if_named it declared.node declared.type (Some other) known declared.name known)
      (of_decl numbered noting d it false (declaration_faults it.storage true) (λ name further k j r a b built. declaration_known b r a it.storage true name built) k l h b) (λ declared at parameters m n q flags b. new_start_of at it declared i other (f declared m q) n b))
      (λ x y m n q q' r flags b. after (new_declarators (g x m q) n b) (λ xs ys m n q q' r flags b. done {R = Any} tt b))

  new_declaration : {effective : Option Storage → Option Storage} {ids last : List ℕ} {further : List Bool} {k : Known} {d e : c.Declaration} → AddsToDeclaration new effective ids last k d e → (l : Known) → IsBeside new ids further k l
      → Piece F G new last further (λ (x y : DeclaredLocals). Unit {0}) k (in_declaration d) l (in_declaration e) (declaration_by effective d k) (declaration_by effective e l)
  new_declaration {further = further} (p.a_declaration {used = ids} {known = k} {s = s} {ds = ds} {es = es} h e f) l b =
      joined_same (subst (λ t. Piece F G new ids further Same k (in_specifiers s) l (in_specifiers s) (specifiers s (if has_no_declarator ds then alone else elsewhere) k) (specifiers s (if t then alone else elsewhere) l)) (sym e)
      (of_specs numbered noting s (if has_no_declarator ds then alone else elsewhere) k l h b)) (λ it m n q flags b.
      after (new_declarators (f it m q) n b) (λ x y m n q i r flags b. done {R = Any} tt b))

  pub declarations : DeclarationsKeep F G new
  declarations effective ids last further k l d e h b = new_declaration h l b
