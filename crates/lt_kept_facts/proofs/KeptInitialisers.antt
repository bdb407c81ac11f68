-- Initialisers note the same in both texts.
use Rattle.std.proofs.Common.{◌≡◌, refl, sym, ap, ◌∙◌, subst, ℕ, suc, ◌+◌, eq-eqb, Bool, true, false, if◌then◌else◌, List, [], ◌∷◌, ◌++◌, length, Option, Some, None, arith}
use Rattle.lt_tree.specs.Tree as c
use Rattle.lt_tree.specs.Nodes.{Node, an_expression, an_initialiser, in_expression, in_initialiser, in_initialisers, in_mark}
use Rattle.lt_tree.specs.Typing.Types.{CType, struct_of, is_array}
use Rattle.lt_tree.specs.Typing.Extents.{has_too_many_cells}
use Rattle.lt_tree.specs.Typing.Constants.{varying, is_number}
use Rattle.lt_tree.specs.Typing.Rules.{Rule, broken_if, least, bad_length, bad_initialiser}
use Rattle.lt_tree.specs.Typing.Entities.{Known, Fact}
use Rattle.lt_tree.specs.Typing.Steps.{goes_on, unless_broken, settle, notes, gives, ◌>>◌}
use Rattle.lt_tree.specs.Typing.Expressions.{Typed, as_value, own_type}
use Rattle.lt_tree.specs.Typing.Operations.{text_type}
use Rattle.lt_tree.specs.Typing.Declaring.{length_faults}
use Rattle.lt_tree.specs.Typing.Filling.{Run, Filling, behind_first, opened, is_character_array, is_struct_of, is_too_long_for, letters_of, value_faults, text_in, only_text, filling_of, list_faults, elements_begun}
use Rattle.lt_tree.specs.Typing.ExpressionTyping.{expression, mark}
use Rattle.lt_tree.specs.Typing.InitialiserTyping.{literal_alone, filled_by, fill_value, value_initialiser, fill_text, initialiser_without_braces, filling_for, faults_of_list, behind_list, initialiser, initialisers, Started, with_length, whole_value, whole_text, whole_without_braces, listed_length, end_of_list, object_initialiser}
use Rattle.lt_tree_laws.specs.Typing.NodeNumbers.{GoesOver}
use Rattle.lt_typed_nodes.specs.Laws.{NotesItsNodes}
use Rattle.lt_mark_typing.specs.Beside.{IsBeside, in_use}
use Rattle.lt_mark_typing.specs.Laws.{ExpressionsAreTypedAgain}
use Rattle.lt_mark_typing.specs.Placed.{AreOld, entered, AddsTo}
use Rattle.lt_mark_typing.specs.PlacedInitialisers as p
use Rattle.lt_mark_typing.specs.PlacedInitialisers.{AddsToInitialiser, AddsToInitialisers, AddsToObject}
use Rattle.lt_mark_typing.proofs.Going.{same_of}
use Rattle.lt_mark_typing.proofs.Numbers.{extends_itself}
use Rattle.lt_mark_typing.proofs.Going.{entered_beside}
use Rattle.lt_mark_typing.proofs.Renumbering.{own_type_with}
use Rattle.lt_mark_typing.proofs.Nodes.{old_first, old_second}
use Rattle.lt_mark_typing.proofs.Ends.{noted_beside}
use Rattle.lt_mark_typing.proofs.Unchanged as u
use Rattle.lt_mark_typing.proofs.Fillings.{opened_same}
use Rattle.lt_kept_facts.specs.Asked.{asked}
use Rattle.lt_kept_facts.proofs.SeenAlike.{same_type}
use Rattle.lt_kept_facts.proofs.KeptSteps.{Part, HasFacts, Piece, went, first_broke, second_broke, done, joined, after, so, judges, unnoted}
use Rattle.lt_kept_facts.proofs.KeptLeaves.{also}
use Rattle.lt_kept_facts.proofs.KeptOld.{of_whole}
use Rattle.lt_kept_facts.proofs.KeptAgain.{whole_to}

-- what counts of it is the same
abbrev pub Like : {A B : Type 0} → (A → B) → A → A → Type 0
Like part a b = part b ≡ part a

-- what is left to be filled
abbrev pub left_of : Filling → List Run
left_of filling = filling.left

-- the type that an object has behind its initialiser
abbrev pub type_given : Started → CType
type_given it = it.type

-- the length that a list gives, by its lone string literal and by what is left to be filled behind it
abbrev listed_by : CType → Known → Option (List ℕ) → List Run → ℕ
listed_by t known text runs = elim (text) [ None ↦ elements_begun known runs | Some bytes ↦ (if is_character_array t then suc (length bytes) else elements_begun known runs) ]

-- only a string literal counts as one
text_is : (it : c.Expression) (bytes : List ℕ) → text_in it ≡ Some bytes → it ≡ c.Text bytes
text_is (c.Text text) bytes e = cc
text_is _ bytes e = absurd cc

-- ---- what is filled, and what is left to be

module _ {new : ℕ → Bool} {ids : List ℕ} {further : List Bool} where
  for_list : (is js : c.Initialisers) (f g : Filling) {k j : Known} → only_text js ≡ only_text is → Like left_of f g → IsBeside new ids further k j → filling_for j js g.left ≡ filling_for k is f.left
  for_list is js f g {k} {j} e r b = ap (filling_for j js) r ∙ by f.left ∙ same_of (λ (known : Known). filling_for known is f.left) b (λ r n os fs ls facts h. refl)
    where
      by : (runs : List Run) → filling_for j js runs ≡ filling_for j is runs
      by [] = refl
      by (run ∷ runs) = rw e refl

  for_object : (t : CType) (is js : c.Initialisers) {k j : Known} → only_text js ≡ only_text is → IsBeside new ids further k j → filling_of j 0 t js ≡ filling_of k 0 t is
  for_object t is js e b = rw e (same_of (λ (known : Known). filling_of known 0 t is) b (λ r n os fs ls facts h. refl))

  behind_like : (f g inner other : Filling) {k j : Known} → Like left_of f g → IsBeside new ids further k j → Like left_of (behind_list k f inner f.left) (behind_list j g other g.left)
  behind_like f g inner other {k} {j} r b = subst (λ runs. Like left_of (behind_list k f inner f.left) (behind_list j g other runs)) (sym r) (by f.left)
    where
      by : (runs : List Run) → Like left_of (behind_list k f inner runs) (behind_list j g other runs)
      by [] = r
      by (run ∷ runs) = same_of (λ (known : Known). behind_first known run ++ runs) b (λ r n os fs ls facts h. refl)

  lengths_listed : (t : CType) (is js : c.Initialisers) (f g : Filling) {k j : Known} → only_text js ≡ only_text is → Like left_of f g → IsBeside new ids further k j → listed_length j t js g ≡ listed_length k t is f
  lengths_listed t is js f g {k} {j} e r b =
      ap (listed_by t j (only_text js)) r ∙ ap (λ text. listed_by t j text f.left) e ∙ same_of (λ (known : Known). listed_length known t is f) b (λ r n os fs ls facts h. refl)

-- ---- string literals that initialise arrays

-- the node of a string literal
abbrev text_node : List ℕ → Node
text_node bytes = an_expression (c.Text bytes)

-- what is noted of one that initialises an array
abbrev fact_of_letters : ℕ → List ℕ → Fact
fact_of_letters node bytes = record { node = node; type = text_type bytes; is_place = true; constancy = varying; object = None }

-- what is known behind it
abbrev behind_letters : Known → List ℕ → Known
behind_letters k bytes = record k { next = k.next + 1; facts = k.facts ++ fact_of_letters k.next bytes ∷ [] }

abbrev letters_part : (k : Known) (bytes : List ℕ) → Part k.next k.facts (text_node bytes ∷ []) (behind_letters k bytes)
letters_part k bytes = record { more = fact_of_letters k.next bytes ∷ []; counts = omega arith; noted = refl; within = ((omega arith, omega arith), tt); ends = (omega arith, tt) }

letters_asked : (whole : List Fact) (k : Known) (bytes : List ℕ) → HasFacts whole k.next (k.next + 1) (fact_of_letters k.next bytes ∷ []) → asked whole k.next ≡ Some (text_type bytes, false)
letters_asked whole k bytes f =
    ap (λ (found : Option Fact). elim (found) as (λ _. Option (CType × Bool)) [ None ↦ None | Some fact ↦ Some (fact.type, is_number fact.constancy) ])
    (f k.next (omega arith) (omega arith) ∙ ap (λ b. if b then Some (fact_of_letters k.next bytes) else None) (eq-eqb k.next k.next refl))

module _ {F G : List Fact} {new : ℕ → Bool} {ids : List ℕ} {further : List Bool} where
  letters_by : (bytes : List ℕ) (r r' : Option Rule) {k l : Known} → IsBeside new ids further k l
      → Piece F G new ids further (λ (u v : Unit {0}). Unit {0}) k (text_node bytes ∷ []) l (text_node bytes ∷ [])
      (goes_on (unless_broken r k.next (entered k)) (λ u. notes (fact_of_letters k.next bytes))) (goes_on (unless_broken r' l.next (entered l)) (λ u. notes (fact_of_letters l.next bytes)))
  letters_by bytes None None {k} {l} b = went (extends_itself further) tt (noted_beside (fact_of_letters k.next bytes) (fact_of_letters l.next bytes) (entered_beside b)) (letters_part k bytes) (letters_part l bytes)
      (λ f g. ap (λ it. it ∷ []) (letters_asked F k bytes f ∙ sym (letters_asked G l bytes g)))
  letters_by bytes (Some rule) r' b = first_broke
  letters_by bytes None (Some rule) b = second_broke

  letters_kept : (bytes : List ℕ) {k l : Known} → IsBeside new ids further k l → Piece F G new ids further (λ (u v : Unit {0}). Unit {0}) k (text_node bytes ∷ []) l (text_node bytes ∷ []) (literal_alone bytes k) (literal_alone bytes l)
  letters_kept bytes {k} {l} b = letters_by bytes (least (broken_if bad_length (has_too_many_cells k.structs (text_type bytes)))) (least (broken_if bad_length (has_too_many_cells l.structs (text_type bytes)))) b

-- ---- values for parts

module _ {F G : List Fact} {new : ℕ → Bool} {ids : List ℕ} {further : List Bool} where
  fill_kept : (n m : ℕ) (is_static : Bool) (f g : Filling) (runs : List Run) (x y : Typed) {k j : Known} → Like left_of f g → IsBeside new ids further k j
      → Piece F G new ids further (Like left_of) k [] j [] (fill_value n is_static f x k runs k) (fill_value m is_static g y j runs j)
  fill_kept n m is_static f g [] x y r b = done r b
  fill_kept n m is_static f g (run ∷ rest) x y {k} {j} r b = after (judges n m (value_faults k is_static run.type x) (value_faults j is_static run.type y) b) (λ u v p q e i w flags there. done refl there)

module _ {F G : List Fact} {new : ℕ → Bool} {ids : List ℕ} {further : List Bool} where
  value_kept : (n m : ℕ) (is_static : Bool) (f g : Filling) (it other : c.Expression) (k l : Known) → Like left_of f g
      → Piece F G new ids further (Like own_type) k (in_expression it) l (in_expression other) (expression it as_value k) (expression other as_value l)
      → Piece F G new ids further (Like left_of) k (in_expression it) l (in_expression other) (value_initialiser n is_static f it k) (value_initialiser m is_static g other l)
  value_kept n m is_static f g it other k l r o = after o (λ x y k j e i t flags b.
      subst (λ runs. Piece F G new ids flags (Like left_of) k [] j [] (fill_value n is_static f x k (opened k (is_struct_of (struct_of (own_type x))) f.left) k) (fill_value m is_static g y j runs j))
      (sym (ap (opened j (is_struct_of (struct_of (own_type y)))) r ∙ ap (λ u. opened j (is_struct_of (struct_of u)) f.left) t ∙ opened_same (is_struct_of (struct_of (own_type x))) f.left b))
      (fill_kept n m is_static f g (opened k (is_struct_of (struct_of (own_type x))) f.left) x y r b))

  text_by : (is_letters : Bool) (n m : ℕ) (is_static : Bool) (f g : Filling) (bytes : List ℕ) (run : Run) (rest : List Run) {k l : Known} → Like left_of f g → IsBeside new ids further k l
      → Piece F G new ids further (Like own_type) k (text_node bytes ∷ []) l (text_node bytes ∷ []) (expression (c.Text bytes) as_value k) (expression (c.Text bytes) as_value l)
      → Piece F G new ids further (Like left_of) k (text_node bytes ∷ []) l (text_node bytes ∷ [])
      ((if is_letters then (literal_alone bytes >> (settle n (broken_if bad_initialiser (is_too_long_for run.type bytes)) >> gives (filled_by f (letters_of run.offset run.type bytes) rest))) else value_initialiser n is_static f (c.Text bytes)) k)
      ((if is_letters then (literal_alone bytes >> (settle m (broken_if bad_initialiser (is_too_long_for run.type bytes)) >> gives (filled_by g (letters_of run.offset run.type bytes) rest))) else value_initialiser m is_static g (c.Text bytes)) l)
  text_by true n m is_static f g bytes run rest r b o = after (letters_kept bytes b) (λ u v k j e i w flags b.
      after (judges n m (broken_if bad_initialiser (is_too_long_for run.type bytes)) (broken_if bad_initialiser (is_too_long_for run.type bytes)) b)
      (λ u v k j e i w flags b. done refl b))
  text_by false n m is_static f g bytes run rest {k} {l} r b o = value_kept n m is_static f g (c.Text bytes) (c.Text bytes) k l r o

  text_kept : (n m : ℕ) (is_static : Bool) (f g : Filling) (bytes : List ℕ) (runs : List Run) {k l : Known} → Like left_of f g → IsBeside new ids further k l
      → Piece F G new ids further (Like own_type) k (text_node bytes ∷ []) l (text_node bytes ∷ []) (expression (c.Text bytes) as_value k) (expression (c.Text bytes) as_value l)
      → Piece F G new ids further (Like left_of) k (text_node bytes ∷ []) l (text_node bytes ∷ []) (fill_text n is_static f (c.Text bytes) bytes runs k) (fill_text m is_static g (c.Text bytes) bytes runs l)
  text_kept n m is_static f g bytes [] {k} {l} r b o = value_kept n m is_static f g (c.Text bytes) (c.Text bytes) k l r o
  text_kept n m is_static f g bytes (run ∷ rest) r b o = text_by (is_character_array run.type) n m is_static f g bytes run rest r b o

  -- the same expression in both texts
  unbraced_kept : (n m : ℕ) (is_static : Bool) (f g : Filling) (it : c.Expression) (text : Option (List ℕ)) {k l : Known} → text_in it ≡ text → Like left_of f g → IsBeside new ids further k l
      → Piece F G new ids further (Like own_type) k (in_expression it) l (in_expression it) (expression it as_value k) (expression it as_value l)
      → Piece F G new ids further (Like left_of) k (in_expression it) l (in_expression it) (initialiser_without_braces n is_static f it text k) (initialiser_without_braces m is_static g it text l)
  unbraced_kept n m is_static f g it None {k} {l} e r b o = value_kept n m is_static f g it it k l r o
  unbraced_kept n m is_static f g it (Some bytes) {k} {l} e r b o =
      subst (λ it. Piece F G new ids further (Like own_type) k (in_expression it) l (in_expression it) (expression it as_value k) (expression it as_value l)
      → Piece F G new ids further (Like left_of) k (in_expression it) l (in_expression it) (initialiser_without_braces n is_static f it (Some bytes) k) (initialiser_without_braces m is_static g it (Some bytes) l)) (sym (text_is it bytes e))
      (λ o. subst (λ runs. Piece F G new ids further (Like left_of) k (text_node bytes ∷ []) l (text_node bytes ∷ []) (fill_text n is_static f (c.Text bytes) bytes (opened k is_character_array f.left) k) (fill_text m is_static g (c.Text bytes) bytes runs l))
      (sym (ap (opened l is_character_array) r ∙ opened_same is_character_array f.left b)) (text_kept n m is_static f g bytes (opened k is_character_array f.left) r b o)) o

  -- ---- lists in braces

  list_ended : (n m : ℕ) (is_static : Bool) (t : CType) (is js : c.Initialisers) (f g : Filling) {k j : Known} → only_text js ≡ only_text is → Like left_of f g → IsBeside new ids further k j
      → Piece F G new ids further (Like type_given) k [] j [] (end_of_list n t length_faults is f k) (end_of_list m t length_faults js g j)
  list_ended n m is_static t is js f g {k} {j} e r b =
      after (judges n m (list_faults t is f ++ length_faults k (with_length t (listed_length k t is f))) (list_faults t js g ++ length_faults j (with_length t (listed_length j t js g))) b)
      (λ u v p q i i' w flags there. done (ap (with_length t) (lengths_listed t is js f g e r b)) there)

  -- ---- whole objects

  whole_kept : (n m : ℕ) (is_static : Bool) (t : CType) (it other : c.Expression) (k l : Known)
      → Piece F G new ids further (Like own_type) k (in_expression it) l (in_expression other) (expression it as_value k) (expression other as_value l)
      → Piece F G new ids further (Like type_given) k (in_expression it) l (in_expression other) (whole_value n is_static t length_faults it k) (whole_value m is_static t length_faults other l)
  whole_kept n m is_static t it other k l o = after o (λ x y k j e i r flags b.
      after (judges n m ((if is_array t then bad_initialiser ∷ [] else value_faults k is_static t x) ++ length_faults k t) ((if is_array t then bad_initialiser ∷ [] else value_faults j is_static t y) ++ length_faults j t) b)
      (λ u v p q e i w flags there. done {R = Like type_given} refl there))

  whole_text_kept : (n m : ℕ) (is_static : Bool) (t : CType) (bytes : List ℕ) {k l : Known} → IsBeside new ids further k l
      → Piece F G new ids further (Like type_given) k (text_node bytes ∷ []) l (text_node bytes ∷ []) (whole_text n t length_faults bytes k) (whole_text m t length_faults bytes l)
  whole_text_kept n m is_static t bytes b = after (letters_kept bytes b) (λ u v k j e i w flags b.
      after (judges n m (broken_if bad_initialiser (is_too_long_for t bytes) ++ length_faults k (with_length t (suc (length bytes)))) (broken_if bad_initialiser (is_too_long_for t bytes) ++ length_faults j (with_length t (suc (length bytes)))) b)
      (λ u v k j e i w flags b. done {R = Like type_given} refl b))

  whole_by : (is_letters : Bool) (n m : ℕ) (is_static : Bool) (t : CType) (bytes : List ℕ) {k l : Known} → IsBeside new ids further k l
      → Piece F G new ids further (Like own_type) k (text_node bytes ∷ []) l (text_node bytes ∷ []) (expression (c.Text bytes) as_value k) (expression (c.Text bytes) as_value l)
      → Piece F G new ids further (Like type_given) k (text_node bytes ∷ []) l (text_node bytes ∷ [])
      ((if is_letters then whole_text n t length_faults bytes else whole_value n is_static t length_faults (c.Text bytes)) k) ((if is_letters then whole_text m t length_faults bytes else whole_value m is_static t length_faults (c.Text bytes)) l)
  whole_by true n m is_static t bytes b o = whole_text_kept n m is_static t bytes b
  whole_by false n m is_static t bytes {k} {l} b o = whole_kept n m is_static t (c.Text bytes) (c.Text bytes) k l o

  unbraced_whole : (n m : ℕ) (is_static : Bool) (t : CType) (it : c.Expression) (text : Option (List ℕ)) {k l : Known} → text_in it ≡ text → IsBeside new ids further k l
      → Piece F G new ids further (Like own_type) k (in_expression it) l (in_expression it) (expression it as_value k) (expression it as_value l)
      → Piece F G new ids further (Like type_given) k (in_expression it) l (in_expression it) (whole_without_braces n is_static t length_faults it text k) (whole_without_braces m is_static t length_faults it text l)
  unbraced_whole n m is_static t it None {k} {l} e b o = whole_kept n m is_static t it it k l o
  unbraced_whole n m is_static t it (Some bytes) {k} {l} e b o =
      subst (λ it. Piece F G new ids further (Like own_type) k (in_expression it) l (in_expression it) (expression it as_value k) (expression it as_value l)
      → Piece F G new ids further (Like type_given) k (in_expression it) l (in_expression it) (whole_without_braces n is_static t length_faults it (Some bytes) k) (whole_without_braces m is_static t length_faults it (Some bytes) l)) (sym (text_is it bytes e))
      (λ o. whole_by (is_character_array t) n m is_static t bytes b o) o

module _ {F G : List Fact} {new : ℕ → Bool} {ids : List ℕ} {further : List Bool} where
  -- a list in braces for a part
  braces_kept : {between : List ℕ} (is_static : Bool) (is js : c.Initialisers) (f g : Filling) {k l : Known} → Like left_of f g → IsBeside new between further k l
      → Piece F G new ids further (Like left_of) (entered k) (in_initialisers is) (entered l) (in_initialisers js) (initialisers is is_static (filling_for (entered k) is f.left) (entered k)) (initialisers js is_static (filling_for (entered l) js g.left) (entered l))
      → Piece F G new ids further (Like left_of) k (in_initialiser (c.Braces is)) l (in_initialiser (c.Braces js)) (initialiser (c.Braces is) is_static f k) (initialiser (c.Braces js) is_static g l)
  braces_kept is_static is js f g {k} {l} r b o = unnoted (an_initialiser (c.Braces is)) (an_initialiser (c.Braces js)) refl refl (λ whole n zs. refl) (λ whole n zs. refl)
      (after o (λ inner other m n e i s flags there. after (judges k.next l.next (faults_of_list is inner f.left) (faults_of_list js other g.left) there)
      (λ u v m n e i w flags there. done (behind_like f g inner other r (entered_beside b)) there)))

  -- a list in braces for an object
  object_kept : (is_static : Bool) (t : CType) (is js : c.Initialisers) (k l : Known) → only_text js ≡ only_text is
      → Piece F G new ids further (Like left_of) (entered k) (in_initialisers is) (entered l) (in_initialisers js) (initialisers is is_static (filling_of (entered k) 0 t is) (entered k)) (initialisers js is_static (filling_of (entered l) 0 t js) (entered l))
      → Piece F G new ids further (Like type_given) k (in_initialiser (c.Braces is)) l (in_initialiser (c.Braces js)) (object_initialiser is_static t length_faults (c.Braces is) k) (object_initialiser is_static t length_faults (c.Braces js) l)
  object_kept is_static t is js k l e o = unnoted (an_initialiser (c.Braces is)) (an_initialiser (c.Braces js)) refl refl (λ whole n zs. refl) (λ whole n zs. refl)
      (after o (λ inner other m n q i s flags b. list_ended k.next l.next is_static t is js inner other e s b))

module _ {F G : List Fact} {new : ℕ → Bool} (numbered : (it : c.Mark) (known : Known) → GoesOver (in_mark it) known (mark it known)) (noting : (it : c.Mark) (known : Known) → NotesItsNodes known (mark it known)) where
  -- ---- initialisers in which no mark is added

  pub old_value : {ids : List ℕ} {further : List Bool} (is_static : Bool) (it : c.Expression) (k l : Known) → AreOld new (in_expression it) → IsBeside new ids further k l
      → Piece F G new ids further (Like own_type) k (in_expression it) l (in_expression it) (expression it as_value k) (expression it as_value l)
  old_value is_static it k l h b = so (λ x y r. ap own_type r.2 ∙ own_type_with r.1 x) (also (u.of_expression it as_value h b) (of_whole numbered noting it as_value k l h b))

  mutual
    pub old_initialiser : {ids : List ℕ} {further : List Bool} (it : c.Initialiser) (is_static : Bool) (f g : Filling) (k l : Known) → AreOld new (in_initialiser it) → Like left_of f g → IsBeside new ids further k l
        → Piece F G new ids further (Like left_of) k (in_initialiser it) l (in_initialiser it) (initialiser it is_static f k) (initialiser it is_static g l)
    old_initialiser (c.Value it) is_static f g k l h r b = unnoted (an_initialiser (c.Value it)) (an_initialiser (c.Value it)) refl refl (λ whole n zs. refl) (λ whole n zs. refl)
        (unbraced_kept k.next l.next is_static f g it (text_in it) refl r (entered_beside b) (old_value is_static it (entered k) (entered l) h.1 (entered_beside b)))
    old_initialiser (c.Braces list) is_static f g k l h r b = braces_kept is_static list list f g r b
        (old_initialisers list is_static (filling_for (entered k) list f.left) (filling_for (entered l) list g.left) (entered k) (entered l) h.1 (ap left_of (for_list list list f g refl r (entered_beside b))) (entered_beside b))

    pub old_initialisers : {ids : List ℕ} {further : List Bool} (them : c.Initialisers) (is_static : Bool) (f g : Filling) (k l : Known) → AreOld new (in_initialisers them) → Like left_of f g → IsBeside new ids further k l
        → Piece F G new ids further (Like left_of) k (in_initialisers them) l (in_initialisers them) (initialisers them is_static f k) (initialisers them is_static g l)
    old_initialisers c.no_initialisers is_static f g k l h r b = done r b
    old_initialisers (c.an_initialiser first rest) is_static f g k l h r b = joined (old_initialiser first is_static f g k l (old_first new (in_initialiser first) (in_initialisers rest) h) r b)
        (λ x y m n e i s flags b. old_initialisers rest is_static x y m n (old_second new (in_initialiser first) (in_initialisers rest) h) s b)

  pub old_object : {ids : List ℕ} {further : List Bool} (it : c.Initialiser) (is_static : Bool) (t : CType) (k l : Known) → AreOld new (in_initialiser it) → IsBeside new ids further k l
      → Piece F G new ids further (Like type_given) k (in_initialiser it) l (in_initialiser it) (object_initialiser is_static t length_faults it k) (object_initialiser is_static t length_faults it l)
  old_object (c.Value it) is_static t k l h b = unnoted (an_initialiser (c.Value it)) (an_initialiser (c.Value it)) refl refl (λ whole n zs. refl) (λ whole n zs. refl)
      (unbraced_whole k.next l.next is_static t it (text_in it) refl (entered_beside b) (old_value is_static it (entered k) (entered l) h.1 (entered_beside b)))
  old_object (c.Braces list) is_static t k l h b = object_kept is_static t list list k l refl
      (old_initialisers list is_static (filling_of (entered k) 0 t list) (filling_of (entered l) 0 t list) (entered k) (entered l) h.1 (ap left_of (for_object t list list refl (entered_beside b))) (entered_beside b))

-- ---- initialisers with marks added

module _ {F G : List Fact} {new : ℕ → Bool} (numbered : (it : c.Mark) (known : Known) → GoesOver (in_mark it) known (mark it known)) (noting : (it : c.Mark) (known : Known) → NotesItsNodes known (mark it known)) (again : ExpressionsAreTypedAgain) where
  new_value : {ids last : List ℕ} {further : List Bool} {k : Known} {it other : c.Expression} → AddsTo new (in_use as_value) ids last k it other → (l : Known) → IsBeside new ids further k l
      → Piece F G new last further (Like own_type) k (in_expression it) l (in_expression other) (expression it as_value k) (expression other as_value l)
  new_value d l b = so (λ x y s. same_type x y s.alike.kind) (whole_to numbered noting (again new) d l b)

  mutual
    new_initialiser : {ids last : List ℕ} {further : List Bool} {k : Known} {f : Filling} {it other : c.Initialiser} → AddsToInitialiser new ids last k f it other → (g : Filling) (l : Known) → Like left_of f g → IsBeside new ids further k l
        → Piece F G new last further (Like left_of) k (in_initialiser it) l (in_initialiser other) (initialiser it false f k) (initialiser other false g l)
    new_initialiser (p.as_it_is {known = k} {filling = f} {it = it} h) g l r b = old_initialiser numbered noting it false f g k l h r b
    new_initialiser {further = further} (p.Value {after = last} {known = k} {filling = f} {it = it} {other = other} h i d) g l r b = unnoted (an_initialiser (c.Value it)) (an_initialiser (c.Value other)) refl refl (λ whole n zs. refl) (λ whole n zs. refl)
        (subst (λ text. Piece F G new last further (Like left_of) (entered k) (in_expression it) (entered l) (in_expression other) (initialiser_without_braces k.next false f it text (entered k)) (initialiser_without_braces l.next false g other (text_in other) (entered l))) (sym h)
        (subst (λ text. Piece F G new last further (Like left_of) (entered k) (in_expression it) (entered l) (in_expression other) (value_initialiser k.next false f it (entered k)) (initialiser_without_braces l.next false g other text (entered l))) (sym i)
        (value_kept k.next l.next false f g it other (entered k) (entered l) r (new_value d (entered l) (entered_beside b)))))
    new_initialiser (p.Braces {known = k} {filling = f} {is = is} {js = js} h i d) g l r b = braces_kept false is js f g r b
        (new_initialisers d (filling_for (entered l) js g.left) (entered l) (ap left_of (for_list is js f g h r (entered_beside b))) (entered_beside b))

    new_initialisers : {ids last : List ℕ} {further : List Bool} {k : Known} {f : Filling} {them others : c.Initialisers} → AddsToInitialisers new ids last k f them others → (g : Filling) (l : Known) → Like left_of f g → IsBeside new ids further k l
        → Piece F G new last further (Like left_of) k (in_initialisers them) l (in_initialisers others) (initialisers them false f k) (initialisers others false g l)
    new_initialisers p.no_initialisers g l r b = done r b
    new_initialisers (p.an_initialiser d f) g l r b = joined (new_initialiser d g l r b) (λ x y m n q i s flags b. new_initialisers (f x m q) y n s b)

  pub new_object : {ids last : List ℕ} {further : List Bool} {k : Known} {t : CType} {it other : c.Initialiser} → AddsToObject new ids last k t it other → (l : Known) → IsBeside new ids further k l
      → Piece F G new last further (Like type_given) k (in_initialiser it) l (in_initialiser other) (object_initialiser false t length_faults it k) (object_initialiser false t length_faults other l)
  new_object {further = further} (p.Value {after = last} {known = k} {t = t} {it = it} {other = other} h i d) l b = unnoted (an_initialiser (c.Value it)) (an_initialiser (c.Value other)) refl refl (λ whole n zs. refl) (λ whole n zs. refl)
      (subst (λ text. Piece F G new last further (Like type_given) (entered k) (in_expression it) (entered l) (in_expression other) (whole_without_braces k.next false t length_faults it text (entered k)) (whole_without_braces l.next false t length_faults other (text_in other) (entered l))) (sym h)
      (subst (λ text. Piece F G new last further (Like type_given) (entered k) (in_expression it) (entered l) (in_expression other) (whole_value k.next false t length_faults it (entered k)) (whole_without_braces l.next false t length_faults other text (entered l))) (sym i)
      (whole_kept k.next l.next false t it other (entered k) (entered l) (new_value d (entered l) (entered_beside b)))))
  new_object (p.Braces {known = k} {t = t} {is = is} {js = js} h i d) l b = object_kept false t is js k l h
      (new_initialisers d (filling_of (entered l) 0 t js) (entered l) (ap left_of (for_object t is js h (entered_beside b))) (entered_beside b))
