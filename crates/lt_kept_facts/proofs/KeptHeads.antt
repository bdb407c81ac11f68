-- Heads of statements note the same in both texts: tests, starts of `for` and labels of `switch`.
use Rattle.std.proofs.Common.{refl, ℕ, ℤ, Bool, true, List, [], ◌∷◌, Option, Some, None}
use Rattle.std.specs.List.{flat_map}
use Rattle.lt_model.specs.declared.scalar.Scalar.{Scalar}
use Rattle.lt_tree.specs.Tree as c
use Rattle.lt_tree.specs.Nodes.{Node, a_label, in_expression, in_mark, in_optional, in_start, in_label}
use Rattle.lt_tree.specs.Typing.Rules.{Rule, broken_if, unless, bad_case, least}
use Rattle.lt_tree.specs.Typing.Entities.{Known, Fact}
use Rattle.lt_tree.specs.Typing.Steps.{Outcome, Goes, goes_on, left, unless_broken, settle}
use Rattle.lt_tree.specs.Typing.Expressions.{Typed, as_value}
use Rattle.lt_tree.specs.Typing.DeclarationTyping.{effective_in_for}
use Rattle.lt_tree.specs.Typing.StatementTyping.{optional_expression, optional_test, TypedStart, for_start, Seen, Labelled, case_value, is_new_case, with_case, end_of_case, labels}
use Rattle.lt_tree.specs.Typing.ExpressionTyping.{mark}
use Rattle.lt_tree_laws.specs.Typing.NodeNumbers.{GoesOver}
use Rattle.lt_typed_nodes.specs.Laws.{NotesItsNodes}
use Rattle.lt_mark_typing.specs.Beside.{IsBeside, Position, use_of}
use Rattle.lt_mark_typing.specs.Placed.{AreOld, entered, AddsTo}
use Rattle.lt_mark_typing.specs.PlacedItems as p
use Rattle.lt_mark_typing.specs.PlacedItems.{AddsToTest, AddsToOptional, AddsToStart}
use Rattle.lt_mark_typing.specs.Laws.{ExpressionsAreTypedAgain}
use Rattle.lt_mark_typing.proofs.Going.{entered_beside}
use Rattle.lt_mark_typing.proofs.Nodes.{old_first, old_second}
use Rattle.lt_mark_typing.proofs.Names.{frames_known}
use Rattle.lt_mark_typing.proofs.Labels.{unmarked_same}
use Rattle.lt_mark_typing.proofs.Steps.{unmarked_beside}
use Rattle.lt_mark_typing.proofs.StatementParts as u
use Rattle.lt_kept_facts.proofs.KeptPieces.{DeclarationsKeep}
use Rattle.lt_kept_facts.proofs.KeptSteps.{Same, Keeps, first_broke, second_broke, Piece, done, joined, after, so, unnoted}
use Rattle.lt_kept_facts.proofs.KeptOperators.{Whole}
use Rattle.lt_kept_facts.proofs.KeptLeaves.{also, unmarked, scoped}
use Rattle.lt_kept_facts.proofs.KeptOld.{of_whole}
use Rattle.lt_kept_facts.proofs.KeptAgain.{whole_to}

-- ---- blocks and ends

module _ {F G : List Fact} {new : ℕ → Bool} where
  pub in_blocks : {A B : Type 0} {ids last : List ℕ} {further : List Bool} {R : A → B → Type 0} {m j : ℕ} {facts others : List Fact} {xs ys : List Node} {o : Outcome A} {p : Outcome B} {k l : Known} → IsBeside new ids further k l
      → Keeps F G new last further R m facts xs j others ys o p
      → Keeps F G new last further R m facts xs j others ys (goes_on (left k.frames o) (λ r known. Goes r.0 known)) (goes_on (left l.frames p) (λ r known. Goes r.0 known))
  in_blocks {k = k} {l = l} b d = scoped k.frames l.frames (frames_known b) d

  settled_by : {A B : Type 0} {ids : List ℕ} {further : List Bool} {R : A → B → Type 0} {j i : ℕ} {facts others : List Fact} {xs ys : List Node} {k l : Known} (f : Unit {0} → Known → Outcome A) (g : Unit {0} → Known → Outcome B) (n m : ℕ) (r r' : Option Rule)
      → Keeps F G new ids further R j facts xs i others ys (f tt k) (g tt l) → Keeps F G new ids further R j facts xs i others ys (goes_on (unless_broken r n k) f) (goes_on (unless_broken r' m l) g)
  settled_by f g n m None None d = d
  settled_by f g n m (Some rule) r' d = first_broke
  settled_by f g n m None (Some rule) d = second_broke

  -- behind a node that is judged
  pub settled : {A B : Type 0} {ids : List ℕ} {further : List Bool} {R : A → B → Type 0} {j i : ℕ} {facts others : List Fact} {xs ys : List Node} {k l : Known} (f : Unit {0} → Known → Outcome A) (g : Unit {0} → Known → Outcome B) (n m : ℕ) (rules rules' : List Rule)
      → Keeps F G new ids further R j facts xs i others ys (f tt k) (g tt l) → Keeps F G new ids further R j facts xs i others ys (goes_on (settle n rules k) f) (goes_on (settle m rules' l) g)
  settled f g n m rules rules' d = settled_by f g n m (least rules) (least rules') d

  -- ---- labels of a `switch`

  case_ended : {ids : List ℕ} {further : List Bool} (n m : ℕ) (type : Option Scalar) (seen other : Seen) (x y : Typed) {k l : Known} → IsBeside new ids further k l
      → Piece F G new ids further (λ (v w : Option ℤ). Unit {0}) k [] l [] (end_of_case n type seen x k) (end_of_case m type other y l)
  case_ended n m type seen other x y {k} {l} b =
      settled _ _ n m (unless (is_new_case seen (case_value k.model type x)) bad_case) (unless (is_new_case other (case_value l.model type y)) bad_case) (done {R = λ (v w : Option ℤ). Unit {0}} tt b)

module _ {F G : List Fact} {new : ℕ → Bool} (numbered : (it : c.Mark) (known : Known) → GoesOver (in_mark it) known (mark it known)) (noting : (it : c.Mark) (known : Known) → NotesItsNodes known (mark it known)) where
  labels_seen : {ids : List ℕ} {further : List Bool} (list : List c.Label) (type : Option Scalar) (seen other : Seen) (k l : Known) → AreOld new (flat_map in_label list) → IsBeside new ids further k l
      → Piece F G new ids further (λ (x y : Labelled). Unit {0}) k (flat_map in_label list) l (flat_map in_label list) (labels list type seen k) (labels list type other l)
  labels_seen [] type seen other k l h b = done {R = λ (x y : Labelled). Unit {0}} tt b
  labels_seen (c.Case it ∷ rest) type seen other k l h b =
      unnoted (a_label (c.Case it)) (a_label (c.Case it)) refl refl (λ whole n zs. refl) (λ whole n zs. refl)
      (joined (unmarked k.is_unmarked l.is_unmarked (unmarked_same b)
      (of_whole numbered noting it as_value (record (entered k) { is_unmarked = true }) (record (entered l) { is_unmarked = true }) (old_first new (in_expression it) (flat_map in_label rest) h.1) (unmarked_beside (entered_beside b))))
      (λ x y m n q q' s flags b. joined {xs = []} {ys = []} (case_ended k.next l.next type seen other x y b) (λ v w m n q q' r flags b.
      after (labels_seen rest type (with_case seen v) (with_case other w) m n (old_second new (in_expression it) (flat_map in_label rest) h.1) b) (λ x y m n q q' r flags b. done {R = λ (x y : Labelled). Unit {0}} tt b))))
  labels_seen (c.Default ∷ rest) type seen other k l h b = unnoted (a_label c.Default) (a_label c.Default) refl refl (λ whole n zs. refl) (λ whole n zs. refl)
      (settled _ _ k.next l.next (broken_if bad_case seen.has_default) (broken_if bad_case other.has_default)
      (after (labels_seen rest type (record seen { has_default = true }) (record other { has_default = true }) (entered k) (entered l) h.1 (entered_beside b)) (λ x y m n q q' r flags b. done {R = λ (x y : Labelled). Unit {0}} tt b)))

  pub of_labels : {ids : List ℕ} {further : List Bool} (list : List c.Label) (type : Option Scalar) (seen : Seen) (k l : Known) → AreOld new (flat_map in_label list) → IsBeside new ids further k l
      → Piece F G new ids further Same k (flat_map in_label list) l (flat_map in_label list) (labels list type seen k) (labels list type seen l)
  of_labels list type seen k l h b = so (λ x y r. r.2) (also (u.of_labels list type seen h b) (labels_seen list type seen seen k l h b))

-- ---- expressions

module _ {F G : List Fact} {new : ℕ → Bool} (numbered : (it : c.Mark) (known : Known) → GoesOver (in_mark it) known (mark it known)) (noting : (it : c.Mark) (known : Known) → NotesItsNodes known (mark it known)) (again : ExpressionsAreTypedAgain) where
  pub of_expression_with : {position : Position} {ids last : List ℕ} {further : List Bool} {k : Known} {it other : c.Expression} → AddsTo new position ids last k it other → (l : Known) → IsBeside new ids further k l → Whole F G new last further (use_of position) k it l other
  of_expression_with d l b = whole_to numbered noting (again new) d l b

  pub of_test : {ids last : List ℕ} {further : List Bool} {k : Known} {it other : Option c.Expression} → AddsToTest new ids last k it other → (l : Known) → IsBeside new ids further k l
      → Piece F G new last further (λ (x y : Option Typed). Unit {0}) k (in_optional it) l (in_optional other) (optional_test it k) (optional_test other l)
  of_test p.no_test l b = done tt b
  of_test (p.a_test d) l b = after (of_expression_with d l b) (λ x y m n q q' s flags b. done tt b)

  pub of_optional_with : {ids last : List ℕ} {further : List Bool} {k : Known} {it other : Option c.Expression} → AddsToOptional new ids last k it other → (l : Known) → IsBeside new ids further k l
      → Piece F G new last further (λ (x y : Option Typed). Unit {0}) k (in_optional it) l (in_optional other) (optional_expression it k) (optional_expression other l)
  of_optional_with p.no_value l b = done tt b
  of_optional_with (p.a_value d) l b = after (of_expression_with d l b) (λ x y m n q q' s flags b. done tt b)

  pub of_start : DeclarationsKeep F G new → {ids last : List ℕ} {further : List Bool} {k : Known} {start begin : c.ForStart} → AddsToStart new ids last k start begin → (l : Known) → IsBeside new ids further k l
      → Piece F G new last further (λ (x y : TypedStart). Unit {0}) k (in_start start) l (in_start begin) (for_start start k) (for_start begin l)
  of_start declared p.Nothing l b = done tt b
  of_start declared (p.First d) l b = after (of_expression_with d l b) (λ x y m n q q' s flags b. done tt b)
  of_start declared {further = further} (p.Declares {used = ids} {after = last} {known = k} {d = d} {e = e} f) l b = after (declared effective_in_for ids last further k l d e f b) (λ x y m n q q' r flags b. done tt b)
