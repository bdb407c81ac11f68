-- Of the nodes of marks nothing is asked.
use Rattle.std.proofs.Common.{◌≡◌, refl, sym, ap, ◌∙◌, subst, ℕ, ◌+◌, Bool, false, List, [], ◌∷◌, ◌++◌}
use Rattle.lt_tree.specs.Tree as c
use Rattle.lt_tree.specs.Nodes.{Node, an_expression, in_expression, in_mark, in_marks}
use Rattle.lt_tree.specs.Typing.TypedTree as e
use Rattle.lt_tree.specs.Typing.TypedTree.{Value}
use Rattle.lt_tree.specs.Typing.Entities.{Known, Fact}
use Rattle.lt_tree.specs.Typing.Steps.{Outcome, Goes, Breaks, goes_on}
use Rattle.lt_tree.specs.Typing.Expressions.{a_value, Typed, Use, as_value, as_truth, as_place, as_callee, own_type, value_in, used, fact_of, finish}
use Rattle.lt_tree.specs.Typing.MarkRules.{number_of_id, label_of, judge_marked, judge_decide, inside_mark}
use Rattle.lt_tree.specs.Typing.ExpressionTyping.{expression, mark, marks}
use Rattle.lt_tree_laws.specs.Typing.NodeNumbers.{GoesOver}
use Rattle.lt_typed_nodes.specs.Laws.{NotesItsNodes}
use Rattle.lt_mark_typing.specs.Beside.{IsBeside, Follows, goes}
use Rattle.lt_mark_typing.specs.Placed.{AreOld, IsNewId, AreNewLabels, joined as joined_labels, entered}
use Rattle.lt_mark_typing.proofs.Nodes.{old_first, old_second}
use Rattle.lt_mark_typing.proofs.Unchanged.{of_marks, of_mark}
use Rattle.lt_mark_typing.proofs.NewMarks.{new_labels, new_label_beside, numbered_alone}
use Rattle.lt_kept_facts.proofs.MarksEnd.{mark_ends}
use Rattle.lt_kept_facts.specs.Asked.{seen}
use Rattle.lt_kept_facts.proofs.SeenNodes.{mark_unseen, marks_unseen}
use Rattle.lt_kept_facts.proofs.SeenAlike.{SeenTruth, SeenIn, SameKind, values, same_type}
use Rattle.lt_kept_facts.proofs.KeptSteps.{Part, nothing_more, part_then, Keeps, went, first_broke, second_broke, Piece, done, joined, after, since}
use Rattle.lt_kept_facts.proofs.KeptNodes.{around_piece, front, finished_with, finished_alone}
use Rattle.lt_kept_facts.proofs.KeptOperators.{Whole}

went_on : {A B : Type 0} {f : A → Known → Outcome B} (o : Outcome A) (b : B) (n : Known) → goes_on o f ≡ Goes b n → (a : A) × (m : Known) × (o ≡ Goes a m) × (f a m ≡ Goes b n)
went_on (Goes a m) b n q = (a, m, refl, q)
went_on (Breaks rule node) b n q = absurd cc

same_known : {A : Type 0} {a b : A} {m n : Known} → Goes a m ≡ Goes b n → m ≡ n
same_known q = cc

module _ (numbered : (it : c.Mark) (known : Known) → GoesOver (in_mark it) known (mark it known)) (noting : (it : c.Mark) (known : Known) → NotesItsNodes known (mark it known)) where
  -- what marks note
  pub mark_part : (it : c.Mark) (known behind : Known) (t : e.Mark) → mark it known ≡ Goes t behind → Part known.next known.facts (in_mark it) behind
  mark_part it known behind t q =
      let counts = subst (λ o. GoesOver (in_mark it) known o) q (numbered it known) in
      let notes = subst (λ o. NotesItsNodes known o) q (noting it known) in
      record { more = notes.0; counts = counts; noted = notes.1; within = notes.2; ends = mark_ends it }

  pub marks_part : (them : c.Marks) (known behind : Known) (ts : e.Marks) → marks them known ≡ Goes ts behind → Part known.next known.facts (in_marks them) behind
  marks_part c.no_marks known behind ts q = subst (λ it. Part known.next known.facts [] it) (same_known q) (nothing_more known)
  marks_part (c.a_mark first rest) known behind ts q =
      let one = went_on (mark first known) ts behind q in
      let more = went_on (marks rest one.1) ts behind one.3 in
      part_then (mark_part first known one.1 one.0 one.2) (subst (λ it. Part one.1.next one.1.facts (in_marks rest) it) (same_known more.3) (marks_part rest one.1 more.1 more.0 more.2))

module _ {F G : List Fact} {new : ℕ → Bool} where
  unseen_by : {A B : Type 0} {ids : List ℕ} {further : List Bool} {T : (ℕ → ℕ) → A → B → Type 0} {k j : ℕ} {facts others : List Fact} {xs ys : List Node} (o o' : Outcome A) (p p' : Outcome B) → o ≡ o' → p ≡ p' → Follows new ids further T o' p'
      → ((a : A) (m : Known) → o ≡ Goes a m → Part k facts xs m) → ((b : B) (n : Known) → p ≡ Goes b n → Part j others ys n) → seen F k xs ≡ [] → seen G j ys ≡ [] → Keeps F G new ids further (λ (a : A) (b : B). Unit {0}) k facts xs j others ys o' p'
  unseen_by o (Goes a m) p (Goes b n) e i (goes behind v t s) f g none others_none = went v tt s (f a m e) (g b n i) (λ h t. none ∙ sym others_none)
  unseen_by o (Goes a m) p (Breaks rule node) e i d f g none others_none = second_broke
  unseen_by o (Breaks rule node) p p' e i d f g none others_none = first_broke

  -- pieces of which nothing is asked
  unseen : {A B : Type 0} {ids : List ℕ} {further : List Bool} {T : (ℕ → ℕ) → A → B → Type 0} {k j : ℕ} {facts others : List Fact} {xs ys : List Node} {o : Outcome A} {p : Outcome B} → Follows new ids further T o p
      → ((a : A) (m : Known) → o ≡ Goes a m → Part k facts xs m) → ((b : B) (n : Known) → p ≡ Goes b n → Part j others ys n) → seen F k xs ≡ [] → seen G j ys ≡ [] → Keeps F G new ids further (λ (a : A) (b : B). Unit {0}) k facts xs j others ys o p
  unseen {o = o} {p = p} d f g none others_none = unseen_by o o p p refl refl d f g none others_none

module _ {F G : List Fact} {new : ℕ → Bool} (numbered : (it : c.Mark) (known : Known) → GoesOver (in_mark it) known (mark it known)) (noting : (it : c.Mark) (known : Known) → NotesItsNodes known (mark it known)) where
  pub old_mark : {ids : List ℕ} {further : List Bool} (it : c.Mark) (k l : Known) → AreOld new (in_mark it) → IsBeside new ids further k l → Piece F G new ids further (λ (t u : e.Mark). Unit {0}) k (in_mark it) l (in_mark it) (mark it k) (mark it l)
  old_mark it k l h b = unseen (of_mark it h b) (λ t m q. mark_part numbered noting it k m t q) (λ t n q. mark_part numbered noting it l n t q) (mark_unseen F k.next it) (mark_unseen G l.next it)

  pub old_marks : {ids : List ℕ} {further : List Bool} (them : c.Marks) (k l : Known) → AreOld new (in_marks them) → IsBeside new ids further k l → Piece F G new ids further (λ (ts us : e.Marks). Unit {0}) k (in_marks them) l (in_marks them) (marks them k) (marks them l)
  old_marks them k l h b = unseen (of_marks them h b) (λ t m q. marks_part numbered noting them k m t q) (λ t n q. marks_part numbered noting them l n t q) (marks_unseen F k.next them) (marks_unseen G l.next them)

  -- old marks and new ones behind them
  pub joined_marks : {ids between : List ℕ} {further : List Bool} (labels them : c.Marks) (k l : Known) → AreOld new (in_marks them) → IsBeside new ids further k l
      → ((ts : e.Marks) (next : Known) → marks them k ≡ Goes ts next → (next.is_unmarked ≡ false) × AreNewLabels new ids between next labels)
      → Piece F G new between further (λ (ts us : e.Marks). Unit {0}) k (in_marks them) l (in_marks (joined_labels them labels)) (marks them k) (marks (joined_labels them labels) l)
  joined_marks {between = between} {further} labels c.no_marks k l h b f =
      let those = f e.no_marks k refl in
      let found = new_labels labels those.0 those.1 b in
      subst (λ o. Piece F G new between further (λ (ts us : e.Marks). Unit {0}) k [] l (in_marks labels) (Goes e.no_marks k) o) (sym found.4)
      (went found.3 tt found.6 (nothing_more k) (marks_part numbered noting labels l found.1 found.0 found.4) (λ g i. sym (marks_unseen G l.next labels)))
  joined_marks labels (c.a_mark first rest) k l h b f =
      joined (old_mark first k l (old_first new (in_mark first) (in_marks rest) h) b) (λ t u m n q q' r flags b.
      after (joined_marks labels rest m n (old_second new (in_mark first) (in_marks rest) h) b
      (λ ts last s. f (e.a_mark t ts) last (ap (λ it. goes_on it (λ m k. goes_on (marks rest k) (λ ms k. Goes (e.a_mark m ms) k))) q ∙ ap (λ it. goes_on it (λ ms k. Goes (e.a_mark t ms) k)) s)))
      (λ ts us m n p p' r flags b. done tt b))

-- ---- new labels in front of an expression

-- whether the value of an expression is used, or its truth
abbrev pub TakesLabels : Use → Type 0
TakesLabels as_value = Unit {0}
TakesLabels as_truth = Unit {0}
TakesLabels role = ⊥

-- where its value is used it is one
abbrev pub IsValue : Use → Typed → Type 0
IsValue as_value x = (v : Value) × (x.form ≡ a_value v)
IsValue role x = Unit {0}

-- the second is the first with new labels in front of it
front_seen : (role : Use) (x y : Typed) (ts : e.Marks) → TakesLabels role → IsValue role x → SeenIn role x y → SeenIn role x (used role (judge_marked ts y).typed)
unfolding judge_marked
front_seen as_truth x y ts t v s = record { erased = s.erased; first = s.first; second = tt }
front_seen as_value x y ts t v s = record {
  alike = record {
    kind = subst (λ f. SameKind f (a_value (e.Marked (own_type y) ts (value_in y)))) (sym v.1) (values (same_type x y s.alike.kind ∙ ap (λ f. own_type (record x { form = f })) v.1));
    erased = s.alike.erased;
    integer = s.alike.integer;
    address = s.alike.address;
  };
  read = s.read;
}
front_seen as_place x y ts t v s = absurd t
front_seen as_callee x y ts t v s = absurd t

marks_inside : (role : Use) → TakesLabels role → inside_mark role ≡ role
marks_inside as_value t = refl
marks_inside as_truth t = refl
marks_inside as_place t = absurd t
marks_inside as_callee t = absurd t

decide_seen : (x y : Typed) (when_true when_false tag : List ℕ) (k : Known) → SeenTruth x y → SeenTruth x (used as_truth (judge_decide as_truth y when_true when_false tag k).typed)
unfolding judge_decide
decide_seen x y when_true when_false tag k s = record { erased = s.erased; first = s.first; second = tt }

module _ {F G : List Fact} {new : ℕ → Bool} (numbered : (it : c.Mark) (known : Known) → GoesOver (in_mark it) known (mark it known)) (noting : (it : c.Mark) (known : Known) → NotesItsNodes known (mark it known)) where
  -- an expression with new labels in front of it
  pub front_kept : {ids between last : List ℕ} {further : List Bool} (role : Use) (labels : c.Marks) (it other : c.Expression) (k l : Known) → TakesLabels role → k.is_unmarked ≡ false
      → ((x : Typed) (next : Known) → expression it role k ≡ Goes x next → IsValue role x) → AreNewLabels new ids between k labels
      → ((j : Known) (behind : List Bool) → IsBeside new between behind k j → Whole F G new last behind role k it j other) → IsBeside new ids further k l → Whole F G new last further role k it l (c.Marked labels other)
  front_kept {last = last} {further} role labels it other k l t u v are f b =
      let found = new_labels labels u are (numbered_alone (l.next + 1) l.facts b) in
      subst (λ inner. Piece F G new last further (SeenIn role) k (in_expression it) l (in_expression (c.Marked labels other)) (expression it role k)
      (goes_on (marks labels (entered l)) (λ ts j. goes_on (expression other inner j) (λ y j. finish l.next role (judge_marked ts y) j)))) (sym (marks_inside role t))
      (subst (λ o. Piece F G new last further (SeenIn role) k (in_expression it) l (in_expression (c.Marked labels other)) (expression it role k)
      (goes_on o (λ ts j. goes_on (expression other role j) (λ y j. finish l.next role (judge_marked ts y) j)))) (sym found.4)
      (around_piece (an_expression (c.Marked labels other)) refl (λ whole n zs. refl)
      (since found.3 (front (marks_part numbered noting labels (entered l) found.1 found.0 found.4) (marks_unseen G (l.next + 1) labels) (f found.1 found.2 found.6)))
      (λ x y m n q q' s flags b. finished_alone l.next role (judge_marked found.0 y) m n (front_seen role x y found.0 t (v x m q) s) (numbered_alone n.next (n.facts ++ fact_of l.next (judge_marked found.0 y).typed ∷ []) b))))

  -- an expression with a new `pc_decide` around it
  pub around_kept : {after : List ℕ} {further : List Bool} (it other : c.Expression) (when_true when_false tag : List ℕ) (k l : Known) → IsNewId new after when_true → IsNewId new (number_of_id when_true ∷ after) when_false
      → Whole F G new after further as_truth k it (entered l) other → Whole F G new (number_of_id when_false ∷ number_of_id when_true ∷ after) further as_truth k it l (c.Decide other when_true when_false tag)
  around_kept it other when_true when_false tag k l i j o = around_piece (an_expression (c.Decide other when_true when_false tag)) refl (λ whole n zs. refl) o
      (λ x y m n q q' s flags b. finished_with l.next as_truth (judge_decide as_truth y when_true when_false tag n) (λ (n : Known). n.labels ++ label_of when_true tag [] ∷ [] ++ label_of when_false tag [] ∷ []) m n
      (decide_seen x y when_true when_false tag n s)
      (new_label_beside (label_of when_false tag []) j.1 refl (new_label_beside (label_of when_true tag []) i.1 refl (numbered_alone n.next (n.facts ++ fact_of l.next (judge_decide as_truth y when_true when_false tag n).typed ∷ []) b))))
