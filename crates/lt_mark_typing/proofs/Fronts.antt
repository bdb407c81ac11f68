-- New labels in front of expressions, and `pc_decide` round them.
use Rattle.std.proofs.Common.{◌≡◌, ℕ, ◌+◌, List, [], ◌∷◌, Bool, true, false, refl, sym, ap, ◌∙◌, subst, inl, inr}
use Rattle.std.proofs.lemmas.Bool.{false≢true}
use Rattle.std.specs.Prelude.{◌++◌, ◌⊎◌, ◌==◌, ◌||◌, ◌&&◌, not}
use Rattle.lt_model.specs.declared.scalar.Scalar.TheVariants as S
use Rattle.lt_tree.specs.Tree as c
use Rattle.lt_tree.specs.Typing.Types.{CType, Num, is_scalar}
use Rattle.lt_tree.specs.Typing.Extents.{Structs}
use Rattle.lt_tree.specs.Typing.Constants.{varying}
use Rattle.lt_tree.specs.Typing.Rules.{unless, bad_mark}
use Rattle.lt_tree.specs.Typing.TypedTree as e
use Rattle.lt_tree.specs.Typing.TypedTree.{Value, Marks, type_of}
use Rattle.lt_tree.specs.Typing.Entities.{Known}
use Rattle.lt_tree.specs.Typing.Steps.{Outcome, Goes, Breaks, goes_on, adds_label}
use Rattle.lt_tree.specs.Typing.Expressions.{Form, a_value, Typed, Use, as_value, as_truth, as_place, as_callee, valued, own_type, value_in, as_it_is_read, used, fact_of, faults_of_any, finish}
use Rattle.lt_tree.specs.Typing.MarkRules.{is_good_id, number_of_id, is_tag, is_good_decision, label_of, judge_decide, behind_marks as marked_typed, judge_marked, judge_after, is_lvalue_in_use}
use Rattle.lt_tree.specs.Typing.NodeEnds.{decision_labels}
use Rattle.lt_tree.specs.Typing.ExpressionTyping.{expression, marks}
use Rattle.lt_mark_laws.specs.Added as a
use Rattle.lt_mark_laws.specs.Added.{AreNew, Adds, can_be_marked}
use Rattle.lt_object_laws.specs.Renamed.{renumbered}
use Rattle.lt_mark_typing.specs.Renumbered.{form_with, typed_with}
use Rattle.lt_mark_typing.specs.Further.{Extends, Agrees}
use Rattle.lt_mark_typing.specs.Beside.{IsBeside, AddsForm, values, AddsMade, Position, in_use, in_test, use_of, AddsAt, AddsWith, Follows, goes, breaks}
use Rattle.lt_mark_typing.specs.Placed.{IsNewId, AreNewLabels, takes_labels, IsMarkable, is_good_type, IsNoNull}
use Rattle.lt_mark_typing.proofs.Numbers.{agrees_so_far}
use Rattle.lt_mark_typing.proofs.Going.{from_there, bind, bind_at, goes_here, entered_beside}
use Rattle.lt_mark_typing.proofs.Operands.{AddsJudged, made, made_in_use, no_null, type_same, value_adds}
use Rattle.lt_mark_typing.proofs.Operators.{scalar_more}
use Rattle.lt_mark_typing.proofs.OneOperand.{after_with}
use Rattle.lt_mark_typing.proofs.Ends.{structs_same, finished_alone}
use Rattle.lt_mark_typing.proofs.Labels.{unmarked_same, after_too, after_typed}
use Rattle.lt_mark_typing.proofs.Steps.{label_beside}
use Rattle.lt_mark_typing.proofs.NewMarks.{new_labels, new_id, new_label_beside, numbered_alone, good_faults}
use Rattle.lt_mark_typing.proofs.Placing.{MadeWith, no_null_with, markable_with, good_type_with, scalar_with, from_first, there_too, end_at}

-- ---- what only the second text has

module _ {new : ℕ → Bool} where
  alone_by : {A B C : Type 0} {used' used'' : List ℕ} {further : List Bool} {R : (ℕ → ℕ) → A → B → Type 0} {Q : (ℕ → ℕ) → A → C → Type 0} {g : B → Known → Outcome C} (o o' : Outcome A) (p : Outcome B)
      → o ≡ o' → Follows new used' further R o' p
      → ((x : A) (y : B) (k l : Known) (behind : List Bool) → o ≡ Goes x k → Extends further behind → ((r : ℕ → ℕ) → Agrees r behind → R r x y) → IsBeside new used' behind k l
      → (z : C) × (m : Known) × (g y l ≡ Goes z m) × ((r : ℕ → ℕ) → Agrees r behind → Q r x z) × IsBeside new used'' behind k m)
      → Follows new used'' further Q o' (goes_on p g)
  alone_by {used'' = used''} {further} {Q = Q} o (Goes x k) (Goes y l) q (goes behind e r b) f =
      let it = f x y k l behind q e r b in subst (Follows new used'' further Q (Goes x k)) (sym it.2) (goes behind e it.3 it.4)
  alone_by o (Goes x k) (Breaks rule node) q d f = elim d [ ]
  alone_by o (Breaks rule node) p q d f = breaks

  -- behind what both have
  pub then_alone : {A B C : Type 0} {used' used'' : List ℕ} {further : List Bool} {R : (ℕ → ℕ) → A → B → Type 0} {Q : (ℕ → ℕ) → A → C → Type 0} {g : B → Known → Outcome C} {o : Outcome A} {p : Outcome B}
      → Follows new used' further R o p
      → ((x : A) (y : B) (k l : Known) (behind : List Bool) → o ≡ Goes x k → Extends further behind → ((r : ℕ → ℕ) → Agrees r behind → R r x y) → IsBeside new used' behind k l
      → (z : C) × (m : Known) × (g y l ≡ Goes z m) × ((r : ℕ → ℕ) → Agrees r behind → Q r x z) × IsBeside new used'' behind k m)
      → Follows new used'' further Q o (goes_on p g)
  then_alone {o = o} {p = p} d f = alone_by o o p refl d f

-- ---- values behind new labels

used_marked : (role : Use) (ms : Marks) (y : Typed) → used role (marked_typed ms y) ≡ marked_typed ms y
used_marked as_value ms y = refl
used_marked as_truth ms y = refl
used_marked as_place ms y = refl
used_marked as_callee ms y = refl

any_good : (structs : Structs) (role : Use) (ms : Marks) (y : Typed) → is_good_type structs (own_type y) ≡ true → faults_of_any structs role (marked_typed ms y) ≡ []
any_good structs as_value ms y h = ap (λ l. l ++ []) (good_faults structs (own_type y) h)
any_good structs as_truth ms y h = ap (λ l. l ++ []) (good_faults structs (own_type y) h)
any_good structs as_place ms y h = ap (λ l. l ++ []) (good_faults structs (own_type y) h)
any_good structs as_callee ms y h = ap (λ l. l ++ []) (good_faults structs (own_type y) h)

read_same : (x : Typed) (v : Value) → x.form ≡ a_value v → as_it_is_read x ≡ x
read_same x v h = ap (λ f. as_it_is_read (record x { form = f })) h ∙ sym (ap (λ (f : Form). record x { form = f }) h)

module _ (new : ℕ → Bool) where
  front_form : {f : Form} {ms : Marks} {v w : Value} {t : CType} → AreNew new ms → f ≡ a_value v → can_be_marked v ≡ true → type_of v ≡ t → Adds new v w → AddsForm new f (a_value (e.Marked t ms w))
  front_form {f} {ms} {v} {w} {t} is_new h free i d = subst (λ it. AddsForm new it (a_value (e.Marked t ms w))) (sym h) (values (a.in_front is_new free i d))

  -- of what is used as more than a test
  front_made : (x y : Typed) (ms : Marks) → AreNew new ms → (v : Value) → x.form ≡ a_value v → can_be_marked v ≡ true → AddsMade new x y → AddsMade new x (marked_typed ms y)
  front_made x y ms is_new v is free p = record {
    form = front_form is_new is free (sym (ap type_in is) ∙ sym (type_same p)) (subst (λ it. Adds new it (value_in y)) (ap value_of is) (value_adds p));
    register = p.register;
    constancy = inr refl;
  }
    where
      value_of : Form → Value
      value_of f = value_in (record x { form = f })

      type_in : Form → CType
      type_in f = own_type (record x { form = f })

  front_adds : (x y : Typed) (ms : Marks) (position : Position) → AreNew new ms → IsNoNull position x → IsMarkable position x → AddsAt new position x y
      → AddsAt new position x (marked_typed ms y)
  front_adds x y ms in_test is_new n h p = record { value = a.before is_new p.value; type = p.type; constancy = inr refl }
  front_adds x y ms (in_use as_truth) is_new n h p = front_made x y ms is_new h.0 h.1 h.2 p
  front_adds x y ms (in_use as_value) is_new n h p = no_null n (front_made x y ms is_new h.0 h.1 h.2 (made p))
  front_adds x y ms (in_use as_place) is_new n h p = no_null n (front_made x y ms is_new h.0 h.1 h.2 (made p))
  front_adds x y ms (in_use as_callee) is_new n h p = no_null n (front_made x y ms is_new h.0 h.1 h.2 (made p))

  front_good : (x y : Typed) (structs : Structs) (position : Position) → AddsAt new position x y → is_good_type structs (own_type x) ≡ true → is_good_type structs (own_type y) ≡ true
  front_good x y structs (in_use role) p h = ap (is_good_type structs) (type_same (made_in_use role p)) ∙ h
  front_good x y structs in_test p h = by p.type
    where
      by : (own_type y ≡ own_type x) ⊎ (own_type y ≡ Num S.Int) → is_good_type structs (own_type y) ≡ true
      by (inl t) = ap (is_good_type structs) t ∙ h
      by (inr t) = ap (is_good_type structs) t

-- the end of an expression behind new labels
marked_alone : (m : Known) (n : ℕ) (role : Use) (ms : Marks) (y : Typed) → is_good_type m.structs (own_type y) ≡ true
    → finish n role (judge_marked ms y) m ≡ Goes (marked_typed ms y) (record m { facts = m.facts ++ fact_of n (marked_typed ms y) ∷ [] })
unfolding judge_marked
marked_alone m n role ms y h =
    finished_alone m n role (judge_marked ms y) refl (any_good m.structs role ms y h)
    ∙ ap (λ it. Goes it (record m { facts = m.facts ++ fact_of n (marked_typed ms y) ∷ [] })) (used_marked role ms y)

-- ---- new labels

-- the second is the first with new labels in front of it
abbrev IsUnder : (ℕ → Bool) → (ℕ → ℕ) → Typed → Typed → Type 0
IsUnder new r x z = (y : Typed) × (ms : Marks) × AreNew new ms × AddsMade new (typed_with r x) y × (z ≡ marked_typed ms y)

module _ {new : ℕ → Bool} where
  front_by : {used between last : List ℕ} {further : List Bool} {k l : Known} (labels : c.Marks) (other : c.Expression) {o : Outcome Typed} (position : Position) (role : Use)
      → k.is_unmarked ≡ false → ((x : Typed) (next : Known) → o ≡ Goes x next → IsNoNull position x × IsMarkable position x × (is_good_type next.structs (own_type x) ≡ true))
      → AreNewLabels new used between k labels
      → ((behind : List Bool) (j : Known) → IsBeside new between behind k j → Follows new last behind (AddsWith new position) o (expression other role j)) → IsBeside new used further k l
      → Follows new last further (AddsWith new position) o (goes_on (marks labels (record l { next = l.next + 1 })) (λ ts j. goes_on (expression other role j) (λ y j. finish l.next role (judge_marked ts y) j)))
  front_by {used} {between} {last} {further} {k} {l} labels other {o} position role u f are h b =
      let found = new_labels labels u are (numbered_alone (l.next + 1) l.facts b) in
      subst (λ it. Follows new last further (AddsWith new position) o (goes_on it (λ ts j. goes_on (expression other role j) (λ y j. finish l.next role (judge_marked ts y) j)))) (sym found.4)
      (from_there found.3 (then_alone (h found.2 found.1 found.6) (λ x y m n behind q i p b.
      let z : Typed = marked_typed found.0 y in
      let at = f x m q in
      let r = renumbered behind in (
        z,
        record n { facts = n.facts ++ fact_of l.next z ∷ [] },
        marked_alone n l.next role found.0 y (ap (λ structs. is_good_type structs (own_type y)) (structs_same b)
            ∙ front_good new (typed_with r x) y m.structs position (p r (agrees_so_far behind)) (good_type_with r m.structs x at.2)),
        (λ r g. front_adds new (typed_with r x) y found.0 position found.5 (no_null_with r position x at.0) (markable_with r position x at.1) (p r g)),
        numbered_alone n.next (n.facts ++ fact_of l.next z ∷ []) b,
      ))))

  front_under : {used between last : List ℕ} {further : List Bool} {k l : Known} (labels : c.Marks) (other : c.Expression) {o : Outcome Typed} (role : Use)
      → k.is_unmarked ≡ false → ((x : Typed) (next : Known) → o ≡ Goes x next → is_good_type next.structs (own_type x) ≡ true) → AreNewLabels new used between k labels
      → ((behind : List Bool) (j : Known) → IsBeside new between behind k j → Follows new last behind (AddsWith new (in_use as_truth)) o (expression other role j)) → IsBeside new used further k l
      → Follows new last further (IsUnder new) o (goes_on (marks labels (record l { next = l.next + 1 })) (λ ts j. goes_on (expression other role j) (λ y j. finish l.next role (judge_marked ts y) j)))
  front_under {used} {between} {last} {further} {k} {l} labels other {o} role u f are h b =
      let found = new_labels labels u are (numbered_alone (l.next + 1) l.facts b) in
      subst (λ it. Follows new last further (IsUnder new) o (goes_on it (λ ts j. goes_on (expression other role j) (λ y j. finish l.next role (judge_marked ts y) j)))) (sym found.4)
      (from_there found.3 (then_alone (h found.2 found.1 found.6) (λ x y m n behind q i p b.
      let z : Typed = marked_typed found.0 y in
      let r = renumbered behind in (
        z,
        record n { facts = n.facts ++ fact_of l.next z ∷ [] },
        marked_alone n l.next role found.0 y (ap (λ structs. is_good_type structs (own_type y)) (structs_same b)
            ∙ ap (is_good_type m.structs) (type_same (p r (agrees_so_far behind))) ∙ good_type_with r m.structs x (f x m q)),
        (λ r g. (y, found.0, found.5, p r g, refl)),
        numbered_alone n.next (n.facts ++ fact_of l.next z ∷ []) b,
      ))))

  pub front : (position : Position) {used between last : List ℕ} {further : List Bool} {k l : Known} (labels : c.Marks) (it other : c.Expression) → takes_labels position ≡ true
      → k.is_unmarked ≡ false → ((x : Typed) (next : Known) → expression it (use_of position) k ≡ Goes x next → IsNoNull position x × IsMarkable position x × (is_good_type next.structs (own_type x) ≡ true))
      → AreNewLabels new used between k labels
      → ((behind : List Bool) (j : Known) → IsBeside new between behind k j → Follows new last behind (AddsWith new position) (expression it (use_of position) k) (expression other (use_of position) j))
      → IsBeside new used further k l
      → Follows new last further (AddsWith new position) (expression it (use_of position) k) (expression (c.Marked labels other) (use_of position) l)
  front in_test labels it other t u f are h b = front_by labels other in_test as_truth u f are h b
  front (in_use as_value) labels it other t u f are h b = front_by labels other (in_use as_value) as_value u f are h b
  front (in_use as_truth) labels it other t u f are h b = front_by labels other (in_use as_truth) as_truth u f are h b
  front (in_use as_place) labels it other t u f are h b = absurd (false≢true t)
  front (in_use as_callee) labels it other t u f are h b = absurd (false≢true t)

  -- ---- a `pc_after` with new labels in front of what stands in it

  labels_adds : {t u : CType} {ms : Marks} {v w : Value} (id : ℕ) → u ≡ t → AreNew new ms → Adds new v w → Adds new (e.After t v id) (e.After u (e.Marked u ms w) id)
  labels_adds {t} {u} {ms} {v} {w} id h is_new f = subst (λ it. Adds new (e.After t v id) (e.After it (e.Marked u ms w) id)) (sym h) (a.labels_after is_new f)

  after_under : (x y : Typed) (ms : Marks) (v : Value) (role : Use) (id tag : List ℕ) (known : Known) → ((it : Typed) → is_lvalue_in_use role it ≡ false) → AreNew new ms → AddsMade new x y → x.form ≡ a_value v
      → AddsJudged new (judge_after role x id tag known) (judge_after role (marked_typed ms y) id tag known)
  unfolding judge_after
  after_under x y ms v role id tag known s is_new p h = record {
    faults = λ g. ap (λ it. unless (not it && not known.is_unmarked && is_good_id known id && is_tag tag) bad_mark) (s (marked_typed ms y) ∙ sym (s x)) ∙ g;
    typed = record {
      form = subst (λ (it : Typed). AddsForm new (a_value (e.After (own_type it) (value_in it) (number_of_id id))) (a_value (e.After (own_type y) (e.Marked (own_type y) ms (value_in y)) (number_of_id id)))) (sym (read_same x v h))
          (values (labels_adds (number_of_id id) (type_same p) is_new (value_adds p)));
      register = λ r. p.register (sym (ap (λ (it : Typed). it.is_register) (read_same x v h)) ∙ r);
      constancy = inl refl;
    };
  }

  under_judged : (r : ℕ → ℕ) (x z : Typed) (v : Value) (role : Use) (id tag : List ℕ) (known : Known) → ((it : Typed) → is_lvalue_in_use role it ≡ false) → IsUnder new r x z → x.form ≡ a_value v
      → AddsJudged new (judge_after role (typed_with r x) id tag known) (judge_after role z id tag known)
  under_judged r x z v role id tag known s p h =
      subst (λ (it : Typed). AddsJudged new (judge_after role (typed_with r x) id tag known) (judge_after role it id tag known)) (sym p.4)
      (after_under (typed_with r x) p.0 p.1 (value_of (form_with r (a_value v))) role id tag known s p.2 p.3 (ap (form_with r) h))
    where
      value_of : Form → Value
      value_of f = value_in (record x { form = f })

  pub after_labels : {used' between last : List ℕ} {further : List Bool} (position : Position) (role : Use) (k : Known) (id tag : List ℕ) (labels : c.Marks) (it other : c.Expression) → new (number_of_id id) ≡ false
      → k.is_unmarked ≡ false
      → ((x : Typed) (next : Known) → expression it role (record k { next = k.next + 1 }) ≡ Goes x next → ((v : Value) × (x.form ≡ a_value v)) × (is_good_type next.structs (own_type x) ≡ true))
      → AreNewLabels new used' between (record k { next = k.next + 1 }) labels → ((x : Typed) → is_lvalue_in_use role x ≡ false)
      → ((behind : List Bool) (j : Known) → IsBeside new between behind (record k { next = k.next + 1 }) j
      → Follows new last behind (AddsWith new (in_use as_truth)) (expression it role (record k { next = k.next + 1 })) (expression other role j)) → (l : Known) → IsBeside new used' further k l
      → Follows new last further (MadeWith new position)
      (goes_on (expression it role (record k { next = k.next + 1 })) (λ x m. goes_on (finish k.next (use_of position) (judge_after role x id tag m) m) (λ result j. goes_on (adds_label (label_of id tag []) j) (λ u j. Goes result j))))
      (goes_on (goes_on (marks labels (record l { next = l.next + 1 + 1 })) (λ ts j. goes_on (expression other role j) (λ y j. finish (l.next + 1) role (judge_marked ts y) j)))
      (λ x n. goes_on (finish l.next (use_of position) (judge_after role x id tag n) n) (λ result j. goes_on (adds_label (label_of id tag []) j) (λ u j. Goes result j))))
  after_labels position role k id tag labels it other h u f are s d l b =
      bind_at (front_under labels other role u (λ x m q. (f x m q).1) are d (entered_beside b)) (λ x z m n behind q i p b.
      let found = (f x m q).0 in
      bind (end_at position k.next l.next (judge_after role x id tag m) (judge_after role z id tag n)
      (λ r g. from_first (after_with r role x id tag m) (there_too (after_too b role z id tag h) (after_typed b role z id tag) (under_judged r x z found.0 role id tag m s (p r g) found.1))) b)
      (λ x y m n behind i p b. goes_here p (label_beside (label_of id tag []) h b)))

  -- ---- new decisions

  good_decision : {used' : List ℕ} {further : List Bool} {k l : Known} (y : Typed) (when_true when_false tag : List ℕ) → k.is_unmarked ≡ false → is_scalar (own_type y) ≡ true
      → IsNewId new used' when_true → IsNewId new (number_of_id when_true ∷ used') when_false → is_tag tag ≡ true → IsBeside new used' further k l
      → is_good_decision as_truth l y when_true when_false tag ≡ true
  good_decision y when_true when_false tag u s i j t b =
      rw (unmarked_same b ∙ u) (rw s (rw (new_id when_true i b) (rw (new_id when_false (j.0, j.1, left_false (number_of_id when_true == number_of_id when_false) _ j.2) b)
      (rw (first_false (number_of_id when_true == number_of_id when_false) _ j.2) (rw t refl)))))
    where
      first_false : (p q : Bool) → p || q ≡ false → p ≡ false
      first_false false q h = refl
      first_false true q h = absurd cc

      left_false : (p q : Bool) → p || q ≡ false → q ≡ false
      left_false false q h = h
      left_false true q h = absurd cc

  pub around_by : {last : List ℕ} {further : List Bool} (l : Known) (other : c.Expression) {o : Outcome Typed} (when_true when_false tag : List ℕ)
      → ((x : Typed) (next : Known) → o ≡ Goes x next → is_scalar (own_type x) ≡ true × (next.is_unmarked ≡ false))
      → IsNewId new last when_true → IsNewId new (number_of_id when_true ∷ last) when_false → is_tag tag ≡ true
      → Follows new last further (AddsWith new in_test) o (expression other as_truth (record l { next = l.next + 1 }))
      → Follows new (number_of_id when_false ∷ number_of_id when_true ∷ last) further (AddsWith new in_test) o
      (goes_on (expression other as_truth (record l { next = l.next + 1 })) (λ y j. goes_on (finish l.next as_truth (judge_decide as_truth y when_true when_false tag j) j)
      (λ result j. goes_on (decision_labels when_true when_false tag j) (λ u j. Goes result j))))
  unfolding judge_decide
  around_by l other {o} when_true when_false tag f i j t d =
      then_alone d (λ x y m n behind q e' p b.
      let z : Typed = valued (e.Decide (Num S.Int) (value_in y) (number_of_id when_true) (number_of_id when_false)) varying y.erased in
      let noted : Known = record n { facts = n.facts ++ fact_of l.next z ∷ [] } in
      let first : Known = record noted { labels = noted.labels ++ label_of when_true tag [] ∷ [] } in
      let second : Known = record first { labels = first.labels ++ label_of when_false tag [] ∷ [] } in
      let r = renumbered behind in (
        z,
        second,
        ap (λ it. goes_on it (λ result j. goes_on (decision_labels when_true when_false tag j) (λ u j. Goes result j)))
            (finished_alone n l.next as_truth (judge_decide as_truth y when_true when_false tag n)
            (ap (λ it. unless it bad_mark) (good_decision y when_true when_false tag (f x m q).1 (scalar_more (p r (agrees_so_far behind)) (scalar_with r x (f x m q).0)) i j t b)) refl),
        (λ r g. record { value = a.round i.1 j.1 (p r g).value; type = inr refl; constancy = inr refl }),
        new_label_beside (label_of when_false tag []) j.1 refl (new_label_beside (label_of when_true tag []) i.1 refl (numbered_alone n.next (n.facts ++ fact_of l.next z ∷ []) b)),
      ))
