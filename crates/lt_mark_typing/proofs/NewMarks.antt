-- New marks are typed where they stand.
use Rattle.std.proofs.Common.{◌≡◌, ℕ, ◌+◌, List, [], ◌∷◌, Option, Some, None, Bool, true, false, refl, sym, ap, ◌∙◌, subst}
use Rattle.std.proofs.lemmas.Bool.{false≢true, eqb-true, eq-eqb, and_from}
use Rattle.std.specs.Prelude.{◌++◌, ◌==◌, ◌||◌, ◌&&◌, nat_le, not, map, is_some, unwrap_or}
use Rattle.std.specs.List.{AllByRecursion, list_any}
use Rattle.lt_tree.specs.Tree as c
use Rattle.lt_tree.specs.Purity.{is_pure}
use Rattle.lt_tree.specs.Typing.Types.{CType, is_scalar}
use Rattle.lt_tree.specs.Typing.Extents.{Structs, has_too_many_cells}
use Rattle.lt_tree.specs.Typing.Rules.{unless, bad_mark, broken_if, floating_type, bad_length, function_as_value}
use Rattle.lt_tree.specs.Typing.TypedTree as e
use Rattle.lt_tree.specs.Typing.TypedTree.{Value, Marks, type_of}
use Rattle.lt_tree.specs.Typing.Operands.{holds}
use Rattle.lt_tree.specs.Typing.Entities.{Known, Object, Label, Fact, greatest_label_id}
use Rattle.lt_tree.specs.Typing.Steps.{Goes, goes_on, settle, adds_label, gives, ◌>>◌}
use Rattle.lt_tree.specs.Typing.Expressions.{Typed, own_type, value_in, has_floating, has_pointer_to_function}
use Rattle.lt_tree.specs.Typing.MarkRules.{is_new_id, is_good_id, id_of, number_of_id, is_tag, is_good_mark, label_of}
use Rattle.lt_tree.specs.Typing.NodeEnds.{end_of_mark}
use Rattle.lt_tree.specs.Typing.ExpressionTyping.{marks, mark}
use Rattle.lt_mark_laws.specs.Added.{AreNew}
use Rattle.lt_object_laws.specs.Renamed.{renumbered}
use Rattle.lt_object_laws.specs.Further.{IsFurther}
use Rattle.lt_mark_typing.specs.Further.{Extends, Agrees, HasObjects, no_objects, an_object, a_further_object}
use Rattle.lt_mark_typing.specs.Beside.{AddsLabels, no_labels, kept, added, is_used, IsBeside}
use Rattle.lt_mark_typing.specs.Placed.{IsNewId, IsPredicateAt, AreNewLabels, is_good_type}
use Rattle.lt_mark_typing.proofs.Numbers.{extends_itself, extends_with, extends_on, agrees_before, agrees_so_far}
use Rattle.lt_mark_typing.proofs.Labels.{unmarked_same}
use Rattle.lt_mark_typing.proofs.GoodIds.{id_small}

apart_by : (new : ℕ → Bool) (n id : ℕ) (b : Bool) → (n == id) ≡ b → new n ≡ false → new id ≡ true → b ≡ false
apart_by new n id false q h g = refl
apart_by new n id true q h g = absurd (false≢true (sym h ∙ ap new (eqb-true n id q) ∙ g))

unused_by : (us : List ℕ) (n id : ℕ) (b : Bool) → (n == id) ≡ b → is_used n us ≡ true → is_used id us ≡ false → b ≡ false
unused_by us n id false q h g = refl
unused_by us n id true q h g = absurd (false≢true (sym g ∙ ap (λ i. is_used i us) (sym (eqb-true n id q)) ∙ h))

good_by : (known : Known) (text : List ℕ) (found : Option ℕ) → id_of text ≡ found → known.greatest_id ≡ greatest_label_id → is_some found ≡ true → is_new_id known (unwrap_or found 0) ≡ true
    → holds (λ n. nat_le n known.greatest_id && is_new_id known n) found ≡ true
good_by known text None e all h g = h
good_by known text (Some n) e all h g = and_from (nat_le n known.greatest_id) (is_new_id known n) (ap (nat_le n) all ∙ id_small text n e) g

-- ---- further objects

-- as many flags of further objects
abbrev pub marked_further : List Object → List Bool
marked_further more = map (λ object. true) more

only_more : (r : ℕ → ℕ) (more : List Object) → AllByRecursion IsFurther more → HasObjects r (marked_further more) [] more
only_more r [] h = no_objects
only_more r (object ∷ more) h = a_further_object object h.0 (only_more r more h.1)

more_objects : (r : ℕ → ℕ) {further : List Bool} {xs ys : List Object} (more : List Object) → AllByRecursion IsFurther more → HasObjects r further xs ys
    → HasObjects r (further ++ marked_further more) xs (ys ++ more)
more_objects r more h no_objects = only_more r more h
more_objects r more h (an_object object node d) = an_object object node (more_objects r more h d)
more_objects r more h (a_further_object object f d) = a_further_object object f (more_objects r more h d)

module _ {new : ℕ → Bool} where
  -- ---- labels

  none_among : {used : List ℕ} {xs ys : List Label} (id : ℕ) → new id ≡ true → is_used id used ≡ false → AddsLabels new used xs ys → list_any (λ label. label.id == id) ys ≡ false
  none_among id h g no_labels = refl
  none_among id h g (kept {label} {xs} {ys} is_old d) =
      ap (λ b. b || list_any (λ label. label.id == id) ys) (apart_by new label.id id (label.id == id) refl is_old h) ∙ none_among id h g d
  none_among {used} id h g (added {label} {xs} {ys} is_new is_in free d) =
      ap (λ b. b || list_any (λ label. label.id == id) ys) (unused_by used label.id id (label.id == id) refl is_in g) ∙ none_among id h g d

  pub new_id : {used : List ℕ} {further : List Bool} {k l : Known} (id : List ℕ) → IsNewId new used id → IsBeside new used further k l → is_good_id l id ≡ true
  new_id {used} {further} {k} {l} id h b = good_by l id (id_of id) refl (ap (λ (it : Known). it.greatest_id) (b.same (renumbered further) (agrees_so_far further))) h.0 (ap not (none_among (number_of_id id) h.1 h.2 b.labels))

  one_more : {used : List ℕ} {xs ys : List Label} (label : Label) → new label.id ≡ true → label.bound ≡ [] → AddsLabels new used xs ys → AddsLabels new (label.id ∷ used) xs (ys ++ label ∷ [])
  one_more {used} label h free no_labels = added h (ap (λ b. b || is_used label.id used) (eq-eqb label.id label.id refl)) free no_labels
  one_more label h free (kept is_old d) = kept is_old (one_more label h free d)
  one_more {used} label h free (added {label = other} is_new is_in none d) = added is_new (either (label.id == other.id) is_in) none (one_more label h free d)
    where
      either : (b : Bool) → is_used other.id used ≡ true → b || is_used other.id used ≡ true
      either true h = refl
      either false h = h

  pub new_label_beside : {used : List ℕ} {further : List Bool} {k l : Known} (label : Label) → new label.id ≡ true → label.bound ≡ [] → IsBeside new used further k l
      → IsBeside new (label.id ∷ used) further k (record l { labels = l.labels ++ label ∷ [] })
  new_label_beside {used} {further} {k} {l} label h free b = record {
    same = λ r a. ap (λ (it : Known). record it { labels = l.labels ++ label ∷ [] }) (b.same r a);
    objects = b.objects;
    functions = b.functions;
    labels = one_more label h free b.labels;
  }

  -- nodes and facts of the second text alone
  pub numbered_alone : {used : List ℕ} {further : List Bool} {k l : Known} (n : ℕ) (facts : List Fact) → IsBeside new used further k l → IsBeside new used further k (record l { next = n; facts = facts })
  numbered_alone {used} {further} {k} {l} n facts b = record {
    same = λ r a. ap (λ (it : Known). record it { next = n; facts = facts }) (b.same r a);
    objects = b.objects;
    functions = b.functions;
    labels = b.labels;
  }

  -- objects of the second text alone, which are further ones
  more_alone : {used : List ℕ} {further : List Bool} {k l : Known} (more : List Object) → AllByRecursion IsFurther more → IsBeside new used further k l
      → IsBeside new used (further ++ marked_further more) k (record l { objects = l.objects ++ more })
  more_alone {used} {further} {k} {l} more h b =
      let before : (r : ℕ → ℕ) → Agrees r (further ++ marked_further more) → Agrees r further = λ r a. agrees_before (extends_with further (marked_further more)) a in
      record {
        same = λ r a. ap (λ (it : Known). record it { objects = l.objects ++ more }) (b.same r (before r a));
        objects = λ r a. more_objects r more h (b.objects r (before r a));
        functions = λ r a. b.functions r (before r a);
        labels = b.labels;
      }

  -- what is found behind a predicate
  pub behind_alone : {used : List ℕ} {further : List Bool} {k l : Known} (n : ℕ) (more : List Object) (facts : List Fact) → AllByRecursion IsFurther more → IsBeside new used further k l
      → IsBeside new used (further ++ marked_further more) k (record l { next = n; objects = l.objects ++ more; facts = facts })
  behind_alone n more facts h b = numbered_alone n facts (more_alone more h b)

  good_new_mark : {used : List ℕ} {further : List Bool} {k l : Known} (written : c.Expression) (x : Typed) (id tag : List ℕ) → k.is_unmarked ≡ false → is_scalar (own_type x) ≡ true → is_pure written ≡ true → IsNewId new used id
      → is_tag tag ≡ true → IsBeside new used further k l → is_good_mark l written x id tag [] ≡ true
  good_new_mark written x id tag u s p i t b = rw (unmarked_same b ∙ u) (rw s (rw p (rw (new_id id i b) (rw t refl))))

  pub new_mark : {used : List ℕ} {further : List Bool} {k l : Known} (predicate : c.Expression) (id tag : List ℕ) → k.is_unmarked ≡ false → IsNewId new used id → is_tag tag ≡ true → IsPredicateAt new used k predicate
      → IsBeside new used further k l
      → (v : Value) × (later : Known) × (behind : List Bool) × Extends further behind × (mark (c.mark predicate id tag c.no_bindings) l ≡ Goes (e.mark v (number_of_id id) e.no_bindings) later)
      × IsBeside new (number_of_id id ∷ used) behind k later
  new_mark {used} {further} {k} {l} predicate id tag u i t p b =
      let scalar = p.1 further (record l { next = l.next + 1 }) (numbered_alone (l.next + 1) l.facts b) in
      let x = scalar.0 in
      let more = scalar.3 in
      let later : Known = record l { next = scalar.1; objects = l.objects ++ more; facts = scalar.2 } in
      let there : IsBeside new used (further ++ marked_further more) k later = behind_alone scalar.1 more scalar.2 scalar.4 b in (
        value_in x,
        record later { labels = later.labels ++ label_of id tag [] ∷ [] },
        further ++ marked_further more,
        extends_with further (marked_further more),
        ap (λ o. goes_on o (λ x k. end_of_mark l.next predicate x id tag [] k)) scalar.5
            ∙ ap (λ good. goes_on (settle l.next (unless good bad_mark) later) (λ u. adds_label (label_of id tag []) >> gives (e.mark (value_in x) (number_of_id id) e.no_bindings)))
            (good_new_mark predicate x id tag u scalar.6 p.0 i t there),
        new_label_beside (label_of id tag []) i.1 refl there,
      )

  pub new_labels : (labels : c.Marks) {used after : List ℕ} {further : List Bool} {k l : Known} → k.is_unmarked ≡ false → AreNewLabels new used after k labels → IsBeside new used further k l
      → (ms : Marks) × (later : Known) × (behind : List Bool) × Extends further behind × (marks labels l ≡ Goes ms later) × AreNew new ms × IsBeside new after behind k later
  new_labels c.no_marks {used} {after} {further} {k} {l} u h b = (e.no_marks, l, further, extends_itself further, refl, tt, subst (λ it. IsBeside new it further k l) (sym h) b)
  new_labels (c.a_mark (c.mark predicate id tag c.no_bindings) rest) {used} {after} {further} {k} {l} u h b =
      let first = new_mark predicate id tag u h.0 h.1 h.2 b in
      let others = new_labels rest u h.4 first.5 in (
        e.a_mark (e.mark first.0 (number_of_id id) e.no_bindings) others.0,
        others.1,
        others.2,
        extends_on first.3 others.3,
        ap (λ o. goes_on o (λ m k. goes_on (marks rest k) (λ ms k. Goes (e.a_mark m ms) k))) first.4 ∙ ap (λ o. goes_on o (λ ms k. Goes (e.a_mark (e.mark first.0 (number_of_id id) e.no_bindings) ms) k)) others.4,
        (h.0.1, others.5),
        others.6,
      )
  new_labels (c.a_mark (c.mark predicate id tag (c.a_binding name value bound)) rest) u h b = absurd h

-- ---- what is judged of a new mark

pub good_faults : (structs : Structs) (t : CType) → is_good_type structs t ≡ true
    → broken_if floating_type (has_floating t) ++ broken_if bad_length (has_too_many_cells structs t) ++ broken_if function_as_value (has_pointer_to_function t) ≡ []
good_faults structs t h = by (has_floating t) (has_too_many_cells structs t) (has_pointer_to_function t) h
  where
    by : (p q r : Bool) → not p && not q && not r ≡ true → broken_if floating_type p ++ broken_if bad_length q ++ broken_if function_as_value r ≡ []
    by false false false h = refl
    by true q r h = absurd cc
    by false true r h = absurd cc
    by false false true h = absurd cc
