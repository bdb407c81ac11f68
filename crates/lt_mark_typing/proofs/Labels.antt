-- Ids and names that marks of the text have: they break no rule where labels with new ids were added.
use Rattle.std.proofs.Common.{◌≡◌, ℕ, List, [], ◌∷◌, Option, Some, None, Bool, true, false, refl, sym, ap, ◌∙◌}
use Rattle.std.proofs.lemmas.Bool.{false≢true, eqb-true, and_parts, and_from}
use Rattle.std.specs.Prelude.{◌++◌, ◌==◌, ◌||◌, ◌&&◌, nat_le, not, unwrap_or, map}
use Rattle.std.specs.List.{list_any, list_all}
use Rattle.lt_tree.specs.Tree as c
use Rattle.lt_tree.specs.Purity.{is_pure}
use Rattle.lt_tree.specs.Typing.Types.{is_scalar, is_integer}
use Rattle.lt_tree.specs.Typing.Rules.{bad_mark}
use Rattle.lt_tree.specs.Typing.Operands.{holds}
use Rattle.lt_tree.specs.Typing.Entities.{Known, Label}
use Rattle.lt_tree.specs.Typing.Expressions.{Typed, Use, own_type}
use Rattle.lt_tree.specs.Typing.Operations.{is_among}
use Rattle.lt_tree.specs.Typing.MarkRules.{TypedBinding, names_of, is_new_id, is_new_name, are_new_names, is_good_id, id_of, number_of_id, is_tag, is_good_binding, is_good_mark, is_truth, is_good_decision, is_lvalue_in_use, judge_decide, judge_after}
use Rattle.lt_mark_typing.specs.Renumbered.{typed_with}
use Rattle.lt_mark_typing.specs.Beside.{AddsLabels, no_labels, kept, added, IsBeside}
use Rattle.lt_mark_typing.proofs.Numbers.{agrees_so_far}
use Rattle.lt_mark_typing.proofs.Going.{same_of}
use Rattle.lt_mark_typing.proofs.Operators.{unless_more}
use Rattle.lt_mark_typing.proofs.GoodIds.{id_small, third_more, fourth_more, fourth_and_fifth_more}
use Rattle.lt_mark_typing.proofs.Renumbering.{own_type_with}
use Rattle.lt_mark_typing.proofs.OneOperand.{typed_binding_with}

-- ---- ids and names

old_id_by : (new : ℕ → Bool) (n id : ℕ) (b : Bool) → (n == id) ≡ b → new n ≡ true → new id ≡ false → b ≡ false
old_id_by new n id false e h g = refl
old_id_by new n id true e h g = absurd (false≢true (sym g ∙ ap new (sym (eqb-true n id e)) ∙ h))

module _ {new : ℕ → Bool} {used : List ℕ} where
  old_among : {xs ys : List Label} (id : ℕ) → new id ≡ false → AddsLabels new used xs ys → list_any (λ label. label.id == id) ys ≡ list_any (λ label. label.id == id) xs
  old_among id h no_labels = refl
  old_among id h (kept {label} is_old d) = ap (λ b. (label.id == id) || b) (old_among id h d)
  old_among id h (added {label} {xs} {ys} is_new is_in free d) =
      ap (λ b. b || list_any (λ label. label.id == id) ys) (old_id_by new label.id id (label.id == id) refl is_new h) ∙ old_among id h d

  names_among : {xs ys : List Label} (name : List ℕ) → AddsLabels new used xs ys → list_any (λ label. is_among name label.bound) ys ≡ list_any (λ label. is_among name label.bound) xs
  names_among name no_labels = refl
  names_among name (kept {label} is_old d) = ap (λ b. is_among name label.bound || b) (names_among name d)
  names_among name (added {label} {xs} {ys} is_new is_in free d) = ap (λ bound. is_among name bound || list_any (λ label. is_among name label.bound) ys) free ∙ names_among name d

  pub labelled : {xs ys : List Label} (label : Label) → new label.id ≡ false → AddsLabels new used xs ys → AddsLabels new used (xs ++ label ∷ []) (ys ++ label ∷ [])
  labelled label h no_labels = kept h no_labels
  labelled label h (kept is_old d) = kept is_old (labelled label h d)
  labelled label h (added is_new is_in free d) = added is_new is_in free (labelled label h d)

  module _ {further : List Bool} {k j : Known} (b : IsBeside new used further k j) where
    old_id : (id : ℕ) → new id ≡ false → is_new_id j id ≡ is_new_id k id
    old_id id h = ap not (old_among id h b.labels)

    good_id_by : (text : List ℕ) (found : Option ℕ) → id_of text ≡ found → new (number_of_id text) ≡ false
        → holds (λ n. nat_le n k.greatest_id && is_new_id k n) found ≡ true → holds (λ n. nat_le n j.greatest_id && is_new_id j n) found ≡ true
    good_id_by text None e h g = g
    good_id_by text (Some n) e h g =
        and_from (nat_le n j.greatest_id) (is_new_id j n) (ap (λ (it : Known). nat_le n it.greatest_id) (b.same _ (agrees_so_far further)) ∙ id_small text n e)
        (old_id n (ap new (sym (number e)) ∙ h) ∙ (and_parts (nat_le n k.greatest_id) (is_new_id k n) g).1)
      where
        number : id_of text ≡ Some n → number_of_id text ≡ n
        number e = ap (λ it. unwrap_or it 0) e

    -- an id that is good in the first text is so in the second, where it may be greater
    good_id : (text : List ℕ) → new (number_of_id text) ≡ false → is_good_id k text ≡ true → is_good_id j text ≡ true
    good_id text h g = good_id_by text (id_of text) refl h g

    names_same : (names : List (List ℕ)) → are_new_names j names ≡ are_new_names k names
    names_same [] = refl
    names_same (name ∷ names) = ap (λ it. not it && not (is_among name names) && are_new_names j names) (names_among name b.labels) ∙ ap (λ it. is_new_name k name && not (is_among name names) && it) (names_same names)

    pub unmarked_same : j.is_unmarked ≡ k.is_unmarked
    unmarked_same = same_of (λ (it : Known). it.is_unmarked) b (λ r n os fs ls facts h. refl)

    pub good_mark : (written : c.Expression) (x : Typed) (id tag : List ℕ) (bound : List TypedBinding) → new (number_of_id id) ≡ false
        → is_good_mark k written x id tag bound ≡ true → is_good_mark j written x id tag bound ≡ true
    good_mark written x id tag bound h g =
        rw (unmarked_same) (rw (names_same (names_of bound))
        (fourth_more (not k.is_unmarked) (is_scalar (own_type x)) (is_pure written) (is_good_id k id) (is_good_id j id) (is_tag tag) (list_all is_good_binding bound) (are_new_names k (names_of bound)) (good_id id h) g))

    -- a `pc_decide` and a `pc_after` that break no rule in the first text break none in the second, and are typed alike
    pub decide_too : (role : Use) (x : Typed) (when_true when_false tag : List ℕ) → new (number_of_id when_true) ≡ false → new (number_of_id when_false) ≡ false
        → (judge_decide role x when_true when_false tag k).faults ≡ [] → (judge_decide role x when_true when_false tag j).faults ≡ []
    unfolding judge_decide
    decide_too role x when_true when_false tag h g = unless_more bad_mark (is_good_decision role k x when_true when_false tag) (is_good_decision role j x when_true when_false tag)
        (λ good. rw (unmarked_same)
        (fourth_and_fifth_more (is_truth role) (not k.is_unmarked) (is_scalar (own_type x)) (is_good_id k when_true) (is_good_id k when_false) (is_good_id j when_true) (is_good_id j when_false)
        (not (number_of_id when_true == number_of_id when_false)) (is_tag tag) (good_id when_true h) (good_id when_false g) good))

    pub decide_typed : (role : Use) (x : Typed) (when_true when_false tag : List ℕ) → (judge_decide role x when_true when_false tag j).typed ≡ (judge_decide role x when_true when_false tag k).typed
    unfolding judge_decide
    decide_typed role x when_true when_false tag = refl

    pub after_too : (role : Use) (x : Typed) (id tag : List ℕ) → new (number_of_id id) ≡ false → (judge_after role x id tag k).faults ≡ [] → (judge_after role x id tag j).faults ≡ []
    unfolding judge_after
    after_too role x id tag h = unless_more bad_mark (not (is_lvalue_in_use role x) && not k.is_unmarked && is_good_id k id && is_tag tag) (not (is_lvalue_in_use role x) && not j.is_unmarked && is_good_id j id && is_tag tag)
        (λ good. rw (unmarked_same) (third_more (not (is_lvalue_in_use role x)) (not k.is_unmarked) (is_good_id k id) (is_good_id j id) (is_tag tag) (good_id id h) good))

    pub after_typed : (role : Use) (x : Typed) (id tag : List ℕ) → (judge_after role x id tag j).typed ≡ (judge_after role x id tag k).typed
    unfolding judge_after
    after_typed role x id tag = refl

-- ---- where objects have other numbers

pub names_with : (r : ℕ → ℕ) (bound : List TypedBinding) → names_of (map (typed_binding_with r) bound) ≡ names_of bound
names_with r [] = refl
names_with r (b ∷ bs) = ap (λ names. b.name ∷ names) (names_with r bs)

good_bindings_with : (r : ℕ → ℕ) (bound : List TypedBinding) → list_all is_good_binding (map (typed_binding_with r) bound) ≡ list_all is_good_binding bound
good_bindings_with r [] = refl
good_bindings_with r (b ∷ bs) = ap (λ t. is_integer t && is_pure b.written && list_all is_good_binding (map (typed_binding_with r) bs)) (own_type_with r b.typed)
    ∙ ap (λ rest. is_good_binding b && rest) (good_bindings_with r bs)

pub good_mark_with : (r : ℕ → ℕ) (known : Known) (written : c.Expression) (x : Typed) (id tag : List ℕ) (bound : List TypedBinding)
    → is_good_mark known written (typed_with r x) id tag (map (typed_binding_with r) bound) ≡ is_good_mark known written x id tag bound
good_mark_with r known written x id tag bound = rw (own_type_with r x, good_bindings_with r bound, names_with r bound) refl
