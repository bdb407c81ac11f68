-- A mark that breaks no rule has an id that no label before it has.
use Rattle.std.proofs.Common.{◌≡◌, refl, ℕ, List, [], ◌∷◌, Bool, true, false, Option, Some, None}
use Rattle.std.specs.Prelude.{if◌then◌else◌, not, ◌&&◌, ◌||◌, ◌==◌, nat_le, unwrap_or}
use Rattle.std.specs.List.{list_any, list_all}
use Rattle.lt_tree.specs.Tree as c
use Rattle.lt_tree.specs.Purity.{is_pure}
use Rattle.lt_tree.specs.Typing.Types.{is_scalar}
use Rattle.lt_tree.specs.Typing.Rules.{unless, bad_mark}
use Rattle.lt_tree.specs.Typing.Operands.{holds}
use Rattle.lt_tree.specs.Typing.Entities.{Known, Label}
use Rattle.lt_tree.specs.Typing.Expressions.{Typed, Use, own_type}
use Rattle.lt_tree.specs.Typing.MarkRules.{TypedBinding, is_new_id, id_of, number_of_id, is_good_id, is_tag, is_good_binding, are_new_names, names_of, is_good_mark, is_truth, is_good_decision, judge_decide, is_lvalue_in_use, judge_after}
use Rattle.lt_tree.specs.Typing.Ranges.{bound_by}
use Rattle.lt_ranges.proofs.OperationsInRange.{unless_empty}

-- ---- ids

not_first : (is_it others : Bool) (own : List (List ℕ)) (found : Option (List (List ℕ))) → (not others ≡ true → found ≡ None) → not (is_it || others) ≡ true
    → (if is_it then Some own else found) ≡ None
not_first true others own found f h = absurd cc
not_first false others own found f h = f h

not_bound : (id : ℕ) (labels : List Label) → not (list_any (λ label. label.id == id) labels) ≡ true → bound_by id labels ≡ None
not_bound id [] h = refl
not_bound id (it ∷ labels) h = not_first (it.id == id) (list_any (λ label. label.id == id) labels) it.bound (bound_by id labels) (not_bound id labels) h

second : (a b : Bool) → (a && b) ≡ true → b ≡ true
second false b h = absurd cc
second true b h = h

number_is_new : (known : Known) (found : Option ℕ) → holds (λ n. nat_le n known.greatest_id && is_new_id known n) found ≡ true → bound_by (unwrap_or found 0) known.labels ≡ None
number_is_new known None h = absurd cc
number_is_new known (Some n) h = not_bound n known.labels (second (nat_le n known.greatest_id) (is_new_id known n) h)

id_is_new : (known : Known) (text : List ℕ) → is_good_id known text ≡ true → bound_by (number_of_id text) known.labels ≡ None
id_is_new known text h = number_is_new known (id_of text) h

-- ---- marks

fourth : (a b c d e f g : Bool) → (a && b && c && d && e && f && g) ≡ true → d ≡ true
fourth false b c d e f g h = absurd cc
fourth true false c d e f g h = absurd cc
fourth true true false d e f g h = absurd cc
fourth true true true false e f g h = absurd cc
fourth true true true true e f g h = refl

pub mark_is_new : (known : Known) (written : c.Expression) (x : Typed) (id tag : List ℕ) (bs : List TypedBinding) → unless (is_good_mark known written x id tag bs) bad_mark ≡ []
    → bound_by (number_of_id id) known.labels ≡ None
mark_is_new known written x id tag bs h =
    id_is_new known id (fourth (not known.is_unmarked) (is_scalar (own_type x)) (is_pure written) (is_good_id known id) (is_tag tag) (list_all is_good_binding bs)
    (are_new_names known (names_of bs)) (unless_empty (is_good_mark known written x id tag bs) bad_mark h))

-- ---- `pc_decide` and `pc_after`

last_four : (a b c d e f g : Bool) → (a && b && c && d && e && not f && g) ≡ true → (d ≡ true) × (e ≡ true) × (f ≡ false)
last_four false b c d e f g h = absurd cc
last_four true false c d e f g h = absurd cc
last_four true true false d e f g h = absurd cc
last_four true true true false e f g h = absurd cc
last_four true true true true false f g h = absurd cc
last_four true true true true true true g h = absurd cc
last_four true true true true true false g h = (refl, refl, refl)

pub decision_is_new : (role : Use) (x : Typed) (when_true when_false tag : List ℕ) (known : Known) → (judge_decide role x when_true when_false tag known).faults ≡ []
    → (bound_by (number_of_id when_true) known.labels ≡ None) × (bound_by (number_of_id when_false) known.labels ≡ None) × ((number_of_id when_true == number_of_id when_false) ≡ false)
unfolding judge_decide
decision_is_new role x when_true when_false tag known h =
    let all = last_four (is_truth role) (not known.is_unmarked) (is_scalar (own_type x)) (is_good_id known when_true) (is_good_id known when_false)
    (number_of_id when_true == number_of_id when_false) (is_tag tag) (unless_empty (is_good_decision role known x when_true when_false tag) bad_mark h) in
    (id_is_new known when_true all.0, id_is_new known when_false all.1, all.2)

third : (a b c d : Bool) → (a && b && c && d) ≡ true → c ≡ true
third false b c d h = absurd cc
third true false c d h = absurd cc
third true true false d h = absurd cc
third true true true d h = refl

pub after_is_new : (role : Use) (x : Typed) (id tag : List ℕ) (known : Known) → (judge_after role x id tag known).faults ≡ [] → bound_by (number_of_id id) known.labels ≡ None
unfolding judge_after
after_is_new role x id tag known h =
    id_is_new known id (third (not (is_lvalue_in_use role x)) (not known.is_unmarked) (is_good_id known id) (is_tag tag)
    (unless_empty (not (is_lvalue_in_use role x) && not known.is_unmarked && is_good_id known id && is_tag tag) bad_mark h))
