-- The labels of objectives at one place have ids that are new, one after the other.
use Rattle.std.proofs.Common.{◌≡◌, ◌≤◌, ◌<◌, ◌^◌, ℕ, suc, ◌+◌, ◌-◌, ◌*◌, List, [], ◌∷◌, length, get_or, Some, None, Bool, true, false, refl, sym, ap, ◌∙◌, subst, inl, inr, arith}
use Rattle.std.proofs.lemmas.Bool.{eqb-true, eq-eqb, le-leb, lt-ltb}
use Rattle.std.proofs.lemmas.Str.{digit_value_digit}
use Rattle.std.proofs.lemmas.Str.Parse.{IsNumeralModel, numerals_by_value, tells_digits, digit_from_value}
use Rattle.std.proofs.lemmas.Fmt.{decimal_nonempty, first_decimal, digits_decimal, digits_value-decimal}
use Rattle.std.specs.Prelude.{◌⊎◌, pos, ◌==◌, ◌&&◌, ◌||◌, nat_le, if◌then◌else◌, is_some, unwrap_or}
use Rattle.std.specs.Char.{digit_value}
use Rattle.std.specs.Fmt.{decimal}
use Rattle.std.specs.Str.Parse.{AllDigits, digits_value, digits_value_after}
use Rattle.lt_tree.specs.Tree as c
use Rattle.lt_tree.specs.Constants.{digit, number_from, number_behind_zero, integer_value, with_suffix, value_of}
use Rattle.lt_tree.specs.Typing.MarkRules.{id_from, id_of, number_of_id, is_tag}
use Rattle.lt_tree.specs.Typing.Entities.{Known, greatest_label_id}
use Rattle.lt_objectives.specs.declared.criteria.Criterion.{Criterion}
use Rattle.lt_objectives.specs.declared.criteria.Criterion.TheVariants as C
use Rattle.lt_objectives.specs.Criteria.{tag_of}
use Rattle.lt_objectives.specs.Objectives.{Form, at_start, in_front, around, objective, all_at}
use Rattle.lt_objectives.specs.Marked.{NewMark, ids_of, numbered, label, labels, same_form}
use Rattle.lt_mark_typing.specs.Beside.{is_used}
use Rattle.lt_mark_typing.specs.Placed.{AreNewLabels}
use Rattle.lt_objective_typing.proofs.Both.{both_true}
use Rattle.lt_objective_typing.specs.Laws.{ArePredicates, AreToldThere, AddsIds, LabelsOfObjectivesAreNew}

own : IsNumeralModel (AllDigits 10) (digits_value 10)
own = numerals_by_value (AllDigits 10) tells_digits

-- ---- ids as they are written

digit_same : (b : ℕ) → digit_value b < 10 → digit b ≡ digit_value b
digit_same b h =
    let range = digit_from_value b h in
    let value = digit_value_digit b range in
    let less : b - 48 ≡ digit_value b = omega (arith, value) in
    ap (λ (t : Bool). unwrap_or (if t then Some (b - 48) else (if nat_le 97 b && nat_le b 102 then Some (b - 87) else (if nat_le 65 b && nat_le b 70 then Some (b - 55) else None))) 16)
    (both_true (nat_le 48 b) (nat_le b 57) (le-leb 48 b range.0) (le-leb b 57 range.1)) ∙ less

number_is : (bytes : List ℕ) (v : ℕ) → AllDigits 10 bytes → number_from 10 v bytes ≡ (digits_value_after 10 v bytes, [])
number_is [] v h = refl
number_is (b ∷ bytes) v h =
    let same = digit_same b h.0 in
    let next : 10 * v + digit b ≡ v * 10 + digit_value b = omega (arith, same) in
    ap (λ (t : Bool). if t then number_from 10 (10 * v + digit b) bytes else (v, b ∷ bytes)) (lt-ltb (digit b) 10 (omega (arith, same, h.0)))
    ∙ ap (λ n. number_from 10 n bytes) next ∙ number_is bytes (v * 10 + digit_value b) h.1

differs : (b k : ℕ) → k < b → (b == k) ≡ false
differs b k h = by (b == k) refl
  where
    by : (t : Bool) → (b == k) ≡ t → t ≡ false
    by false e = refl
    by true e = let same : b ≡ k = eqb-true b k e in absurd (omega arith)

text_value : (text : List ℕ) → 0 < length text → 48 < get_or text 0 0 → AllDigits 10 text → value_of text ≡ Some (pos (digits_value 10 text))
text_value [] some first h = absurd (omega arith)
text_value (b ∷ bytes) some first h =
    let quote : (b == 39) ≡ false = differs b 39 (omega arith) in
    let zero : (b == 48) ≡ false = differs b 48 (omega arith) in
    value_without b bytes quote ∙ ap (λ (t : Bool). with_suffix (if t then number_behind_zero bytes else number_from 10 0 (b ∷ bytes))) zero ∙ ap with_suffix (number_is (b ∷ bytes) 0 h)
  where
    value_without : (b : ℕ) (bytes : List ℕ) → (b == 39) ≡ false → value_of (b ∷ bytes) ≡ integer_value (b ∷ bytes)
    value_without b bytes quote = rw quote refl

id_is : (n : ℕ) → 1 ≤ n → n ≤ greatest_label_id → id_of (decimal n) ≡ Some n
id_is n least most =
    let small : n < 2 ^ 64 = omega arith in
    ap id_from (text_value (decimal n) (decimal_nonempty n small) (first_decimal n least small) (digits_decimal own n small) ∙ ap (λ k. Some (pos k)) (digits_value-decimal own n small))
    ∙ ap (λ (t : Bool). if t then Some n else None) (both_true (nat_le 1 n) (nat_le n greatest_label_id) (le-leb 1 n least) (le-leb n greatest_label_id most))

number_is_id : (n : ℕ) → 1 ≤ n → n ≤ greatest_label_id → number_of_id (decimal n) ≡ n
number_is_id n least most = ap (λ found. unwrap_or found 0) (id_is n least most)

pub tag_is : (criterion : Criterion) → is_tag (tag_of criterion) ≡ true
tag_is C.Function = refl
tag_is C.InputDomain = refl
tag_is C.Decision = refl
tag_is C.Condition = refl
tag_is C.MultipleCondition = refl
tag_is C.GeneralActiveClause = refl
tag_is C.CorrelatedActiveClause = refl
tag_is C.RestrictedActiveClause = refl
tag_is C.AllUses = refl
tag_is C.AbsoluteValue = refl
tag_is C.ArithmeticOperator = refl
tag_is C.LogicalConnector = refl
tag_is C.RelationalOperator = refl

form_itself : (form : Form) → same_form form form ≡ true
form_itself at_start = refl
form_itself in_front = refl
form_itself around = refl

-- ---- labels at one place

used_not : (n id : ℕ) (used : List ℕ) → id < n → is_used n used ≡ false → is_used n (id ∷ used) ≡ false
used_not n id used less h = by (id == n) refl
  where
    by : (t : Bool) → (id == n) ≡ t → t || is_used n used ≡ false
    by false e = h
    by true e = let same : id ≡ n = eqb-true id n e in absurd (omega arith)

used_one : (n id : ℕ) (used : List ℕ) → is_used n (id ∷ used) ≡ true → (is_used n used ≡ true) ⊎ (id ≡ n)
used_one n id used h = by (id == n) refl h
  where
    by : (t : Bool) → (id == n) ≡ t → t || is_used n used ≡ true → (is_used n used ≡ true) ⊎ (id ≡ n)
    by true e g = inr (eqb-true id n e)
    by false e g = inl g

module _ (new : ℕ → Bool) (known : Known) (form : Form) (criterion : Criterion) (place : ℕ) (one : ids_of form ≡ 1) where
  labels_are : (p : c.Expression) (ps : List c.Expression) (id : ℕ)
      → labels form (numbered id (all_at place form criterion (p ∷ ps))) place ≡ c.a_mark (c.mark p (decimal id) (tag_of criterion) c.no_bindings) (labels form (numbered (id + 1) (all_at place form criterion ps)) place)
  labels_are p ps id =
      let it : NewMark = record { objective = objective place form criterion p; id = id } in
      ap (λ (t : Bool). if t then c.a_mark (label it) (labels form (numbered (id + ids_of form) (all_at place form criterion ps)) place) else labels form (numbered (id + ids_of form) (all_at place form criterion ps)) place)
      (both_true (same_form form form) (place == place) (form_itself form) (eq-eqb place place refl))
      ∙ ap (λ n. c.a_mark (label it) (labels form (numbered (id + n) (all_at place form criterion ps)) place)) one

  are_new : (predicates : List c.Expression) (id : ℕ) (used : List ℕ) → ((used : List ℕ) → ArePredicates new used known predicates) → ((used : List ℕ) → AreToldThere new used known criterion predicates) → 1 ≤ id → id + length predicates ≤ suc greatest_label_id
      → ((n : ℕ) → id ≤ n → n < id + length predicates → (new n ≡ true) × (is_used n used ≡ false))
      → (after : List ℕ) × AreNewLabels new used after known (labels form (numbered id (all_at place form criterion predicates)) place) × AddsIds used after id (length predicates)
  are_new [] id used h told least most f = (used, refl, λ n g. inl g)
  are_new (p ∷ ps) id used h told least most f =
      let here = f id (omega arith) (omega arith) in
      let within : id ≤ greatest_label_id = omega arith in
      let number : number_of_id (decimal id) ≡ id = number_is_id id least within in
      let rest = are_new ps (id + 1) (id ∷ used) (λ used. (h used).1) (λ used. (told used).1) (omega arith) (omega arith)
      (λ n low high. let there = f n (omega arith) (omega arith) in (there.0, used_not n id used (omega arith) there.1)) in (
        rest.0,
        subst (AreNewLabels new used rest.0 known) (sym (labels_are p ps id)) (
          (ap is_some (id_is id least within), ap new number ∙ here.0, ap (λ n. is_used n used) number ∙ here.1),
          tag_is criterion,
          (h used).0,
          (told used).0,
          subst (λ n. AreNewLabels new (n ∷ used) rest.0 known (labels form (numbered (id + 1) (all_at place form criterion ps)) place)) (sym number) rest.1,
        ),
        λ n g. elim (rest.2 n g) [
          | inl before ↦ elim (used_one n id used before) [ inl old ↦ inl old | inr same ↦ inr (omega (arith, same), omega (arith, same)) ]
          | inr among ↦ inr (omega (arith, among.0), omega (arith, among.1))
        ],
      )

pub of_labels : LabelsOfObjectivesAreNew
of_labels new used known form criterion place id predicates one h told least most f = are_new new known form criterion place one predicates id used h told least most f
