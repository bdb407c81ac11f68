-- What is known of an expression without its marks where it stands.
use Rattle.std.proofs.Common.{◌≡◌, ℕ, Bool, List, refl, ap, subst, true}
use Rattle.std.proofs.lemmas.Bool.{false≢true}
use Rattle.lt_tree.specs.Tree as c
use Rattle.lt_tree.specs.Erasure.{erased}
use Rattle.lt_tree.specs.Typing.Entities.{Known, Object, Label, Fact}
use Rattle.lt_tree.specs.Typing.Steps.{Outcome, Goes, Breaks}
use Rattle.lt_tree.specs.Typing.Expressions.{Typed, as_value, own_type, finish}
use Rattle.lt_tree.specs.Typing.Operations.{judge_name}
use Rattle.lt_tree.specs.Typing.ExpressionTyping.{expression}
use Rattle.lt_erased_typing.specs.Erasable.{CanBeErasedWith, Behind, at, with_found, entered}
use Rattle.lt_erased_typing.specs.Laws.{LiteralsAreTypedWithoutMarks, OperandsWithLiteralsKeepTheirTypes, TruthsAreTypedAsValues}
use Rattle.lt_erased_typing.specs.Literals.{HasMoreTexts, none_more}
use Rattle.lt_erased_typing.proofs.Scopes.{Own, itself, AreScopesAlike, scopes_itself}
use Rattle.lt_erased_typing.proofs.Going.{IsBeside, beside, Follows, goes, second_is, second_more}
use Rattle.lt_erased_typing.proofs.Operands.{BareValue, value_type_same}
use Rattle.lt_erased_typing.proofs.Expressions.{of_expression}

-- where the second text has other labels
abbrev labelled : Known → List Label → Own
labelled known labels = record (itself known) { labels = labels }

-- what is found without marks: string literals, parameters and facts
found_with : {known next : Known} {labels : List Label} {x : Typed} (o : Outcome Typed) → Follows true known (labelled known labels) BareValue (Goes x next) o
    → (y : Typed) × (n : ℕ) × (objects : List Object) × (facts : List Fact) × HasMoreTexts true known.objects objects × (o ≡ Goes y (with_found known n objects labels facts)) × (own_type y ≡ own_type x)
found_with (Goes y j) (goes r s) = (y, j.next, j.objects, j.facts, second_more s, ap (Goes y) (second_is s), value_type_same r)
found_with (Breaks rule node) d = elim d [ ]

-- where the first is known to go on
follows_at : {texts : Bool} {known k j next : Known} {own : Own} {x : Typed} (e : c.Expression) → AreScopesAlike texts known own
    → IsBeside texts known own k j → CanBeErasedWith texts as_value k e → expression e as_value k ≡ Goes x next
    → Follows texts known own BareValue (Goes x next) (expression (erased e) as_value j)
follows_at {texts} {known} {j = j} {own = own} e alike b h q = subst (λ o. Follows texts known own BareValue o (expression (erased e) as_value j)) q (of_expression alike e as_value refl b h)

pub with_literals : LiteralsAreTypedWithoutMarks
with_literals known next e x w h q n labels facts =
    found_with (expression (erased e) as_value (at known n labels facts))
    (follows_at {texts = true} {known = known} {k = known} {own = labelled known labels} e (scopes_itself known (λ is. w)) (beside none_more none_more) h q)

both_at : {texts : Bool} {known k j : Known} {own : Own} {x z : Typed} → Follows texts known own BareValue (Goes x k) (Goes z j)
    → BareValue x z × IsBeside texts known own k j
both_at (goes r s) = (r, s)

behind_at : (P : Typed → Known → Type 0) {x : Typed} {k : Known} (o : Outcome Typed) → o ≡ Goes x k → Behind o P → P x k
behind_at P o e h = subst (λ it. Behind it P) e h

pub literal_operands_keep : OperandsWithLiteralsKeepTheirTypes
literal_operands_keep known next last op left right x y w h p q z v k j s t =
    let alike = scopes_itself {texts = true} known (λ is. w) in
    let one = both_at (subst (λ o. Follows true known (itself known) BareValue (Goes x next) o) s
    (follows_at {known = known} {k = entered known} {j = entered known} {own = itself known} left alike (beside none_more none_more) h.0 p)) in
    let two = both_at (subst (λ o. Follows true known (itself known) BareValue (Goes y last) o) t
    (follows_at right alike one.1 (behind_at (λ x l. CanBeErasedWith true as_value l right) (expression left as_value (entered known)) p h.1) q)) in
    (value_type_same one.0, value_type_same two.0)

pub truths_as_values : TruthsAreTypedAsValues
unfolding judge_name finish
truths_as_values known (c.Marked ms value) h = absurd (false≢true h)
truths_as_values known (c.Decide operand when_true when_false tag) h = absurd (false≢true h)
truths_as_values known (c.After operand id tag) h = absurd (false≢true h)
truths_as_values known (c.Name w) h = refl
truths_as_values known (c.Constant w) h = refl
truths_as_values known (c.Text bytes) h = refl
truths_as_values known (c.Index whole index) h = refl
truths_as_values known (c.Call callee arguments) h = refl
truths_as_values known (c.Member whole w) h = refl
truths_as_values known (c.Arrow pointer w) h = refl
truths_as_values known (c.PostInc target) h = refl
truths_as_values known (c.PostDec target) h = refl
truths_as_values known (c.PreInc target) h = refl
truths_as_values known (c.PreDec target) h = refl
truths_as_values known (c.Unary op operand) h = refl
truths_as_values known (c.SizeofExpr operand) h = refl
truths_as_values known (c.SizeofType s d) h = refl
truths_as_values known (c.Cast s d operand) h = refl
truths_as_values known (c.Binary op left right) h = refl
truths_as_values known (c.Logical op left right) h = refl
truths_as_values known (c.Conditional test left right) h = refl
truths_as_values known (c.Assign op target value) h = refl
truths_as_values known (c.Comma list) h = refl
