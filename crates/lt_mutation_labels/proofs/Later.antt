-- What is known later: the data model stays, and an expression that stays an integer is typed as one again and again.
use Rattle.std.proofs.Common.{◌≡◌, ℕ, ◌+◌, List, [], Some, sym, ap, ◌∙◌, subst}
use Rattle.std.proofs.lemmas.List.{append-nil}
use Rattle.lt_tree.specs.Tree as c
use Rattle.lt_tree.specs.Typing.Types.{scalar_of}
use Rattle.lt_tree.specs.Typing.Entities.{Known, Fact}
use Rattle.lt_tree.specs.Typing.Steps.{Goes}
use Rattle.lt_tree.specs.Typing.Expressions.{Typed, Use, Judged, as_value, own_type, finish}
use Rattle.lt_tree.specs.Typing.ExpressionTyping.{expression}
use Rattle.lt_mark_laws.specs.Mutants.{entered}
use Rattle.lt_mutation_labels.specs.Laws.{IsLater, StaysInteger}
use Rattle.lt_mutation_labels.proofs.Steps.{same_value, same_known, ended}

module _ (known : Known) where
  pub later_itself : IsLater known known
  later_itself = ([], tt, ap (λ objects. record known { objects = objects }) (sym (append-nil known.objects)))

  -- with other numbers of nodes and facts
  later_noted : {k : Known} (n : ℕ) (facts : List Fact) → IsLater known k → IsLater known (record k { next = n; facts = facts })
  later_noted n facts h = (h.0, h.1, ap (λ (it : Known). record it { next = n; facts = facts }) h.2)

  pub later_entered : {k : Known} → IsLater known k → IsLater known (entered k)
  later_entered {k = k} h = later_noted (k.next + 1) k.facts h

  pub later_ended : {k end : Known} {z : Typed} (node : ℕ) (role : Use) (it : Judged) → IsLater known k → finish node role it k ≡ Goes z end → IsLater known end
  later_ended {k} node role it h d = subst (IsLater known) (ended node role it k d).1 (later_noted k.next _ h)

  pub later_model : {k : Known} → IsLater known k → k.model ≡ known.model
  later_model h = ap (λ (it : Known). it.model) h.2

  -- what stays an integer is one of the same type wherever it is typed later, and behind it is later too
  pub typed_later : {k j : Known} {it : c.Expression} {x : Typed} (stays : StaysInteger known it) → IsLater known k → expression it as_value k ≡ Goes x j → IsLater known j × (scalar_of (own_type x) ≡ Some stays.scalar)
  typed_later {k} stays later h =
      let found = stays.typed k later in
      let same = sym found.2 ∙ h in
      (subst (IsLater known) (same_known same) found.3, subst (λ (y : Typed). scalar_of (own_type y) ≡ Some stays.scalar) (same_value same) found.4)
