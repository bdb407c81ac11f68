-- The numbers of the parts that have the values of operands, found one after the other.
use Rattle.std.proofs.Common.{◌≡◌, sym, ap, ◌∙◌, ℕ, ◌+◌, length, Some}
use Rattle.std.specs.List.{slice_get}
use Rattle.lt_model.specs.declared.operator.Op.{Op}
use Rattle.lt_tree.specs.Tree as c
use Rattle.lt_tree.specs.Nodes.{an_expression, in_expression, nodes}
use Rattle.lt_objectives.specs.Places.{value_part}
use Rattle.lt_mut.specs.Operands.{left_number, right_number}
use Rattle.lt_mut.proofs.Parts.{operands_at}

pub operands_numbered : (unit : c.Unit) (k behind first second : ℕ) (x : c.Expression) (op : Op) (left right : c.Expression) → x ≡ c.Binary op left right → slice_get (nodes unit) k ≡ Some (an_expression x)
    → ((e : c.Expression) → slice_get (nodes unit) (k + 1) ≡ Some (an_expression e) → behind ≡ k + 1 + length (in_expression e))
    → ((e : c.Expression) → slice_get (nodes unit) (k + 1) ≡ Some (an_expression e) → first ≡ (value_part (k + 1) e).number)
    → ((e : c.Expression) → slice_get (nodes unit) behind ≡ Some (an_expression e) → second ≡ (value_part behind e).number)
    → (first ≡ left_number k x) × (second ≡ right_number k x)
operands_numbered unit k behind first second x op left right is at behind_is first_is second_is =
    let there = operands_at unit k op left right (at ∙ ap (λ e. Some (an_expression e)) is) in
    let place = behind_is left there.left_at in (
      first_is left there.left_at ∙ sym (ap (left_number k) is),
      second_is right (ap (slice_get (nodes unit)) place ∙ there.right_at) ∙ ap (λ n. (value_part n right).number) place ∙ sym (ap (right_number k) is),
    )
