use Rattle.std.proofs.Common.{sym, ap, ◌∙◌}
use Rattle.lt_table.proofs.TableFound.{then_ok}
use Rattle.lt_tree.specs.Typing.TypeRows.{type_in}
use Rattle.lt_tree.specs.Typing.TypedTree.{type_at}
use Rattle.lt_tree.specs.Typing.ValueView.{place_of}
use Rattle.lt_env.proofs.Judgements.{stays_on, stays_in}
use Rattle.lt_env.proofs.Conversions.{array_value}
use Rattle.lt_env.proofs.values.value_at.Goals as goal

pub returns-in_ok-pointer-in-Some-Some-clause-made : goal.returns-in_ok-pointer-in-Some-Some-clause-made
returns-in_ok-pointer-in-Some-Some-clause-made c =
    let h = rw c.in-Some-Some.field-0-is at c.in-Some-Some.ensures in
    then_ok c.decay.result
    (λ v made longer more.
    let array = stays_on c.in_ok-pointer-in-Some-Some.ensures.widens (stays_in c.table.ensures h.array.2) longer more in
    made longer ∙ array_value (type_at (place_of longer c.args.place.value)) (type_in longer c.in-Some-Some.element) (type_in longer c.in_ok-pointer-in-Some-Some.pointer) c.in-Some-Some.field-0-0-1 (place_of longer c.args.place.value)
    (ap (λ p. type_at (place_of longer p)) (sym c.deref.ensures) ∙ sym (c.ty-t.ensures longer) ∙ array) (c.in_ok-pointer-in-Some-Some.ensures.made longer more))
    c.decay.ensures
