use Rattle.std.proofs.Common.{List, sym, subst, ◌∙◌}
use Rattle.lt_tree.specs.declared.typed.statement.Item.{Item}
use Rattle.lt_model.specs.declared.cell.Content.{Content}
use Rattle.lt_ir.specs.declared.node.Given.TheVariants as given
use Rattle.lt_ir.specs.declared.node.Node.TheVariants as node
use Rattle.lt_code.specs.Bodies.{stands_in}
use Rattle.lt_code.specs.Costs.{◌⊕◌}
use Rattle.lt_emit.specs.Spending.{IsWithin, of_node}
use Rattle.lt_emit.specs.Emission.{Here, here_of}
use Rattle.lt_emit.proofs.Spent.{beside, then_here, fitting}
use Rattle.lt_lower.specs.declared.flow.Exits.{Exits}
use Rattle.lt_lower.specs.Functions.{parameters_cost, body_cost}
use Rattle.lt_tree.specs.Typing.StatementView.{items_in}
use Rattle.lt_lower.specs.Known.{AreKnownItems}
use Rattle.lt_lower.specs.Stands.{items_cost, ItemsStand}
use Rattle.lt_lower.proofs.function.body.Goals as goal

pub returns-clause-code : goal.returns-clause-code
returns-clause-code c =
    let a = c.args.b.now in
    let back = c.in_ok-back.back in
    let value = c.in_ok-value_at_end.field-0 in
    let end = c.in_ok-end.end in
    let leaves = c.in_ok-leaves.leaves in
    let first = c.in_ok-first.first in
    let x : Exits = record { next = leaves; back = back; leaves = leaves; breaks = leaves; continues = leaves } in
    let before = beside (beside (beside c.in_ok-back.ensures.code c.in_ok-end.ensures.code) c.in_ok-leaves.ensures.code) c.in_ok-first.ensures.code in
    let here = here_of a in
    let Costs : List Item → Type 0 = λ row.
    IsWithin ((((parameters_cost here ⊕ of_node (node.Return (given.Fixed value))) ⊕ parameters_cost here) ⊕ items_cost row here) ⊕ parameters_cost here)
    (body_cost here) in
    then_here before c.parameters_sealed.ensures.code (λ from it all seals known.
    let Are : List Item → Type 0 = λ row. ItemsStand row x first (here_of a) it in
    let Gives : Content → Type 0 = λ v. stands_in it.nodes (it.point end) (node.Return (given.Fixed v)) in
    record {
      first = it.point first;
      back = it.point back;
      leaves = it.point leaves;
      end = it.point end;
      seals = seals;
      body = subst Are c.as_slice.ensures.value all.1 known;
      ends_with = all.0.0.0;
      ends_without = all.0.1;
      gives_none = subst Gives c.in_ok-value_at_end.ensures all.0.0.1.0;
    }) (subst Costs (sym c.as_slice.ensures.value) (grind fitting))

pub returns-clause-enters : goal.returns-clause-enters
returns-clause-enters c known sound =
    let back = c.in_ok-back.ensures.code.gives.code.adds.grows in
    let end = c.in_ok-end.ensures.code.gives.code.adds.grows in
    let leaves = c.in_ok-leaves.ensures.code.gives.code.adds.grows in
    let items = c.in_ok-first.ensures.code.gives.code.adds.grows in
    let same = leaves.same ∙ end.same ∙ back.same in
    let Row : List Item → Type 0 = λ row. AreKnownItems (here_of c.args.b.now) (items_in (here_of c.args.b.now).types row) in
    let Are : Here → Type 0 = λ here. AreKnownItems here (items_in here.types c.as_slice.result.now) in
    let at_items = end.sound (back.sound sound) in
    c.parameters_sealed.ensures.enters (items.sound (leaves.sound at_items)) (c.in_ok-first.ensures.enters
    (subst Are (sym same) (subst Row (sym c.as_slice.ensures.value) known)) (leaves.sound at_items)
    (c.in_ok-leaves.ensures.enters at_items (c.in_ok-end.ensures.enters (back.sound sound))))
