use Rattle.std.proofs.Common.{◌≡◌, ◌∙◌, ◌^◌, sym, Some, rules, lit<, ◌*ℤ◌}
use Rattle.std.specs.Prelude.{IfSome}
use mir.Syntax.{w128}
use mir.Val.{SFits}
use Rattle.lt_entry.specs.Meeting.{number_at}
use Rattle.lt_input_values.specs.Bounds.{IsWithin}
use Rattle.lt_input_values.proofs.Bounded.{product_within, within_fits, product_kept}
use Rattle.lt_input_values.proofs.needs.product_of.Goals as goal

pub returns-clause-small : goal.returns-clause-small
returns-clause-small c =
    let is : number_at c.args.finder.now.spec.now c.args.finder.now.input.now c.args.term.now.at ≡ Some c.in_ok-number_at.field-0 = sym c.number_at.ensures ∙ c.in_ok-number_at.was in
    let number : IsWithin (2 ^ 64) c.in_ok-number_at.field-0 = (let given : IfSome (number_at c.args.finder.now.spec.now c.args.finder.now.input.now c.args.term.now.at) (IsWithin (2 ^ 64)) = c.requires.numbers c.args.term.now.at in rw is at given) in
    let small = product_within c.args.term.now.factor c.in_ok-number_at.field-0 c.requires.factor number in
    let f : SFits w128 c.args.term.now.factor = search rules in
    let n : SFits w128 c.in_ok-number_at.field-0 = search rules in
    let p : SFits w128 (c.args.term.now.factor *ℤ c.in_ok-number_at.field-0) = within_fits (2 ^ 95) _ (lit< tt) small in
    product_kept (2 ^ 95) c.args.term.now.factor c.in_ok-number_at.field-0 f n p small
