use Rattle.std.proofs.Common.{◌∙◌, sym, Some, None}
use Rattle.lt_input_values.proofs.Sets.{number_at_is}
use Rattle.lt_input_values.proofs.needs.number_at.Goals as goal

pub returns-in-Some : goal.returns-in-Some
returns-in-Some c =
    let it = c.args.finder.now in
    c.number_set.ensures ∙ sym (number_at_is it.spec.now it.input.now c.args.place.now c.in_ok-cell.cell.now (Some c.in-Some.it.now) (sym c.in_ok-cell.ensures) c.in-Some.ensures)

pub returns-in-None : goal.returns-in-None
returns-in-None c =
    let it = c.args.finder.now in
    c.number_started.ensures ∙ sym (number_at_is it.spec.now it.input.now c.args.place.now c.in_ok-cell.cell.now None (sym c.in_ok-cell.ensures) c.in-None.ensures)
