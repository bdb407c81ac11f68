use Rattle.std.proofs.Common.{◌∙◌, ap}
use Rattle.std.proofs.lemmas.Result.{IfOk-weaker}
use Rattle.lt_facts.specs.Outside.{places_from, side_by_side}
use Rattle.lt_facts.proofs.OwnNumbers.{own_numbers_are}
use Rattle.lt_facts.proofs.numbers.own_numbers.Goals as goal

pub returns : goal.returns
returns c = λ unit program of_unit of_program.
    let flags = c.in_ok-outside.outside.items in
    let own_flags = c.in_ok-own_outside.own_outside.items in
    let numbers = c.in_ok-numbers.numbers.items in
    IfOk-weaker c.side_by_side.result _ _
    (λ v is.
    own_numbers_are unit program c.args.sites.now c.args.own.now flags own_flags numbers v.items of_unit of_program c.in_ok-outside.ensures c.in_ok-own_outside.ensures
    (c.in_ok-numbers.ensures ∙ ap (places_from 0) c.deref.ensures.value)
    (is ∙ ap (λ bs. side_by_side bs c.deref-3.result.now) c.deref-2.ensures.value ∙ ap (side_by_side flags) c.deref-3.ensures.value))
    c.side_by_side.ensures
