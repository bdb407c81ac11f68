use Rattle.std.proofs.Common.{map, Err, ap, ◌∙◌}
use Rattle.std.specs.List.{filter_map}
use Rattle.lt_tree.specs.UnitView.{external_of}
use Rattle.lt_tree.specs.Typing.Entities.{at_start}
use Rattle.lt_tree.specs.Typing.UnitTyping.{defined_in}
use Rattle.lt_type.proofs.Sequences.{stopped}
use Rattle.lt_unit.proofs.Elaborations.{elaborated, broken_off, knows_in_range}
use Rattle.lt_unit.proofs.external.elaborate.Goals as goal

pub returns-in_err-walker : goal.returns-in_err-walker
returns-in_err-walker c = rw (stopped c.from_residual-in_err-walker.ensures ∙ ap Err c.in_err-walker.ensures.stops) tt

pub returns-in_err-externals : goal.returns-in_err-externals
returns-in_err-externals c =
    broken_off c.args.model c.args.unit.now c.in_ok-walker.walker c.externals.new.walker _ _
    (λ types. c.in_ok-walker.ensures.known types ∙ ap (at_start c.args.model) (c.in_ok-defined.ensures ∙ ap (λ l. filter_map defined_in (map external_of l)) c.as_slice.ensures.value))
    (rw c.as_slice-2.ensures.value at c.in_err-externals.ensures) (stopped c.from_residual-in_err-externals.ensures)

pub program-requires : goal.program-requires
program-requires c =
    knows_in_range c.args.model c.args.unit.now c.in_ok-walker.walker c.externals.new.walker _
    (λ types. c.in_ok-walker.ensures.known types ∙ ap (at_start c.args.model) (c.in_ok-defined.ensures ∙ ap (λ l. filter_map defined_in (map external_of l)) c.as_slice.ensures.value))
    (rw c.as_slice-2.ensures.value at c.in_ok-externals.ensures)

pub returns : goal.returns
returns c =
    elaborated c.args.model c.args.unit.now c.in_ok-walker.walker c.externals.new.walker _ _
    (λ types. c.in_ok-walker.ensures.known types ∙ ap (at_start c.args.model) (c.in_ok-defined.ensures ∙ ap (λ l. filter_map defined_in (map external_of l)) c.as_slice.ensures.value))
    (rw c.as_slice-2.ensures.value at c.in_ok-externals.ensures) c.program.ensures
