use Rattle.std.proofs.Common.{map, ap, ◌∙◌}
use Rattle.lt_input_names.specs.Parts.{part_at, pieces_at}
use Rattle.lt_input_names.specs.Views.{program_at, type_at}
use Rattle.lt_input_names.proofs.Lists.{item_is}
use Rattle.lt_input_names.proofs.StepLaws.{steps_begin, steps_go, steps_end}
use Rattle.lt_input_names.proofs.names.Names.pieces.Goals as goal

pub loop-step-init : goal.loop-step-init
loop-step-init c =
    let names = c.args.self.now in
    let first = c.in_ok-pieces.pieces in
    steps_begin (program_at names) c.args.steps.now (part_at (type_at names c.args.ty) 0) (pieces_at names first)
    (ap (λ t. map (part_at (type_at names t)) first.offsets.items) c.in_ok-pieces.ensures.ty ∙ ap (map (part_at (type_at names c.args.ty))) c.in_ok-pieces.ensures.offsets)

pub loop-step-preserved : goal.loop-step-preserved
loop-step-preserved c =
    let steps = c.args.steps.now in
    let i = c.loop-step.step-index in
    steps_go (program_at c.args.self.now) steps i _ _ _ _ c.loop-step-test.true (item_is steps i _ c.loop-step-test.true) c.in_ok-pieces-2.ensures c.loop-step.invariant

pub returns : goal.returns
returns c = steps_end (program_at c.args.self.now) c.args.steps.now c.loop-step.step-index _ _ c.loop-step-test.false c.loop-step.invariant
