use Rattle.std.proofs.Common.{map, ap, ◌∙◌}
use Rattle.std.specs.List.{flat_map}
use Rattle.lt_entry.specs.Views.{step_view}
use Rattle.lt_input_names.specs.Parts.{part_at, strided, parts_of_stride}
use Rattle.lt_input_names.specs.Views.{program_at, type_at}
use Rattle.lt_input_names.proofs.StepLaws.{steps_each, steps_nowhere}
use Rattle.lt_input_names.proofs.names.Names.stepped.Goals as goal

pub returns-in-None : goal.returns-in-None
returns-in-None c =
    let names = c.args.self.now in
    let t = type_at names c.args.pieces.now.ty in
    ap (map (part_at t)) c.new.ensures.items
    ∙ steps_nowhere (program_at names) (step_view c.args.step) t c.args.pieces.now.offsets.items (λ o. c.in_ok-led.ensures o ∙ ap (λ s. parts_of_stride names s o) c.in-None.is)

pub returns-in_ok-offsets-in-Some : goal.returns-in_ok-offsets-in-Some
returns-in_ok-offsets-in-Some c =
    let names = c.args.self.now in
    let stride = c.in-Some.stride in
    ap (map (part_at (type_at names stride.ty))) (c.in_ok-offsets-in-Some.ensures ∙ ap (flat_map (strided stride)) c.deref.ensures.value)
    ∙ steps_each (program_at names) (step_view c.args.step) (type_at names c.args.pieces.now.ty) (type_at names stride.ty) (strided stride) c.args.pieces.now.offsets.items
    (λ o. c.in_ok-led.ensures o ∙ ap (λ s. parts_of_stride names s o) c.in-Some.is)
