use Rattle.std.proofs.Common.{◌<◌, ◌≤◌, ◌+◌, map, sym, ap, ◌∙◌, arith}
use Rattle.lt_input_names.specs.Blocks.{element_of}
use Rattle.lt_input_names.specs.Parts.{part_at, run}
use Rattle.lt_input_names.specs.Views.{program_at, types_at, type_at}
use Rattle.lt_input_names.proofs.StepLaws.{past_count, within_count}
use Rattle.lt_input_names.proofs.names.Names.numbered.Goals as goal

pub returns-then-number-count : goal.returns-then-number-count
returns-then-number-count c = λ offset.
    let past : c.args.array.count ≤ c.args.number = omega arith in
    past_count (program_at c.args.self.now) (element_of (types_at c.args.self.now) c.args.array.element) c.args.array.count offset c.args.number past

pub returns : goal.returns
returns c = λ offset.
    let names = c.args.self.now in
    let within : c.args.number < c.args.array.count = omega arith in
    within_count (program_at names) (element_of (types_at names) c.args.array.element) c.args.array.count offset c.args.number c.in_ok-start.start c.element_size-size.result within c.element_size-size.ensures c.in_ok-start.ensures
    ∙ ap (λ t. map (part_at (type_at names t)) (run (offset + c.in_ok-start.start) 0 1)) (sym c.element_part.ensures)
