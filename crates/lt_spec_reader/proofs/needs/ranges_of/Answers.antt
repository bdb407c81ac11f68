use Rattle.lt_tree.specs.Typing.ProgramView.{program_of}
use Rattle.lt_spec_reader.proofs.Loops.{ok_map}
use Rattle.lt_spec_reader.proofs.NeedLaws.{ranges_are}
use Rattle.lt_spec_reader.proofs.needs.ranges_of.Goals as goal

pub returns : goal.returns
returns c = λ lines has.
    ok_map _ _ c.ranges_among.result
    (λ all h. ranges_are (program_of c.args.kinds.now.program.now) lines c.args.ranges.now c.deref.result.now c.in_ok-stubs.stubs.items all.items has c.deref.ensures.value c.in_ok-stubs.ensures h)
    c.ranges_among.ensures
