use Rattle.lt_entry.specs.Meaning.{need_said}
use Rattle.lt_entry.specs.LineViews.{line_view}
use Rattle.lt_input_names.specs.Views.{scope_of}
use Rattle.lt_spec_reader.proofs.NeedLaws.{picked_more}
use Rattle.lt_spec_reader.proofs.needs.needs_of.Goals as goal

pub loop-line-preserved : goal.loop-line-preserved
loop-line-preserved c =
    picked_more (need_said (scope_of c.args.names.now)) line_view c.args.lines.now c.loop-line.line-index c.line-item.result c.loop-line.needs.items _ c.loop-line-test.true c.line-item.is c.loop-line.invariant c.in_ok-put_need.ensures
