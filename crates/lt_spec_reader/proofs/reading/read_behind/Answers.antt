use Rattle.std.proofs.Common.{map, sym, subst}
use Rattle.lt_entry.specs.LineViews.{row_view, line_view}
use Rattle.lt_spec_reader.specs.States.{AreRead}
use Rattle.lt_spec_reader.proofs.reading.read_behind.Goals as goal

pub returns : goal.returns
returns c = λ first behind are made.
    let program = c.args.kinds.now.program.now in
    let rows = map row_view c.args.rows.now in
    let entry = c.args.entry.number in
    let state = c.lines_of.new.state in
    c.judged.ensures (subst (λ l. AreRead program rows entry (map line_view l) state) (sym c.as_slice.ensures.value) (c.in_ok-lines.ensures.read program entry behind first)) are made
