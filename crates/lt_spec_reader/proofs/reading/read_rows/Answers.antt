use Rattle.std.proofs.Common.{◌≡◌, map}
use Rattle.lt_entry.specs.LineViews.{row_view}
use Rattle.lt_spec_reader.proofs.reading.read_rows.Goals as goal

pub returns : goal.returns
returns c = λ first named are made.
    c.read_behind.ensures first (c.in_ok-state.ensures.behind (map row_view c.args.rows.now) c.args.entry.name.now made named) are made
