use Rattle.std.proofs.Common.{rules, ◌≡◌, ◌∙◌, sym}
use Rattle.lt_entry.specs.Reading.{read_index, read_closed}
use Rattle.lt_entry.proofs.Inside.{closed_none, closed_some}
use Rattle.lt_entry.proofs.LinesRead.{index_none, index_some}
use Rattle.lt_entry.proofs.place.index_of.Goals as goal

pub returns-then-last-ne93 : goal.returns-then-last-ne93
returns-then-last-ne93 c = sym (closed_none c.args.closed.now c.in-Some.inside.now c.in-Some.last.now c.in-Some.ensures.cases.0 (search rules))

pub returns-in-None : goal.returns-in-None
returns-in-None c =
    let e : read_closed c.args.closed.now ≡ read_index c.in-Some.inside.now = closed_some c.args.closed.now c.in-Some.inside.now c.in-Some.last.now c.in-Some.ensures.cases.0 (search rules) in
    sym (e ∙ index_none c.in-Some.inside.now (search rules) (sym c.in-None.ensures))

pub returns-in-Some-numeral_of : goal.returns-in-Some-numeral_of
returns-in-Some-numeral_of c =
    let e : read_closed c.args.closed.now ≡ read_index c.in-Some.inside.now = closed_some c.args.closed.now c.in-Some.inside.now c.in-Some.last.now c.in-Some.ensures.cases.0 (search rules) in
    sym (e ∙ index_some c.in-Some.inside.now _ (search rules) (sym c.in-Some-numeral_of.ensures))
