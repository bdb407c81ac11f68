use Rattle.std.proofs.Common.{map, subst}
use Rattle.lt_entry.specs.LineViews.{row_view, line_view}
use Rattle.lt_spec_reader.specs.Answers.{IsFault}
use Rattle.lt_spec_reader.proofs.FaultLaws.{answer_bad, answer_said}
use Rattle.lt_spec_reader.proofs.reading.judged.Goals as goal

pub returns-in-Some : goal.returns-in-Some
returns-in-Some c = λ read are made.
    let program = c.args.kinds.now.program.now in
    let rows = map row_view c.args.rows.now in
    let entry = c.args.entry in
    let lines = map line_view c.args.lines.now in
    let free = c.in_ok-free.ensures program entry lines read.behind are made in
    let fault = c.in_ok-number.ensures program entry read free in
    answer_bad program rows entry lines c.in-Some.number c.bad_line.result (subst (λ o. IsFault program rows entry lines o) c.in-Some.is fault) c.bad_line.ensures

pub returns : goal.returns
returns c = λ read are made.
    let program = c.args.kinds.now.program.now in
    let rows = map row_view c.args.rows.now in
    let entry = c.args.entry in
    let lines = map line_view c.args.lines.now in
    let free = c.in_ok-free.ensures program entry lines read.behind are made in
    let fault = c.in_ok-number.ensures program entry read free in
    answer_said program rows entry lines c.args.state.now c.in_ok-said-in-None.field-0 read (subst (λ o. IsFault program rows entry lines o) c.in-None.is fault)
    (c.in_ok-said-in-None.ensures rows read.behind are made)
