use Rattle.std.proofs.Common.{◌≤◌, ◌+◌, ◌∷◌, [], length, map, sym, ap, ◌∙◌, subst, arith}
use Rattle.std.specs.Prelude.{option_map}
use Rattle.std.proofs.lemmas.List.{map-append}
use Rattle.lt_tree.specs.Typing.ProgramView.{program_of}
use Rattle.lt_entry.specs.LineViews.{row_view, line_view}
use Rattle.lt_spec_reader.specs.Fronts.{IsNext, AreFirst}
use Rattle.lt_spec_reader.specs.States.{IsBehind, GoesAlong}
use Rattle.lt_spec_reader.proofs.FrontLaws.{one_longer}
use Rattle.lt_spec_reader.proofs.LinesLaws.{read_stops, read_more, read_ends}
use Rattle.lt_spec_reader.proofs.lines.lines_of.Goals as goal

pub returns-in-None-clause-read : goal.returns-in-None-clause-read
returns-in-None-clause-read c = λ program entry behind first.
    let rows = map row_view c.args.rows.now in
    let lines = map line_view c.loop-i.lines.items in
    let is = c.loop-i.invariant.behind program entry behind first in
    let are = c.loop-i.invariant.first program entry behind first in
    read_stops row_view line_view program entry c.args.rows.now c.loop-i.lines.items c.loop-i.i c.loop-i.invariant.count c.next_line.new.state c.index-rows-i.result
    (subst (λ o. GoesAlong program rows entry lines c.next_line.new.state (option_map line_view o)) c.in-None.is (c.in_ok-next_line.ensures.along program rows entry lines is))
    are c.loop-i-test.true c.index-rows-i.is
    (subst (λ o. IsNext (program_of program) rows lines (row_view c.index-rows-i.result).words (option_map line_view o)) c.in-None.is (c.in_ok-next_line.ensures.next program rows entry lines is))

pub loop-i-preserved : goal.loop-i-preserved
loop-i-preserved c =
    let rows = map row_view c.args.rows.now in
    let lines = map line_view c.loop-i.lines.items in
    let new = c.next_line.new.state in
    let line = c.in-Some.line in
    record {
      ready = c.in_ok-next_line.ensures.ready;
      count = ap length c.in_ok-push-in-Some.ensures.items ∙ one_longer c.loop-i.lines.items line ∙ ap (λ n. n + 1) c.loop-i.invariant.count;
      behind = λ program entry behind first.
          let is = c.loop-i.invariant.behind program entry behind first in
          subst (λ l. IsBehind program rows entry (map line_view l) new) (sym c.in_ok-push-in-Some.ensures.items)
          (subst (λ l. IsBehind program rows entry l new) (sym (map-append line_view c.loop-i.lines.items (line ∷ [])))
          (subst (λ o. GoesAlong program rows entry lines new (option_map line_view o)) c.in-Some.is (c.in_ok-next_line.ensures.along program rows entry lines is)));
      first = λ program entry behind first.
          let is = c.loop-i.invariant.behind program entry behind first in
          let are = c.loop-i.invariant.first program entry behind first in
          subst (λ l. AreFirst (program_of program) rows (map line_view l)) (sym c.in_ok-push-in-Some.ensures.items)
          (read_more row_view line_view program entry c.args.rows.now c.loop-i.lines.items c.loop-i.i c.loop-i.invariant.count c.index-rows-i.result line are c.loop-i-test.true c.index-rows-i.is
          (subst (λ o. IsNext (program_of program) rows lines (row_view c.index-rows-i.result).words (option_map line_view o)) c.in-Some.is (c.in_ok-next_line.ensures.next program rows entry lines is)));
    }

pub returns-clause-read : goal.returns-clause-read
returns-clause-read c = λ program entry behind first.
    let past : length c.args.rows.now ≤ c.loop-i.i = omega arith in
    read_ends row_view line_view program entry c.args.rows.now c.loop-i.lines.items c.loop-i.i c.loop-i.invariant.count c.loop-i.state (c.loop-i.invariant.behind program entry behind first) (c.loop-i.invariant.first program entry behind first) past
