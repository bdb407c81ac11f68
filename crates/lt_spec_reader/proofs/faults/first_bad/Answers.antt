use Rattle.std.proofs.Common.{length, map, sym, ◌∙◌}
use Rattle.lt_entry.specs.LineViews.{row_view, line_view}
use Rattle.lt_spec_reader.proofs.FaultLaws.{fault_unfree, fault_behind, number_mapped, mapped_length}
use Rattle.lt_spec_reader.proofs.faults.first_bad.Goals as goal

pub returns-in-Some : goal.returns-in-Some
returns-in-Some c = λ program entry read free.
    let rows = map row_view c.args.rows.now in
    fault_unfree program rows entry (map line_view c.args.lines.now) c.args.state.now read c.in-Some.number (sym c.in-Some.is ∙ c.in_ok-number.ensures rows free)

pub returns-in-None : goal.returns-in-None
returns-in-None c = λ program entry read free.
    let rows = map row_view c.args.rows.now in
    fault_behind program rows entry (map line_view c.args.lines.now) c.args.state.now read c.number_at.result (sym c.in-None.is ∙ c.in_ok-number.ensures rows free)
    (c.number_at.ensures ∙ number_mapped row_view c.args.rows.now (length c.args.lines.now) _ (mapped_length line_view c.args.lines.now))
