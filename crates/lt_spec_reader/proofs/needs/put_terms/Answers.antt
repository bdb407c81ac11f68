use Rattle.lt_entry.specs.LineViews.{term_view}
use Rattle.lt_spec_reader.proofs.Loops.{on_ok_map}
use Rattle.lt_spec_reader.proofs.NeedLaws.{terms_are}
use Rattle.lt_spec_reader.proofs.needs.put_terms.Goals as goal

pub returns : goal.returns
returns c =
    on_ok_map c.put_parts.result
    (terms_are c.args.names.now (record { is_minus = c.args.is_minus; term = term_view c.args.term.now }) c.as_slice.result.now c.in_ok-parts.parts.items c.args.terms.now.items c.put_parts.new.terms.items c.as_slice.ensures.value c.in_ok-parts.ensures)
    c.put_parts.ensures
