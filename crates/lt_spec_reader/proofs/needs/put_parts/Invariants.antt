use Rattle.std.proofs.Common.{◌≡◌, ◌++◌, map, take}
use Rattle.lt_entry.specs.LineViews.{term_view}
use Rattle.lt_spec_reader.specs.Said.{part_term}
use Rattle.lt_spec_reader.proofs.needs.put_parts.Given as goal

abbrev pub invariant-loop-part : goal.invariant-loop-part
invariant-loop-part l = l.terms.items ≡ l.initial.terms.items ++ map (part_term (record { is_minus = l.is_minus; term = term_view l.term })) (take l.part-index l.parts)
