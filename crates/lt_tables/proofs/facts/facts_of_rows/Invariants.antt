use Rattle.std.proofs.Common.{◌≡◌, map, take}
use Rattle.lt_tree.specs.Typing.Types.{Void}
use Rattle.lt_tree.specs.Typing.TypeRows.{types_of_rows}
use Rattle.lt_tree.specs.Typing.Programs.{Program}
use Rattle.lt_tables.specs.Lookups.{AreFactsOf}
use Rattle.lt_tables.specs.TypeNumbers.{AreAllFacts, number_among}
use Rattle.lt_tables.proofs.facts.facts_of_rows.Given as goal

abbrev pub invariant-loop-place : goal.invariant-loop-place
invariant-loop-place l = (program : Program) → l.numbers ≡ map (number_among program.types) (types_of_rows l.rows) → AreFactsOf program Void l.void → AreAllFacts program (types_of_rows (take l.place l.rows)) l.known.items
