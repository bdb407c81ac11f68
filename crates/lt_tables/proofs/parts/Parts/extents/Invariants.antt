use Rattle.std.proofs.Common.{◌≡◌, ◌+◌, ◌-◌, length, false, if◌then◌else◌}
use Rattle.lt_tables.specs.TypeParts.{known_count, AreReached, AreSettled}
use Rattle.lt_tables.specs.PartTypes.{structs_with}
use Rattle.lt_tables.proofs.parts.Parts.extents.Given as goal

abbrev pub invariant-rounds : goal.invariant-rounds
invariant-rounds l = record {
  length : length l.known.items ≡ length l.structs;
  reached : AreReached l.self.model (structs_with l.self l.structs) l.known.items;
  settled : l.is_changed ≡ false → AreSettled l.self.model (structs_with l.self l.structs) l.known.items;
}

abbrev pub decreases-rounds : goal.decreases-rounds
decreases-rounds l = (length l.known.items - known_count l.known.items) + (if l.is_changed then 1 else 0)
