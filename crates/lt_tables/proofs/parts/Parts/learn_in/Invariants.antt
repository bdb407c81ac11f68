use Rattle.std.proofs.Common.{◌≡◌, length}
use Rattle.lt_tables.specs.TypeParts.{AreReached}
use Rattle.lt_tables.specs.PartTypes.{structs_with}
use Rattle.lt_tables.proofs.parts.Parts.learn_in.Given as goal

abbrev pub invariant-loop-place : goal.invariant-loop-place
invariant-loop-place l = record {
  length : length l.known ≡ length l.structs;
  reached : AreReached l.self.model (structs_with l.self l.structs) l.initial.known → AreReached l.self.model (structs_with l.self l.structs) l.known;
}
