use Rattle.std.proofs.Common.{◌≡◌, ◌+◌, ◌≤◌, ◌<◌, ℕ, length, false, None, if◌then◌else◌}
use Rattle.lt_tree.specs.Typing.Extents.{members_of}
use Rattle.lt_tables.specs.TypeParts.{extent_among, whole_with, known_count, AreReached}
use Rattle.lt_tables.specs.PartTypes.{structs_with}
use Rattle.lt_tables.proofs.parts.Parts.learn.Given as goal

abbrev pub invariant-loop-place : goal.invariant-loop-place
invariant-loop-place l = record {
  length : length l.known ≡ length l.structs;
  more : known_count l.initial.known + (if l.is_changed then 1 else 0) ≤ known_count l.known;
  reached : AreReached l.self.model (structs_with l.self l.structs) l.initial.known → AreReached l.self.model (structs_with l.self l.structs) l.known;
  settled : l.is_changed ≡ false → (k : ℕ) → k < l.place → extent_among l.known k ≡ None → whole_with l.self.model (extent_among l.known) (members_of (structs_with l.self l.structs) k) ≡ None;
}
