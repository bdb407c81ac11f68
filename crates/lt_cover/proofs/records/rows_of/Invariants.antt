use Rattle.std.proofs.Common.{ℕ, List, drop}
use Rattle.lt_cover.specs.Coverage.Records.{Completes}
use Rattle.lt_cover.proofs.records.rows_of.Given as goal

abbrev pub invariant-loop-byte : goal.invariant-loop-byte
invariant-loop-byte l = (all : List (List (List ℕ))) → Completes l.records (drop l.byte-index l.byte-items) all → Completes l.initial.records l.byte-items all
