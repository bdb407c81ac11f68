use Rattle.std.proofs.Common.{◌≡◌, ◌-◌, drop, length, Bor, List, ℕ}
use Rattle.std.specs.Prelude.{map}
use Rattle.lt_entry.specs.LineViews.{addend_view}
use Rattle.lt_entry.specs.ReadingLines.{read_addends}
use Rattle.lt_entry.proofs.LinesRead.{and_these}
use Rattle.lt_entry.proofs.specification_line.addends_of.Given as goal

abbrev pub invariant-loop-read : goal.invariant-loop-read
invariant-loop-read l = read_addends (map (λ (word : Bor (List ℕ)). word.now) l.words) ≡ and_these (map addend_view l.addends.items) (read_addends (map (λ (word : Bor (List ℕ)). word.now) (drop l.read l.words)))

abbrev pub decreases-loop-read : goal.decreases-loop-read
decreases-loop-read l = length l.words - l.read
