use Rattle.std.proofs.Common.{◌≡◌, take, Bor, List, ℕ, Some}
use Rattle.std.specs.Prelude.{map}
use Rattle.lt_entry.specs.Views.{numeral_view}
use Rattle.lt_entry.specs.Reading.{read_all, read_numeral}
use Rattle.lt_entry.proofs.suite_line.numerals_of.Given as goal

abbrev pub invariant-loop-word : goal.invariant-loop-word
invariant-loop-word l = read_all read_numeral (map (λ (word : Bor (List ℕ)). word.now) (take l.word-index l.words)) ≡ Some (map numeral_view l.numerals.items)
