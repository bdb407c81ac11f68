use Rattle.std.proofs.Common.{◌≡◌, take, Bor, List, ℕ, Some}
use Rattle.std.specs.Prelude.{map}
use Rattle.lt_entry.specs.Views.{target_view}
use Rattle.lt_entry.specs.Reading.{read_all, read_target}
use Rattle.lt_entry.proofs.specification_line.targets_of.Given as goal

abbrev pub invariant-loop-word : goal.invariant-loop-word
invariant-loop-word l = read_all read_target (map (λ (word : Bor (List ℕ)). word.now) (take l.word-index l.words)) ≡ Some (map target_view l.targets.items)
