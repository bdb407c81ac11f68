use Rattle.std.proofs.Common.{◌≡◌, take, Bor, List, ℕ, Some}
use Rattle.std.specs.Prelude.{map}
use Rattle.lt_entry.specs.Views.{step_view}
use Rattle.lt_entry.specs.Reading.{read_all, read_step}
use Rattle.lt_entry.proofs.place.place_of.Given as goal

abbrev pub invariant-loop-piece : goal.invariant-loop-piece
invariant-loop-piece l = read_all read_step (map (λ (piece : Bor (List ℕ)). piece.now) (take l.piece-index l.others)) ≡ Some (map step_view l.steps.items)
