use Rattle.std.proofs.Common.{◌≡◌, ℕ, map, Bor}
use Rattle.lt_replay.specs.Drafts.{rows_of, with_name}
use Rattle.lt_replay.proofs.draft.cover_all.Given as goal

abbrev pub invariant-loop-id : goal.invariant-loop-id
invariant-loop-id l = rows_of l.labels ≡ map (with_name l.name (map (λ (id : Bor ℕ). id.now) l.yielded)) (rows_of l.initial.labels)
