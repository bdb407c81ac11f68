use Rattle.std.proofs.Common.{◌≡◌, ◌++◌, map}
use Rattle.lt_replay.specs.Drafts.{row_of}
use Rattle.lt_replay.proofs.draft.label_rows.Given as goal

abbrev pub invariant-loop-id : goal.invariant-loop-id
invariant-loop-id l = l.rows.items ++ map row_of l.id-iterator ≡ map row_of l.initial.id-iterator
