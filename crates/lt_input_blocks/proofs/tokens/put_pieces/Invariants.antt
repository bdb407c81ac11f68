use Rattle.std.proofs.Common.{◌≡◌, ◌++◌, drop}
use Rattle.lt_entry.specs.TypeNames.{with_stars}
use Rattle.lt_input_blocks.specs.Tokens.{texts, kept, behind_stars}
use Rattle.lt_input_blocks.proofs.tokens.put_pieces.Given as goal

abbrev pub invariant-loop-piece : goal.invariant-loop-piece
invariant-loop-piece l = texts l.tokens.items ++ kept (behind_stars (texts (drop l.piece-index l.others))) ≡ texts l.fn.tokens.items ++ kept (with_stars (texts l.pieces))
