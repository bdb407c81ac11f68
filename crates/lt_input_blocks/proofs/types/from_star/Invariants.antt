use Rattle.std.proofs.Common.{◌≡◌, length}
use Rattle.lt_entry.specs.TypeNames.{from_star}
use Rattle.lt_input_blocks.specs.Tokens.{texts}
use Rattle.lt_input_blocks.proofs.types.from_star.Given as goal

abbrev pub invariant-loop-tokens : goal.invariant-loop-tokens
invariant-loop-tokens l = from_star (texts l.tokens) ≡ from_star (texts l.initial.tokens)

abbrev pub decreases-loop-tokens : goal.decreases-loop-tokens
decreases-loop-tokens l = length l.tokens
