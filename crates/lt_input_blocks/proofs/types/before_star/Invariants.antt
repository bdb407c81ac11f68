use Rattle.std.proofs.Common.{◌≡◌, ◌++◌, drop}
use Rattle.lt_entry.specs.TypeNames.{before_star}
use Rattle.lt_input_blocks.specs.Tokens.{texts}
use Rattle.lt_input_blocks.proofs.types.before_star.Given as goal

abbrev pub invariant-loop-token : goal.invariant-loop-token
invariant-loop-token l = texts l.before.items ++ before_star (texts (drop l.token-index l.tokens)) ≡ before_star (texts l.tokens)
