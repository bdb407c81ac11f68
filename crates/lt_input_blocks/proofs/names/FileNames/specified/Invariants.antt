use Rattle.std.proofs.Common.{◌≡◌, length}
use Rattle.lt_entry.specs.TypeNames.{specified}
use Rattle.lt_input_blocks.specs.Tokens.{texts}
use Rattle.lt_input_blocks.specs.Names.{file_at}
use Rattle.lt_input_blocks.proofs.names.FileNames.specified.Given as goal

abbrev pub invariant-loop-rest : goal.invariant-loop-rest
invariant-loop-rest l = specified (file_at l.self) (texts l.rest) ≡ specified (file_at l.self) (texts l.tokens)

abbrev pub decreases-loop-rest : goal.decreases-loop-rest
decreases-loop-rest l = length l.rest
