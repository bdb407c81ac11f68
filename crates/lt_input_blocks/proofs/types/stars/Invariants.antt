use Rattle.std.proofs.Common.{◌≡◌, drop}
use Rattle.lt_tree.specs.Typing.Types.{CType}
use Rattle.lt_entry.specs.TypeNames.{pointers_to}
use Rattle.lt_input_names.specs.Blocks.{pointers}
use Rattle.lt_input_blocks.specs.Tokens.{texts}
use Rattle.lt_input_blocks.proofs.types.stars.Given as goal

abbrev pub invariant-loop-token : goal.invariant-loop-token
invariant-loop-token l = (t : CType) → pointers_to (texts (drop l.token-index l.tokens)) (pointers l.count t) ≡ pointers_to (texts l.tokens) t
