use Rattle.std.proofs.Common.{◌≡◌, drop}
use Rattle.std.specs.List.{list_all}
use Rattle.lt_entry.specs.TypeNames.{is_qualifier}
use Rattle.lt_input_blocks.specs.Tokens.{texts}
use Rattle.lt_input_blocks.proofs.tokens.are_qualifiers.Given as goal

abbrev pub invariant-loop-token : goal.invariant-loop-token
invariant-loop-token l = list_all is_qualifier (texts (drop l.token-index l.tokens)) ≡ list_all is_qualifier (texts l.tokens)
