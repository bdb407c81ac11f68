use Rattle.std.proofs.Common.{◌≡◌, ◌++◌, drop}
use Rattle.std.specs.Prelude.{option_map}
use Rattle.lt_entry.specs.TypeNames.{type_words}
use Rattle.lt_input_blocks.specs.Tokens.{texts}
use Rattle.lt_input_blocks.proofs.arithmetic.type_words.Given as goal

abbrev pub invariant-tokens : goal.invariant-tokens
invariant-tokens l = option_map (λ words. l.words.items ++ words) (type_words (texts (drop l.token-index l.tokens))) ≡ type_words (texts l.tokens)
