use Rattle.std.proofs.Common.{◌≡◌, ◌++◌, drop}
use Rattle.lt_entry.specs.TypeNames.{tokens_of}
use Rattle.lt_input_blocks.specs.Tokens.{texts}
use Rattle.lt_input_blocks.proofs.tokens.tokens_of.Given as goal

abbrev pub invariant-loop-word : goal.invariant-loop-word
invariant-loop-word l = texts l.tokens.items ++ tokens_of (texts (drop l.word-index l.words)) ≡ tokens_of (texts l.words)
