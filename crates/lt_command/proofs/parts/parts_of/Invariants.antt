use Rattle.std.proofs.Common.{◌≡◌, drop}
use Rattle.lt_command.specs.Parts.{parts_of}
use Rattle.lt_command.specs.Views.{parts_with}
use Rattle.lt_command.specs.Answers.{words_of}
use Rattle.lt_command.proofs.parts.parts_of.Given as goal

abbrev pub invariant-loop-word : goal.invariant-loop-word
invariant-loop-word l = parts_with l.reader (words_of (drop l.word-index l.words)) ≡ parts_of (words_of l.words)
