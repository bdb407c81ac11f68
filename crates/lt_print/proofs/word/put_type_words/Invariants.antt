use Rattle.std.proofs.Common.{◌≡◌, ◌++◌, drop, ltb, map, false}
use Rattle.lt_tree.specs.Pieces.{text_of}
use Rattle.lt_tree.specs.Canon.{sign_of_word}
use Rattle.lt_print.proofs.Words.{led}
use Rattle.lt_print.proofs.word.put_type_words.Given as goal

abbrev pub invariant-loop-at : goal.invariant-loop-at
invariant-loop-at l = l.out.items ++ text_of (led (ltb 0 l.at) (map sign_of_word (drop l.at l.words))) ≡ l.fn.out.items ++ text_of (led false (map sign_of_word l.words))
