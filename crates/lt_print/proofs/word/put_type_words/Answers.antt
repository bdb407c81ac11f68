use Rattle.std.proofs.Common.{refl, ap, ◌∙◌, ◌++◌, ◌∷◌, [], arith}
use Rattle.lt_tree.specs.declared.terminal.Terminal.{Terminal}
use Rattle.lt_tree.specs.Pieces.{text_of}
use Rattle.lt_tree.specs.Canon.{sign, sign_of_word}
use Rattle.lt_print.proofs.Words.{one_word, words_end}
use Rattle.lt_print.proofs.word.put_type_words.Goals as goal

pub loop-at-preserved : goal.loop-at-preserved
loop-at-preserved c = one_word sign_of_word c.args.words.now c.loop-at.at _ _ c.loop-at.out.items _ _ _ c.loop-at-test.true refl c.in_ok-put_gap_if.ensures (c.in_ok-put_sign.ensures ∙ ap (λ (k : Terminal). c.put_gap_if.new.out.items ++ text_of (sign k ∷ [])) c.sign_of_word.ensures) c.loop-at.invariant

pub returns : goal.returns
returns c = words_end sign_of_word c.args.words.now c.loop-at.at c.loop-at.out.items c.args.out.now.items (omega arith) c.loop-at.invariant
