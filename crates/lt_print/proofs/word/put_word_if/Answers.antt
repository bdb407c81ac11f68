use Rattle.lt_print.proofs.Words.{word_there, word_absent}
use Rattle.lt_print.proofs.word.put_word_if.Goals as goal

pub returns-in_ok-put_sign-clause-text : goal.returns-in_ok-put_sign-clause-text
returns-in_ok-put_sign-clause-text c = word_there _ _ _ c.args.before c.args.there c.args.word c.if-there.true c.in_ok-put_gap_if.ensures c.in_ok-put_sign.ensures

pub returns-else-there-clause-text : goal.returns-else-there-clause-text
returns-else-there-clause-text c = word_absent c.args.out.now.items c.args.before c.args.there c.args.word c.if-there.false
