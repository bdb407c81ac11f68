use Rattle.lt_cover.proofs.WordLists.{word_found, word_missed, no_version_word}
use Rattle.lt_cover.proofs.read.version_written.Goals as goal

pub returns-then-eq : goal.returns-then-eq
returns-then-eq c = (tt, word_found _ _ _ _ c.as_slice.ensures c.eq.ensures c.if-eq.true)

pub returns-then-eq-2 : goal.returns-then-eq-2
returns-then-eq-2 c = (tt, word_found _ _ _ _ c.as_slice-else-eq.ensures c.eq-else-eq.ensures c.if-eq-2.true)

pub returns-else-eq-2 : goal.returns-else-eq-2
returns-else-eq-2 c =
    no_version_word c.args.word.now
    (word_missed _ _ _ _ c.as_slice.ensures c.eq.ensures c.if-eq.false)
    (word_missed _ _ _ _ c.as_slice-else-eq.ensures c.eq-else-eq.ensures c.if-eq-2.false)
