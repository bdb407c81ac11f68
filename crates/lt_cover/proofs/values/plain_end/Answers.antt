use Rattle.lt_cover.proofs.WordLists.{word_found, word_missed, no_plain_end}
use Rattle.lt_cover.proofs.values.plain_end.Goals as goal

pub returns-then-eq : goal.returns-then-eq
returns-then-eq c = (tt, word_found _ _ _ _ c.as_slice.ensures c.eq.ensures c.if-eq.true)

pub returns-then-eq-2 : goal.returns-then-eq-2
returns-then-eq-2 c = (tt, word_found _ _ _ _ c.as_slice-else-eq.ensures c.eq-else-eq.ensures c.if-eq-2.true)

pub returns-then-eq-3 : goal.returns-then-eq-3
returns-then-eq-3 c = (tt, word_found _ _ _ _ c.as_slice-else-eq-2.ensures c.eq-else-eq-2.ensures c.if-eq-3.true)

pub returns-then-eq-4 : goal.returns-then-eq-4
returns-then-eq-4 c = (tt, word_found _ _ _ _ c.as_slice-else-eq-3.ensures c.eq-else-eq-3.ensures c.if-eq-4.true)

pub returns-then-eq-5 : goal.returns-then-eq-5
returns-then-eq-5 c = (tt, word_found _ _ _ _ c.as_slice-else-eq-4.ensures c.eq-else-eq-4.ensures c.if-eq-5.true)

pub returns-then-eq-6 : goal.returns-then-eq-6
returns-then-eq-6 c = (tt, word_found _ _ _ _ c.as_slice-else-eq-5.ensures c.eq-else-eq-5.ensures c.if-eq-6.true)

pub returns-else-eq-6 : goal.returns-else-eq-6
returns-else-eq-6 c =
    no_plain_end c.args.word.now
    (word_missed _ _ _ _ c.as_slice.ensures c.eq.ensures c.if-eq.false)
    (word_missed _ _ _ _ c.as_slice-else-eq.ensures c.eq-else-eq.ensures c.if-eq-2.false)
    (word_missed _ _ _ _ c.as_slice-else-eq-2.ensures c.eq-else-eq-2.ensures c.if-eq-3.false)
    (word_missed _ _ _ _ c.as_slice-else-eq-3.ensures c.eq-else-eq-3.ensures c.if-eq-4.false)
    (word_missed _ _ _ _ c.as_slice-else-eq-4.ensures c.eq-else-eq-4.ensures c.if-eq-5.false)
    (word_missed _ _ _ _ c.as_slice-else-eq-5.ensures c.eq-else-eq-5.ensures c.if-eq-6.false)
