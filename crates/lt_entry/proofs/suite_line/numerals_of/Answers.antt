use Rattle.std.proofs.Common.{sym}
use Rattle.std.proofs.lemmas.List.{map-append}
use Rattle.lt_entry.specs.Reading.{read_numeral}
use Rattle.lt_entry.proofs.ReadAll.{loop_more, loop_none}
use Rattle.lt_entry.proofs.suite_line.numerals_of.Goals as goal

pub returns-in-None : goal.returns-in-None
returns-in-None c = sym (loop_none read_numeral c.args.words.now c.loop-word.word-index _ c.loop-word-test.true (sym c.in-None.ensures))

pub loop-word-preserved : goal.loop-word-preserved
loop-word-preserved c =
    rw (c.in_ok-push-in-Some.ensures.items, map-append)
    (loop_more read_numeral c.args.words.now c.loop-word.word-index _ _ _ c.loop-word-test.true c.loop-word.invariant (sym c.in-Some.ensures))
