use Rattle.std.proofs.Common.{sym}
use Rattle.std.proofs.lemmas.List.{map-append}
use Rattle.lt_entry.specs.Views.{target_view}
use Rattle.lt_entry.specs.Reading.{read_target}
use Rattle.lt_entry.proofs.ReadAll.{loop_more, loop_none}
use Rattle.lt_entry.proofs.LinesRead.{mapped_none, mapped_some}
use Rattle.lt_entry.proofs.specification_line.targets_of.Goals as goal

pub returns-in-None : goal.returns-in-None
returns-in-None c = sym (loop_none read_target c.args.words.now c.loop-word.word-index _ c.loop-word-test.true (sym (mapped_none target_view _ _ c.in-None.is c.in_ok-target.ensures)))

pub loop-word-preserved : goal.loop-word-preserved
loop-word-preserved c =
    rw (c.in_ok-push-in-Some.ensures.items, map-append)
    (loop_more read_target c.args.words.now c.loop-word.word-index _ _ _ c.loop-word-test.true c.loop-word.invariant (sym (mapped_some target_view _ _ _ c.in-Some.is c.in_ok-target.ensures)))
