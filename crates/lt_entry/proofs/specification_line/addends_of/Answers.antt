use Rattle.std.proofs.Common.{sym, rules, arith, ◌≤◌, length}
use Rattle.std.proofs.lemmas.List.{map-append}
use Rattle.lt_entry.specs.LineViews.{addend_view}
use Rattle.lt_entry.proofs.LinesRead.{mapped_none, mapped_some, addends_begin, addends_more, addends_none, addends_end}
use Rattle.lt_entry.proofs.specification_line.addends_of.Goals as goal

pub loop-read-init : goal.loop-read-init
loop-read-init c = rw c.new-addends.ensures.items (addends_begin _)

pub returns-in-None : goal.returns-in-None
returns-in-None c =
    sym (addends_none c.args.words.now c.split_at.result.1.now c.loop-read.read _ _ (omega arith) c.split_at.ensures.back (mapped_none addend_view _ _ c.in-None.is c.in_ok-addend.ensures.reads) c.loop-read.invariant)

pub loop-read-preserved : goal.loop-read-preserved
loop-read-preserved c =
    let room : 2 ≤ length c.split_at.result.1.now = search rules in
    rw (c.in_ok-push-in-Some.ensures.items, map-append)
    (addends_more c.args.words.now c.split_at.result.1.now c.loop-read.read _ _ _ c.split_at.ensures.back room (mapped_some addend_view _ _ _ c.in-Some.is c.in_ok-addend.ensures.reads) c.loop-read.invariant)

pub returns : goal.returns
returns c = sym (addends_end c.args.words.now c.loop-read.read _ _ (omega arith) c.loop-read.invariant)
