use Rattle.std.proofs.Common.{◌∙◌, ◌+◌, ap, cond, length, length-append}
use Rattle.lt_tables.specs.Objects.{is_made_first}
use Rattle.lt_tables.proofs.ObjectNumbers.{count_more}
use Rattle.lt_tables.proofs.StaticRows.{before_more, before_all}
use Rattle.lt_tables.proofs.objects.blocks_of.Goals as goal

pub loop-object-preserved : goal.loop-object-preserved
loop-object-preserved c =
    let old = c.loop-object.invariant in
    let k = c.loop-object.object-index in
    let objects = c.args.objects.now in
    record {
      long = ap length c.in_ok-push.ensures.items ∙ length-append c.loop-object.before.items _ ∙ ap (λ n. n + 1) old.long;
      count = c.in_ok-all.ensures ∙ ap (λ b. c.loop-object.all + cond b 1 0) c.is_made_first.ensures ∙ count_more objects k c.loop-object.all c.object-item.result c.loop-object-test.true c.object-item.is old.count;
      each = before_more is_made_first objects c.loop-object.before.items c.push.new.self.items c.loop-object.all k old.long old.count c.in_ok-push.ensures.items old.each;
    }

pub returns : goal.returns
returns c =
    let at = c.loop-object.invariant in
    before_all is_made_first c.args.objects.now c.loop-object.before.items c.loop-object.all c.loop-object.object-index c.loop-object-test.false at.long at.count at.each
