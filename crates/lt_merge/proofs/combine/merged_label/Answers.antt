use Rattle.lt_merge.proofs.Merging.{rising_label}
use Rattle.lt_merge.proofs.combine.merged_label.Goals as goal

pub returns : goal.returns
returns c = rising_label c.args.a.now c.args.b.now c.in_ok-new.field-0 c.as_slice-3.result.now c.as_slice.result.now c.as_slice-2.result.now c.in_ok-by.by.items c.new-2.result c.requires.same c.in_ok-new.ensures c.as_slice-3.ensures c.as_slice.ensures c.as_slice-2.ensures c.new-2.ensures c.in_ok-by.ensures.rise c.in_ok-by.ensures.names
