use Rattle.std.proofs.Common.{rules, ◌≡◌, ◌++◌, suc}
use Rattle.lt_address.specs.Seeking.{target_at}
use Rattle.lt_address.proofs.Merging.{merging_next}
use Rattle.lt_address.proofs.join.join_targets.Goals as goal

pub merge-preserved : goal.merge-preserved
merge-preserved c =
    let block = c.in-Some.block in
    let e : c.push_offsets.new.out.items ≡ c.merge.out.items ++ target_at block c.join_numbers.result = search rules in
    let (low, so) = c.merge.invariant in
    rw e (suc block, merging_next _ _ _ _ _ _ _ low block _ _ _ so c.in-Some.ensures c.seek-m.ensures.found c.seek-n.ensures.found c.join_numbers.ensures)
