use Rattle.std.proofs.Common.{◌≤◌, [], length, arith}
use Rattle.lt_entry.specs.Naming.{targets_of}
use Rattle.lt_entry.specs.Views.{target_view}
use Rattle.lt_input_names.specs.Views.{scope_of, type_at}
use Rattle.lt_spec_reader.proofs.CellLaws.{flat_mapped_more, flat_mapped_done}
use Rattle.lt_spec_reader.proofs.points.all_targets.Goals as goal

pub loop-target-preserved : goal.loop-target-preserved
loop-target-preserved c =
    flat_mapped_more (targets_of (scope_of c.args.names.now) (type_at c.args.names.now c.args.pointed)) target_view c.args.targets.now c.loop-target.target-index c.target-item.result [] c.loop-target.all.items _ c.loop-target-test.true c.target-item.is c.loop-target.invariant c.in_ok-put_targets.ensures

pub returns : goal.returns
returns c =
    let all : length c.args.targets.now ≤ c.loop-target.target-index = omega arith in
    flat_mapped_done (targets_of (scope_of c.args.names.now) (type_at c.args.names.now c.args.pointed)) target_view c.args.targets.now c.loop-target.target-index [] c.loop-target.all.items all c.loop-target.invariant
