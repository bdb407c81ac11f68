use Rattle.std.proofs.Common.{◌∙◌}
use Rattle.lt_env.proofs.NameMaps.{one_name}
use Rattle.lt_env.proofs.symbols.labels.insert_all.Goals as goal

pub loop-name-preserved : goal.loop-name-preserved
loop-name-preserved c =
    one_name c.args.bound.now c.loop-name.bound c.insert.new.self c.args.names.now c.loop-name.name-index c.name-item.result c.in_ok-key.key.items c.loop-name-test.true c.name-item.is
    (c.in_ok-key.ensures.items ∙ c.as_slice.ensures) c.loop-name.invariant c.in_ok-insert.ensures.updates
