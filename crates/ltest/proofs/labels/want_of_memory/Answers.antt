use Rattle.ltest.proofs.labels.want_of_memory.Goals as goal

pub unreachable-requires : goal.unreachable-requires
unreachable-requires c = c.requires c.in-Ids.is
