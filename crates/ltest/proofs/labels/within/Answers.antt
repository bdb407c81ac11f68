use Rattle.ltest.proofs.labels.within.Goals as goal

pub want_of_memory-requires : goal.want_of_memory-requires
want_of_memory-requires c = rw c.in-Err.is at c.requires
