use Rattle.lt_emit.proofs.Spent.{put_first}
use Rattle.lt_emit.proofs.builder.Builder.reads.Goals as goal

pub returns : goal.returns
returns c =
    put_first c.in_ok-access.ensures.adds c.in_ok-access.ensures.spends c.reads_by.ensures (λ from here it is read. read is)
