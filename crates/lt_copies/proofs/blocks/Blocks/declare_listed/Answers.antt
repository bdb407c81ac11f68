use Rattle.std.proofs.Common.{ap}
use Rattle.lt_copies.specs.Blocks.{declares_all}
use Rattle.lt_copies.proofs.Declared.{ok_then}
use Rattle.lt_copies.proofs.Rows.{parameters_tags}
use Rattle.lt_copies.proofs.blocks.Blocks.declare_listed.Goals as goal

pub returns-in-Listed : goal.returns-in-Listed
returns-in-Listed c =
    ok_then _ _ c.declare_list.ensures (ap (λ ts. declares_all ts c.args.self.now) (parameters_tags c.args.parameters.now c.in-Listed.list _ c.in-Listed.is c.as_slice.ensures.value))
