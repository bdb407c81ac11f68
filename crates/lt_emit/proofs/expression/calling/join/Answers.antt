use Rattle.std.proofs.Common.{subst}
use Rattle.lt_tree.specs.Typing.Types.{CType}
use Rattle.lt_code.specs.Code.{reads}
use Rattle.lt_emit.specs.Emission.{site_in}
use Rattle.lt_emit.proofs.Spent.{then1, fitting}
use Rattle.lt_emit.proofs.expression.calling.join.Goals as goal

pub returns : goal.returns
returns c =
    then1 c.in_ok-clash.ensures c.reads.ensures (λ from here it p q.
    let Is : CType → Type 0 = λ t. reads (site_in here it) t c.args.register (it.point from) (it.point c.in_ok-clash.clash) in
    (_, subst Is (c.ty.ensures here.types) q, p)) (λ here. grind fitting)
