use Rattle.std.proofs.Common.{◌≡◌, ◌+◌, Some, slice_get, subst}
use Rattle.lt_model.specs.declared.operator.Op.TheVariants as O
use Rattle.lt_model.specs.declared.scalar.Scalar.{Scalar}
use Rattle.lt_ir.specs.declared.node.Node.TheVariants as node
use Rattle.lt_emit.proofs.Spent.{then_here, fitting}
use Rattle.lt_emit.proofs.builder.Builder.negated.Goals as goal

pub returns : goal.returns
returns c =
    then_here c.in_ok-applied.ensures.code c.constant.ensures (λ from it applied zero.
    let Is : Scalar → Type 0 =
    λ k. slice_get it.nodes (it.point c.in_ok-applied.applied)
    ≡ Some (node.Apply c.args.register (c.args.register + 1) c.args.register O.Sub k (it.point c.args.to)) in
    (zero.0, (_, zero.1, subst Is c.scalar.ensures applied.0))) (grind fitting)
