use Rattle.std.proofs.Common.{◌≡◌, true, Some, length, slice_get, sym, subst}
use Rattle.lt_ir.specs.declared.variable.Variable.{Variable}
use Rattle.lt_ir.specs.declared.node.Node.TheVariants as node
use Rattle.lt_ir.specs.Ranges.{is_variable}
use Rattle.lt_emit.specs.Emission.{here_of, counts_at}
use Rattle.lt_emit.proofs.Spent.{within_here, fitting}
use Rattle.lt_emit.proofs.Variables.{variable_in}
use Rattle.lt_emit.proofs.builder.Builder.address.Goals as goal

pub emit-requires-clause-names : goal.emit-requires-clause-names
emit-requires-clause-names c =
    let b = c.args.self.now in
    let In : Variable → Type 0 = λ v. is_variable (counts_at b) v ≡ true in
    subst In (sym c.variable.ensures) (variable_in (here_of b) (length b.nodes.items) (length b.structs.items) b.registers c.args.number)

pub returns : goal.returns
returns c =
    within_here c.emit.ensures.code (λ from it p.
    let Is : Variable → Type 0 =
    λ v. slice_get it.nodes (it.point from) ≡ Some (node.Address c.args.register v (it.point c.args.to)) in
    (p.1, subst Is c.variable.ensures p.0)) (grind fitting)
