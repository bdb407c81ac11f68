use Rattle.std.proofs.Common.{ℕ, ◌+◌, subst, sym}
use Rattle.lt_tree.specs.declared.typed.tree.Side.{Side}
use Rattle.lt_tree.specs.Typing.ValueView.{side_of}
use Rattle.lt_ir.specs.declared.node.Movement.TheVariants.{Elements}
use Rattle.lt_ir.specs.declared.node.Node.{Node}
use Rattle.lt_ir.specs.declared.node.Node.TheVariants as node
use Rattle.lt_code.specs.Code as code
use Rattle.lt_emit.specs.Emission.{GivesWithin, node_cost, costs, IsPlaced, PieceStands}
use Rattle.lt_emit.proofs.Spent.{within_here, fitting}
use Rattle.lt_emit.proofs.builder.Builder.moved.Goals as goal
use Rattle.lt_emit.proofs.builder.Builder.moved.Goals.{in-OnLeft, in-OnRight}

pub returns : goal.returns
returns c =
    let r = c.args.register in
    let move : ℕ × ℕ → Node = λ q. node.Move r q.0 (Elements q.1 c.args.op c.args.size) c.args.to in
    let Moves : ℕ × ℕ → Type 0 = λ q. GivesWithin c.args.self.now c.emit.new.self c.emit.result (node_cost (move q)) (IsPlaced (move q)) in
    let Stands : Side → Type 0 =
    λ side. GivesWithin c.args.self.now c.emit.new.self c.emit.result (costs 1 (r + 2))
    (PieceStands (λ s. code.up_to s (r + 1) (code.moved_by s r c.args.op c.args.size (side_of side))) c.args.to) in
    elim c.match-side.branch [
      | in-OnLeft w ↦ subst Stands (sym w.in-OnLeft.is)
          (within_here (subst Moves w.pointer-is c.emit.ensures.code) (λ from it p. (p.1.2, p.0)) (grind fitting))
      | in-OnRight w ↦ subst Stands (sym w.in-OnRight.is)
          (within_here (subst Moves w.pointer-is c.emit.ensures.code) (λ from it p. (p.1.1, p.0)) (grind fitting))
    ]
