use Rattle.std.proofs.Common.{map, refl, ap, ◌∙◌}
use Rattle.lt_tree.specs.Typing.Steps.{Goes}
use Rattle.lt_type.specs.Found.{part_of, with_parts}
use Rattle.lt_declare.specs.DeclaredViews.{built_of}
use Rattle.lt_type.proofs.Sequences.{stopped}
use Rattle.lt_type.proofs.Turns.{turns_on, turns_stop}
use Rattle.lt_type.proofs.InsideTurns.{last_part}
use Rattle.lt_type.proofs.walk.shapes.with_shapes.Goals as goal

pub returns-in_err-made-2 : goal.returns-in_err-made-2
returns-in_err-made-2 c =
    turns_stop (λ types v known. Goes (with_parts known (map (part_of types) c.pop.new.self.items) v) known) c.shapes.invariant
    (λ types k. ap (λ l. Goes (with_parts k (map (part_of types) l) (built_of types c.shapes.made)) k) c.in-Some.ensures.items ∙ ap (λ b. Goes b k) (last_part k (part_of types) c.pop.new.self.items c.in-Some.shape (built_of types c.shapes.made)))
    c.in_err-made-2.ensures (stopped c.from_residual-in_err-made-2.ensures)

pub shapes-preserved : goal.shapes-preserved
shapes-preserved c =
    turns_on (λ types v known. Goes (with_parts known (map (part_of types) c.pop.new.self.items) v) known) c.shapes.invariant
    (λ types k. ap (λ l. Goes (with_parts k (map (part_of types) l) (built_of types c.shapes.made)) k) c.in-Some.ensures.items ∙ ap (λ b. Goes b k) (last_part k (part_of types) c.pop.new.self.items c.in-Some.shape (built_of types c.shapes.made)))
    c.in_ok-made-2.ensures (λ types k. refl)
