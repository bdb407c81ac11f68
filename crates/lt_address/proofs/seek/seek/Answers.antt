use Rattle.std.proofs.Common.{arith}
use Rattle.lt_address.proofs.Pointing.{sought_along, sought_here, sought_beyond, sought_next}
use Rattle.lt_address.proofs.seek.seek.Goals as goal

pub returns-then-target-block-clause-found : goal.returns-then-target-block-clause-found
returns-then-target-block-clause-found c = sought_here _ _ _ _ (sought_along _ _ _ _ _ c.in-Some.ensures.cases.0 c.targets.invariant) c.if-target-block.true

pub returns-then-block-target-clause-found : goal.returns-then-block-target-clause-found
returns-then-block-target-clause-found c = sought_beyond _ _ _ _ _ c.in-Some.ensures.cases.0 c.targets.invariant c.if-block-target.true

pub targets-preserved : goal.targets-preserved
targets-preserved c = sought_next _ _ c.in-Some.target.now _ (sought_along _ _ _ _ _ c.in-Some.ensures.cases.0 c.targets.invariant) (omega (arith, c.if-target-block.false, c.if-block-target.false))
