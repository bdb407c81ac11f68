use Rattle.std.proofs.Common.{arith}
use Rattle.std.proofs.lemmas.Int.{ints}
use Rattle.lt_value.proofs.progression.single.Goals as goal

pub returns : goal.returns
returns c = λ y. (
  λ h. omega (arith, ints, ((c.between.ensures y).0 h).0, ((c.between.ensures y).0 h).1),
  λ e. (c.between.ensures y).1 (omega (arith, ints), omega (arith, ints)),
)
