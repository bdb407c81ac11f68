use Rattle.lt_expr.proofs.Sound.{read_is_derived}
use Rattle.lt_expr.proofs.laws.read_is_derived.Goals as goal

pub returns : goal.returns
returns c scope ts rest e ends is = read_is_derived scope ts rest e ends is
