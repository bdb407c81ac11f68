use Rattle.std.proofs.Common.{sym, subst}
use Rattle.lt_mem.specs.Cells.{AllFit, IsAscending}
use Rattle.lt_mem.proofs.Contents.{new_fit}
use Rattle.lt_mem.proofs.object.Object.new.Goals as goal

pub invariant_of-result : goal.invariant_of-result
invariant_of-result c = (λ on. subst IsAscending c.as_slice-2.ensures.value (c.ascends-ascending.ensures.0 on), subst AllFit (sym c.in_ok-cells.ensures.is) (new_fit _ _))
