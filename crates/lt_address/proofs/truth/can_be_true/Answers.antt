use Rattle.lt_address.proofs.Parts.{true_by_target, true_by_number}
use Rattle.lt_address.proofs.truth.can_be_true.Goals as goal

pub returns-then-not-no_targets : goal.returns-then-not-no_targets
returns-then-not-no_targets c = true_by_target c.args.value.now c.no_targets.result c.if-not-no_targets.true (rw c.as_slice.ensures.value at c.no_targets.ensures)

pub returns-in-Some : goal.returns-in-Some
returns-in-Some c = true_by_number c.args.value.now c.in-Some.n c.has_other.result c.in-Some.is c.if-value.false ((rw c.as_slice.ensures.value at c.no_targets.ensures).0 c.if-not-no_targets.false) c.has_other.ensures
