use Rattle.lt_address.specs.Value.{null, ended, unset}
use Rattle.lt_address.proofs.Parts.{something, nothing_by_targets}
use Rattle.lt_address.proofs.order.is_nothing.Goals as goal
use Rattle.lt_address.proofs.order.is_nothing.Goals.{then-value-via-then-value, then-value-via-else-value+then-value-2, then-value-via-else-value+else-value-2+then-value-3}

pub returns-then-value : goal.returns-then-value
returns-then-value c = (
  λ h. cc,
  λ h. elim c.then-value.branch [
    | then-value-via-then-value w ↦ absurd (h null w.if-value.true)
    | then-value-via-else-value+then-value-2 w ↦ absurd (h ended w.if-value-2.true)
    | then-value-via-else-value+else-value-2+then-value-3 w ↦ absurd (h unset w.if-value-3.true)
  ],
)

pub returns-in-Some : goal.returns-in-Some
returns-in-Some c = something c.args.value.now c.in-Some.field-0 c.in-Some.is

pub returns-in-None : goal.returns-in-None
returns-in-None c = nothing_by_targets c.args.value.now c.no_targets.result c.if-value.false c.if-value-2.false c.if-value-3.false c.in-None.is (rw c.as_slice.ensures.value at c.no_targets.ensures)
