use Rattle.std.proofs.Common.{◌≡◌}
use Rattle.lt_placing.proofs.Bodies.{LeadingSoFar}
use Rattle.lt_placing.proofs.unit.leading_len.Given as goal

abbrev pub invariant-items : goal.invariant-items
invariant-items l = record { counted : l.len ≡ l.item-index; leading : LeadingSoFar l.list l.item-index }
