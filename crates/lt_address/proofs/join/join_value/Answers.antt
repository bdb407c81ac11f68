use Rattle.lt_address.proofs.Parts.{value_join}
use Rattle.lt_address.proofs.join.join_value.Goals as goal

pub returns : goal.returns
returns c = value_join c.args.a.now c.args.b.now _ c.join_numbers.ensures (rw (c.as_slice.ensures.value, c.as_slice-2.ensures.value) at c.in_ok-list.ensures.joined) c.either.ensures c.either-2.ensures c.either-3.ensures
