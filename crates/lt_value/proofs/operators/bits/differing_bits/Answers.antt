use Rattle.std.specs.Prelude.{bit_xor}
use Rattle.lt_value.specs.Entry.{written}
use Rattle.lt_value.specs.Table.{or_row}
use Rattle.lt_value.proofs.MadeBits.{exact_made, exact_none, row_made, ends_code}
use Rattle.lt_value.proofs.operators.bits.differing_bits.Goals as goal

pub returns-then-are_single-clause-some : goal.returns-then-are_single-clause-some
returns-then-are_single-clause-some c =
    exact_made bit_xor c.args.model c.args.ty c.args.a.now c.args.b.now (or_row c.args.model c.args.ty (written c.args.a.now) (written c.args.b.now)) c.are_single.result _ c.exact.result
    c.are_single.ensures c.if-are_single.true (ends_code bit_xor c.args.model c.args.ty c.args.a.now c.args.b.now) c.exact.ensures.some

pub returns-then-are_single-clause-none : goal.returns-then-are_single-clause-none
returns-then-are_single-clause-none c = exact_none _ _ c.exact.result c.exact.ensures.none

pub returns-else-are_single-clause-some : goal.returns-else-are_single-clause-some
returns-else-are_single-clause-some c =
    row_made bit_xor c.args.model c.args.ty c.args.a.now c.args.b.now c.below_mask.result (or_row c.args.model c.args.ty (written c.args.a.now) (written c.args.b.now)) c.are_single.result
    c.are_single.ensures c.if-are_single.false c.below_mask.ensures
