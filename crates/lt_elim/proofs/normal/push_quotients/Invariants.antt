use Rattle.std.proofs.Common.{◌≡◌, take, vec_len, map}
use Rattle.std.specs.Vec.{vec_capacity}
use Rattle.std.specs.Int.{int_div_euclid}
use Rattle.lt_elim.proofs.normal.push_quotients.Given as goal

abbrev pub invariant-terms : goal.invariant-terms
invariant-terms l = record {
  items : l.new.items ≡ map (λ t. (t.0, int_div_euclid t.1 l.divisor)) (take l.x-index l.terms);
  len : vec_len l.new ≡ l.x-index;
  capacity : vec_capacity l.new ≡ vec_capacity l.fn.new;
}
