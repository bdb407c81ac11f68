use Rattle.std.proofs.Common.{◌≡◌, take, vec_len}
use Rattle.std.specs.Vec.{vec_capacity}
use Rattle.lt_lin.specs.Terms.{scaled}
use Rattle.lt_lin.proofs.adding.push_quotients.Given as goal

abbrev pub invariant-terms : goal.invariant-terms
invariant-terms l = record {
  items : take l.x-index l.terms ≡ scaled l.divisor l.new.items;
  len : vec_len l.new ≡ l.x-index;
  capacity : vec_capacity l.new ≡ vec_capacity l.fn.new;
}
