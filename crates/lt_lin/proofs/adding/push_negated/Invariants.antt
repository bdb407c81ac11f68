use Rattle.std.proofs.Common.{◌≡◌, take, vec_len}
use Rattle.std.specs.Vec.{vec_capacity}
use Rattle.lt_lin.specs.Terms.{negated}
use Rattle.lt_lin.proofs.adding.push_negated.Given as goal

abbrev pub invariant-terms : goal.invariant-terms
invariant-terms l = record {
  items : l.new.items ≡ negated (take l.x-index l.terms);
  len : vec_len l.new ≡ l.x-index;
  capacity : vec_capacity l.new ≡ vec_capacity l.fn.new;
}
