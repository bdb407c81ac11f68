use Rattle.std.proofs.Common.{◌≡◌, ◌-◌, ◌≤◌, length, drop}
use Rattle.lt_expr.proofs.typedefs.Typedefs.back_to.Given as goal

abbrev pub invariant-more : goal.invariant-more
invariant-more l = record {
  enough : l.count ≤ length l.self;
  left : l.self ≡ drop (length l.initial.self - length l.self) l.initial.self;
}

abbrev pub decreases-more : goal.decreases-more
decreases-more l = length l.self
