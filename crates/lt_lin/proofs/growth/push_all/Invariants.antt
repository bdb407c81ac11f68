use Rattle.std.proofs.Common.{◌≡◌, ◌+◌, ◌++◌, take, vec_len}
use Rattle.std.specs.Vec.{vec_capacity}
use Rattle.lt_lin.proofs.growth.push_all.Given as goal

abbrev pub invariant-items : goal.invariant-items
invariant-items l = record {
  items : l.items.items ≡ l.fn.items.items ++ take l.item-index l.more;
  len : vec_len l.items ≡ vec_len l.fn.items + l.item-index;
  capacity : vec_capacity l.items ≡ vec_capacity l.fn.items;
}
