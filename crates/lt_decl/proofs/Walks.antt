-- Walks over trees that are put together of others.
use Rattle.std.proofs.Common.{◌≡◌, Option, Some, None, refl}
use Rattle.lt_tree.specs.Tree as c
use Rattle.lt_expr.specs.Walk.{Walked}
use Rattle.lt_decl.specs.Items.{Item, declared, stated, marked, item_before, start_by}
use Rattle.lt_decl.specs.Walk.{walk_optional, walk_start, walk_items, walk_item}

-- a walk over items, whatever the first one is
pub item_walk : (i : Item) (items : c.Items) (w : Walked) → walk_items (item_before i items) w ≡ walk_item i (walk_items items w)
item_walk (declared d) items w = refl
item_walk (stated x) items w = refl
item_walk (marked m) items w = refl

-- a walk over the start of a `for` that is an expression, or nothing
pub start_walk : (x : Option c.Expression) (w : Walked) → walk_start (start_by x) w ≡ walk_optional x w
start_walk None w = refl
start_walk (Some e) w = refl
