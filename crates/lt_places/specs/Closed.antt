-- Which nodes are closed to labels because a part begins with them.
use Rattle.std.specs.Prelude.{ℕ, ◌-◌, max, ◌==◌, Bool, true, false, if◌then◌else◌, List, [], ◌∷◌}
use Rattle.std.specs.List.{list_any}
use Rattle.lt_tree.specs.Tree as c
use Rattle.lt_tree.specs.Nodes.{Node, an_external, a_declared_item, a_statement, an_expression, a_mark}
use Rattle.lt_objectives.specs.Places.{storage_of, makes_static, makes_static_in_for}
use Rattle.lt_sites.specs.Sites.{Sized}

-- no label stands in the whole part of the node; of an expression with what it is as a constant
abbrev pub is_closed : Node → Bool → Bool
is_closed (an_external (c.Declared d)) constant = true
is_closed (an_expression (c.SizeofExpr e)) constant = true
is_closed (an_expression (c.SizeofType s d)) constant = true
is_closed (an_expression e) constant = constant
is_closed (a_mark m) constant = true
is_closed node constant = false

-- how many nodes behind a node, of so many in its part and so many before the first `;`, are those of a static declaration
abbrev pub static_behind : Node → ℕ → ℕ → ℕ
static_behind (a_declared_item d) size head = if list_any makes_static (storage_of d.specifiers) then size - 1 else 0
static_behind (a_statement (c.For (c.Declares d) test step x)) size head = if list_any makes_static_in_for (storage_of d.specifiers) then head else 0
static_behind node size head = 0

-- how many nodes are closed from a node on, where so many are because of those before it
abbrev pub closed_from : ℕ → Sized → Bool → ℕ
closed_from closed site constant = max closed (if is_closed site.node constant then site.size else 0)

-- the same of the node behind it
abbrev pub closed_next : ℕ → Sized → ℕ
closed_next here site = max (here - 1) (static_behind site.node site.size site.head)

-- which of these nodes are open
abbrev pub opens : ℕ → List Sized → List Bool → List Bool
opens closed [] constants = []
opens closed (site ∷ sites) [] = []
opens closed (site ∷ sites) (constant ∷ constants) = (closed_from closed site constant == 0) ∷ opens (closed_next (closed_from closed site constant) site) sites constants
