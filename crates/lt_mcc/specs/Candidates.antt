-- Decisions before which labels for combinations of their clauses may stand.
use Rattle.std.specs.Prelude.{Bool, ◌&&◌, if◌then◌else◌, List, [], Option, Some, None}
use Rattle.lt_tree.specs.Tree as c
use Rattle.lt_tree.specs.Nodes.{Node, an_expression}
use Rattle.lt_objectives.specs.Copies.{is_core}
use Rattle.lt_mcc.specs.declared.combination.Combination.{Combination}
use Rattle.lt_mcc.specs.Combinations.{combined}

-- an expression without marks around it
abbrev pub core_in : Node → Option c.Expression
core_in (an_expression e) = if is_core e then Some e else None
core_in node = None

-- that of a node where labels may stand, where a decision is, and of which predicates may copy each node
abbrev pub candidate : Node → (is_open is_decision fits : Bool) → Option c.Expression
candidate node is_open is_decision fits = if is_open && is_decision && fits then core_in node else None

-- the predicates in front of it
abbrev pub predicates : Combination → Option c.Expression → List c.Expression
predicates combination None = []
predicates combination (Some e) = combined combination e
