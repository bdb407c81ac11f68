-- Expressions before which labels for mutants may stand.
use Rattle.std.specs.Prelude.{ℕ, Bool, ◌&&◌, if◌then◌else◌, List, [], map, Option, Some, None}
use Rattle.lt_tree.specs.Tree as c
use Rattle.lt_tree.specs.Erasure.{erased}
use Rattle.lt_tree.specs.Nodes.{Node, an_expression}
use Rattle.lt_tree.specs.Typing.Programs.{Program}
use Rattle.lt_objectives.specs.declared.criteria.Criterion.{Criterion}
use Rattle.lt_objectives.specs.Decisions.{inequality}
use Rattle.lt_objectives.specs.Copies.{is_core, is_pure_without_marks}
use Rattle.lt_objectives.specs.Objectives.{mutants}

-- an expression without marks around it
abbrev pub core_in : Node → Option c.Expression
core_in (an_expression e) = if is_core e then Some e else None
core_in node = None

-- that of a node where labels may stand, where expressions stand for their values, and of which predicates may copy each node
abbrev pub candidate : Node → (is_open is_value fits : Bool) → Option c.Expression
candidate node is_open is_value fits = if is_open && is_value && fits then core_in node else None

-- the predicates of a criterion in front of it
abbrev pub predicates : c.Unit → Program → Criterion → ℕ → Option c.Expression → List c.Expression
predicates unit program criterion k None = []
predicates unit program criterion k (Some e) = if is_pure_without_marks e then map (inequality (erased e)) (mutants unit program criterion k e (erased e)) else []
