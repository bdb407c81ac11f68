-- The numbers that typing gives to nodes are their places in the walk of `Nodes`.
use Rattle.std.specs.Prelude.{◌≡◌, ℕ, ◌+◌, ◌<◌, ◌≤◌, Bool, List, length}
use Rattle.lt_model.specs.declared.scalar.DataModel.{DataModel}
use Rattle.lt_tree.specs.Tree as c
use Rattle.lt_tree.specs.Nodes.{Node, nodes, in_expression, in_mark, in_initialiser, in_declaration, in_statement, in_external}
use Rattle.lt_tree.specs.Typing.Types.{CType}
use Rattle.lt_tree.specs.Typing.Rules.{Rule}
use Rattle.lt_tree.specs.Typing.Entities.{Known}
use Rattle.lt_tree.specs.Typing.Steps.{Outcome, Goes, Breaks}
use Rattle.lt_tree.specs.Typing.Expressions.{Use}
use Rattle.lt_tree.specs.Typing.ExpressionTyping.{expression, mark}
use Rattle.lt_tree.specs.Typing.InitialiserTyping.{Judges, object_initialiser}
use Rattle.lt_tree.specs.Typing.DeclarationTyping.{declaration}
use Rattle.lt_tree.specs.Typing.StatementTyping.{Around, statement}
use Rattle.lt_tree.specs.Typing.UnitTyping.{external, BreaksFirst}

-- Going over a part with these nodes ends behind the last of them, and a rule that it breaks is broken at one of them.
abbrev pub GoesOver : {A : Type 0} → List Node → Known → Outcome A → Type 0
GoesOver over known (Goes a behind) = behind.next ≡ known.next + length over
GoesOver over known (Breaks rule node) = (known.next ≤ node) × (node < known.next + length over)

-- Each part is gone over so, wherever it stands.
abbrev pub PartsAreNumbered : Type 0
PartsAreNumbered =
    ((it : c.Expression) (role : Use) (known : Known) → GoesOver (in_expression it) known (expression it role known))
    × ((it : c.Mark) (known : Known) → GoesOver (in_mark it) known (mark it known))
    × ((it : c.Initialiser) (is_static : Bool) (t : CType) (judge : Judges) (known : Known) → GoesOver (in_initialiser it) known (object_initialiser is_static t judge it known))
    × ((it : c.Declaration) (known : Known) → GoesOver (in_declaration it) known (declaration it known))
    × ((it : c.Statement) (around : Around) (known : Known) → GoesOver (in_statement it) known (statement it around known))
    × ((it : c.External) (known : Known) → GoesOver (in_external it) known (external it known))

-- A rule that a unit breaks is broken at one of its nodes.
abbrev pub BrokenNodesAreThere : Type 0
BrokenNodesAreThere = (model : DataModel) (unit : c.Unit) (rule : Rule) (node : ℕ) → BreaksFirst model unit rule node → node < length (nodes unit)
