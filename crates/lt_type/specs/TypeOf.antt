-- The type of an expression.
use Rattle.lt_tree.specs.Tree as c
use Rattle.lt_tree.specs.Typing.Types.{CType}
use Rattle.lt_tree.specs.Typing.Steps.{Walk, ◌>>=◌, gives}
use Rattle.lt_tree.specs.Typing.Expressions.{as_value, own_type}
use Rattle.lt_tree.specs.Typing.ExpressionTyping as typing

-- of one whose value is wanted
abbrev pub type_of : c.Expression → Walk CType
type_of e = typing.expression e as_value >>= (λ x. gives (own_type x))
