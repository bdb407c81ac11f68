-- Which terminals are operators, and how tightly they bind, C11 6.5.
use Rattle.std.specs.Prelude.{ℕ, Option, Some, None}
use Rattle.lt_model.specs.declared.operator.Op.{Op}
use Rattle.lt_model.specs.declared.operator.Op.TheVariants as op
use Rattle.lt_tree.specs.declared.expression.UnaryOp.{UnaryOp}
use Rattle.lt_tree.specs.declared.expression.UnaryOp.TheVariants as unary
use Rattle.lt_tree.specs.declared.expression.LogicalOp.{LogicalOp}
use Rattle.lt_tree.specs.declared.expression.LogicalOp.TheVariants as logical
use Rattle.lt_tree.specs.declared.specifier.Storage.{Storage}
use Rattle.lt_tree.specs.declared.specifier.Storage.TheVariants as storage
use Rattle.lt_tree.specs.declared.specifier.TypeWord.{TypeWord}
use Rattle.lt_tree.specs.declared.specifier.TypeWord.TheVariants as word
use Rattle.lt_tree.specs.declared.terminal.Terminal.{Terminal}
use Rattle.lt_tree.specs.declared.terminal.Terminal.TheVariants as t
use Rattle.lt_tree.specs.Tree.{Expression, Binary, Logical}

-- an operator between two operands, other than assignments and the comma
pub data Infix : Type 0 where
  arithmetic : (op : Op) → Infix
  connective : (op : LogicalOp) → Infix

abbrev pub operation : Infix → Expression → Expression → Expression
operation (arithmetic op) left right = Binary op left right
operation (connective op) left right = Logical op left right

-- the operator that a terminal is, and how tightly it binds: from `||`, which is 0, to `*`, which is 9
abbrev pub infix_of : Terminal → Option (Infix × ℕ)
infix_of t.OrOr = Some (connective logical.Or, 0)
infix_of t.AndAnd = Some (connective logical.And, 1)
infix_of t.Bar = Some (arithmetic op.Or, 2)
infix_of t.Caret = Some (arithmetic op.Xor, 3)
infix_of t.Ampersand = Some (arithmetic op.And, 4)
infix_of t.EqualEqual = Some (arithmetic op.Eq, 5)
infix_of t.NotEqual = Some (arithmetic op.Ne, 5)
infix_of t.Less = Some (arithmetic op.Lt, 6)
infix_of t.Greater = Some (arithmetic op.Gt, 6)
infix_of t.LessEqual = Some (arithmetic op.Le, 6)
infix_of t.GreaterEqual = Some (arithmetic op.Ge, 6)
infix_of t.ShiftLeft = Some (arithmetic op.Shl, 7)
infix_of t.ShiftRight = Some (arithmetic op.Shr, 7)
infix_of t.Plus = Some (arithmetic op.Add, 8)
infix_of t.Minus = Some (arithmetic op.Sub, 8)
infix_of t.Star = Some (arithmetic op.Mul, 9)
infix_of t.Slash = Some (arithmetic op.Div, 9)
infix_of t.Percent = Some (arithmetic op.Rem, 9)
infix_of _ = None

-- an operator before its operand
abbrev pub prefix_of : Terminal → Option UnaryOp
prefix_of t.Ampersand = Some unary.AddressOf
prefix_of t.Star = Some unary.Dereference
prefix_of t.Plus = Some unary.Plus
prefix_of t.Minus = Some unary.Minus
prefix_of t.Tilde = Some unary.Complement
prefix_of t.Exclamation = Some unary.Not
prefix_of _ = None

-- an assignment, with the operator that it applies first, if there is one
abbrev pub assignment_of : Terminal → Option (Option Op)
assignment_of t.Equal = Some None
assignment_of t.StarEqual = Some (Some op.Mul)
assignment_of t.SlashEqual = Some (Some op.Div)
assignment_of t.PercentEqual = Some (Some op.Rem)
assignment_of t.PlusEqual = Some (Some op.Add)
assignment_of t.MinusEqual = Some (Some op.Sub)
assignment_of t.ShiftLeftEqual = Some (Some op.Shl)
assignment_of t.ShiftRightEqual = Some (Some op.Shr)
assignment_of t.AmpersandEqual = Some (Some op.And)
assignment_of t.CaretEqual = Some (Some op.Xor)
assignment_of t.BarEqual = Some (Some op.Or)
assignment_of _ = None

-- C11 6.7.1
abbrev pub storage_of : Terminal → Option Storage
storage_of t.Typedef = Some storage.Typedef
storage_of t.Extern = Some storage.Extern
storage_of t.Static = Some storage.Static
storage_of t.Auto = Some storage.Auto
storage_of t.Register = Some storage.Register
storage_of _ = None

-- C11 6.7.2
abbrev pub type_word_of : Terminal → Option TypeWord
type_word_of t.Void = Some word.Void
type_word_of t.Char = Some word.Char
type_word_of t.Short = Some word.Short
type_word_of t.Int = Some word.Int
type_word_of t.Long = Some word.Long
type_word_of t.Float = Some word.Float
type_word_of t.Double = Some word.Double
type_word_of t.Signed = Some word.Signed
type_word_of t.Unsigned = Some word.Unsigned
type_word_of t.Bool = Some word.Bool
type_word_of _ = None
