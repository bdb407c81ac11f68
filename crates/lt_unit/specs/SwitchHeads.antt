-- What the operand of a `switch` gives, C11 6.8.4.2, and how `switch` and `return` end.
use Rattle.std.specs.Prelude.{ℕ, List, Option, ◌++◌}
use Rattle.lt_model.specs.declared.scalar.DataModel.{DataModel}
use Rattle.lt_model.specs.declared.scalar.Scalar.{Scalar}
use Rattle.lt_tree.specs.Typing.Types.{CType, is_integer}
use Rattle.lt_tree.specs.Typing.Rules.{Rule, unless, bad_case}
use Rattle.lt_tree.specs.Typing.TypedTree as e
use Rattle.lt_tree.specs.Typing.ValueView.{value_of}
use Rattle.lt_tree.specs.Typing.Expressions.{Typed, own_type}
use Rattle.lt_tree.specs.Typing.StatementTyping as typing
use Rattle.lt_tree.specs.Typing.Steps.{Walk, ◌>>◌, gives, settle}
use Rattle.lt_unit.specs.declared.statement.head.SwitchHead.{SwitchHead}

pub record Head : Type 0 where
  pub type : Option Scalar
  pub faults : List Rule
  pub value : e.Value

abbrev pub head_of : List CType → SwitchHead → Head
head_of types it = record { type = it.ty; faults = it.faults; value = value_of types it.value.value }

abbrev pub switch_head : DataModel → Typed → Head
switch_head m x = record {
  type = typing.switch_type m x;
  faults = typing.test_faults x ++ unless (is_integer (own_type x)) bad_case;
  value = typing.switch_value m x;
}

abbrev pub head_end : ℕ → List Rule → e.Value → e.Cases → Walk e.Statement
head_end node faults operand list = settle node faults >> gives (e.Switch operand list)

abbrev pub return_end : ℕ → CType → Option Typed → Walk e.Statement
return_end node result x = settle node (typing.return_faults result x) >> gives (e.Return (typing.returned result x))
