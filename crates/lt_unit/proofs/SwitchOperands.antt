-- The value of the operand of a `switch`, by its integer type.
use Rattle.std.proofs.Common.{◌≡◌, if◌then◌else◌, List, Some, None, Result, Ok, Err, IfOk, refl, ap, ◌∙◌}
use Rattle.std.specs.Global.{Box}
use Rattle.std.specs.Prelude.{is_some, unwrap_or}
use Rattle.lt_model.specs.declared.scalar.DataModel.{DataModel}
use Rattle.lt_model.specs.declared.scalar.Scalar.{Scalar}
use Rattle.lt_model.specs.declared.scalar.Scalar.TheVariants as S
use Rattle.lt_model.specs.Conversions.{promoted}
use Rattle.lt_tree.specs.declared.typed.tree.Value.{Value}
use Rattle.lt_tree.specs.declared.typed.types.TypeRow.{TypeRow}
use Rattle.lt_tree.specs.Typing.TypedTree as e
use Rattle.lt_tree.specs.Typing.ValueView.{value_of}
use Rattle.lt_tree.specs.Typing.Types.{CType, Num, Qualified, scalar_of, is_integer}
use Rattle.lt_tree.specs.Typing.Types as types
use Rattle.lt_tree.specs.Typing.Expressions.{Typed, own_type, value_in, converted_to}
use Rattle.lt_tree.specs.Typing.Operations.{promoted_value}
use Rattle.lt_tree.specs.Typing.StatementTyping.{switch_value}
use Rattle.lt_table.specs.TableRows.{Stays}

integer_is : (t : CType) → is_integer t ≡ is_some (scalar_of t)
integer_is (Num s) = refl
integer_is (Qualified q t) = integer_is t
integer_is types.Void = refl
integer_is (types.Pointer t) = refl
integer_is (types.Array t n) = refl
integer_is (types.Struct n) = refl
integer_is (types.Function t ts dots) = refl
integer_is types.Floating = refl

pub switch_none : (m : DataModel) (x : Typed) → scalar_of (own_type x) ≡ None → switch_value m x ≡ value_in x
switch_none m x e = ap (λ b. if b then promoted_value m x else value_in x) (integer_is (own_type x) ∙ ap is_some e)

pub switch_some : (m : DataModel) (x : Typed) (s : Scalar) → scalar_of (own_type x) ≡ Some s → switch_value m x ≡ converted_to (Num (promoted m s)) (value_in x)
switch_some m x s e =
    ap (λ b. if b then promoted_value m x else value_in x) (integer_is (own_type x) ∙ ap is_some e)
    ∙ ap (λ o. converted_to (Num (promoted m (unwrap_or o S.Int))) (value_in x)) e

-- the same value, said in another way
pub value_so : {E : Type 0} (r : Result (Box Value) E) (rows : List TypeRow) (f g : List CType → e.Value) → Stays rows (λ longer. f longer ≡ g longer)
    → IfOk r (λ v. Stays rows (λ longer. value_of longer v.value ≡ f longer)) → IfOk r (λ v. Stays rows (λ longer. value_of longer v.value ≡ g longer))
value_so (Ok v) rows f g same is = λ longer more. is longer more ∙ same longer more
value_so (Err stop) rows f g same is = tt
