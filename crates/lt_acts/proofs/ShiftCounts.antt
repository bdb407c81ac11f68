-- The right operand of a shift is a value of some type.
use Rattle.std.specs.Bool.{OnTrue}
use Rattle.std.proofs.Common.{sym, rules, ◌≡◌, ℤ, Bool, true, false}
use Rattle.std.specs.Prelude.{IsTrue, pos, negsuc}
use Rattle.std.proofs.Common.{inr}
use Rattle.lt_model.specs.declared.scalar.DataModel.{DataModel}
use Rattle.lt_model.specs.declared.scalar.Scalar.{Scalar}
use Rattle.lt_model.specs.declared.scalar.Scalar.TheVariants as S
use Rattle.lt_model.specs.declared.operator.Op.{Op}
use Rattle.lt_model.specs.Operators.{IsRightOperand, IsShift}
use Rattle.lt_ir.specs.Evaluation.{is_integer}

pub shift_right : (m : DataModel) (o : Op) (s : Scalar) (z : ℤ) → IsShift o → IsTrue (is_integer z) → IsRightOperand m o s z
shift_right m o s (pos n) h i = inr (h, (S.ULLong, record { above = search rules; below = search rules }))
shift_right m o s (negsuc n) h i = inr (h, (S.LLong, record { above = search rules; below = search rules }))

pub counts : (m : DataModel) (o : Op) (s : Scalar) (z : ℤ) (b : Bool) → IsShift o → b ≡ is_integer z → OnTrue b (IsRightOperand m o s z)
counts m o s z true h e = shift_right m o s z h (sym e)
counts m o s z false h e = tt
