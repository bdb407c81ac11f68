-- An operator that is tested to be a shift is one.
use Rattle.std.proofs.Common.{◌≡◌, true}
use Rattle.lt_model.specs.declared.operator.Op.{Op}
use Rattle.lt_model.specs.declared.operator.Op.TheVariants as O
use Rattle.lt_model.specs.Operators.{IsShift}
use Rattle.lt_tree.specs.Typing.Operands.{is_shift}

pub shift_is : (o : Op) → is_shift o ≡ true → IsShift o
shift_is O.Shl e = tt
shift_is O.Shr e = tt
shift_is O.Add e = cc
shift_is O.Sub e = cc
shift_is O.Mul e = cc
shift_is O.Div e = cc
shift_is O.Rem e = cc
shift_is O.And e = cc
shift_is O.Or e = cc
shift_is O.Xor e = cc
shift_is O.Lt e = cc
shift_is O.Le e = cc
shift_is O.Gt e = cc
shift_is O.Ge e = cc
shift_is O.Eq e = cc
shift_is O.Ne e = cc
