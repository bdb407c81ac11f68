-- What an operator gives on two `Num`s: which of their members it takes, and the table's numbers of these.
use Rattle.std.specs.Prelude.{ℤ, pos, ◌≤ℤ◌, ◌<ℤ◌, ◌≢◌}
use Rattle.lt_model.specs.declared.operator.Op.{Op}
use Rattle.lt_model.specs.declared.operator.Op.TheVariants as O
use Rattle.lt_model.specs.declared.scalar.DataModel.{DataModel}
use Rattle.lt_model.specs.declared.scalar.Scalar.{Scalar}
use Rattle.lt_model.specs.Scalar.{width_of, IsValue}
use Rattle.lt_value.specs.declared.num.Num.{Num}
use Rattle.lt_value.specs.Num.{Holds, IsLeast}
use Rattle.lt_value.specs.Table.{IsResult}

-- on the left, values of the type, and no negative ones under `<<`
abbrev pub TakesLeft : DataModel → Op → Scalar → ℤ → Type 0
TakesLeft m O.Shl s x = IsValue m s x × (pos 0 ≤ℤ x)
TakesLeft m o s x = IsValue m s x

abbrev pub IsDivisor : DataModel → Scalar → ℤ → Type 0
IsDivisor m s y = IsValue m s y × (y ≢ pos 0)

abbrev pub IsCount : DataModel → Scalar → ℤ → Type 0
IsCount m s y = (pos 0 ≤ℤ y) × (y <ℤ pos (width_of m s))

-- on the right, values of the type, and no zero divisors; of a shift's counts, which may have any type, those from 0 to w - 1
abbrev pub TakesRight : DataModel → Op → Scalar → ℤ → Type 0
TakesRight m O.Div s y = IsDivisor m s y
TakesRight m O.Rem s y = IsDivisor m s y
TakesRight m O.Shl s y = IsCount m s y
TakesRight m O.Shr s y = IsCount m s y
TakesRight m o s y = IsValue m s y

abbrev pub IsTakenFrom : Num → (ℤ → Type 0) → ℤ → Type 0
IsTakenFrom n takes z = Holds n z × takes z

-- some members of n are taken, and p is the least `Num` of these
pub record IsOperand (n : Num) (takes : ℤ → Type 0) (p : Num) : Type 0 where
  pub some : (z : ℤ) × IsTakenFrom n takes z
  pub least : IsLeast (IsTakenFrom n takes) p

-- z is among what the operator gives on the members that it takes
pub record IsForward (m : DataModel) (o : Op) (s : Scalar) (a b : Num) (z : ℤ) : Type 0 where
  pub left : Num
  pub right : Num
  pub left_is : IsOperand a (TakesLeft m o s) left
  pub right_is : IsOperand b (TakesRight m o s) right
  pub result : IsResult m o s left right z

-- what the ends of the operand on the right are
abbrev pub IsRightEnd : DataModel → Op → Scalar → ℤ → Type 0
IsRightEnd m O.Shl s y = IsCount m s y
IsRightEnd m O.Shr s y = IsCount m s y
IsRightEnd m o s y = IsValue m s y

-- the operand on the left, and that its ends are taken
pub record IsLeftTaken (m : DataModel) (o : Op) (s : Scalar) (n p : Num) : Type 0 where
  pub operand : IsOperand n (TakesLeft m o s) p
  pub lo : TakesLeft m o s p.lo
  pub hi : TakesLeft m o s p.hi

pub record IsRightTaken (m : DataModel) (o : Op) (s : Scalar) (n p : Num) : Type 0 where
  pub operand : IsOperand n (TakesRight m o s) p
  pub lo : IsRightEnd m o s p.lo
  pub hi : IsRightEnd m o s p.hi

-- two sets as an operator takes them
pub record AreTaken (m : DataModel) (o : Op) (s : Scalar) (p q : Num) : Type 0 where
  pub left_lo : TakesLeft m o s p.lo
  pub left_hi : TakesLeft m o s p.hi
  pub right_lo : IsRightEnd m o s q.lo
  pub right_hi : IsRightEnd m o s q.hi
  pub right_some : (y : ℤ) × IsTakenFrom q (TakesRight m o s) y
