use Rattle.std.proofs.Common.{sym, ◌∙◌, inr}
use Rattle.lt_judge.proofs.Shifts.{shift_is}
use Rattle.lt_judge.proofs.binary.integers.operation_types.Goals as goal

pub returns-then-is_shift-clause-shift : goal.returns-then-is_shift-clause-shift
returns-then-is_shift-clause-shift c = inr (shift_is c.args.op (sym c.is_shift.ensures ∙ c.if-is_shift.true))
