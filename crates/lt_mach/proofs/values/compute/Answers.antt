use Rattle.std.proofs.Common.{◌∙◌}
use Rattle.lt_mach.proofs.values.compute.Goals as goal

pub returns-in-Constant : goal.returns-in-Constant
returns-in-Constant c = λ structs g code e h. rw c.in-Constant.is (c.constant.ensures _ g code c.in-Constant.next)

pub returns-in-Move : goal.returns-in-Move
returns-in-Move c = λ structs g code e h. rw c.in-Move.is (c.move_address.ensures g code c.in-Move.next)

pub returns-in-Subtract : goal.returns-in-Subtract
returns-in-Subtract c = λ structs g code e h. rw c.in-Subtract.is (c.subtract.ensures g code c.in-Subtract.next)

pub returns-in-Apply : goal.returns-in-Apply
returns-in-Apply c = λ structs g code e h. rw c.in-Apply.is (c.apply_to.ensures _ g code c.in-Apply.next (e ∙ c.requires.model))

pub returns-in-Compare : goal.returns-in-Compare
returns-in-Compare c = λ structs g code e h. rw c.in-Compare.is (c.compare.ensures g code c.in-Compare.next)

pub returns-in-Convert : goal.returns-in-Convert
returns-in-Convert c = λ structs g code e h. rw c.in-Convert.is (c.convert_to.ensures g code c.in-Convert.next e)
