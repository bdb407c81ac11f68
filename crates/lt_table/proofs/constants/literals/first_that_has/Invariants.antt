use Rattle.std.proofs.Common.{◌≡◌, pos, drop}
use Rattle.lt_tree.specs.Typing.Constants.{first_that_has}
use Rattle.lt_table.proofs.constants.literals.first_that_has.Given as goal

abbrev pub invariant-loop-ty : goal.invariant-loop-ty
invariant-loop-ty l = first_that_has l.model l.decimal l.suffix (pos l.value) (drop l.ty-index l.types) ≡ first_that_has l.model l.decimal l.suffix (pos l.value) l.types
