use Rattle.std.proofs.Common.{◌≡◌, List, drop}
use Rattle.lt_tree.specs.Typing.Types.{CType}
use Rattle.lt_tree.specs.Typing.ValueView.{values_in}
use Rattle.lt_meaning.specs.Clashes as meaning
use Rattle.lt_emit.specs.Calm.{grade_of}
use Rattle.lt_emit.proofs.calm.+calm.Given as goal

abbrev pub invariant-are_of-parts : goal.invariant-are_of-parts
invariant-are_of-parts l =
    (types : List CType) → meaning.are_of (grade_of l.grade) (values_in types (drop l.part-index l.parts)) ≡ meaning.are_of (grade_of l.grade) (values_in types l.parts)
