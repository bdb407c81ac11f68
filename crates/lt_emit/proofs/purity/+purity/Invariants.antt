use Rattle.std.proofs.Common.{◌≡◌, List, drop}
use Rattle.lt_tree.specs.Typing.Types.{CType}
use Rattle.lt_tree.specs.Typing.ValueView.{values_in}
use Rattle.lt_meaning.specs.Expressions as meaning
use Rattle.lt_emit.proofs.purity.+purity.Given as goal

abbrev pub invariant-are_pure-parts : goal.invariant-are_pure-parts
invariant-are_pure-parts l =
    (types : List CType) → meaning.are_pure (values_in types (drop l.part-index l.parts)) ≡ meaning.are_pure (values_in types l.parts)
