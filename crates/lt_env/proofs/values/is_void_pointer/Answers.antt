use Rattle.std.proofs.Common.{ap, ◌∙◌}
use Rattle.lt_tree.specs.Typing.Types.{Pointer, same}
use Rattle.lt_tree.specs.Typing.TypeRows.{type_in}
use Rattle.lt_env.proofs.Judgements.{stays_on, stays_in}
use Rattle.lt_env.proofs.values.is_void_pointer.Goals as goal

pub returns-in-Some-clause-made : goal.returns-in-Some-clause-made
returns-in-Some-clause-made c = λ longer more.
    stays_in c.table.ensures c.in-Some.ensures.value longer more
    ∙ ap (same (type_in longer c.args.t)) (c.in_ok-pointer.ensures.made longer more ∙ ap Pointer (stays_on c.in_ok-pointer.ensures.widens c.in_ok-void.ensures.made longer more))
