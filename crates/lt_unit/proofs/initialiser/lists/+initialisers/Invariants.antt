use Rattle.std.proofs.Common.{◌+◌, ◌*◌, drop}
use Rattle.lt_tree.specs.UnitView.{initialisers_in}
use Rattle.lt_tree.specs.Typing.InitialiserTyping as typing
use Rattle.lt_tree.specs.Typing.Steps.{gives}
use Rattle.lt_type.proofs.Turns.{Turning}
use Rattle.lt_unit.specs.Fillings.{filling_in}
use Rattle.lt_unit.proofs.initialiser.lists.+initialisers.Given as goal

abbrev pub invariant-initialisers-list : goal.invariant-initialisers-list
invariant-initialisers-list l = Turning l.initial.walker l.walker (λ types. typing.initialisers (initialisers_in l.list) l.is_static (filling_in types l.fn.filling))
    (λ types. typing.initialisers (initialisers_in (drop l.one-index l.list)) l.is_static (filling_in types l.filled)) (λ types t. gives t)

-- ---- measures: the depth of what is gone over, and which function calls which at the same depth

abbrev pub decreases-initialiser : goal.decreases-initialiser
decreases-initialiser l = 4 * goal.size-initialiser l

abbrev pub decreases-initialisers : goal.decreases-initialisers
decreases-initialisers l = 4 * goal.size-initialisers l + 1

abbrev pub decreases-surplus_list : goal.decreases-surplus_list
decreases-surplus_list l = 4 * goal.size-surplus_list l + 2

abbrev pub decreases-fill_list : goal.decreases-fill_list
decreases-fill_list l = 4 * goal.size-fill_list l + 2

abbrev pub decreases-in_braces : goal.decreases-in_braces
decreases-in_braces l = 4 * goal.size-in_braces l + 3
