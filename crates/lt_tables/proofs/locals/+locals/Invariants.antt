use Rattle.std.proofs.Common.{◌≡◌, ◌++◌, List, take}
use Rattle.lt_tree.specs.Typing.Types.{CType}
use Rattle.lt_tree.specs.Typing.StatementView.{items_in, cases_in}
use Rattle.lt_meaning.specs.Runs.{locals_of, locals_among}
use Rattle.lt_tables.proofs.locals.+locals.Given as goal

abbrev pub invariant-put_cases-loop-case : goal.invariant-put_cases-loop-case
invariant-put_cases-loop-case l = (types : List CType) → l.locals.items ≡ l.initial.locals.items ++ locals_among (cases_in types (take l.case-index l.cases))

abbrev pub invariant-put_items-loop-item : goal.invariant-put_items-loop-item
invariant-put_items-loop-item l = (types : List CType) → l.locals.items ≡ l.initial.locals.items ++ locals_of (items_in types (take l.item-index l.items))
