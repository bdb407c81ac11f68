use Rattle.std.proofs.Common.{◌+◌, ◌*◌, max, false, [], drop}
use denote.Param.Weighed.{most}
use Rattle.lt_tree.specs.declared.statement.Stmt.{size-Stmt}
use Rattle.lt_tree.specs.declared.statement.SwitchCase.{size-SwitchCase}
use Rattle.lt_tree.specs.UnitView.{items_in, cases_in}
use Rattle.lt_tree.specs.Typing.Steps.{gives}
use Rattle.lt_tree.specs.Typing.StatementView as view
use Rattle.lt_tree.specs.Typing.StatementTyping as typing
use Rattle.lt_type.proofs.Turns.{Turning, before}
use Rattle.lt_unit.specs.UnitViews.{around_of}
use Rattle.lt_unit.proofs.CaseTurns.{case_before}
use Rattle.lt_unit.proofs.+statements.Given as goal

abbrev pub invariant-items::items-list : goal.invariant-items::items-list
invariant-items::items-list l = Turning l.initial.walker l.walker (λ types. typing.items (items_in l.list) (around_of types l.around)) (λ types. typing.items (items_in (drop l.item-index l.list)) (around_of types l.around))
    (λ types r. gives (before (view.item_before types) l.all.items r))

abbrev pub invariant-cases::cases-list : goal.invariant-cases::cases-list
invariant-cases::cases-list l = Turning l.initial.walker l.walker (λ types. typing.cases (cases_in l.list) l.ty (record { values = []; has_default = false }) (around_of types l.around)) (λ types. typing.cases (cases_in (drop l.one-index l.list)) l.ty l.seen (around_of types l.around))
    (λ types r. gives (before (case_before types) l.all.items r))

-- ---- measures: the depth of what is gone over, and which function calls which at the same depth

abbrev pub decreases-statement::statement : goal.decreases-statement::statement
decreases-statement::statement l = 8 * goal.size-statement::statement l

abbrev pub decreases-statement::in_its_block : goal.decreases-statement::in_its_block
decreases-statement::in_its_block l = 8 * goal.size-statement::in_its_block l + 1

abbrev pub decreases-statement::compound : goal.decreases-statement::compound
decreases-statement::compound l = 8 * goal.size-statement::compound l + 2

abbrev pub decreases-statement::if_alone : goal.decreases-statement::if_alone
decreases-statement::if_alone l = 8 * size-Stmt l.body.now + 3

abbrev pub decreases-statement::while_loop : goal.decreases-statement::while_loop
decreases-statement::while_loop l = 8 * size-Stmt l.body.now + 3

abbrev pub decreases-statement::do_loop : goal.decreases-statement::do_loop
decreases-statement::do_loop l = 8 * goal.size-statement::do_loop l + 3

abbrev pub decreases-statement::for_loop : goal.decreases-statement::for_loop
decreases-statement::for_loop l = 8 * goal.size-statement::for_loop l + 3

abbrev pub decreases-statement::switch : goal.decreases-statement::switch
decreases-statement::switch l = 8 * most size-SwitchCase l.list.now + 3

abbrev pub decreases-statement::if_inside : goal.decreases-statement::if_inside
decreases-statement::if_inside l = 8 * size-Stmt l.body.now + 2

abbrev pub decreases-statement::while_inside : goal.decreases-statement::while_inside
decreases-statement::while_inside l = 8 * size-Stmt l.body.now + 2

abbrev pub decreases-statement::do_inside : goal.decreases-statement::do_inside
decreases-statement::do_inside l = 8 * goal.size-statement::do_inside l + 2

abbrev pub decreases-statement::for_inside : goal.decreases-statement::for_inside
decreases-statement::for_inside l = 8 * goal.size-statement::for_inside l + 2

abbrev pub decreases-statement::switch_inside : goal.decreases-statement::switch_inside
decreases-statement::switch_inside l = 8 * most size-SwitchCase l.list.now + 2

abbrev pub decreases-statement::if_else : goal.decreases-statement::if_else
decreases-statement::if_else l = 8 * max (size-Stmt l.body.now) (size-Stmt l.other.now) + 3

abbrev pub decreases-statement::if_else_inside : goal.decreases-statement::if_else_inside
decreases-statement::if_else_inside l = 8 * max (size-Stmt l.body.now) (size-Stmt l.other.now) + 2

abbrev pub decreases-items::items : goal.decreases-items::items
decreases-items::items l = 8 * goal.size-items::items l + 1

abbrev pub decreases-items::one : goal.decreases-items::one
decreases-items::one l = 8 * goal.size-items::one l

abbrev pub decreases-items::performed : goal.decreases-items::performed
decreases-items::performed l = 8 * goal.size-items::performed l + 2

abbrev pub decreases-cases::cases : goal.decreases-cases::cases
decreases-cases::cases l = 8 * goal.size-cases::cases l + 1

abbrev pub decreases-cases::one_case : goal.decreases-cases::one_case
decreases-cases::one_case l = 8 * goal.size-cases::one_case l
