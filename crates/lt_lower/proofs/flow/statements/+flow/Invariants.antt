use denote.Param.Weighed.{most}
use Rattle.std.proofs.Common.{reverse}
use Rattle.std.specs.Prelude.{IfSome}
use Rattle.lt_tree.specs.declared.typed.statement.Case.{size-Case}
use Rattle.lt_emit.specs.Spending.{Spends}
use Rattle.lt_emit.specs.Emission.{here_of, Adds, HasPoint}
use Rattle.lt_lower.specs.Stands.{HasExits, HasArms, cases_cost, HasCases}
use Rattle.std.proofs.Common.{◌≡◌, ◌+◌, ◌*◌, max, drop, Some, slice_get}
use Rattle.lt_emit.specs.Emission.{EmitsWithin}
use Rattle.lt_lower.specs.declared.flow.Exits.{Exits as HeldExits}
use Rattle.lt_lower.specs.Stands.{EndsAlong, opened_cost, ItemsStand}
use Rattle.lt_tree.specs.declared.typed.statement.Statement.{size-Statement}
use Rattle.lt_lower.proofs.Items.{OpenFrom}
use Rattle.lt_lower.proofs.flow.statements.+flow.Given as goal

-- measures: the depth of what is gone over, and which function calls which at the same depth

abbrev pub decreases-flows : goal.decreases-flows
decreases-flows l = 8 * goal.size-flows l

abbrev pub decreases-if_alone : goal.decreases-if_alone
decreases-if_alone l = 8 * size-Statement l.body.now + 1

abbrev pub decreases-if_else : goal.decreases-if_else
decreases-if_else l = 8 * max (size-Statement l.body.now) (size-Statement l.other.now) + 1

abbrev pub decreases-turns : goal.decreases-turns
decreases-turns l = 8 * size-Statement l.body.now + 1

abbrev pub decreases-while_loop : goal.decreases-while_loop
decreases-while_loop l = 8 * size-Statement l.body.now + 2

abbrev pub decreases-do_loop : goal.decreases-do_loop
decreases-do_loop l = 8 * size-Statement l.body.now + 1

abbrev pub decreases-for_loop : goal.decreases-for_loop
decreases-for_loop l = 8 * size-Statement l.body.now + 2

abbrev pub decreases-items : goal.decreases-items
decreases-items l = 8 * goal.size-items l + 1

abbrev pub decreases-item : goal.decreases-item
decreases-item l = 8 * goal.size-item l

-- what begins at an item, where the exits of the items are there
abbrev pub invariant-items-items : goal.invariant-items-items
invariant-items-items l =
    record {
      code : EmitsWithin l.initial.b l.b l.from (opened_cost (drop l.at l.its)) (λ here it. EndsAlong l.its l.exits.items here it
          → (y : HeldExits) → slice_get l.exits.items l.at ≡ Some y → ItemsStand (drop l.at l.its) y l.from here it);
      opens : OpenFrom l.fn.b l.b l.fn.x l.its l.at l.from;
    }

abbrev pub decreases-switch : goal.decreases-switch
decreases-switch l = 8 * most size-Case l.its.now + 2

abbrev pub decreases-cases : goal.decreases-cases
decreases-cases l = 8 * goal.size-cases l + 1

abbrev pub decreases-case : goal.decreases-case
decreases-case l = 8 * goal.size-case l

-- the statements that are entered, whose arms stand in turned order
abbrev pub invariant-cases-cases : goal.invariant-cases-cases
invariant-cases-cases l =
    record {
      adds : Adds l.initial.b l.b (HasCases (drop l.at l.its) l.x l.all.from (reverse l.all.arms.items) l.all.default);
      spends : Spends (cases_cost (drop l.at l.its) (here_of l.initial.b)) l.initial.b l.b;
      exits : HasExits l.b l.x;
      within : HasPoint l.b l.all.from;
      arms : HasArms l.b (reverse l.all.arms.items);
      default : IfSome l.all.default (HasPoint l.b);
    }
