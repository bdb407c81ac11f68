use Rattle.std.proofs.Common.{sym, ◌∙◌, subst, ℕ, ◌+◌, List, Option, Some, None}
use Rattle.lt_decisions.specs.declared.turn.Turn.TheVariants as turn
use Rattle.lt_decisions.specs.Walk.{Leads}
use Rattle.lt_decisions.proofs.Steps.{cursor, goes}
use Rattle.lt_decisions.proofs.walk.step.Goals as goal

pub returns-in-Skip-clause-leads : goal.returns-in-Skip-clause-leads
returns-in-Skip-clause-leads c last whole more leads =
    goes c.args.sites.now c.args.tests c.args.at c.behind-behind.result last c.args.found.now whole c.index-sites-number.result c.index-sites-number.is c.behind-behind.ensures more leads
    turn.Skip (sym c.in-Skip.is ∙ c.turn_at.ensures)

pub returns-in-Inside-clause-leads : goal.returns-in-Inside-clause-leads
returns-in-Inside-clause-leads c last whole more leads =
    goes c.args.sites.now c.args.tests c.args.at c.behind-behind.result last c.args.found.now whole c.index-sites-number.result c.index-sites-number.is c.behind-behind.ensures more leads
    turn.Inside (sym c.in-Inside.is ∙ c.turn_at.ensures)

pub returns-in-After-clause-leads : goal.returns-in-After-clause-leads
returns-in-After-clause-leads c last whole more leads =
    let L : ℕ → Type 0 = λ n. Leads c.args.sites.now c.args.tests (cursor (c.args.at.number + 1) (Some n)) last c.args.found.now whole in
    subst L (sym c.unwrap_or.ensures)
    (goes c.args.sites.now c.args.tests c.args.at c.behind-behind.result last c.args.found.now whole c.index-sites-number.result c.index-sites-number.is c.behind-behind.ensures more leads
    turn.After (sym c.in-After.is ∙ c.turn_at.ensures))

pub returns-in-Operands-clause-leads : goal.returns-in-Operands-clause-leads
returns-in-Operands-clause-leads c last whole more leads =
    goes c.args.sites.now c.args.tests c.args.at c.behind-behind.result last c.args.found.now whole c.index-sites-number.result c.index-sites-number.is c.behind-behind.ensures more leads
    turn.Operands (sym c.in-Operands.is ∙ c.turn_at.ensures)

pub returns-in-Test-clause-leads : goal.returns-in-Test-clause-leads
returns-in-Test-clause-leads c last whole more leads =
    let L : List (Option ℕ) → Type 0 = λ found. Leads c.args.sites.now c.args.tests (cursor c.behind-behind.result None) last found whole in
    subst L (sym c.note.ensures)
    (goes c.args.sites.now c.args.tests c.args.at c.behind-behind.result last c.args.found.now whole c.index-sites-number.result c.index-sites-number.is c.behind-behind.ensures more leads
    turn.Test (sym c.in-Test.is ∙ c.turn_at.ensures))
