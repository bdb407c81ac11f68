use Rattle.std.proofs.Common.{sym, ◌∙◌}
use Rattle.lt_mem.proofs.Finding.{met, unmet, none_met}
use Rattle.lt_mem.proofs.lookup.find.Goals as goal

pub returns-in-Some : goal.returns-in-Some
returns-in-Some c = met _ c.requires _ c.in-Some.k (c.in-Some.ensures) _ _ (sym c.corresponds.ensures ∙ c.if-corresponds.true)

pub returns-in_default : goal.returns-in_default
returns-in_default c = unmet _ c.requires _ c.in-Some.k (c.in-Some.ensures) _ _ (sym c.corresponds.ensures ∙ c.if-corresponds.false)

pub returns-in_default-2 : goal.returns-in_default-2
returns-in_default-2 c = none_met _ c.requires _ _ (c.in_default.ensures)
