use Rattle.std.proofs.Common.{sym, ap, ◌∙◌, subst, length, None}
use Rattle.lt_tree.specs.Records.{parts_in}
use Rattle.lt_tree.specs.Nodes.{if_written}
use Rattle.lt_placing.specs.Walks.{GoesOn}
use Rattle.lt_placing.proofs.Openings.{named}
use Rattle.lt_placing.proofs.declarator.step_if_written.Goals as goal

pub returns-in-Some : goal.returns-in-Some
returns-in-Some c = subst (GoesOn _ _) (sym (named _ _ (parts_in c.args.declarator.now.parts.items) c.in-Some.is)) c.step.ensures

pub returns-in-None : goal.returns-in-None
returns-in-None c =
    subst (GoesOn c.args.walk.now c.step_if_any.new.walk)
    (ap (λ xs. length (if_written None (parts_in xs))) c.as_slice.ensures.value
    ∙ ap (λ name. length (if_written name (parts_in c.args.declarator.now.parts.items))) (sym c.in-None.is)) c.step_if_any.ensures
