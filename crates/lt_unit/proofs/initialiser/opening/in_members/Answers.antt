use Rattle.std.proofs.Common.{◌++◌, ap, ◌∙◌}
use Rattle.lt_unit.specs.LeftParts.{run_of, count_of, runs_behind, runs_of}
use Rattle.lt_unit.proofs.Openings.{too_deep, deeper_none, deeper_some}
use Rattle.lt_unit.proofs.initialiser.opening.in_members.Goals as goal

pub returns-then-depth-eq0 : goal.returns-then-depth-eq0
returns-then-depth-eq0 c = λ longer h known k whole. too_deep known whole c.args.depth.now c.args.offset c.args.number _ c.if-depth-eq0.true

pub returns-in-None : goal.returns-in-None
returns-in-None c = λ longer h known k whole.
    deeper_none known whole c.args.depth.now c.args.offset c.args.number _ c.if-depth-eq0.false (rw c.in-None.is at (c.in_ok-members_of.ensures longer h known k))

pub returns-in_ok-push_before-in-Some : goal.returns-in_ok-push_before-in-Some
returns-in_ok-push_before-in-Some c = λ longer h known k whole.
    deeper_some known whole c.args.depth.now c.args.offset c.args.number (run_of longer c.in-Some.members.first (count_of c.in-Some.members.behind)) (runs_behind longer c.in-Some.members.behind) (runs_of longer c.args.left.now.items) _
    c.if-depth-eq0.false (rw c.in-Some.is at (c.in_ok-members_of.ensures longer h known k))
    (c.in_ok-push_before-in-Some.ensures longer ∙ ap (λ l. l ++ runs_of longer c.args.left.now.items) (c.in_ok-behind-in-Some.ensures longer))
