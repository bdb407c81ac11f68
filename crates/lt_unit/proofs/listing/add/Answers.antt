use Rattle.std.proofs.Common.{Some, ap, ◌∙◌}
use Rattle.lt_unit.proofs.Listings.{both_ok, is_marked, is_added, is_there}
use Rattle.lt_unit.proofs.listing.add.Goals as goal

pub returns-then-branch-clause-added : goal.returns-then-branch-clause-added
returns-then-branch-clause-added c = is_there c.args.types.now c.args.listed.now c.args.t c.requires.marked (c.in_ok-has.ensures ∙ ap Some c.if-branch.true)

pub returns-clause-marked : goal.returns-clause-marked
returns-clause-marked c =
    both_ok c.put.result (is_marked c.args.types.now c.args.listed.now c.put.new.listed c.args.t c.requires.known c.requires.marked (c.in_ok-has.ensures ∙ ap Some c.if-branch.false)) c.put.ensures.ids
    c.put.ensures.marked

pub returns-clause-added : goal.returns-clause-added
returns-clause-added c =
    both_ok c.put.result (is_added c.args.types.now c.args.listed.now c.put.new.listed c.args.t c.requires.known c.requires.marked (c.in_ok-has.ensures ∙ ap Some c.if-branch.false)) c.put.ensures.ids
    c.put.ensures.marked
