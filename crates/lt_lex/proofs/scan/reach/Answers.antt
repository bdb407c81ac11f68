use Rattle.std.proofs.Common.{arith, sym, ◌∙◌}
use Rattle.lt_lex.proofs.Reach.{stops, within, is_reached}
use Rattle.lt_lex.proofs.scan.reach.Goals as goal

pub returns-in-Nothing-clause-value : goal.returns-in-Nothing-clause-value
returns-in-Nothing-clause-value c =
    c.latest-best.ensures ∙ stops c.loop-at.part c.args.start c.args.from c.loop-at.at c.loop-at.best c.args.text.now c.loop-at-test.true c.loop-at.invariant (sym c.after-part.ensures ∙ c.in-Nothing.is)

pub returns-in-Nothing-clause-within : goal.returns-in-Nothing-clause-within
returns-in-Nothing-clause-within c = within c.args.start c.args.from c.args.text.now c.latest-best.result (
    c.latest-best.ensures ∙ stops c.loop-at.part c.args.start c.args.from c.loop-at.at c.loop-at.best c.args.text.now c.loop-at-test.true c.loop-at.invariant (sym c.after-part.ensures ∙ c.in-Nothing.is))

pub returns-clause-value : goal.returns-clause-value
returns-clause-value c = c.latest.ensures ∙ is_reached c.loop-at.part c.args.start c.args.from c.loop-at.at c.loop-at.best c.args.text.now (omega arith) c.loop-at.invariant

pub returns-clause-within : goal.returns-clause-within
returns-clause-within c = within c.args.start c.args.from c.args.text.now c.latest.result (
    c.latest.ensures ∙ is_reached c.loop-at.part c.args.start c.args.from c.loop-at.at c.loop-at.best c.args.text.now (omega arith) c.loop-at.invariant)
