use Rattle.std.proofs.Common.{sym, ◌∙◌}
use Rattle.std.proofs.lemmas.Bool.{not-true}
use Rattle.lt_nest.proofs.Marks.{lone_begins, beginning_begins}
use Rattle.lt_nest.proofs.front.is_short.Goals as goal

pub returns-then-is_lone : goal.returns-then-is_lone
returns-then-is_lone c = λ fresh is. lone_begins c.args.text.now c.if-text-lt2.false (sym c.is_lone.ensures ∙ is) fresh

pub returns-then-begins_longer : goal.returns-then-begins_longer
returns-then-begins_longer c = λ fresh is.
    let begins = sym c.begins_longer.ensures ∙ c.if-begins_longer.true in
    let alone = sym c.goes_on.ensures ∙ not-true c.goes_on.result is in
    beginning_begins c.args.text.now c.if-text-lt2.false begins alone fresh
