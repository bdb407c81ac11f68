use Rattle.std.proofs.Common.{sym, ap}
use Rattle.lt_lex.specs.Front.{cut_at, first_cut}
use Rattle.lt_lex.proofs.Sound.{front_is_some}
use Rattle.lt_lex.proofs.cut.first_cut.Goals as goal

pub split_at-requires : goal.split_at-requires
split_at-requires c = (front_is_some c.args.fresh c.args.text.now c.in-Some.form c.in-Some.len (sym c.in-Some.ensures)).1

pub returns-in-None-clause-value : goal.returns-in-None-clause-value
unfolding first_cut
returns-in-None-clause-value c = ap (λ o. cut_at o c.args.text.now) c.in-None.ensures

pub returns-in-Some-clause-value : goal.returns-in-Some-clause-value
unfolding first_cut
returns-in-Some-clause-value c = rw (c.sort_of.ensures, c.split_at.ensures.front) (ap (λ o. cut_at o c.args.text.now) c.in-Some.ensures)

pub returns-in-Some-clause-some : goal.returns-in-Some-clause-some
returns-in-Some-clause-some c = (front_is_some c.args.fresh c.args.text.now c.in-Some.form c.in-Some.len (sym c.in-Some.ensures)).0
