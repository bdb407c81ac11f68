use Rattle.std.proofs.Common.{arith, ◌≡◌, ◌∙◌, sym, ap, ◌-◌, suc}
use Rattle.lt_lin.specs.Store.{start_at}
use Rattle.lt_lin.proofs.Store.{start_at_is, start_at_zero}
use Rattle.lt_lin.proofs.known.start_of.Goals as goal

pub returns-then-i-eq0 : goal.returns-then-i-eq0
returns-then-i-eq0 c =
    let e : c.args.i ≡ 0 = omega arith in
    sym (ap (start_at 0 c.args.endings.now) e ∙ start_at_zero 0 c.args.endings.now)

pub returns-else-i-eq0 : goal.returns-else-i-eq0
returns-else-i-eq0 c =
    let e : c.args.i ≡ suc (c.args.i - 1) = omega arith in
    sym (ap (start_at 0 c.args.endings.now) e ∙ start_at_is 0 c.args.endings.now (c.args.i - 1) _ (omega arith))
