use Rattle.std.proofs.Common.{arith, ap, length}
use Rattle.lt_lin.proofs.Store.{length-rows}
use Rattle.lt_lin.proofs.known.Known.len.Goals as goal

pub returns : goal.returns
returns c =
    let k = c.self.inside in
    omega (arith, c.len.ensures, k.endings.ok.0, length-rows k.terms.items 0 k.endings.items, ap (λ v. length v.rows) c.self.view_is)
