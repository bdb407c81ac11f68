use Rattle.std.proofs.Common.{arith, ap, vec_len}
use Rattle.lt_lin.specs.Room.{places}
use Rattle.lt_lin.proofs.Store.{places-rows}
use Rattle.lt_lin.proofs.known.Known.places.Goals as goal

pub returns : goal.returns
returns c =
    let k = c.self.inside in
    omega (arith, c.len.ensures, c.len-2.ensures, k.endings.ok.0, k.terms.ok.0, places-rows k.terms.items 0 (vec_len k.terms) k.endings.items c.self.invariant.0 (omega (arith, k.terms.ok.0)), ap (λ v. places v.rows) c.self.view_is)
