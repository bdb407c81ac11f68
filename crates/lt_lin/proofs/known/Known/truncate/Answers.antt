use Rattle.std.proofs.Common.{arith, ap, ◌∙◌, take, length}
use Rattle.lt_lin.proofs.Store.{length-rows, truncated}
use Rattle.lt_lin.proofs.known.Known.truncate.Goals as goal

pub start_of-end-requires : goal.start_of-end-requires
start_of-end-requires c =
    let k = c.self.inside in
    omega (arith, c.requires, c.as_slice.ensures.len, k.endings.ok.0, ap length c.as_slice.ensures.value, length-rows k.terms.items 0 k.endings.items, ap (λ v. length v.rows) c.self.view_is)

pub invariant_of-self : goal.invariant_of-self
invariant_of-self c =
    let e = rw c.as_slice.ensures.value at c.start_of-end.ensures in
    let p = truncated _ _ _ _ _ _ _ _ c.self.invariant.0 c.self.invariant.1 e c.truncate-2.ensures.items c.truncate-2.ensures.len c.truncate.ensures.items in
    (p.0, p.1, omega (arith, c.self.invariant, c.truncate-2.ensures.capacity), omega (arith, c.self.invariant, c.truncate.ensures.capacity))

pub returns-clause-rows : goal.returns-clause-rows
returns-clause-rows c =
    let e = rw c.as_slice.ensures.value at c.start_of-end.ensures in
    let p = truncated _ _ _ _ _ _ _ _ c.self.invariant.0 c.self.invariant.1 e c.truncate-2.ensures.items c.truncate-2.ensures.len c.truncate.ensures.items in
    p.2 ∙ ap (λ v. take c.args.n v.rows) c.self.view_is
