use Rattle.std.proofs.Common.{arith, ap, ◌∙◌, ◌++◌, ◌∷◌, [], vec_len}
use Rattle.std.proofs.lemmas.Int.{to_z-of_z}
use Rattle.lt_lin.specs.Room.{places}
use Rattle.lt_lin.proofs.Store.{places-rows, pushed}
use Rattle.lt_lin.proofs.known.Known.push.Goals as goal

pub push_all-requires : goal.push_all-requires
push_all-requires c =
    let k = c.self.inside in
    omega (arith, k.endings.ok.0, k.terms.ok.0, places-rows k.terms.items 0 (vec_len k.terms) k.endings.items c.self.invariant.0 (omega (arith, k.terms.ok.0)), ap (λ v. places v.rows) c.self.view_is, ap (λ v. v.limit) c.self.view_is, c.requires.room, c.self.invariant)

pub push_reserved-requires : goal.push_reserved-requires
push_reserved-requires c =
    let k = c.self.inside in
    omega (arith, k.endings.ok.0, k.terms.ok.0, places-rows k.terms.items 0 (vec_len k.terms) k.endings.items c.self.invariant.0 (omega (arith, k.terms.ok.0)), ap (λ v. places v.rows) c.self.view_is, ap (λ v. v.limit) c.self.view_is, c.requires.room, c.self.invariant)

pub invariant_of-self : goal.invariant_of-self
invariant_of-self c =
    let k = c.self.inside in
    let p = pushed _ _ _ _ _ _ _ _ c.self.invariant.0 c.self.invariant.1 c.requires.ordered k.terms.ok.0 c.push_all.ensures.items c.push_all.ensures.len c.push_reserved.ensures.items c.len.ensures in
    (p.0, p.1, omega (arith, c.self.invariant, c.push_all.ensures.capacity), omega (arith, c.self.invariant, c.push_reserved.ensures.capacity))

pub returns-clause-rows : goal.returns-clause-rows
returns-clause-rows c =
    let k = c.self.inside in
    let fc = c.ranges.constant in
    let p = pushed _ _ _ _ _ _ _ _ c.self.invariant.0 c.self.invariant.1 c.requires.ordered k.terms.ok.0 c.push_all.ensures.items c.push_all.ensures.len c.push_reserved.ensures.items c.len.ensures in
    let q = simp to_z-of_z at p.2 in
    q ∙ ap (λ v. v.rows ++ record { terms = c.args.terms.now; constant = c.args.constant } ∷ []) c.self.view_is
