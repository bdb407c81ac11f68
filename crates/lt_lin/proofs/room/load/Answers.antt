use Rattle.std.proofs.Common.{arith, rules, refl, ap, sym, ◌∙◌, ◌++◌, ◌∷◌, [], length, take, Err}
use Rattle.std.specs.Prelude.{IsOk}
use Rattle.std.specs.declared.alloc.AllocError.{AllocError}
use Rattle.std.proofs.lemmas.Int.{to_z-of_z}
use mir.Val.{SFits}
use mir.Syntax.{w128}
use Rattle.lt_lin.specs.Room.{places}
use Rattle.lt_lin.proofs.Store.{places_step, take_step}
use Rattle.lt_lin.proofs.Taking.{contradiction_more}
use Rattle.lt_lin.proofs.room.load.Goals as goal

not_ok : (e : AllocError) → IsOk {T = Unit {0}} (Err e) → ⊥
not_ok e h = absurd (cc h)

pub returns-in_err-make_room-clause-enough : goal.returns-in_err-make_room-clause-enough
returns-in_err-make_room-clause-enough c = λ h.
    let p = places_step c.args.rows.now c.rows.row-index c.row-item.result c.rows-test.true in
    let i = ap (λ r. length r.terms) c.row-item.is in
    let lack = c.in_err-make_room.ensures.enough (omega (arith, p, i, h, c.rows.invariant.enough h, ap length c.as_slice-terms.ensures.same, ap places c.rows.invariant.known)) in
    absurd (not_ok _ lack)

pub rows-preserved : goal.rows-preserved
rows-preserved c =
    let p = places_step c.args.rows.now c.rows.row-index c.row-item.result c.rows-test.true in
    let i = ap (λ r. length r.terms) c.row-item.is in
    let f : SFits w128 c.row-item.result.constant = search rules in
    let same = c.set.ensures.terms ∙ c.as_slice-terms.ensures.same in
    let k = simp to_z-of_z at c.keep.ensures.rows in
    let k2 = rw (same, c.make_room.ensures.rows) at k in
    let n = simp to_z-of_z at c.contradicts-contradiction.ensures in
    let known = k2 ∙ ap (λ rs. rs ++ c.row-item.result ∷ []) c.rows.invariant.known ∙ ap (λ r. take c.rows.row-index c.args.rows.now ++ r ∷ []) c.row-item.is ∙ sym (take_step c.args.rows.now c.rows.row-index c.row-item.result c.rows-test.true) in
    record {
      known = known;
      told = contradiction_more _ _ _ _ _ _ _ c.rows.invariant.told c.as_slice-terms.ensures.same refl n k2;
      room = omega (arith, p, ap places known, c.in_ok-make_room.ensures.ok, c.keep.ensures.limit, i, ap length c.as_slice-terms.ensures.same, ap places c.rows.invariant.known);
      enough = λ h. c.keep.ensures.limit ∙ c.make_room.ensures.same (omega (arith, p, i, h, c.rows.invariant.enough h, ap length c.as_slice-terms.ensures.same, ap places c.rows.invariant.known)) ∙ c.rows.invariant.enough h;
    }
