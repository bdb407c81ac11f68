use Rattle.std.proofs.Common.{sym, ◌∙◌, ap, subst, List}
use Rattle.lt_lin.specs.declared.row.Row.{Row}
use Rattle.lt_elim.specs.Elimination.{combine_all, eliminated, lowering, without}
use Rattle.lt_elim.specs.Tracing.{bare, AreKnown}
use Rattle.lt_elim.proofs.Tracing.{known_both}
use Rattle.lt_elim.proofs.eliminate.eliminate.Goals as goal

pub returns-clause-kept : goal.returns-clause-kept
unfolding eliminated
returns-clause-kept c =
    let e = c.in_ok-event.ensures.kept in
    let d = c.drop_variable.ensures.rows in
    let r = ap bare c.as_slice-raising.ensures.value ∙ c.in_ok-stage.ensures.raising in
    let l = ap bare c.as_slice-lowering.ensures.value ∙ c.in_ok-stage.ensures.lowering in
    ap (λ (ps : List Row). combine_all c.args.limited c.args.variable (without c.args.variable c.args.kept.now.rows) ps (lowering c.args.variable c.args.kept.now.rows)) (sym r)
    ∙ ap (λ (ns : List Row). combine_all c.args.limited c.args.variable (without c.args.variable c.args.kept.now.rows) (bare c.as_slice-raising.result.now) ns) (sym l)
    ∙ ap (λ (kept : List Row). combine_all c.args.limited c.args.variable kept (bare c.as_slice-raising.result.now) (bare c.as_slice-lowering.result.now)) (sym d)
    ∙ e

pub returns-clause-traced : goal.returns-clause-traced
returns-clause-traced c = λ rows known t a.
    let k = c.in_ok-stage.ensures.known known t.are_known in
    c.in_ok-event.ensures.traced rows known (record { derives = t.derives; are_known = c.drop_variable.ensures.known known t.are_known })
    (known_both known c.as_slice-raising.result.now c.as_slice-lowering.result.now (subst (AreKnown known) (sym c.as_slice-raising.ensures.value) k.0) (subst (AreKnown known) (sym c.as_slice-lowering.ensures.value) k.1))
