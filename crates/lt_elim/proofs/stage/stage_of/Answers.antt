use Rattle.std.proofs.Common.{rules, sym, ◌∙◌, ap, subst, List, ℕ, ℤ, pos, ◌<◌}
use Rattle.std.specs.Prelude.{int_lt}
use mir.Val.{SFits}
use mir.Syntax.{w128}
use Rattle.lt_lin.specs.declared.row.Row.{Row}
use Rattle.lt_lin.specs.Terms.{Term, factor}
use Rattle.lt_elim.specs.declared.stage.Stage.{Stage}
use Rattle.lt_elim.specs.Tracing.{bare, AreKnown}
use Rattle.lt_elim.proofs.Staging.{in_order_at, filter_more, absent}
use Rattle.lt_elim.proofs.stage.stage_of.Goals as goal
use Rattle.lt_elim.proofs.stage.stage_of.Goals.{in-Some+in_ok-put_row, in_default}

abbrev row : List Term → ℤ → Row
row ts k = record { terms = ts; constant = k }

pub put_row-requires : goal.put_row-requires
put_row-requires c =
    let k : SFits w128 c.in-Some.held.constant = search rules in
    in_order_at c.args.kept.now.rows c.rows.place (row c.in-Some.terms.now c.in-Some.held.constant) c.requires c.in-Some.ensures.row

pub rows-preserved : goal.rows-preserved
rows-preserved c =
    elim c.match-row.branch [
      | in-Some+in_ok-put_row w ↦
          let k : SFits w128 w.in-Some.held.constant = search rules in
          let p = w.in_ok-put_row.ensures.raising in
          let q = w.in_ok-put_row.ensures.lowering in
          record {
            raising = filter_more (λ r. int_lt (pos 0) (factor c.args.variable r.terms)) c.args.kept.now.rows (bare c.rows.stage.raising.items) (bare c.match-row.stage.raising.items) c.rows.place (row w.in-Some.terms.now w.in-Some.held.constant) w.in-Some.ensures.row (ap (λ (s : Stage). bare s.raising.items) w.stage-is ∙ p) c.rows.invariant.raising;
            lowering = filter_more (λ r. int_lt (factor c.args.variable r.terms) (pos 0)) c.args.kept.now.rows (bare c.rows.stage.lowering.items) (bare c.match-row.stage.lowering.items) c.rows.place (row w.in-Some.terms.now w.in-Some.held.constant) w.in-Some.ensures.row (ap (λ (s : Stage). bare s.lowering.items) w.stage-is ∙ q) c.rows.invariant.lowering;
            known = (let known = w.in_ok-put_row.ensures.known in let told = w.in-Some.ensures.known in λ ks a. subst (λ (s : Stage). AreKnown ks s.raising.items × AreKnown ks s.lowering.items) (sym w.stage-is) (known ks (told ks a) (c.rows.invariant.known ks a)));
          }
      | in_default w ↦ absurd (absent c.args.kept.now.rows c.rows.place (subst (λ (n : ℕ). c.rows.place < n) c.len-place-end.ensures c.rows-test.true) w.in_default.ensures.row)
    ]
