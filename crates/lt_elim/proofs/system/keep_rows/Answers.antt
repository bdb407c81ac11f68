use Rattle.std.proofs.Common.{arith, sym, ◌∙◌, ap, subst, ℕ, ◌++◌, ◌+◌, ◌<◌, drop, length, Option}
use Rattle.lt_elim.specs.declared.event.Event as code
use Rattle.lt_elim.specs.Elimination.{Kept, and_next, keep_all}
use Rattle.lt_elim.specs.Progress.{outcome, HaveContents}
use Rattle.lt_elim.specs.Tracing.{Traced}
use Rattle.lt_elim.proofs.Tracing.{traced_from, item_at, own_known}
use Rattle.lt_elim.proofs.Turns.{no_event}
use Rattle.lt_elim.proofs.system.keep_rows.Goals as goal

pub returns-then-is_some-clause-traced : goal.returns-then-is_some-clause-traced
returns-then-is_some-clause-traced c = λ first.
    let l : c.rows.number < length c.args.rows.now = subst (λ (n : ℕ). c.rows.number < n) c.in-Ok.ensures.1 c.rows-test.true in
    let t = c.rows.invariant.traced first in
    traced_from c.args.rows.now c.args.rows.now t.0 c.keep_row.new.log c.keep_row.new.kept.numbered c.in_ok-event.event
    (c.in_ok-event.ensures.traced c.args.rows.now (c.args.rows.now ++ t.0) t.1 (own_known c.args.rows.now t.0 c.rows.number c.index-rows-number.result l c.index-rows-number.is, tt))

pub rows-preserved : goal.rows-preserved
rows-preserved c =
    let none = no_event c.in_ok-event.event (sym c.is_some.ensures ∙ c.if-is_some.false) in
    let l : c.rows.number < length c.args.rows.now = subst (λ (n : ℕ). c.rows.number < n) c.in-Ok.ensures.1 c.rows-test.true in
    let i = item_at c.args.rows.now c.rows.number c.index-rows-number.result l c.index-rows-number.is in
    let rest = drop (c.rows.number + 1) c.args.rows.now in
    record {
      done =
          c.rows.invariant.done ∙ ap (keep_all c.args.limited c.args.variable c.rows.kept.rows) i
          ∙ ap (λ (k : Kept). and_next k (λ more. keep_all c.args.limited c.args.variable more rest)) (c.in_ok-event.ensures.kept ∙ ap (λ (o : Option code.Event). outcome o c.keep_row.new.kept.rows) none);
      rest = (subst HaveContents i c.rows.invariant.rest).1;
      traced = λ first.
          let t = c.rows.invariant.traced first in
          subst (λ (o : Option code.Event). Traced c.args.rows.now c.args.rows.now o c.keep_row.new.log c.keep_row.new.kept.numbered) none
          (traced_from c.args.rows.now c.args.rows.now t.0 c.keep_row.new.log c.keep_row.new.kept.numbered c.in_ok-event.event
          (c.in_ok-event.ensures.traced c.args.rows.now (c.args.rows.now ++ t.0) t.1 (own_known c.args.rows.now t.0 c.rows.number c.index-rows-number.result l c.index-rows-number.is, tt)));
      within = omega arith;
    }
