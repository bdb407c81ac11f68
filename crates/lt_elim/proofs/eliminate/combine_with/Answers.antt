use Rattle.std.proofs.Common.{sym, ◌∙◌, ap, subst, List, [], ◌∷◌, ◌+◌, drop, Option}
use Rattle.lt_elim.specs.declared.event.Event as code
use Rattle.lt_elim.specs.declared.numbered.Numbered.{Numbered}
use Rattle.lt_elim.specs.Elimination.{and_next, combine_with}
use Rattle.lt_elim.specs.Progress.{outcome}
use Rattle.lt_elim.specs.Summing.{CombineWith}
use Rattle.lt_elim.specs.Tracing.{bare, TracedOn}
use Rattle.lt_elim.proofs.Eliminating.{with_next}
use Rattle.lt_elim.proofs.Tracing.{traced_then, item_at, known_item}
use Rattle.lt_elim.proofs.Turns.{no_event}
use Rattle.lt_elim.proofs.eliminate.combine_with.Goals as goal

pub returns-then-is_some-clause-traced : goal.returns-then-is_some-clause-traced
returns-then-is_some-clause-traced c =
    let i = item_at c.args.lowering.now c.lowering.row-index c.row-item.result c.lowering-test.true c.row-item.is in
    traced_then c.args.log.now c.args.kept.now.numbered (c.args.raising.now ∷ c.args.lowering.now) (c.args.raising.now ∷ c.row-item.result ∷ []) c.lowering.log c.keep_combination.new.log c.lowering.kept.numbered c.keep_combination.new.kept.numbered c.in_ok-event.event c.lowering.invariant.traced c.in_ok-event.ensures.traced
    (λ known a. (a.0, (known_item known c.args.lowering.now (drop (c.lowering.row-index + 1) c.args.lowering.now) c.lowering.row-index c.row-item.result i a.1, tt)))

pub lowering-preserved : goal.lowering-preserved
lowering-preserved c =
    let none = no_event c.in_ok-event.event (sym c.is_some.ensures ∙ c.if-is_some.false) in
    let i = item_at c.args.lowering.now c.lowering.row-index c.row-item.result c.lowering-test.true c.row-item.is in
    let rest = drop (c.lowering.row-index + 1) c.args.lowering.now in
    record {
      done =
          with_next c.args.limited c.args.variable c.args.raising.now.row c.lowering.kept.rows (bare rest) (bare (drop c.lowering.row-index c.args.lowering.now)) c.row-item.result.row c.in_ok-event.event c.keep_combination.new.kept.rows (combine_with c.args.limited c.args.variable c.args.raising.now.row c.args.kept.now.rows (bare c.args.lowering.now)) c.lowering.invariant.done (ap bare i) c.in_ok-event.ensures.kept
          ∙ ap (λ (o : Option code.Event). and_next (outcome o c.keep_combination.new.kept.rows) (λ more. combine_with c.args.limited c.args.variable c.args.raising.now.row more (bare rest))) none;
      rest = (subst (λ (xs : List Numbered). CombineWith c.args.limited c.args.variable c.args.raising.now.row (bare xs)) i c.lowering.invariant.rest).1;
      traced =
          subst (λ (o : Option code.Event). TracedOn c.args.log.now c.args.kept.now.numbered (c.args.raising.now ∷ c.args.lowering.now) o c.keep_combination.new.log c.keep_combination.new.kept.numbered) none
          (traced_then c.args.log.now c.args.kept.now.numbered (c.args.raising.now ∷ c.args.lowering.now) (c.args.raising.now ∷ c.row-item.result ∷ []) c.lowering.log c.keep_combination.new.log c.lowering.kept.numbered c.keep_combination.new.kept.numbered c.in_ok-event.event c.lowering.invariant.traced c.in_ok-event.ensures.traced
          (λ known a. (a.0, (known_item known c.args.lowering.now rest c.lowering.row-index c.row-item.result i a.1, tt))));
    }
