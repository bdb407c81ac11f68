use Rattle.std.proofs.Common.{sym, ◌∙◌, ap, subst, List, ◌∷◌, ◌++◌, ◌+◌, drop, Option}
use Rattle.lt_elim.specs.declared.event.Event as code
use Rattle.lt_elim.specs.declared.numbered.Numbered.{Numbered}
use Rattle.lt_elim.specs.Elimination.{and_next, combine_all}
use Rattle.lt_elim.specs.Progress.{outcome}
use Rattle.lt_elim.specs.Summing.{CombineAll}
use Rattle.lt_elim.specs.Tracing.{bare, TracedOn}
use Rattle.lt_elim.proofs.Eliminating.{all_next}
use Rattle.lt_elim.proofs.Tracing.{traced_then, item_at, known_item, known_append}
use Rattle.lt_elim.proofs.Turns.{no_event}
use Rattle.lt_elim.proofs.eliminate.combine_all.Goals as goal

pub returns-then-is_some-clause-traced : goal.returns-then-is_some-clause-traced
returns-then-is_some-clause-traced c =
    let i = item_at c.args.raising.now c.raising.row-index c.row-item.result c.raising-test.true c.row-item.is in
    traced_then c.args.log.now c.args.kept.now.numbered (c.args.raising.now ++ c.args.lowering.now) (c.row-item.result ∷ c.args.lowering.now) c.raising.log c.combine_with.new.log c.raising.kept.numbered c.combine_with.new.kept.numbered c.in_ok-event.event c.raising.invariant.traced c.in_ok-event.ensures.traced
    (λ known a. let k = known_append known c.args.raising.now c.args.lowering.now a in (known_item known c.args.raising.now (drop (c.raising.row-index + 1) c.args.raising.now) c.raising.row-index c.row-item.result i k.0, k.1))

pub raising-preserved : goal.raising-preserved
raising-preserved c =
    let none = no_event c.in_ok-event.event (sym c.is_some.ensures ∙ c.if-is_some.false) in
    let i = item_at c.args.raising.now c.raising.row-index c.row-item.result c.raising-test.true c.row-item.is in
    let rest = drop (c.raising.row-index + 1) c.args.raising.now in
    record {
      done =
          all_next c.args.limited c.args.variable c.raising.kept.rows (bare rest) (bare (drop c.raising.row-index c.args.raising.now)) (bare c.args.lowering.now) c.row-item.result.row c.in_ok-event.event c.combine_with.new.kept.rows (combine_all c.args.limited c.args.variable c.args.kept.now.rows (bare c.args.raising.now) (bare c.args.lowering.now)) c.raising.invariant.done (ap bare i) c.in_ok-event.ensures.kept
          ∙ ap (λ (o : Option code.Event). and_next (outcome o c.combine_with.new.kept.rows) (λ more. combine_all c.args.limited c.args.variable more (bare rest) (bare c.args.lowering.now))) none;
      rest = (subst (λ (xs : List Numbered). CombineAll c.args.limited c.args.variable (bare xs) (bare c.args.lowering.now)) i c.raising.invariant.rest).1;
      traced =
          subst (λ (o : Option code.Event). TracedOn c.args.log.now c.args.kept.now.numbered (c.args.raising.now ++ c.args.lowering.now) o c.combine_with.new.log c.combine_with.new.kept.numbered) none
          (traced_then c.args.log.now c.args.kept.now.numbered (c.args.raising.now ++ c.args.lowering.now) (c.row-item.result ∷ c.args.lowering.now) c.raising.log c.combine_with.new.log c.raising.kept.numbered c.combine_with.new.kept.numbered c.in_ok-event.event c.raising.invariant.traced c.in_ok-event.ensures.traced
          (λ known a. let k = known_append known c.args.raising.now c.args.lowering.now a in (known_item known c.args.raising.now rest c.raising.row-index c.row-item.result i k.0, k.1)));
    }
