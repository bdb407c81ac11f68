use Rattle.std.proofs.Common.{refl}
use Rattle.std.proofs.lemmas.Bool.{false≢true}
use Rattle.lt_cover.proofs.Drafts.{known_more, known_at, known_all}
use Rattle.lt_cover.proofs.draft.are_tests.Goals as goal

pub returns-then-not-is_test : goal.returns-then-not-is_test
returns-then-not-is_test c = (λ bad. absurd (false≢true bad), λ h. c.if-not-is_test.ensures.1 (known_at c.args.tests.now c.args.names.now c.loop-name.name-index c.name-item.result c.as_slice.result.now c.loop-name-test.true c.name-item.is c.as_slice.ensures h))

pub loop-name-preserved : goal.loop-name-preserved
loop-name-preserved c = known_more c.args.tests.now c.args.names.now c.loop-name.name-index c.name-item.result c.as_slice.result.now c.loop-name-test.true c.name-item.is c.as_slice.ensures (c.if-not-is_test.ensures.0 refl) c.loop-name.invariant

pub returns : goal.returns
returns c = (λ yes. known_all c.args.tests.now c.args.names.now c.loop-name.name-index c.loop-name-test.false c.loop-name.invariant, λ h. refl)
