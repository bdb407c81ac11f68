use Rattle.std.proofs.Common.{refl}
use Rattle.std.proofs.lemmas.Bool.{false≢true}
use Rattle.lt_cover.specs.Coverage.Names.{IsTestName}
use Rattle.lt_cover.proofs.Rising.{each_more, each_at, each_all}
use Rattle.lt_cover.proofs.covering.are_names.Goals as goal

pub returns-then-not-is_test_name : goal.returns-then-not-is_test_name
returns-then-not-is_test_name c = (λ bad. absurd (false≢true bad), λ h. c.if-not-is_test_name.ensures.1 (each_at IsTestName c.args.names.now c.loop-name.name-index c.loop-name-test.true h))

pub loop-name-preserved : goal.loop-name-preserved
loop-name-preserved c = each_more IsTestName c.args.names.now c.loop-name.name-index c.loop-name-test.true (c.if-not-is_test_name.ensures.0 refl) c.loop-name.invariant

pub returns : goal.returns
returns c = (λ yes. each_all IsTestName c.args.names.now c.loop-name.name-index c.loop-name-test.false c.loop-name.invariant, λ h. refl)
