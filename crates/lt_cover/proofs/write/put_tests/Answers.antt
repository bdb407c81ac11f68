use Rattle.lt_cover.specs.declared.rows.TestRow.{TestRow}
use Rattle.lt_cover.specs.declared.rows.Row.TheVariants.{Test}
use Rattle.lt_cover.specs.Coverage.Text.{line, row_fields}
use Rattle.lt_cover.proofs.Loops.{more_put, all_put}
use Rattle.lt_cover.proofs.write.put_tests.Goals as goal

pub loop-test-preserved : goal.loop-test-preserved
loop-test-preserved c = more_put (λ (x : TestRow). line (row_fields (Test x))) _ _ _ _ _ _ c.loop-test-test.true c.test-item.is c.loop-test.invariant c.in_ok-put_test.ensures

pub returns : goal.returns
returns c = all_put (λ (x : TestRow). line (row_fields (Test x))) _ _ _ _ c.loop-test-test.false c.loop-test.invariant
