use Rattle.std.proofs.Common.{◌≡◌, length, arith}
use Rattle.lt_table.proofs.TableFound.{then_ok}
use Rattle.lt_judge.proofs.PassedArguments.{breaks_as, right_number}
use Rattle.lt_judge.proofs.calls.call_faults.Goals as goal

pub returns : goal.returns
returns c = then_ok c.faults_of.result
    (λ faults is longer more known defined.
    let count : c.len.result ≡ length c.args.f.now.parameters.items = omega (arith, c.args.f.now.parameters.ok.0) in
    breaks_as faults _ _ c.args.fit _ _ _ _ _ _ is (c.in_ok-unread.ensures.floating longer more) (c.in_ok-unread.ensures.function longer more)
    (right_number longer c.args.f.now.parameters.items c.args.number c.len.result c.args.f.now.dots c.is_right_number-right.result c.is_right_number-right.ensures count)
    (c.in_ok-run.ensures longer more known defined))
    c.faults_of.ensures
