use Rattle.std.proofs.Common.{◌≡◌, Err, rules}
use Rattle.lt_ir.specs.Running.{place}
use Rattle.lt_ir.specs.Evaluation.{used}
use Rattle.lt_ir.specs.declared.variable.Variable.TheVariants.{Parameter}
use Rattle.lt_acts.specs.Ends.{end_of}
use Rattle.lt_acts.specs.Placing.{standing}
use Rattle.lt_acts.specs.declared.flow.Stop.TheVariants.{Over}
use Rattle.lt_mach.proofs.Passing.{first_gives, first_ends, came}
use Rattle.lt_mach.proofs.parameters.pass_to.Goals as goal

pub returns-in_err-held-clause-passes : goal.returns-in_err-held-clause-passes
returns-in_err-held-clause-passes c = λ at.
    let here = standing c.args.scope.now c.args.memory.now.blocks at in
    let e : c.from_residual.result ≡ Err (Over c.in_err-held.field-0.0) = search rules in
    rw e (first_ends (used c.args.content) _ here here (end_of c.in_err-held.field-0.0) (c.in_err-held.ensures _ here))

pub returns-in_err-at-clause-passes : goal.returns-in_err-at-clause-passes
returns-in_err-at-clause-passes c = λ at.
    let here = standing c.args.scope.now c.args.memory.now.blocks at in
    let e : c.from_residual-in_err-at.result ≡ Err (Over c.in_err-at.field-0.0) = search rules in
    rw e
    (came (Err (Over c.in_err-at.field-0.0)) here _ _ (first_gives (used c.args.content) _ here here c.in_ok-held.held (c.in_ok-held.ensures _ here))
    (first_ends (place (Parameter c.args.number)) _ here here (end_of c.in_err-at.field-0.0) (c.in_err-at.ensures here)))

pub returns-clause-passes : goal.returns-clause-passes
returns-clause-passes c = λ at.
    let here = standing c.args.scope.now c.args.memory.now.blocks at in
    came _ _ _ _ (first_gives (used c.args.content) _ here here c.in_ok-held.held (c.in_ok-held.ensures _ here))
    (came _ _ _ _ (first_gives (place (Parameter c.args.number)) _ here here c.in_ok-at.at (c.in_ok-at.ensures here)) (c.put.ensures.puts here))
