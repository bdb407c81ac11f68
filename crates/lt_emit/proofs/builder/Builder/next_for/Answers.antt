use Rattle.std.proofs.Common.{sym, ◌∙◌, arith}
use Rattle.lt_emit.specs.Emission.{here_of}
use Rattle.lt_emit.proofs.Spent.{within_here, fitting}
use Rattle.lt_emit.proofs.Found.{name_there}
use Rattle.lt_emit.proofs.Variables.{name_within}
use Rattle.lt_emit.proofs.builder.Builder.next_for.Goals as goal

pub returns-in-Some : goal.returns-in-Some
returns-in-Some c =
    within_here c.emit.ensures.code (λ from it p k known.
    (c.in-Some.stub, name_there (here_of c.args.self.now).stubs c.args.name.now c.in-Some.stub (sym c.stub.ensures ∙ c.in-Some.is), p.0)) (grind fitting)

-- the name is there
pub emit-requires-clause-names : goal.emit-requires-clause-names
emit-requires-clause-names c =
    omega (arith, name_within 0 c.args.name.now (here_of c.args.self.now).stubs c.in-Some.stub (sym c.stub.ensures ∙ c.in-Some.is))
