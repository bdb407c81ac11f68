use Rattle.std.proofs.Common.{sym, ◌∙◌}
use Rattle.lt_tree.specs.Typing.TypeRows.{type_in}
use Rattle.lt_emit.specs.Emission.{here_of}
use Rattle.lt_emit.proofs.Spent.{within_here, fitting}
use Rattle.lt_emit.proofs.Calls.{called_inside, call_fits, called_outside}
use Rattle.lt_emit.proofs.Variables.{function_in}
use Rattle.lt_emit.proofs.builder.Builder.call.Goals as goal

pub returns-in-Some : goal.returns-in-Some
returns-in-Some c =
    within_here c.emit.ensures.code (λ from it p known.
    let here = here_of c.args.self.now in
    called_inside here it c.args.is_taken c.args.name.now (type_in here.types c.args.ty) c.args.first c.args.count c.in-Some.function from c.args.to
    c.target.result (sym c.in-Some.is ∙ c.function.ensures) c.target.ensures p.0)
    (call_fits (here_of c.args.self.now) c.args.is_taken c.args.name.now c.args.first c.args.count c.in-Some.function c.args.to c.target.result
    (sym c.in-Some.is ∙ c.function.ensures) c.target.ensures)

pub returns-in-None : goal.returns-in-None
returns-in-None c =
    within_here c.outside.ensures (λ from it p known.
    let here = here_of c.args.self.now in
    let none = sym c.in-None.is ∙ c.function.ensures in
    called_outside here it c.args.is_taken c.args.name.now (type_in here.types c.args.ty) c.args.first c.args.count from c.args.to
    none (p (sym none) known)) (grind fitting)

-- the function is there
pub emit-requires-clause-names : goal.emit-requires-clause-names
emit-requires-clause-names c =
    function_in (here_of c.args.self.now).program c.args.name.now c.in-Some.function (sym c.function.ensures ∙ c.in-Some.is)
