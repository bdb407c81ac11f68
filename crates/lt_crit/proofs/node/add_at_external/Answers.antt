use Rattle.std.proofs.Common.{subst}
use Rattle.std.specs.Prelude.{OnOk, IfErr}
use Rattle.lt_tree.specs.Typing.ProgramView.{program_of}
use Rattle.lt_numbering.specs.Numbering.{Adds, IdsAreOut}
use Rattle.lt_crit.proofs.AtNodes.{marks_of_function}
use Rattle.lt_crit.proofs.node.add_at_external.Goals as goal

pub returns-in-Function-clause-added : goal.returns-in-Function-clause-added
returns-in-Function-clause-added c = λ unit known here.
    subst (λ them. OnOk c.add_at_body.result (Adds c.args.new.now c.add_at_body.new.new them))
    (marks_of_function unit (program_of c.args.program.now) c.args.criterion c.args.survey.now c.args.number c.args.external.now c.in-Function.field-0 c.place_at-function.result c.deref.result.now
    c.in-Function.is c.place_at-function.ensures c.deref.ensures.value known here)
    c.add_at_body.ensures.added

pub returns-in-Function-clause-ids : goal.returns-in-Function-clause-ids
returns-in-Function-clause-ids c = λ unit known here.
    subst (λ them. IfErr c.add_at_body.result (IdsAreOut c.args.new.now them))
    (marks_of_function unit (program_of c.args.program.now) c.args.criterion c.args.survey.now c.args.number c.args.external.now c.in-Function.field-0 c.place_at-function.result c.deref.result.now
    c.in-Function.is c.place_at-function.ensures c.deref.ensures.value known here)
    c.add_at_body.ensures.ids
