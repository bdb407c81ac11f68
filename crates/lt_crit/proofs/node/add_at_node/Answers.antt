use Rattle.std.proofs.Common.{Some, ◌∙◌, ap, subst, sym}
use Rattle.std.specs.Prelude.{OnOk, IfErr}
use Rattle.lt_tree.specs.Typing.ProgramView.{program_of}
use Rattle.lt_objectives.specs.Objectives.{at_node}
use Rattle.lt_sites.specs.declared.site.NodeRef.{NodeRef}
use Rattle.lt_sites.specs.Sites.{node_of}
use Rattle.lt_numbering.specs.Numbering.{Adds, IdsAreOut}
use Rattle.lt_survey.specs.Rounds.{site}
use Rattle.lt_crit.proofs.AtNodes.{marks_of_expression}
use Rattle.lt_crit.proofs.node.add_at_node.Goals as goal

pub returns-in-External-clause-added : goal.returns-in-External-clause-added
returns-in-External-clause-added c = λ unit known here.
    subst (λ (n : NodeRef). OnOk c.add_at_external.result (Adds c.args.new.now c.add_at_external.new.new (at_node unit (program_of c.args.program.now) c.args.criterion (site c.args.number (node_of n)))))
    (sym c.in-External.is) (c.add_at_external.ensures.added unit known (here ∙ ap (λ n. Some (node_of n)) c.in-External.is))

pub returns-in-External-clause-ids : goal.returns-in-External-clause-ids
returns-in-External-clause-ids c = λ unit known here.
    subst (λ (n : NodeRef). IfErr c.add_at_external.result (IdsAreOut c.args.new.now (at_node unit (program_of c.args.program.now) c.args.criterion (site c.args.number (node_of n)))))
    (sym c.in-External.is) (c.add_at_external.ensures.ids unit known (here ∙ ap (λ n. Some (node_of n)) c.in-External.is))

pub returns-in-Expression-clause-added : goal.returns-in-Expression-clause-added
returns-in-Expression-clause-added c = λ unit known here.
    subst (λ them. OnOk c.add_at_expression.result (Adds c.args.new.now c.add_at_expression.new.new them))
    (marks_of_expression unit (program_of c.args.program.now) c.args.criterion c.args.survey.now c.args.number c.args.node c.in-Expression.e c.in-Expression.is c.requires.criterion known here)
    c.add_at_expression.ensures.added

pub returns-in-Expression-clause-ids : goal.returns-in-Expression-clause-ids
returns-in-Expression-clause-ids c = λ unit known here.
    subst (λ them. IfErr c.add_at_expression.result (IdsAreOut c.args.new.now them))
    (marks_of_expression unit (program_of c.args.program.now) c.args.criterion c.args.survey.now c.args.number c.args.node c.in-Expression.e c.in-Expression.is c.requires.criterion known here)
    c.add_at_expression.ensures.ids
