use Rattle.std.proofs.Common.{List, [], ◌∷◌, refl}
use Rattle.std.proofs.lemmas.Result.{IfOk-weaker, err_from_is_err_and}
use Rattle.lt_tree.specs.UnitView.{unit_of}
use Rattle.lt_tree.specs.Typing.ProgramView.{program_of}
use Rattle.lt_objectives.specs.declared.criteria.Criterion.{Criterion}
use Rattle.lt_objectives.specs.declared.criteria.Criterion.TheVariants as C
use Rattle.lt_survey.specs.Marking.{IsMarkedBy, chosen}
use Rattle.lt_survey.specs.Rounds.{Leads}
use Rattle.lt_survey.proofs.Rounds.{leads_at_first, leads_to_all}
use Rattle.lt_crit.specs.Criteria.{criteria}
use Rattle.lt_crit.proofs.rounds.annotate_further.Goals as goal

abbrev behind_functions : List Criterion
behind_functions = C.InputDomain ∷ C.Decision ∷ C.Condition ∷ []

abbrev behind_domains : List Criterion
behind_domains = C.Decision ∷ C.Condition ∷ []

abbrev behind_decisions : List Criterion
behind_decisions = C.Condition ∷ []

pub returns-in_err-functions-clause-ids : goal.returns-in_err-functions-clause-ids
returns-in_err-functions-clause-ids c =
    let unit = unit_of c.args.before.unit in
    let program = program_of c.args.program.now in
    let whole = chosen criteria c.args.which.0 in
    let at_first = leads_at_first whole unit program c.args.before.next c.args.before refl refl c.requires in
    let left = err_from_is_err_and c.from_residual.result c.from_residual.ensures.1 in
    rw (left.1, left.2) (c.in_err-functions.ensures.ids behind_functions whole unit c.args.before.next at_first)

pub returns-in_err-domains-clause-ids : goal.returns-in_err-domains-clause-ids
returns-in_err-domains-clause-ids c =
    let unit = unit_of c.args.before.unit in
    let program = program_of c.args.program.now in
    let whole = chosen criteria c.args.which.0 in
    let at_first = leads_at_first whole unit program c.args.before.next c.args.before refl refl c.requires in
    let functions : Leads (chosen behind_functions c.args.which.0) whole unit program c.args.before.next c.in_ok-functions.functions
    = c.in_ok-functions.ensures.leads behind_functions whole unit c.args.before.next at_first in
    let left = err_from_is_err_and c.from_residual-in_err-domains.result c.from_residual-in_err-domains.ensures.1 in
    rw (left.1, left.2) (c.in_err-domains.ensures.ids behind_domains whole unit c.args.before.next functions)

pub returns-in_err-decisions-clause-ids : goal.returns-in_err-decisions-clause-ids
returns-in_err-decisions-clause-ids c =
    let unit = unit_of c.args.before.unit in
    let program = program_of c.args.program.now in
    let whole = chosen criteria c.args.which.0 in
    let at_first = leads_at_first whole unit program c.args.before.next c.args.before refl refl c.requires in
    let functions : Leads (chosen behind_functions c.args.which.0) whole unit program c.args.before.next c.in_ok-functions.functions
    = c.in_ok-functions.ensures.leads behind_functions whole unit c.args.before.next at_first in
    let domains : Leads (chosen behind_domains c.args.which.0) whole unit program c.args.before.next c.in_ok-domains.domains
    = c.in_ok-domains.ensures.leads behind_domains whole unit c.args.before.next functions in
    let left = err_from_is_err_and c.from_residual-in_err-decisions.result c.from_residual-in_err-decisions.ensures.1 in
    rw (left.1, left.2) (c.in_err-decisions.ensures.ids behind_decisions whole unit c.args.before.next domains)

pub returns-clause-ids : goal.returns-clause-ids
returns-clause-ids c =
    let unit = unit_of c.args.before.unit in
    let program = program_of c.args.program.now in
    let whole = chosen criteria c.args.which.0 in
    let at_first = leads_at_first whole unit program c.args.before.next c.args.before refl refl c.requires in
    let functions : Leads (chosen behind_functions c.args.which.0) whole unit program c.args.before.next c.in_ok-functions.functions
    = c.in_ok-functions.ensures.leads behind_functions whole unit c.args.before.next at_first in
    let domains : Leads (chosen behind_domains c.args.which.0) whole unit program c.args.before.next c.in_ok-domains.domains
    = c.in_ok-domains.ensures.leads behind_domains whole unit c.args.before.next functions in
    let decisions : Leads (chosen behind_decisions c.args.which.0) whole unit program c.args.before.next c.in_ok-decisions.decisions
    = c.in_ok-decisions.ensures.leads behind_decisions whole unit c.args.before.next domains in
    c.round_if_chosen-4.ensures.ids [] whole unit c.args.before.next decisions

pub returns-clause-marked : goal.returns-clause-marked
returns-clause-marked c =
    let unit = unit_of c.args.before.unit in
    let program = program_of c.args.program.now in
    let whole = chosen criteria c.args.which.0 in
    let at_first = leads_at_first whole unit program c.args.before.next c.args.before refl refl c.requires in
    let functions : Leads (chosen behind_functions c.args.which.0) whole unit program c.args.before.next c.in_ok-functions.functions
    = c.in_ok-functions.ensures.leads behind_functions whole unit c.args.before.next at_first in
    let domains : Leads (chosen behind_domains c.args.which.0) whole unit program c.args.before.next c.in_ok-domains.domains
    = c.in_ok-domains.ensures.leads behind_domains whole unit c.args.before.next functions in
    let decisions : Leads (chosen behind_decisions c.args.which.0) whole unit program c.args.before.next c.in_ok-decisions.decisions
    = c.in_ok-decisions.ensures.leads behind_decisions whole unit c.args.before.next domains in
    IfOk-weaker c.round_if_chosen-4.result (Leads [] whole unit program c.args.before.next) (IsMarkedBy whole unit program c.args.before.next) (leads_to_all whole unit program c.args.before.next)
    (c.round_if_chosen-4.ensures.leads [] whole unit c.args.before.next decisions)
