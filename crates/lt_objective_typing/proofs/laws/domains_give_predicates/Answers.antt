use Rattle.lt_objective_typing.proofs.Domains.{of_domains}
use Rattle.lt_objective_typing.proofs.laws.domains_give_predicates.Goals as goal

pub returns : goal.returns
returns c = of_domains c.predicates_are_made.ensures
