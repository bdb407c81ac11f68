use Rattle.lt_facts.proofs.Domains.{domains_known}
use Rattle.lt_facts.proofs.functions.domains_are_known.Goals as goal

pub returns : goal.returns
returns c = domains_known
