use Rattle.lt_tree_laws.proofs.WrittenExpressions.{parentheses, prefixes, suffixes}
use Rattle.lt_tree_laws.proofs.laws.operators_are_written.Goals as goal

pub returns-clause-parentheses : goal.returns-clause-parentheses
returns-clause-parentheses c = parentheses

pub returns-clause-prefixes : goal.returns-clause-prefixes
returns-clause-prefixes c = prefixes

pub returns-clause-suffixes : goal.returns-clause-suffixes
returns-clause-suffixes c = suffixes
