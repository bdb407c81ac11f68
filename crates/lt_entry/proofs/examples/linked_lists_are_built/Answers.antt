use Rattle.lt_entry.proofs.Lists as lists
use Rattle.lt_entry.proofs.examples.linked_lists_are_built.Goals as goal

pub returns-clause-specified : goal.returns-clause-specified
returns-clause-specified c = lists.specified

pub returns-clause-tested : goal.returns-clause-tested
returns-clause-tested c = lists.tested

pub returns-clause-meets : goal.returns-clause-meets
returns-clause-meets c = lists.meets

pub returns-clause-built : goal.returns-clause-built
returns-clause-built c = lists.built
