use Rattle.lt_entry.proofs.Judged as judged
use Rattle.lt_entry.proofs.examples.lines_are_judged.Goals as goal

pub returns-clause-blocks : goal.returns-clause-blocks
returns-clause-blocks c = judged.blocks

pub returns-clause-suites : goal.returns-clause-suites
returns-clause-suites c = judged.suites

pub returns-clause-requirements : goal.returns-clause-requirements
returns-clause-requirements c = judged.requirements

pub returns-clause-faults : goal.returns-clause-faults
returns-clause-faults c = judged.faults

pub returns-clause-forms : goal.returns-clause-forms
returns-clause-forms c = judged.forms
