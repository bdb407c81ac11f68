use Rattle.lt_tree_laws.proofs.ReadTexts.{differences, commas}
use Rattle.lt_tree_laws.proofs.ReadForms.{postfixes, prefixes, choices_and_texts, marks}
use Rattle.lt_tree_laws.proofs.laws.expressions_are_read.Goals as goal

pub returns-clause-differences : goal.returns-clause-differences
returns-clause-differences c = differences

pub returns-clause-commas : goal.returns-clause-commas
returns-clause-commas c = commas

pub returns-clause-postfixes : goal.returns-clause-postfixes
returns-clause-postfixes c = postfixes

pub returns-clause-prefixes : goal.returns-clause-prefixes
returns-clause-prefixes c = prefixes

pub returns-clause-choices_and_texts : goal.returns-clause-choices_and_texts
returns-clause-choices_and_texts c = choices_and_texts

pub returns-clause-marks : goal.returns-clause-marks
returns-clause-marks c = marks
