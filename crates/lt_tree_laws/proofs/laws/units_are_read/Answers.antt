use Rattle.lt_tree_laws.proofs.ReadTexts.{gathered_words, inside_out, inner_names, types_in_parentheses}
use Rattle.lt_tree_laws.proofs.ReadForms.{declarations}
use Rattle.lt_tree_laws.proofs.laws.units_are_read.Goals as goal

pub returns-clause-gathered_words : goal.returns-clause-gathered_words
returns-clause-gathered_words c = gathered_words

pub returns-clause-inside_out : goal.returns-clause-inside_out
returns-clause-inside_out c = inside_out

pub returns-clause-inner_names : goal.returns-clause-inner_names
returns-clause-inner_names c = inner_names

pub returns-clause-types_in_parentheses : goal.returns-clause-types_in_parentheses
returns-clause-types_in_parentheses c = types_in_parentheses

pub returns-clause-declarations : goal.returns-clause-declarations
returns-clause-declarations c = declarations
