-- The examples of written expressions compute.
use Rattle.std.proofs.Common.{refl}
use Rattle.lt_tree.specs.Pieces.{text_of}
use Rattle.lt_tree.specs.Canon.{operand}
use Rattle.lt_tree_laws.specs.WrittenExpressions as e

pub parentheses : e.ParenthesesStandWhereNeeded
unfolding text_of operand
parentheses = (refl, refl, refl, refl, refl, refl, refl, refl, refl, refl, refl, refl, refl, refl)

pub prefixes : e.PrefixesKeepApart
unfolding text_of operand
prefixes = (refl, refl, refl, refl, refl, refl, refl, refl, refl, refl, refl, refl)

pub suffixes : e.OperandsStandBeforeTheirSuffixes
unfolding text_of operand
suffixes = (refl, refl, refl, refl, refl, refl, refl, refl, refl, refl)

pub types : e.TypesStandInParentheses
unfolding text_of operand
types = (refl, refl, refl, refl, refl, refl, refl, refl, refl, refl, refl)

pub strings : e.StringsAreEscaped
unfolding text_of operand
strings = (refl, refl, refl, refl)
