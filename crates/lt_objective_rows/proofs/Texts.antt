-- The marked texts compute.
use Rattle.std.proofs.Common.{refl}
use Rattle.std.specs.Fmt.{digits}
use Rattle.lt_tree.specs.Pieces.{text_of}
use Rattle.lt_tree.specs.Canon.{operand}
use Rattle.lt_tree.specs.CanonUnits.{lines}
use Rattle.lt_tree.specs.Typing.UnitTyping.{typing_to}
use Rattle.lt_objective_rows.specs.MarkedTexts as s

pub decisions : s.DecisionsAreMarked
unfolding digits typing_to text_of operand lines
decisions = (refl, refl, refl, refl)

pub clauses : s.ClausesAreMarked
unfolding digits typing_to text_of operand lines
clauses = (refl, refl)

pub combinations : s.CombinationsAreMarked
unfolding digits typing_to text_of operand lines
combinations = (refl, refl)

pub of_negations : s.ClausesOfNegationsAreReplaced
unfolding digits typing_to text_of operand lines
of_negations = refl

pub constant : s.ConstantClausesCount
unfolding digits typing_to text_of operand lines
constant = (refl, refl, refl)

pub eight : s.EightClausesAreTheMost
unfolding digits typing_to text_of operand lines
eight = (refl, refl, refl, refl, refl)

pub starts : s.StartsAreMarked
unfolding digits typing_to text_of operand lines
starts = (refl, refl, refl)

pub parameters : s.ParametersAreMarked
unfolding digits typing_to text_of operand lines
parameters = refl

pub mutants : s.MutantsAreMarked
unfolding digits typing_to text_of operand lines
mutants = (refl, refl, refl, refl)

pub commas : s.CommasHaveTheTypeOfTheirLastPart
unfolding digits typing_to text_of operand lines
commas = (refl, refl, refl, refl, refl)

pub others : s.OthersAreLeft
unfolding digits typing_to text_of operand lines
others = (refl, refl)

pub places : s.PlacesAreMarked
unfolding digits typing_to text_of operand lines
places = (refl, (refl, refl, refl, refl, refl), refl, refl, refl)
