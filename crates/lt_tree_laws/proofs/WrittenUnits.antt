-- The examples of written units and marks compute.
use Rattle.std.proofs.Common.{refl}
use Rattle.lt_tree.specs.Pieces.{text_of}
use Rattle.lt_tree.specs.Canon.{operand}
use Rattle.lt_tree.specs.CanonUnits.{lines}
use Rattle.lt_tree_laws.specs.WrittenUnits as u

pub decisions : u.DecisionsAreMarked
unfolding text_of operand lines
decisions = refl

pub relations : u.RelationsAreMarked
unfolding text_of operand
relations = refl

pub bound_names : u.BoundNamesAreWritten
unfolding text_of operand
bound_names = refl

pub definitions_and_uses : u.DefinitionsAndUsesAreMarked
unfolding text_of operand lines
definitions_and_uses = refl

pub units : u.UnitsAreWritten
unfolding text_of operand lines
units = (refl, refl)
