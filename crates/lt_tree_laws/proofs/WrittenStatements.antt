-- The examples of written statements compute.
use Rattle.std.proofs.Common.{refl}
use Rattle.lt_tree.specs.Pieces.{text_of}
use Rattle.lt_tree.specs.Canon.{operand}
use Rattle.lt_tree.specs.CanonUnits.{lines}
use Rattle.lt_tree_laws.specs.WrittenStatements as s

pub loops : s.LoopsAreWritten
unfolding text_of operand lines
loops = (refl, refl, refl, refl, refl, refl, refl)

pub choices : s.ChoicesAreWritten
unfolding text_of operand lines
choices = (refl, refl, refl, refl, refl)
