-- The examples of written declarations compute.
use Rattle.std.proofs.Common.{refl}
use Rattle.lt_tree.specs.Pieces.{text_of}
use Rattle.lt_tree.specs.Canon.{operand}
use Rattle.lt_tree.specs.TypeWords.{spellings, all_words, same_word}
use Rattle.lt_tree_laws.specs.WrittenDeclarations as d

pub declarators : d.DeclaratorsReadFromTheirNames
unfolding text_of operand
declarators = (refl, refl, refl, refl, refl, refl, refl, refl, refl, refl, refl, refl, refl, refl, refl)

pub declarations : d.DeclarationsAreWritten
unfolding text_of operand spellings all_words same_word
declarations = (refl, refl, refl, refl, refl, refl)
