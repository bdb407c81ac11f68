-- What the definitions say of small texts, by computation.
use Rattle.std.specs.Prelude.{refl}
use Rattle.std.specs.Fmt.{digits}
use Rattle.lt_token.specs.Words.{annotations, attributes, assemblers, unsupported, keywords, skipped, respelled, spells_const, spells_volatile, spells_signed, word_of}
use Rattle.lt_tree.specs.TypeWords.{spellings, all_words, same_word}
use Rattle.lt_entry.specs.Examples.{TypesAreNamed, BlocksAreJudged, RequirementsAreJudged, FaultsAreFound, FormsOfTargetsCount, SuitesAreJudged}

pub types : TypesAreNamed
unfolding attributes assemblers unsupported annotations keywords skipped respelled spells_const spells_volatile spells_signed word_of spellings all_words same_word
types = (refl, refl, refl, refl, refl, refl, refl, refl)

pub blocks : BlocksAreJudged
unfolding digits attributes assemblers unsupported annotations keywords skipped respelled spells_const spells_volatile spells_signed word_of spellings all_words same_word
blocks = (refl, refl, refl, refl, refl, refl)

pub suites : SuitesAreJudged
unfolding digits
suites = (refl, refl, refl, refl, refl)

pub requirements : RequirementsAreJudged
unfolding digits
requirements = (refl, refl, refl, refl)

pub faults : FaultsAreFound
unfolding digits
faults = (refl, refl, refl)

pub forms : FormsOfTargetsCount
unfolding digits
forms = (refl, refl, refl)
