-- The types that words name, C11 6.7.2: the words may stand in any order.
use Rattle.std.specs.Prelude.{ℕ, Bool, ◌==◌, if◌then◌else◌, List, [], ◌∷◌, Option, Some, None, option_map, option_and_then, count_by}
use Rattle.std.specs.List.{list_all}
use denote.Enum.Bare.{sameb}
use Rattle.lt_tree.specs.contracts.specifier.TypeWord.{the_type}
use Rattle.lt_tree.specs.declared.specifier.BasicType.{BasicType}
use Rattle.lt_tree.specs.declared.specifier.BasicType.TheVariants as b
use Rattle.lt_tree.specs.declared.specifier.TypeWord.{TypeWord}
use Rattle.lt_tree.specs.declared.specifier.TypeWord.TheVariants as w
use Rattle.lt_tree.specs.Tree.{TypeSpecifiers, no_types, a_type, Basic, Word}

-- a type, and words that name it
pub record Spelling : Type 0 where
  pub type : BasicType
  pub words : List TypeWord

abbrev pub by : List TypeWord → BasicType → Spelling
by words type = record { type = type; words = words }

unfoldable pub spellings : List Spelling
spellings =
    by (w.Void ∷ []) b.Void
    ∷ by (w.Char ∷ []) b.Char
    ∷ by (w.Signed ∷ w.Char ∷ []) b.SignedChar
    ∷ by (w.Unsigned ∷ w.Char ∷ []) b.UnsignedChar
    ∷ by (w.Short ∷ []) b.Short
    ∷ by (w.Signed ∷ w.Short ∷ []) b.Short
    ∷ by (w.Short ∷ w.Int ∷ []) b.Short
    ∷ by (w.Signed ∷ w.Short ∷ w.Int ∷ []) b.Short
    ∷ by (w.Unsigned ∷ w.Short ∷ []) b.UnsignedShort
    ∷ by (w.Unsigned ∷ w.Short ∷ w.Int ∷ []) b.UnsignedShort
    ∷ by (w.Int ∷ []) b.Int
    ∷ by (w.Signed ∷ []) b.Int
    ∷ by (w.Signed ∷ w.Int ∷ []) b.Int
    ∷ by (w.Unsigned ∷ []) b.Unsigned
    ∷ by (w.Unsigned ∷ w.Int ∷ []) b.Unsigned
    ∷ by (w.Long ∷ []) b.Long
    ∷ by (w.Signed ∷ w.Long ∷ []) b.Long
    ∷ by (w.Long ∷ w.Int ∷ []) b.Long
    ∷ by (w.Signed ∷ w.Long ∷ w.Int ∷ []) b.Long
    ∷ by (w.Unsigned ∷ w.Long ∷ []) b.UnsignedLong
    ∷ by (w.Unsigned ∷ w.Long ∷ w.Int ∷ []) b.UnsignedLong
    ∷ by (w.Long ∷ w.Long ∷ []) b.LongLong
    ∷ by (w.Signed ∷ w.Long ∷ w.Long ∷ []) b.LongLong
    ∷ by (w.Long ∷ w.Long ∷ w.Int ∷ []) b.LongLong
    ∷ by (w.Signed ∷ w.Long ∷ w.Long ∷ w.Int ∷ []) b.LongLong
    ∷ by (w.Unsigned ∷ w.Long ∷ w.Long ∷ []) b.UnsignedLongLong
    ∷ by (w.Unsigned ∷ w.Long ∷ w.Long ∷ w.Int ∷ []) b.UnsignedLongLong
    ∷ by (w.Float ∷ []) b.Float
    ∷ by (w.Double ∷ []) b.Double
    ∷ by (w.Long ∷ w.Double ∷ []) b.LongDouble
    ∷ by (w.Bool ∷ []) b.Bool
    ∷ []

unfoldable pub all_words : List TypeWord
all_words = w.Void ∷ w.Char ∷ w.Short ∷ w.Int ∷ w.Long ∷ w.Float ∷ w.Double ∷ w.Signed ∷ w.Unsigned ∷ w.Bool ∷ []

unfoldable pub same_word : TypeWord → TypeWord → Bool
same_word = sameb the_type

-- how often a word stands among words
abbrev pub occurrences : TypeWord → List TypeWord → ℕ
occurrences word words = count_by (same_word word) words

-- the same words, each as often, in whatever order
abbrev pub same_words : List TypeWord → List TypeWord → Bool
same_words xs ys = list_all (λ word. occurrences word xs == occurrences word ys) all_words

abbrev pub named_among : List Spelling → List TypeWord → Option BasicType
named_among [] words = None
named_among (s ∷ ss) words = if same_words s.words words then Some s.type else named_among ss words

-- the type that the words name together
abbrev pub basic_of : List TypeWord → Option BasicType
basic_of words = named_among spellings words

-- the words, if nothing else stands among them
abbrev pub words_alone : TypeSpecifiers → Option (List TypeWord)
words_alone no_types = Some []
words_alone (a_type (Word word) rest) = option_map (λ words. word ∷ words) (words_alone rest)
words_alone (a_type _ rest) = None

abbrev pub or_as_they_stand : TypeSpecifiers → Option BasicType → TypeSpecifiers
or_as_they_stand types None = types
or_as_they_stand types (Some type) = a_type (Basic type) no_types

-- type specifiers as a tree holds them: words that name a type together are that type, and all others stand as they are
abbrev pub gathered : TypeSpecifiers → TypeSpecifiers
gathered types = or_as_they_stand types (option_and_then basic_of (words_alone types))
