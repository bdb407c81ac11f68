-- The type names of `block` lines, C11 6.7.7: specifiers and pointers, as they are read behind the unit's end, in file scope.
use Rattle.std.specs.Prelude.{ℕ, ◌==◌, ◌||◌, Bool, true, not, if◌then◌else◌, List, [], ◌∷◌, map, codes, filter, find, flat_map, Option, Some, None, option_map, option_and_then}
use Rattle.std.specs.List.{slice_split, list_all}
use Rattle.std.specs.Str.{bytes_eq}
use Rattle.lt_token.specs.Words.{is_among, keywords, skipped, word_of}
use Rattle.lt_tree.specs.declared.specifier.TypeWord.{TypeWord}
use Rattle.lt_tree.specs.Symbols.{spelling}
use Rattle.lt_tree.specs.Canon.{sign_of_word}
use Rattle.lt_tree.specs.TypeWords.{all_words, basic_of}
use Rattle.lt_tree.specs.Typing.Types.{CType, Pointer, Struct}
use Rattle.lt_tree.specs.Typing.Specifying.{basic_type, enum_type}
use Rattle.lt_tree.specs.Typing.Entities.{Entity, a_typedef, Tagged, a_struct, an_enum, Frame, bound_among, tagged_among}
use Rattle.lt_entry.specs.Lines.{is_empty}

-- ---- tokens

-- the pieces between asterisks, with the asterisks
abbrev pub with_stars : List (List ℕ) → List (List ℕ)
with_stars [] = []
with_stars (piece ∷ []) = piece ∷ []
with_stars (piece ∷ pieces) = piece ∷ codes "*" ∷ with_stars pieces

abbrev pub tokens_in : List ℕ → List (List ℕ)
tokens_in word = filter (λ token. not (is_empty token)) (with_stars (slice_split (λ b. b == 42) word))

-- The tokens of a type name. Words that a program's text may have and that say nothing, as `restrict`, are skipped here too, and
-- other spellings of keywords stand for them.
abbrev pub tokens_of : List (List ℕ) → List (List ℕ)
tokens_of words = map word_of (filter (λ token. not (is_among token skipped)) (flat_map tokens_in words))

abbrev pub is_star : List ℕ → Bool
is_star token = bytes_eq token (codes "*")

-- C11 6.7.3
abbrev pub is_qualifier : List ℕ → Bool
is_qualifier token = bytes_eq token (codes "const") || bytes_eq token (codes "volatile")

-- ---- specifiers, C11 6.7.2

-- nothing but qualifiers stands behind what names the type
abbrev pub if_qualifiers : List (List ℕ) → Option CType → Option CType
if_qualifiers tokens t = if list_all is_qualifier tokens then t else None

abbrev pub type_word : List ℕ → Option TypeWord
type_word token = find (λ word. bytes_eq (spelling (sign_of_word word)) token) all_words

abbrev pub one_more_word : Option TypeWord → Option (List TypeWord) → Option (List TypeWord)
one_more_word (Some word) (Some words) = Some (word ∷ words)
one_more_word _ _ = None

-- the words of an arithmetic type, among which qualifiers may stand
abbrev pub type_words : List (List ℕ) → Option (List TypeWord)
type_words [] = Some []
type_words (token ∷ tokens) = if is_qualifier token then type_words tokens else one_more_word (type_word token) (type_words tokens)

abbrev pub arithmetic_type : List (List ℕ) → Option CType
arithmetic_type tokens = option_map basic_type (option_and_then basic_of (type_words tokens))

abbrev pub struct_named : Option Tagged → Option CType
struct_named (Some (a_struct k)) = Some (Struct k)
struct_named _ = None

abbrev pub enum_named : Option Tagged → Option CType
enum_named (Some (an_enum true)) = Some enum_type
enum_named _ = None

abbrev pub typedef_named : Option Entity → Option CType
typedef_named (Some (a_typedef t)) = Some t
typedef_named _ = None

-- what a tag stands for, behind the word in front of it
abbrev pub tag_type : Frame → (named : Option Tagged → Option CType) → List (List ℕ) → Option CType
tag_type file named [] = None
tag_type file named (tag ∷ tokens) = if_qualifiers tokens (named (tagged_among tag file.tags))

-- the type that specifiers name
abbrev pub specified : Frame → List (List ℕ) → Option CType
specified file [] = None
specified file (token ∷ tokens) =
    if is_qualifier token then specified file tokens
    else if bytes_eq token (codes "struct") then tag_type file struct_named tokens
    else if bytes_eq token (codes "enum") then tag_type file enum_named tokens
    else if is_among token keywords then arithmetic_type (token ∷ tokens)
    else if_qualifiers tokens (typedef_named (bound_among token file.names))

-- ---- pointers, C11 6.7.6.1

-- A pointer to the type for each asterisk. A qualifier of a pointer says nothing here, since types are compared without.
abbrev pub pointers_to : List (List ℕ) → CType → Option CType
pointers_to [] t = Some t
pointers_to (token ∷ tokens) t =
    if is_star token then pointers_to tokens (Pointer t) else if is_qualifier token then pointers_to tokens t else None

abbrev pub before_star : List (List ℕ) → List (List ℕ)
before_star [] = []
before_star (token ∷ tokens) = if is_star token then [] else token ∷ before_star tokens

abbrev pub from_star : List (List ℕ) → List (List ℕ)
from_star [] = []
from_star (token ∷ tokens) = if is_star token then token ∷ tokens else from_star tokens

-- the type that tokens name
abbrev pub type_of_tokens : Frame → List (List ℕ) → Option CType
type_of_tokens file tokens = option_and_then (pointers_to (from_star tokens)) (specified file (before_star tokens))

-- the type that the words of a `block` line name
abbrev pub type_named : Frame → List (List ℕ) → Option CType
type_named file words = type_of_tokens file (tokens_of words)
