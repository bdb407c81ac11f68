-- The tokens of type names, as the code takes them one by one.
use Rattle.std.specs.Prelude.{ℕ, not, if◌then◌else◌, List, [], ◌∷◌, codes, map, filter, Option, Some, None}
use Rattle.std.specs.Borrow.{Bor}
use Rattle.std.specs.Str.{bytes_eq}
use Rattle.lt_token.specs.Words.{is_among, skipped, word_of}
use Rattle.lt_tree.specs.declared.specifier.TypeWord.{TypeWord}
use Rattle.lt_entry.specs.Lines.{is_empty}

abbrev pub texts : List (Bor (List ℕ)) → List (List ℕ)
texts words = map (λ word. word.now) words

-- the words for which tokens stand that aren't empty and aren't skipped
abbrev pub kept : List (List ℕ) → List (List ℕ)
kept tokens = map word_of (filter (λ token. not (is_among token skipped)) (filter (λ token. not (is_empty token)) tokens))

-- the word of a type that is spelt so, by a table of spellings
abbrev pub word_in : List (List ℕ × TypeWord) → List ℕ → Option TypeWord
word_in [] token = None
word_in (row ∷ rows) token = if bytes_eq row.0 token then Some row.1 else word_in rows token

-- pieces, each behind an asterisk
abbrev pub behind_stars : List (List ℕ) → List (List ℕ)
behind_stars [] = []
behind_stars (piece ∷ pieces) = codes "*" ∷ piece ∷ behind_stars pieces
