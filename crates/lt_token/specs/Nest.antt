-- How deep tokens nest: a count for each open level, and the number of open brackets.
use Rattle.std.specs.Prelude.{◌≡◌, ℕ, suc, ◌+◌, ◌-◌, ◌≤◌, ◌<◌, Bool, false, ◌||◌, if◌then◌else◌, List, [], ◌∷◌, length, sum, codes, slice_index, map}
use Rattle.std.specs.Str.{bytes_eq}
use Rattle.lt_token.specs.declared.kind.Kind.{Kind}
use Rattle.lt_token.specs.declared.kind.Kind.TheVariants as kind
use Rattle.lt_token.specs.declared.lexeme.Step.{Step}
use Rattle.lt_token.specs.declared.lexeme.Step.TheVariants as step
use Rattle.lt_token.specs.Words.{is_among}
use Rattle.lt_token.specs.Tokens.{Token}

unfoldable pub openings : List (List ℕ)
openings = codes "(" ∷ codes "[" ∷ codes "{" ∷ []

-- keywords that count
unfoldable pub counted : List (List ℕ)
counted = codes "if" ∷ codes "while" ∷ codes "for" ∷ codes "do" ∷ codes "switch" ∷ codes "else" ∷ codes "sizeof" ∷ []

-- What a token does to the levels.
abbrev pub step_of : Kind → List ℕ → Step
step_of kind.Keyword w = if is_among w counted then step.Counts else step.Passes
step_of kind.Punctuator w =
    if is_among w openings then step.Opens
    else (if bytes_eq w (codes ")") || bytes_eq w (codes "]") then step.Returns
    else (if bytes_eq w (codes "}") then step.EndsBlock
    else (if bytes_eq w (codes ";") then step.EndsStatement
    else (if bytes_eq w (codes ",") then step.Separates
    else (if bytes_eq w (codes "...") then step.Passes
    else step.Counts)))))
step_of _ w = step.Passes

-- Levels are the counts of the open levels, the innermost first; the last is that outside of all brackets.

-- the innermost level counts one more
abbrev pub count : List ℕ → List ℕ
count [] = []
count (n ∷ outer) = suc n ∷ outer

-- the innermost level counts from here
abbrev pub begin_anew : List ℕ → List ℕ
begin_anew [] = []
begin_anew (n ∷ outer) = 0 ∷ outer

-- the innermost open bracket is closed, if one is open
abbrev pub leave : List ℕ → List ℕ
leave (n ∷ m ∷ outer) = m ∷ outer
leave levels = levels

-- the levels after a token; `else_follows` says that the next one is `else`
abbrev pub levels_after : Step → Bool → List ℕ → List ℕ
levels_after step.Opens else_follows levels = 0 ∷ levels
levels_after step.Returns else_follows levels = count (leave levels)
levels_after step.EndsBlock else_follows levels = if else_follows then leave levels else begin_anew (leave levels)
levels_after step.EndsStatement else_follows levels = if else_follows then levels else begin_anew levels
levels_after step.Separates else_follows levels = begin_anew levels
levels_after step.Counts else_follows levels = count levels
levels_after step.Passes else_follows levels = levels

abbrev pub is_else : Kind → List ℕ → Bool
is_else kind.Keyword w = bytes_eq w (codes "else")
is_else _ w = false

abbrev pub begins_with_else : List Token → Bool
begins_with_else [] = false
begins_with_else (t ∷ ts) = is_else t.kind t.text

-- the sum of the counts of all open levels, and the number of open brackets
abbrev pub weight : List ℕ → ℕ
weight levels = sum levels + (length levels - 1)

abbrev pub turned : Token → List Token → List ℕ → List ℕ
turned t ts levels = levels_after (step_of t.kind t.text) (begins_with_else ts) levels

-- the nest of each token, behind tokens that leave these levels
abbrev pub nests_from : List ℕ → List Token → List ℕ
nests_from levels [] = []
nests_from levels (t ∷ ts) = weight (turned t ts levels) ∷ nests_from (turned t ts levels) ts

-- the nest of each token of a text
unfoldable pub nests : List Token → List ℕ
nests tokens = nests_from (0 ∷ []) tokens

-- the nest of the token at this place
abbrev pub nest : List Token → ℕ → ℕ
nest tokens k = slice_index (nests tokens) k

abbrev pub deepest : ℕ
deepest = 1000

-- no token nests too deeply
abbrev pub IsShallow : List Token → Type 0
IsShallow tokens = (k : ℕ) → k < length tokens → nest tokens k ≤ deepest

-- the first token that nests too deeply stands at this byte
abbrev pub IsFirstDeep : List Token → ℕ → Type 0
IsFirstDeep tokens at =
    (k : ℕ) × (k < length tokens) × (slice_index (map (λ t. t.at) tokens) k ≡ at) × (deepest < nest tokens k) × ((j : ℕ) → j < k → nest tokens j ≤ deepest)
