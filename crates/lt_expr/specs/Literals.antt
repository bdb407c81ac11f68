-- The value of string literals, C11 6.4.5, as it is read.
use Rattle.std.specs.Prelude.{ℕ, zero, suc, Bool, true, false, ◌==◌, if◌then◌else◌, List, [], ◌∷◌, ◌++◌, length, Option, Some, None, option_map, option_and_then}
use Rattle.lt_tree.specs.Strings.{is_plain, escape}
use Rattle.lt_tree.specs.Symbols.{Symbol, literal}

-- the value, if nothing stands behind the closing quote
abbrev pub closed : List ℕ → Option (List ℕ)
closed [] = Some []
closed (b ∷ bytes) = None

-- what the bytes behind an opening quote spell: fewer than so many characters and a closing quote
unfoldable pub value_within : ℕ → List ℕ → Option (List ℕ)
value_within zero bytes = None
value_within (suc n) [] = None
value_within (suc n) (b ∷ bytes) =
    if b == 34 then closed bytes
    else (if is_plain b then option_map (λ value. b ∷ value) (value_within n bytes)
    else (if b == 92 then option_and_then (λ x. option_map (λ value. x.0 ∷ value) (value_within n x.1)) (escape bytes)
    else None))

-- the bytes that a literal spells, as it is written with its quotes
abbrev pub value_of : List ℕ → Option (List ℕ)
value_of [] = None
value_of (b ∷ bytes) = if b == 34 then value_within (length bytes) bytes else None

abbrev pub begins_literal : List Symbol → Bool
begins_literal (literal w at ∷ ts) = true
begins_literal _ = false

-- STRING+, and what is behind
abbrev pub text_of : List Symbol → Option (List ℕ × List Symbol)
text_of (literal w at ∷ ts) =
    option_and_then (λ front. if begins_literal ts then option_map (λ x. (front ++ x.0, x.1)) (text_of ts) else Some (front, ts)) (value_of w)
text_of _ = None
