-- The levels as they lie in memory, and what the pass over tokens gives.
use Rattle.std.specs.Prelude.{◌≡◌, ℕ, List, ◌∷◌, reverse}
use Rattle.lt_token.specs.Tokens.{Token}
use Rattle.lt_token.specs.Nest.{weight, nests, IsShallow, IsFirstDeep}
use Rattle.lt_lex.specs.declared.levels.Levels.{Levels}
use Rattle.lt_lex.specs.declared.stop.LexStop.{LexStop}
use Rattle.lt_lex.specs.declared.stop.LexStop.TheVariants as stop

abbrev pub levels_of : Levels → List ℕ
levels_of v = v.inner ∷ reverse v.outer.items

abbrev pub IsWeighed : Levels → Type 0
IsWeighed v = v.weight ≡ weight (levels_of v)

abbrev pub AreNests : List Token → List ℕ → Type 0
AreNests tokens depths = (depths ≡ nests tokens) × IsShallow tokens

abbrev pub StopsNesting : List Token → LexStop → Type 0
StopsNesting tokens (stop.TooNested at) = IsFirstDeep tokens at
StopsNesting tokens stop.NoMemory = Unit {0}
StopsNesting tokens e = ⊥
