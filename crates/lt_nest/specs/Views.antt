-- The walk without where it lies in memory.
use Rattle.std.specs.Prelude.{◌≡◌, ℕ, max, Bool, if◌then◌else◌, List, ◌∷◌, ◌++◌, reverse, Option, None}
use Rattle.lt_token.specs.declared.lexeme.Sort.{Sort}
use Rattle.lt_token.specs.Lexemes.{Lexeme}
use Rattle.lt_lex.specs.Views.{lexemes_of}
use Rattle.lt_nest.specs.declared.levels.Levels.{Levels}
use Rattle.lt_nest.specs.declared.nesting.Nesting.{Nesting}
use Rattle.lt_nest.specs.declared.walk.Walk.{Walk}
use Rattle.lt_nest.specs.declared.skipping.Skipping.{Skipping}
use Rattle.lt_nest.specs.declared.skipping.Skipping.TheVariants as skipping
use Rattle.lt_nest.specs.Walk.{Behind, answer_from}

abbrev pub levels_of : Levels → List ℕ
levels_of v = v.inner ∷ reverse v.outer.items

abbrev pub behind_of : Nesting → Behind
behind_of n = record { levels = levels_of n.levels; awaited = n.awaited; greatest = n.greatest }

-- the greatest nest of the whole text, if these lexemes follow
abbrev pub answer_with : Walk → List Lexeme → Option ℕ
answer_with w ls = answer_from w.skipping w.trails (behind_of w.nesting) ls

-- Whatever follows, the walk behind a piece has the answer of the walk before it; there is none where it doesn't go on.
abbrev pub Takes : Walk → Option Sort → List ℕ → Walk → Bool → Type 0
Takes before sort text after goes =
    (at : ℕ) (ls : List Lexeme) → answer_with before (lexemes_of sort text at ++ ls) ≡ (if goes then answer_with after ls else None)

-- how many parentheses are open inside of a group
abbrev pub inner_of : Skipping → ℕ
inner_of skipping.Nothing = 0
inner_of skipping.Group = 0
inner_of (skipping.Inside inner) = inner

-- the greatest number that a walk counts up
abbrev pub most : Walk → ℕ
most w = max w.nesting.levels.weight (inner_of w.skipping)
