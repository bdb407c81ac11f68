-- A walk over the lexemes of a text that keeps none of them.
use Rattle.std.specs.Prelude.{ℕ, ◌+◌, ◌-◌, max, Bool, false, if◌then◌else◌, ◌==◌, List, [], ◌∷◌, codes, Option, Some, None, option_map}
use Rattle.lt_token.specs.declared.kind.Kind.{Kind}
use Rattle.lt_token.specs.declared.lexeme.Sort.{Sort}
use Rattle.lt_token.specs.declared.lexeme.Role.{Role}
use Rattle.lt_token.specs.declared.lexeme.Role.TheVariants as role
use Rattle.lt_token.specs.declared.lexeme.Step.{Step}
use Rattle.lt_token.specs.declared.lexeme.Step.TheVariants as step
use Rattle.lt_token.specs.Lexemes.{Lexeme}
use Rattle.lt_token.specs.Tokens.{Token, token_at, is_mark, role_of, trails_after}
use Rattle.lt_token.specs.Nest.{weight, nests_from, levels_after, step_of, is_else, begins_with_else}
use Rattle.lt_nest.specs.declared.skipping.Skipping.{Skipping}
use Rattle.lt_nest.specs.declared.skipping.Skipping.TheVariants as skipping
use Rattle.lt_nest.specs.declared.skipping.Taken.{Taken}
use Rattle.lt_nest.specs.declared.skipping.Taken.TheVariants as taken
use Rattle.lt_nest.specs.Greatest.{greatest}

-- ---- from lexemes to tokens

-- behind a closing parenthesis in a group, with this many open inside of it
abbrev pub closed : ℕ → Skipping
closed inner = if inner == 0 then skipping.Nothing else skipping.Inside (inner - 1)

abbrev pub inside : ℕ → Sort → List ℕ → Skipping
inside inner sort text =
    if is_mark (codes "(") sort text then skipping.Inside (inner + 1)
    else (if is_mark (codes ")") sort text then closed inner
    else skipping.Inside inner)

abbrev pub taken_by : Role → Taken
taken_by (role.Token k) = taken.Token k
taken_by role.Skipped = taken.Skipped skipping.Nothing
taken_by role.SkippedGroup = taken.Skipped skipping.Group
taken_by role.Unsupported = taken.Refused
taken_by role.Malformed = taken.Refused

-- what a lexeme is where this is skipped
abbrev pub taken_where : Skipping → Bool → Sort → List ℕ → Taken
taken_where skipping.Nothing trails sort text = taken_by (role_of trails sort text)
taken_where skipping.Group trails sort text = if is_mark (codes "(") sort text then taken.Skipped (skipping.Inside 0) else taken.Refused
taken_where (skipping.Inside inner) trails sort text = taken.Skipped (inside inner sort text)

-- no group is open at the end
abbrev pub tokens_at_end : Skipping → Option (List Token)
tokens_at_end skipping.Nothing = Some []
tokens_at_end skipping.Group = None
tokens_at_end (skipping.Inside inner) = None

abbrev pub tokens_behind : Taken → Bool → Lexeme → (Skipping → Bool → Option (List Token)) → Option (List Token)
tokens_behind (taken.Token k) trails l rest = option_map (λ ts. token_at k l ∷ ts) (rest skipping.Nothing (trails_after k l.text))
tokens_behind (taken.Skipped s) trails l rest = rest s trails
tokens_behind taken.Refused trails l rest = None

-- the tokens of the lexemes from a place on, if all of them are read
abbrev pub tokens_from : Skipping → Bool → List Lexeme → Option (List Token)
tokens_from s trails [] = tokens_at_end s
tokens_from s trails (l ∷ ls) = tokens_behind (taken_where s trails l.sort l.text) trails l (λ t after. tokens_from t after ls)

-- ---- from tokens to the greatest nest

-- What is known behind tokens: the levels that the last one finds, what it does to them once it is known
-- whether `else` follows, and the greatest nest of those before it.
pub record Behind : Type 0 where
  pub levels : List ℕ
  pub awaited : Step
  pub greatest : ℕ

abbrev pub at_first : Behind
at_first = record { levels = 0 ∷ []; awaited = step.Passes; greatest = 0 }

abbrev pub left_by : Behind → Bool → List ℕ
left_by b else_follows = levels_after b.awaited else_follows b.levels

-- the last token has its nest
abbrev pub settled : Behind → Bool → Behind
settled b else_follows = record { levels = left_by b else_follows; awaited = b.awaited; greatest = max b.greatest (weight (left_by b else_follows)) }

-- one more token is known
abbrev pub one_more : Behind → Kind → List ℕ → Behind
one_more b kind text = record (settled b (is_else kind text)) { awaited = step_of kind text }

-- the greatest nest of all tokens, if these follow
abbrev pub greatest_with : Behind → List Token → ℕ
greatest_with b ts =
    max b.greatest (greatest (weight (left_by b (begins_with_else ts)) ∷ nests_from (left_by b (begins_with_else ts)) ts))

-- ---- both

abbrev pub answer_from : Skipping → Bool → Behind → List Lexeme → Option ℕ
answer_from s trails b ls = option_map (greatest_with b) (tokens_from s trails ls)

abbrev pub answer_of : List Lexeme → Option ℕ
answer_of ls = answer_from skipping.Nothing false at_first ls
