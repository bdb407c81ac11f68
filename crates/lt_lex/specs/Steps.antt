-- What one lexeme adds to the tokens, and why it stops them.
use Rattle.std.specs.Prelude.{◌≡◌, Bool, false, List, [], ◌∷◌, ◌++◌, Option, Some, None}
use Rattle.lt_token.specs.declared.lexeme.Role.{Role}
use Rattle.lt_token.specs.declared.lexeme.Role.TheVariants as role
use Rattle.lt_token.specs.Lexemes.{Lexeme}
use Rattle.lt_token.specs.Tokens.{Token, Reads, token_at, trails_after, no_token, unsupported_word}
use Rattle.lt_lex.specs.declared.stop.LexStop.{LexStop}
use Rattle.lt_lex.specs.declared.stop.LexStop.TheVariants as stop

-- by its role, and by what is left behind the parentheses after it
abbrev pub IsTaken : Role → Option (List Lexeme) → Bool → Lexeme → List Lexeme → List Token → List Token → Bool → List Lexeme → Type 0
IsTaken (role.Token k) group trails l after old new trails' rest = (new ≡ old ++ token_at k l ∷ []) × (trails' ≡ trails_after k l.text) × (rest ≡ after)
IsTaken role.Skipped group trails l after old new trails' rest = (new ≡ old) × (trails' ≡ trails) × (rest ≡ after)
IsTaken role.SkippedGroup group trails l after old new trails' rest = (new ≡ old) × (trails' ≡ trails) × (group ≡ Some rest)
IsTaken role.Unsupported group trails l after old new trails' rest = ⊥
IsTaken role.Malformed group trails l after old new trails' rest = ⊥

abbrev pub Refuses : Role → Option (List Lexeme) → Lexeme → LexStop → Type 0
Refuses role.SkippedGroup group l (stop.Lex at) = (group ≡ None) × (at ≡ l.at)
Refuses role.Malformed group l (stop.Lex at) = at ≡ l.at
Refuses role.Unsupported group l (stop.Unsupported word at) = (word ≡ l.text) × (at ≡ l.at)
Refuses r group l stop.NoMemory = Unit {0}
Refuses r group l e = ⊥

-- the lexemes have tokens only up to this refusal
abbrev pub StopsAt : List Lexeme → LexStop → Type 0
StopsAt ls (stop.Lex at) = (before : List Token) × Reads false ls before (Some (no_token at))
StopsAt ls (stop.Unsupported word at) = (before : List Token) × Reads false ls before (Some (unsupported_word word at))
StopsAt ls (stop.TooNested at) = ⊥
StopsAt ls stop.NoMemory = Unit {0}
