-- Bytes before a closing bracket.
use Rattle.std.proofs.Common.{◌≡◌, ℕ, true, false, List, [], ◌∷◌, ◌++◌, refl, ap, ◌∙◌, Option, Some, None}
use Rattle.std.specs.Prelude.{◌==◌, option_and_then}
use Rattle.lt_entry.specs.Reading.{inside, read_index, read_closed}

pub inside_closed : (bytes : List ℕ) (last : ℕ) → (last == 93) ≡ true → inside (bytes ++ last ∷ []) ≡ Some bytes
inside_closed [] last is = rw is refl
inside_closed (b ∷ []) last is = rw (inside_closed [] last is) refl
inside_closed (b ∷ c ∷ bytes) last is = rw (inside_closed (c ∷ bytes) last is) refl

pub inside_open : (bytes : List ℕ) (last : ℕ) → (last == 93) ≡ false → inside (bytes ++ last ∷ []) ≡ None
inside_open [] last is = rw is refl
inside_open (b ∷ []) last is = rw (inside_open [] last is) refl
inside_open (b ∷ c ∷ bytes) last is = rw (inside_open (c ∷ bytes) last is) refl

closed_by : (bytes : List ℕ) (o : Option (List ℕ)) (closed : List ℕ) → inside closed ≡ o → read_closed closed ≡ option_and_then read_index o
closed_by bytes o closed is = ap (option_and_then read_index) is

pub closed_none : (closed bytes : List ℕ) (last : ℕ) → closed ≡ bytes ++ last ∷ [] → (last == 93) ≡ false → read_closed closed ≡ None
closed_none closed bytes last are is = closed_by bytes None closed (ap inside are ∙ inside_open bytes last is)

pub closed_some : (closed bytes : List ℕ) (last : ℕ) → closed ≡ bytes ++ last ∷ [] → (last == 93) ≡ true → read_closed closed ≡ read_index bytes
closed_some closed bytes last are is = closed_by bytes (Some bytes) closed (ap inside are ∙ inside_closed bytes last is)
