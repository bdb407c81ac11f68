-- Commands that are simple.
use Rattle.std.proofs.Common.{◌≡◌, ◌&&◌, Bool, true, false, List, refl}
use Rattle.std.proofs.lemmas.Bool.{false≢true}
use Rattle.clap.specs.Words.{App, Text, is_simple, takes}

first_true : (a b : Bool) → (a && b) ≡ true → a ≡ true
first_true true b h = refl
first_true false b h = absurd (false≢true h)

pub simple_where_taken : (app : App) (words : List Text) → takes app words ≡ true → is_simple app ≡ true
simple_where_taken app words h = first_true (is_simple app) _ h
