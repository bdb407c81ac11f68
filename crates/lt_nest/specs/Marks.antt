-- The bytes that are punctuators by themselves.
use Rattle.std.specs.Prelude.{ℕ, Bool, ◌==◌, List, codes}
use Rattle.std.specs.List.{list_any}

abbrev pub is_one_of : List ℕ → ℕ → Bool
is_one_of bytes b = list_any (λ c. b == c) bytes

-- those that begin no longer punctuator
abbrev pub lone : List ℕ
lone = codes "(){}[];,?:~"

-- those that begin longer ones, but for the point and the slash
abbrev pub beginning : List ℕ
beginning = codes "&*+-!%<>^|="

-- the second bytes of the longer ones that those begin
abbrev pub second : List ℕ
second = codes "=&|+-<>"
