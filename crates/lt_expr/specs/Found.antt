-- What is known of a name.
use Rattle.std.specs.Prelude.{ℕ, Bool, if◌then◌else◌, List, [], ◌∷◌, Option, Some, None}
use Rattle.std.specs.Str.{bytes_eq}
use Rattle.lt_tree.specs.Scope.{Scope}

-- whether a name stands for a type, if it is in scope
abbrev pub found : Scope → List ℕ → Option Bool
found [] w = None
found (binder ∷ scope) w = if bytes_eq binder.name w then Some binder.is_type else found scope w
