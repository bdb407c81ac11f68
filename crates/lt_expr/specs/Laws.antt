-- Laws: reading from left to right gives exactly what the grammar derives.
use Rattle.std.specs.Prelude.{◌≡◌, ℕ, List, [], Some}
use Rattle.lt_tree.specs.Tree as c
use Rattle.lt_tree.specs.Symbols.{Symbol}
use Rattle.lt_tree.specs.Scope.{Scope}
use Rattle.lt_tree.specs.Grammar.{IsWhole}
use Rattle.lt_expr.specs.Reading.{whole}
use Rattle.lt_expr.specs.Walk.{walk}

-- What is read is derived, with its spots.
abbrev pub ReadIsDerived : Type 0
ReadIsDerived =
    (scope : Scope) (ts rest : List Symbol) (e : c.Expression) (ends : List ℕ)
    → whole scope (ts, []) ≡ Some (e, (rest, ends)) → IsWhole scope ts e rest (walk e (ends, [])).1 []

-- What is derived is read.
abbrev pub DerivedIsRead : Type 0
DerivedIsRead =
    (scope : Scope) (ts rest : List Symbol) (e : c.Expression) (spots : List ℕ)
    → IsWhole scope ts e rest spots [] → (ends : List ℕ) × (walk e (ends, []) ≡ ([], spots)) × (whole scope (ts, []) ≡ Some (e, (rest, ends)))
