-- The numbers of a unit's nodes in the program's own unit.
use Rattle.std.specs.Prelude.{ℕ, List, map, Option}
use Rattle.lt_tree.specs.Tree as c
use Rattle.lt_tree.specs.Typing.Programs.{Program}
use Rattle.lt_objectives.specs.Places.{sites, corresponding_node}

-- by number: the number of the same node in the program's own unit, if it is there without the marks too
abbrev pub own_numbers : c.Unit → Program → List (Option ℕ)
own_numbers unit program = map (λ site. corresponding_node unit program site.number) (sites unit)
