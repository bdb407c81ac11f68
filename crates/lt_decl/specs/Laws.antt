-- Laws: reading from left to right gives exactly what the grammar derives.
use Rattle.std.specs.Prelude.{◌≡◌, ℕ, List, [], Some}
use Rattle.lt_tree.specs.Tree as c
use Rattle.lt_tree.specs.Symbols.{Symbol}
use Rattle.lt_tree.specs.Units.{AreExternals}
use Rattle.lt_decl.specs.Reading.{unit_of}
use Rattle.lt_decl.specs.Walk.{walk_unit}

-- What is read is derived, with its spots.
abbrev pub UnitReadIsDerived : Type 0
UnitReadIsDerived = (ts : List Symbol) (unit : c.Unit) (ends : List ℕ) → unit_of ts ≡ Some (unit, ends) → AreExternals [] ts unit (walk_unit unit (ends, [])).1 []

-- What is derived is read.
abbrev pub UnitDerivedIsRead : Type 0
UnitDerivedIsRead =
    (ts : List Symbol) (unit : c.Unit) (spots : List ℕ) → AreExternals [] ts unit spots []
    → (ends : List ℕ) × (walk_unit unit (ends, []) ≡ ([], spots)) × (unit_of ts ≡ Some (unit, ends))
