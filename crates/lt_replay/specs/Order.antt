-- Tests in the order of their names.
use Rattle.std.specs.Prelude.{◌≡◌, ◌↔◌, ℕ, List, map, Contains, Option, Some, option_map}
use Rattle.std.specs.Borrow.{Bor}
use Rattle.std.specs.BTreeMap.{BTreeMap, get_by}
use Rattle.std.specs.Cmp.Lexicographic.{slice_cmp}
use Rattle.std.specs.Ordering.{nat_cmp}
use Rattle.lt_entry.specs.declared.test.Test.{Test}
use Rattle.lt_cover.specs.Coverage.Table.{NamesRise}

-- what is found at a name
abbrev pub found : BTreeMap (Bor (List ℕ)) (Bor Test) → List ℕ → Option Test
found named name = option_map (λ test. test.now) (get_by (λ k. slice_cmp nat_cmp name k.now) named)

-- each test is found at its name, and no other
abbrev pub AreNamed : List Test → BTreeMap (Bor (List ℕ)) (Bor Test) → Type 0
AreNamed tests named =
    (name : List ℕ) (test : Test) → (found named name ≡ Some test) ↔ (Contains tests test × (test.name ≡ name))

-- The tests in byte order of their names, each of which stands once.
pub record AreInOrder (order tests : List Test) : Type 0 where
  pub rise : NamesRise (map (λ test. test.name) order)
  pub same : (test : Test) → Contains order test ↔ Contains tests test
