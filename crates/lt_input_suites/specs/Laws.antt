-- Laws of suites that callers need.
use Rattle.std.specs.Prelude.{◌≡◌, ℕ, List, slice_get, Some}
use Rattle.lt_tree.specs.Typing.Programs.{Program}
use Rattle.lt_entry.specs.declared.test.Test.{Test}
use Rattle.lt_entry.specs.declared.test.Suite.{Suite}
use Rattle.lt_entry.specs.Specifications.{Specification}
use Rattle.lt_entry.specs.Suites.{IsSuite}

-- Each name stands once among the tests of a suite that a text says.
abbrev pub TestsOfASuiteDiffer : Type 0
TestsOfASuiteDiffer =
    (program : Program) (it : Specification) (text : List ℕ) (suite : Suite) → IsSuite program it text suite
    → (i j : ℕ) (first second : Test) → slice_get suite.tests i ≡ Some first → slice_get suite.tests j ≡ Some second → first.name ≡ second.name → i ≡ j
