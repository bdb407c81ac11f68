-- Each place that an input of a suite sets, and each to which it sets a pointer, has a name: string literals have none.
use Rattle.std.specs.Prelude.{ℕ, List}
use Rattle.std.specs.List.{AllByRecursion}
use Rattle.lt_tree.specs.Typing.Programs.{Program}
use Rattle.lt_entry.specs.declared.test.Test.{Test}
use Rattle.lt_entry.specs.declared.test.Suite.{Suite}
use Rattle.lt_entry.specs.Specifications.{Specification}
use Rattle.lt_entry.specs.Suites.{IsSuite}
use Rattle.lt_entry.specs.Inputs.{built}
use Rattle.lt_object_laws.specs.Laws.{AreNamed}

-- The input of each test of a suite is such, whichever specification the suite is one of.
abbrev pub InputsOfSuitesAreNamed : Type 0
InputsOfSuitesAreNamed =
    (program : Program) (it : Specification) (text : List ℕ) (suite : Suite) → IsSuite program it text suite
    → AllByRecursion (λ (test : Test). AreNamed (built test it.spec)) suite.tests
