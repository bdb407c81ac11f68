-- What holds of the definitions of replays.
use Rattle.std.specs.Prelude.{◌≡◌, ℕ, List}
use Rattle.lt_model.specs.declared.input.Spec.{Spec}
use Rattle.lt_tree.specs.Tree.{Unit as SourceUnit}
use Rattle.lt_tree.specs.Typing.Entities.{Fact}
use Rattle.lt_tree.specs.Typing.Programs.{Program}
use Rattle.lt_entry.specs.declared.test.Suite.{Suite}
use Rattle.lt_cover.specs.Coverage.Table.{Table}
use Rattle.lt_replayed.specs.Replayed.{IsCoverage}

-- A suite has at most one table.
abbrev pub SuitesHaveOneTable : Type 0
SuitesHaveOneTable =
    (program : Program) (spec : Spec) (suite : Suite) (steps : ℕ) (table other : Table)
    → IsCoverage program spec suite steps table → IsCoverage program spec suite steps other → table ≡ other

-- What a suite covers depends neither on the unit of a program nor on what is known of its expressions.
abbrev pub CoverageNeedsNoUnit : Type 0
CoverageNeedsNoUnit =
    (program : Program) (unit : SourceUnit) (facts : List Fact) (spec : Spec) (suite : Suite) (steps : ℕ) (table : Table)
    → IsCoverage (record program { unit = unit; facts = facts }) spec suite steps table → IsCoverage program spec suite steps table
