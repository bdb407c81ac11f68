-- Laws of specifications that callers need.
use Rattle.std.specs.Prelude.{◌≡◌, ◌<◌, ℕ, true, List, length}
use Rattle.lt_tree.specs.Typing.Programs.{Program}
use Rattle.lt_entry.specs.Conditions.{may_be_entry}
use Rattle.lt_entry.specs.Specifications.{Specification, IsSpecification, IsDefault}
use Rattle.lt_entry.specs.Inputs.{IsBounded}

-- the number of a function with a body that may be an entry
pub record IsEntry (program : Program) (entry : ℕ) : Type 0 where
  pub there : entry < length program.functions
  pub fits : may_be_entry program entry ≡ true

-- What a text says is bounded, and has an entry.
abbrev pub SpecificationsAreBounded : Type 0
SpecificationsAreBounded =
    (program : Program) (text : List ℕ) (it : Specification) → IsSpecification program text it → IsBounded it.spec × IsEntry program it.spec.entry

-- So is the default specification, and it has.
abbrev pub DefaultsAreBounded : Type 0
DefaultsAreBounded = (program : Program) (it : Specification) → IsDefault program it → IsBounded it.spec × IsEntry program it.spec.entry
