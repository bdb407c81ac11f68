-- What a specification keeps that a file says, or that is the default one.
use Rattle.std.proofs.Common.{ℕ, List, Option, Some, None}
use Rattle.lt_tree.specs.Typing.Programs.{Program}
use Rattle.lt_entry.specs.Inputs.{IsBounded}
use Rattle.lt_entry.specs.Specifications.{Specification}
use Rattle.lt_input_specs.specs.Laws.{SpecificationsAreBounded, DefaultsAreBounded, IsEntry}
use Rattle.lt_answers.specs.Entries.{Specifies}

pub bounded_entry :
    SpecificationsAreBounded → DefaultsAreBounded
    → (program : Program) (text : Option (List ℕ)) (it : Specification) → Specifies program text it → IsBounded it.spec × IsEntry program it.spec.entry
bounded_entry said default program (Some text) it is = said program text it is
bounded_entry said default program None it is = default program it is
