-- That initialisers of objects which are there from the start name such objects alone.
use Rattle.std.specs.Prelude.{ℕ}
use Rattle.std.specs.List.{AllByRecursion}
use Rattle.lt_model.specs.declared.scalar.DataModel.{DataModel}
use Rattle.lt_tree.specs.Tree as c
use Rattle.lt_tree.specs.Typing.Entities.{Object}
use Rattle.lt_tree.specs.Typing.UnitTyping.{IsProgramTo}
use Rattle.lt_tree.specs.Typing.Programs.{Program}
use Rattle.lt_meaning.specs.Statements.{parts_in}
use Rattle.lt_object_laws.specs.Further.{IsThere}

-- What objects of a typed unit hold from the start are addresses of objects that are there then, C11 6.6p9.
abbrev pub AddressesOfUnitsAreThere : Type 0
AddressesOfUnitsAreThere =
    (greatest : ℕ) (model : DataModel) (unit : c.Unit) (program : Program) → IsProgramTo greatest model unit program
    → AllByRecursion (λ (object : Object). AllByRecursion (IsThere program) (parts_in object.start)) program.objects
