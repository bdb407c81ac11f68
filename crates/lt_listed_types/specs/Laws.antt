-- That the types by which code gets at memory are in its program's list of types.
use Rattle.std.specs.Prelude.{ℕ}
use Rattle.lt_model.specs.declared.scalar.DataModel.{DataModel}
use Rattle.lt_tree.specs.Tree as c
use Rattle.lt_tree.specs.Typing.UnitTyping.{IsProgramTo}
use Rattle.lt_tree.specs.Typing.Programs.{Program}
use Rattle.lt_type_laws.specs.Laws.{FunctionsAccess}

-- Each type by which the code of a typed unit gets at memory is named in the program's list of types.
abbrev pub TypesOfAccessesAreListed : Type 0
TypesOfAccessesAreListed = (greatest : ℕ) (model : DataModel) (unit : c.Unit) (program : Program) → IsProgramTo greatest model unit program → FunctionsAccess program.types program.functions
