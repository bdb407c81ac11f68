-- What is promised of the codes of a program.
use Rattle.std.specs.Prelude.{List, [], ◌∷◌, true}
use Rattle.lt_tree.specs.declared.typed.entity.Function.{Function}
use Rattle.lt_tree.specs.Typing.EntityView.{function_of}
use Rattle.lt_ir.specs.declared.code.Code.{Code}
use Rattle.lt_tables.specs.declared.tables.Tables.{Tables}
use Rattle.lt_tables.specs.Views.{program_at, types_at}
use Rattle.lt_emit.specs.Emission.{Here}
use Rattle.lt_lower.specs.Functions.{CodeStands}

-- what is known of a function of a program
abbrev pub here_for : Tables → Function → Here
here_for tables f = record {
  program = program_at tables;
  types = types_at tables;
  function = function_of (types_at tables) f;
  stubs = tables.stubs.items;
  tracks = true;
}

-- each function has its code, in their order
abbrev pub CodesStand : Tables → List Function → List Code → Type 0
CodesStand tables [] [] = Unit {0}
CodesStand tables (f ∷ fs) (it ∷ its) = CodeStands (here_for tables f) it × CodesStand tables fs its
CodesStand tables _ _ = ⊥
