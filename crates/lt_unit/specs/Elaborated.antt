-- What elaborating a unit gives.
use Rattle.std.specs.Prelude.{Result, Ok, Err}
use Rattle.lt_model.specs.declared.scalar.DataModel.{DataModel}
use Rattle.lt_tree.specs.declared.unit.Unit.{Unit as SourceUnit}
use Rattle.lt_tree.specs.declared.typed.program.Program.{Program}
use Rattle.lt_tree.specs.UnitView.{unit_of}
use Rattle.lt_tree.specs.Typing.EntityView.{rule_of}
use Rattle.lt_tree.specs.Typing.ProgramView.{program_of}
use Rattle.lt_tree.specs.Typing.UnitTyping.{IsProgramOf, BreaksFirst}
use Rattle.lt_env.specs.declared.stop.TypeStop.{TypeStop}
use Rattle.lt_env.specs.declared.stop.TypeStop.TheVariants.{Broken, NoMemory}

-- a program is the unit's, and a rule is the first that the unit breaks
abbrev pub Elaborated : DataModel → SourceUnit → Result Program TypeStop → Type 0
Elaborated model unit (Ok program) = IsProgramOf model (unit_of unit) (program_of program)
Elaborated model unit (Err (Broken rule node)) = BreaksFirst model (unit_of unit) (rule_of rule) node
Elaborated model unit (Err NoMemory) = Unit {0}
