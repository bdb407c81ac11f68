-- The program of a text is that of the unit that the text spells.
use Rattle.std.proofs.Common.{ℕ, List}
use Rattle.lt_model.specs.declared.scalar.DataModel.{DataModel}
use Rattle.lt_tree.specs.UnitView.{unit_of}
use Rattle.lt_tree.specs.Typing.Programs.{Program}
use Rattle.lt_tree.specs.Typing.UnitTyping.{IsProgramOf}
use Rattle.lt_decl.specs.declared.parse.Parsed.{Parsed}
use Rattle.lt_answers.specs.Programs.{IsProgram}
use Rattle.ltest.specs.Stages.{SpellsParsed}

abbrev pub program_spelled : (model : DataModel) (text : List ℕ) (parsed : Parsed) (program : Program) → SpellsParsed text parsed → IsProgramOf model (unit_of parsed.unit) program
    → IsProgram model text program
program_spelled model text parsed program spells typed = record { unit = unit_of parsed.unit; spots = parsed.spots.items; spells = spells; typed = typed }
