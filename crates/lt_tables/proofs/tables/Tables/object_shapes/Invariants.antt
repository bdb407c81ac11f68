use Rattle.std.proofs.Common.{◌≡◌, map, take}
use Rattle.lt_meaning.specs.Expressions.{shape}
use Rattle.lt_meaning.specs.Statements.{type_of_object}
use Rattle.lt_tree.specs.Typing.ProgramView.{program_of}
use Rattle.lt_tables.proofs.tables.Tables.object_shapes.Given as goal

abbrev pub invariant-loop-number : goal.invariant-loop-number
invariant-loop-number l = l.shapes.items ≡ map (λ n. shape (program_of l.self.program.now) (type_of_object (program_of l.self.program.now) n)) (take l.number-index l.numbers)
