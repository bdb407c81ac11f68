use Rattle.std.proofs.Common.{◌≡◌, length}
use Rattle.lt_tree.specs.Typing.TypeRows.{type_in}
use Rattle.lt_tree.specs.Typing.Entities.{Known}
use Rattle.lt_tree.specs.Typing.Filling.{first_within, first_in_struct}
use Rattle.lt_table.specs.TableRows.{Stays}
use Rattle.lt_unit.specs.LeftParts.{Knows, is_taken_for, runs_of}
use Rattle.lt_unit.proofs.initialiser.opening.open_within.Given as goal

abbrev pub invariant-loop-turn : goal.invariant-loop-turn
invariant-loop-turn l = Stays l.types.rows (λ longer. (known : Known) → Knows known longer l.types →
    first_within known (is_taken_for l.taken) (first_in_struct known (is_taken_for l.taken) l.depth) l.part.offset (type_in longer l.part.ty) (runs_of longer l.left.items)
    ≡ first_within known (is_taken_for l.taken) (first_in_struct known (is_taken_for l.taken) (length known.structs)) l.fn.first.offset (type_in longer l.fn.first.ty) (runs_of longer l.fn.left.items))
