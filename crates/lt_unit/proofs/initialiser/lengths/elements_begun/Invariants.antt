use Rattle.std.proofs.Common.{◌≡◌, length}
use Rattle.lt_tree.specs.Typing.Entities.{Known}
use Rattle.lt_tree.specs.Typing.Filling.{elements_begun}
use Rattle.lt_table.specs.TableRows.{Stays}
use Rattle.lt_unit.specs.LeftParts.{Knows, runs_of}
use Rattle.lt_unit.proofs.initialiser.lengths.elements_begun.Given as goal

abbrev pub invariant-parts : goal.invariant-parts
invariant-parts l = Stays l.types.rows (λ longer. (known : Known) → Knows known longer l.types → elements_begun known (runs_of longer l.rest) ≡ elements_begun known (runs_of longer l.fn.left))

abbrev pub decreases-parts : goal.decreases-parts
decreases-parts l = length l.rest
