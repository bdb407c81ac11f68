use Rattle.std.proofs.Common.{◌∙◌}
use Rattle.lt_tree.specs.Typing.Extents.{placed_members}
use Rattle.lt_table.specs.TypesValue.{structs_at}
use Rattle.lt_table.proofs.TableFound.{then_ok}
use Rattle.lt_unit.proofs.LeftLists.{none_placed, same_placed, known_placed}
use Rattle.lt_unit.proofs.initialiser.opening.members_of.Goals as goal

pub returns-in-None : goal.returns-in-None
returns-in-None c = λ longer h known k.
    none_placed c.args.offset (placed_members c.args.types.now.model (structs_at longer c.args.types.now) c.args.number)
    (rw c.in-None.is at (c.in_ok-placed_members.ensures longer h))
    ∙ known_placed c.args.offset c.args.number k

pub returns-in-Some : goal.returns-in-Some
returns-in-Some c = then_ok c.members_from.result (λ left made longer h known k.
    made longer
    ∙ same_placed longer c.args.offset c.in-Some.members.value.items (placed_members c.args.types.now.model (structs_at longer c.args.types.now) c.args.number)
    (rw c.in-Some.is at (c.in_ok-placed_members.ensures longer h))
    ∙ known_placed c.args.offset c.args.number k) c.members_from.ensures
