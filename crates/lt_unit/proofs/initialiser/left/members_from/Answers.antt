use Rattle.std.proofs.Common.{rules}
use Rattle.lt_unit.proofs.LeftLists.{no_members, its_members}
use Rattle.lt_unit.proofs.initialiser.left.members_from.Goals as goal

pub returns-in-None : goal.returns-in-None
returns-in-None c = λ types. no_members types c.args.offset c.args.members.value.items c.args.place (cc)

pub returns-in_ok-next-in-Some : goal.returns-in_ok-next-in-Some
returns-in_ok-next-in-Some c = λ types. its_members types c.args.offset c.args.members.value.items c.args.place c.in-Some.field-0 _ _ (cc) (search rules) (search rules)
