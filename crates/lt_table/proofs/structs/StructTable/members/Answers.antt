use Rattle.std.proofs.Common.{map, option_map, ap, ◌∙◌}
use Rattle.lt_tree.specs.Typing.EntityView.{member_of}
use Rattle.lt_table.proofs.StructMembers.{members_at_is}
use Rattle.lt_table.proofs.structs.StructTable.members.Goals as goal

pub returns : goal.returns
returns c = λ types. ap (option_map (map (member_of types))) c.members_at.ensures ∙ members_at_is types c.args.self.now.structs.items c.args.number
