use Rattle.std.proofs.Common.{sym, subst}
use Rattle.lt_tree.specs.Typing.Extents.{member_of}
use Rattle.lt_table.specs.StructTables.{structs_in, members_at, known_at, IsMember}
use Rattle.lt_table.proofs.StructMembers.{members_at_is, member_is}
use Rattle.lt_table.proofs.structs.StructTable.member_of.Goals as goal

pub returns : goal.returns
returns c = λ rows suits types more.
    subst (λ r. IsMember types r (member_of c.args.self.now.model (structs_in types c.args.self.now) c.args.number c.args.name.now)) (sym c.member_at.ensures)
    (member_is c.args.self.now.model (structs_in types c.args.self.now) c.args.number c.args.name.now types (members_at c.args.self.now.structs.items c.args.number) (known_at c.args.self.now.known.items c.args.number)
    (members_at_is types c.args.self.now.structs.items c.args.number) ((suits types more).each c.args.number))
