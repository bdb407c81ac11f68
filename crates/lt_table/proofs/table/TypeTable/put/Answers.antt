use Rattle.std.proofs.Common.{◌∙◌}
use Rattle.lt_table.proofs.TableFound.{makes_found}
use Rattle.lt_table.proofs.TablePut.{put_known, put_grows, put_made}
use Rattle.lt_table.proofs.table.TypeTable.put.Goals as goal

pub returns-in-Some-clause-made : goal.returns-in-Some-clause-made
returns-in-Some-clause-made c =
    makes_found c.self.inside.rows.entries c.args.self.now c.args.row c.in-Some.place c.id_of.result c.self.view_is c.self.invariant c.in-Some.ensures.index c.id_of.ensures

pub invariant_of-self-2 : goal.invariant_of-self-2
invariant_of-self-2 c =
    put_known c.self.inside.rows c.insert.new.self c.args.self.now c.args.row c.facts_of_row-facts.result c.self.view_is c.in_default.ensures.found c.in_ok-insert.ensures.entries
    c.self.invariant c.requires c.facts_of_row-facts.ensures

pub returns-clause-grows : goal.returns-clause-grows
returns-clause-grows c =
    put_grows c.self.inside.rows c.insert.new.self c.args.self.now c.args.row c.facts_of_row-facts.result c.self.view_is c.in_default.ensures.found c.in_ok-insert.ensures.entries

pub returns-clause-made : goal.returns-clause-made
returns-clause-made c =
    put_made c.self.inside.rows c.insert.new.self c.args.self.now c.args.row c.facts_of_row-facts.result c.self.view_is c.in_default.ensures.found c.in_ok-insert.ensures.entries
    c.in_ok-id.id (c.in_ok-id.ensures ∙ c.len.ensures.len) c.requires
