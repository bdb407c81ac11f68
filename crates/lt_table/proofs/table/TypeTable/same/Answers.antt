use Rattle.std.proofs.Common.{◌<◌, length, ap, ◌∙◌, arith}
use Rattle.std.proofs.lemmas.List.{length-map}
use Rattle.lt_table.proofs.TableSame.{same_places}
use Rattle.lt_table.proofs.table.TypeTable.same.Goals as goal

pub returns-clause-value : goal.returns-clause-value
returns-clause-value c = λ longer more.
    let first : c.args.t.place < length c.args.self.now = omega (arith, c.len-len.ensures.len, length-map c.self.inside.rows.entries (λ x. x.0), ap length c.self.view_is) in
    let second : c.args.u.place < length c.args.self.now = omega (arith, c.len-len.ensures.len, length-map c.self.inside.rows.entries (λ x. x.0), ap length c.self.view_is) in
    c.eq.ensures ∙ same_places c.self.inside.rows.entries c.args.self.now c.self.view_is c.self.invariant c.len-len.ensures.unique c.args.t c.args.u first second longer more
