use Rattle.std.proofs.Common.{sym, subst, ◌∙◌}
use Rattle.lt_tree.specs.Typing.Types.{alike}
use Rattle.lt_table.specs.TablePointers.{BothPointTo}
use Rattle.lt_table.proofs.TablePointers.{then_some}
use Rattle.lt_table.proofs.table.TypeTable.point_alike.Goals as goal

pub returns-in-Some-clause-value : goal.returns-in-Some-clause-value
returns-in-Some-clause-value c =
    let there = subst (BothPointTo c.args.self.now c.args.t c.args.u) c.in-Some.is c.in_ok-a.ensures.targets in
    then_some c.alike.result (λ b known longer more. known longer more ∙ sym (there.2 alike longer more)) c.alike.ensures.value

pub returns-in-None-clause-value : goal.returns-in-None-clause-value
returns-in-None-clause-value c = λ longer more.
    sym (subst (BothPointTo c.args.self.now c.args.t c.args.u) c.in-None.is c.in_ok-a.ensures.targets alike longer more)
