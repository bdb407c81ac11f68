use Rattle.std.proofs.Common.{◌-◌, length, drop, ap, ◌∙◌, sym, arith}
use Rattle.std.proofs.lemmas.List.{length-drop}
use Rattle.lt_expr.proofs.Names.{fewer}
use Rattle.lt_expr.proofs.typedefs.Typedefs.back_to.Goals as goal

pub more-preserved : goal.more-preserved
more-preserved c =
    let start = c.args.self.now in
    let one = length-drop 1 c.more.self in
    let left = ap length c.leave.ensures in
    record {
      enough = omega arith;
      left = c.leave.ensures ∙ fewer c.more.self start c.more.invariant.left (omega arith) ∙ ap (λ s. drop (length start - length s) start) (sym c.leave.ensures);
    }
