use Rattle.std.proofs.Common.{refl, sym, ◌∙◌}
use Rattle.lt_placing.proofs.Reached.{taken}
use Rattle.lt_placing.proofs.walk.Walk.take_mark.Goals as goal

pub returns-then-has_reached_mark : goal.returns-then-has_reached_mark
returns-then-has_reached_mark c =
    let so = taken _ _ _ c.args.self.now.next (sym c.has_reached_mark.ensures ∙ c.if-has_reached_mark.true) c.pop_front.ensures.items c.pop_front.ensures.rest in
    record { number = refl; cases = so.0; reached = so.1 }

pub returns-else-has_reached_mark : goal.returns-else-has_reached_mark
returns-else-has_reached_mark c = record { number = refl; cases = refl; reached = sym c.has_reached_mark.ensures ∙ c.if-has_reached_mark.false }
