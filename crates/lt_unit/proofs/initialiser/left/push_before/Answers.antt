use Rattle.std.proofs.Common.{◌++◌, sym, ap, ◌∙◌}
use Rattle.lt_unit.specs.LeftParts.{runs_if, runs_of}
use Rattle.lt_unit.proofs.LeftLists.{one_more}
use Rattle.lt_unit.proofs.initialiser.left.push_before.Goals as goal

pub returns-in_ok-push-in-Some : goal.returns-in_ok-push-in-Some
returns-in_ok-push-in-Some c = λ types.
    one_more types c.args.left.now.items c.push.new.self.items c.in-Some.more c.in_ok-push-in-Some.ensures.items
    ∙ ap (λ m. runs_if types m ++ runs_of types c.args.left.now.items) (sym c.in-Some.is)
