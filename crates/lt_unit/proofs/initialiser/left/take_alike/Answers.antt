use Rattle.std.proofs.Common.{◌∷◌, ◌++◌, sym, ap, ◌∙◌}
use Rattle.lt_unit.specs.LeftParts.{count_of, run_of, runs_of}
use Rattle.lt_unit.proofs.LeftLists.{one_more}
use Rattle.lt_unit.proofs.initialiser.left.take_alike.Goals as goal

pub returns-in_ok-push_before-in-Some : goal.returns-in_ok-push_before-in-Some
returns-in_ok-push_before-in-Some c = λ types. (
  count_of c.in-Some.top.behind,
  one_more types c.pop.new.self.items c.args.left.now.items c.in-Some.top c.in-Some.ensures.items
      ∙ ap (λ l. run_of types c.in-Some.top.first (count_of c.in-Some.top.behind) ∷ (l ++ runs_of types c.pop.new.self.items)) (sym (c.in_ok-behind-in-Some.ensures types))
      ∙ ap (λ l. run_of types c.in-Some.top.first (count_of c.in-Some.top.behind) ∷ l) (sym (c.in_ok-push_before-in-Some.ensures types)),
)
