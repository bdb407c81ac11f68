use Rattle.std.proofs.Common.{◌++◌, ap, ◌∙◌, append_assoc}
use Rattle.lt_tree.specs.Typing.Filling.{behind_first}
use Rattle.lt_unit.specs.LeftParts.{count_of, run_of, runs_of, runs_behind}
use Rattle.lt_unit.proofs.LeftLists.{one_more}
use Rattle.lt_unit.proofs.initialiser.left.take_first.Goals as goal

pub returns-in_ok-push_before-in-Some : goal.returns-in_ok-push_before-in-Some
returns-in_ok-push_before-in-Some c = λ longer h known k. (
  count_of c.in-Some.top.behind,
  runs_behind longer c.in-Some.top.behind ++ runs_of longer c.pop.new.self.items,
  one_more longer c.pop.new.self.items c.args.left.now.items c.in-Some.top c.in-Some.ensures.items,
  c.in_ok-push_before-in-Some.ensures longer
      ∙ ap (λ l. l ++ runs_of longer c.pop.new.self.items) (c.in_ok-behind-in-Some.ensures longer h known k)
      ∙ append_assoc (behind_first known (run_of longer c.in-Some.top.first (count_of c.in-Some.top.behind))) (runs_behind longer c.in-Some.top.behind) (runs_of longer c.pop.new.self.items),
)
