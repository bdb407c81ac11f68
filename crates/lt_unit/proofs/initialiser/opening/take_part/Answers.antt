use Rattle.std.proofs.Common.{◌++◌, sym, ap, ◌∙◌}
use Rattle.lt_tree.specs.Typing.Filling.{opened}
use Rattle.lt_unit.specs.LeftParts.{is_taken_for, run_of, count_of, runs_behind, runs_in, runs_of}
use Rattle.lt_unit.proofs.LeftLists.{one_more}
use Rattle.lt_unit.proofs.Openings.{none_left}
use Rattle.lt_unit.proofs.initialiser.opening.take_part.Goals as goal

pub returns-in-Some-2 : goal.returns-in-Some-2
returns-in-Some-2 c = λ longer h known k.
    let begins = rw c.in-Some-2.is at (c.in_ok-part.ensures longer) in (
      begins.0,
      ap (opened known (is_taken_for c.args.taken)) (one_more longer c.pop.new.self.items c.args.left.now.items c.in-Some.top c.in-Some.ensures.items)
          ∙ sym (c.in_ok-open.ensures longer h known k)
          ∙ begins.1,
    )

pub returns-in_ok-push_before-in-None : goal.returns-in_ok-push_before-in-None
returns-in_ok-push_before-in-None c = λ longer h known k.
    let begins = rw c.in-None.is at (c.in_ok-part.ensures longer) in
    let all = one_more longer c.pop.new.self.items c.args.left.now.items c.in-Some.top c.in-Some.ensures.items in
    let none = none_left known (is_taken_for c.args.taken) (run_of longer c.in-Some.top.first (count_of c.in-Some.top.behind)) (runs_behind longer c.in-Some.top.behind) (runs_of longer c.pop.new.self.items)
    (sym (c.in_ok-open.ensures longer h known k) ∙ begins.0) in (
      ap (opened known (is_taken_for c.args.taken)) all ∙ sym (c.in_ok-open.ensures longer h known k) ∙ begins.0,
      c.in_ok-push_before-in-None.ensures longer ∙ ap (λ l. runs_in longer c.in-Some.top ++ l) (begins.1 ∙ sym none) ∙ sym all,
    )
