use Rattle.std.proofs.Common.{sym, ap, ◌∙◌}
use Rattle.lt_tree.specs.Typing.Rules.{unless, bad_mark}
use Rattle.lt_tree.specs.Typing.Steps.{settle}
use Rattle.lt_env.specs.Going.{known_of}
use Rattle.lt_env.proofs.Goings.{longer_still}
use Rattle.lt_judge.proofs.marks.made.settle_mark.Goals as goal

pub returns : goal.returns
returns c =
    let gives = c.in_ok-settle.ensures.gives in
    record {
      grows = gives.grows;
      keeps = gives.keeps;
      ends = record {
        at = λ types more.
            ap (λ faults. settle c.args.node faults (known_of types c.args.walker.now))
            (sym (c.in_ok-faults.ensures ∙ ap (λ b. unless b bad_mark) (c.in_ok-good.ensures types (longer_still _ _ _ gives.grows more))))
            ∙ gives.ends.at types more;
      };
    }
