use Rattle.std.proofs.Common.{ap, ◌∙◌}
use Rattle.lt_tree.specs.Typing.MarkRules.{are_new_names}
use Rattle.lt_env.specs.Going.{known_of}
use Rattle.lt_judge.proofs.marks.made.are_new.Goals as goal

pub returns : goal.returns
returns c = λ types.
    c.in_ok-new.ensures types ∙ ap (are_new_names (known_of types c.args.walker.now)) (c.as_slice.ensures.value ∙ c.in_ok-names.ensures types)
