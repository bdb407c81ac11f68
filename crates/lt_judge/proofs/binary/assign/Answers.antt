use Rattle.std.proofs.Common.{◌++◌, ap}
use Rattle.lt_tree.specs.Typing.Types.{value_type}
use Rattle.lt_tree.specs.Typing.Rules.{unless, bad_assignment}
use Rattle.lt_tree.specs.Typing.Expressions.{own_type}
use Rattle.lt_tree.specs.Typing.Operations.{fits, write_faults}
use Rattle.lt_tree.specs.Typing.BinaryOperations.{judge_assign}
use Rattle.lt_table.specs.TypesValue.{structs_at}
use Rattle.lt_env.specs.Views.{typed_of, typed_in}
use Rattle.lt_env.proofs.Judgements.{stays_on}
use Rattle.lt_judge.proofs.JudgedChoices.{judged_of}
use Rattle.lt_judge.proofs.binary.assign.Goals as goal

pub returns-clause-made : goal.returns-clause-made
unfolding judge_assign
returns-clause-made c = λ longer more.
    judged_of (λ x y. unless (fits (value_type (own_type x)) y) bad_assignment ++ write_faults (structs_at longer c.args.types.now) x)
    (typed_in longer c.args.x) (typed_in longer c.args.y) _ _ _ _ _ _ (ap (typed_of longer) c.deref.ensures) (ap (typed_of longer) c.deref-2.ensures)
    (stays_on c.assigned.ensures.widens c.in_ok-faults.ensures.made longer more) (c.in_ok-typed.ensures.made longer more) (c.in_ok-judged.ensures longer)
