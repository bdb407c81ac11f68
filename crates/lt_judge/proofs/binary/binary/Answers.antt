use Rattle.std.proofs.Common.{ap, ◌∙◌}
use Rattle.lt_tree.specs.Typing.BinaryOperations.{operand_faults, judge_binary}
use Rattle.lt_table.specs.TypesValue.{structs_at}
use Rattle.lt_env.specs.Views.{typed_of, typed_in}
use Rattle.lt_env.proofs.Judgements.{stays_on}
use Rattle.lt_judge.proofs.JudgedChoices.{judged_is}
use Rattle.lt_judge.proofs.binary.binary.Goals as goal

pub returns-clause-made : goal.returns-clause-made
unfolding judge_binary
returns-clause-made c = λ longer more.
    let structs = structs_at longer c.args.types.now in
    judged_is _ _ _ _ _
    (stays_on c.on_operands.ensures.widens c.in_ok-faults.ensures longer more
    ∙ ap (λ x. operand_faults structs c.args.op (typed_of longer x) (typed_of longer c.deref-2.result.now)) c.deref.ensures
    ∙ ap (λ y. operand_faults structs c.args.op (typed_in longer c.args.x) (typed_of longer y)) c.deref-2.ensures)
    (c.in_ok-typed.ensures.made longer more) (c.in_ok-judged.ensures longer)
