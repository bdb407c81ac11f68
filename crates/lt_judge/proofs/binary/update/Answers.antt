use Rattle.std.proofs.Common.{[], ◌++◌, ap, ◌∙◌}
use Rattle.lt_tree.specs.Typing.Types.{value_type}
use Rattle.lt_tree.specs.Typing.Expressions.{own_type, varies}
use Rattle.lt_tree.specs.Typing.Operations.{write_faults}
use Rattle.lt_tree.specs.Typing.BinaryOperations.{update_faults, updated, judge_update}
use Rattle.lt_table.specs.TypesValue.{structs_at}
use Rattle.lt_env.specs.Views.{typed_of, typed_in}
use Rattle.lt_env.proofs.Judgements.{stays_on}
use Rattle.lt_judge.proofs.JudgedBinary.{known_kept}
use Rattle.lt_judge.proofs.JudgedChoices.{judged_of}
use Rattle.lt_judge.proofs.binary.update.Goals as goal

pub returns-clause-made : goal.returns-clause-made
unfolding judge_update
returns-clause-made c = λ longer more.
    let x = typed_in longer c.args.x in
    let y = typed_in longer c.args.y in
    let structs = structs_at longer c.args.types.now in
    judged_of (λ x y. update_faults structs c.args.op (value_type (own_type x)) (own_type y) ++ write_faults structs x) x y _ _ _ _ _ _
    (ap (typed_of longer) c.deref.ensures) (ap (typed_of longer) c.deref-2.ensures) (stays_on c.updated.ensures.widens c.in_ok-faults.ensures.made longer more)
    (c.in_ok-typed.ensures.made longer more
    ∙ ap (λ known. varies (updated known c.args.op x y)) (known_kept longer c.args.types.now c.updating_faults.new.types [] c.updating_faults.ensures.widens))
    (c.in_ok-judged.ensures longer)
