use Rattle.std.proofs.Common.{sym, ap, ◌∙◌}
use Rattle.lt_tree.specs.Typing.TypeRows.{type_in}
use Rattle.lt_tree.specs.Typing.ConstancyView.{constancy_of}
use Rattle.lt_tree.specs.Typing.Expressions.{constancy_as_number}
use Rattle.lt_table.specs.TableKinds.{kind_scalar, kind_is_pointer}
use Rattle.lt_env.proofs.Judgements.{stays_on, stays_in}
use Rattle.lt_env.proofs.Conversions.{to_number, to_pointer}
use Rattle.lt_env.proofs.values.constancy_to_bare.Goals as goal

pub returns-in-Some-Num-clause-made : goal.returns-in-Some-Num-clause-made
returns-in-Some-Num-clause-made c = λ longer more bare.
    let kind = stays_in c.table.ensures c.in-Some-Num.ensures.kind longer more in
    let to = to_number c.args.types.now.model c.in-Some-Num.scalar (type_in longer c.args.t) (constancy_of c.args.c) bare (kind.scalar ∙ ap kind_scalar c.in-Some-Num.field-0-is) in
    c.constancy_as_number.ensures.is ∙ ap (λ m. constancy_as_number m c.in-Some-Num.scalar (constancy_of c.args.c)) c.model.ensures ∙ sym to

pub returns-in_ok-void-in-Some-Pointer-clause-made : goal.returns-in_ok-void-in-Some-Pointer-clause-made
returns-in_ok-void-in-Some-Pointer-clause-made c = λ longer more bare.
    let kind = stays_on c.in_ok-void-in-Some-Pointer.ensures.widens (stays_in c.table.ensures c.in-Some-Pointer.ensures.kind) longer more in
    let to = to_pointer c.args.types.now.model (type_in longer c.args.t) (constancy_of c.args.c) bare (kind.pointer ∙ ap kind_is_pointer c.in-Some-Pointer.field-0-is) in
    c.constancy_as_pointer.ensures (type_in longer c.args.t) (sym (c.in_ok-void-in-Some-Pointer.ensures.made longer more)) ∙ sym to
