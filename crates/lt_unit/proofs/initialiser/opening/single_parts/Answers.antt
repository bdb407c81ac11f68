use Rattle.std.proofs.Common.{sym, ap, ◌∙◌}
use Rattle.lt_tree.specs.Typing.TypeRows.{type_in}
use Rattle.lt_tree.specs.Typing.Filling.{parts_of}
use Rattle.lt_table.proofs.TableFound.{then_ok}
use Rattle.lt_env.proofs.Judgements.{stays_in}
use Rattle.lt_unit.proofs.Openings.{plain_part, plain_struct}
use Rattle.lt_unit.proofs.initialiser.opening.single_parts.Goals as goal

pub returns-in-Some-None : goal.returns-in-Some-None
returns-in-Some-None c = λ longer h known k p a.
    c.alone.ensures longer
    ∙ sym (plain_part known c.args.part.offset (type_in longer c.args.part.ty) p a (sym (stays_in c.table.ensures c.in-Some-None.ensures.value longer h) ∙ c.in-Some-None.field-0-is))

pub returns-in-Some-Some : goal.returns-in-Some-Some
returns-in-Some-Some c = then_ok c.members_of.result (λ left made longer h known k p a.
    made longer h known k
    ∙ ap (parts_of known c.args.part.offset) (sym (plain_struct (type_in longer c.args.part.ty) c.in-Some-Some.number p (sym (stays_in c.table.ensures c.in-Some-Some.ensures.value longer h) ∙ c.in-Some-Some.field-0-is))))
    c.members_of.ensures
