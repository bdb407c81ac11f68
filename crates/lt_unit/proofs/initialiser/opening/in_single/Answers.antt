use Rattle.std.proofs.Common.{◌++◌, sym, ap, ◌∙◌}
use Rattle.lt_tree.specs.Typing.TypeRows.{type_in}
use Rattle.lt_tree.specs.Typing.Filling.{first_in_struct}
use Rattle.lt_table.proofs.TableFound.{then_ok}
use Rattle.lt_unit.specs.LeftParts.{is_taken_for, runs_of}
use Rattle.lt_env.proofs.Judgements.{stays_in}
use Rattle.lt_unit.proofs.Openings.{plain_whole, plain_struct}
use Rattle.lt_unit.proofs.initialiser.opening.in_single.Goals as goal

pub returns-in_ok-push_before-in-Some-None : goal.returns-in_ok-push_before-in-Some-None
returns-in_ok-push_before-in-Some-None c = λ longer h known k p a.
    c.in_ok-push_before-in-Some-None.ensures longer
    ∙ ap (λ l. l ++ runs_of longer c.args.left.now.items) (c.alone.ensures longer)
    ∙ sym (plain_whole known (is_taken_for c.args.taken) (first_in_struct known (is_taken_for c.args.taken) c.args.depth.now) c.args.part.offset (type_in longer c.args.part.ty) (runs_of longer c.args.left.now.items)
    p a (sym (stays_in c.table.ensures c.in-Some-None.ensures.value longer h) ∙ c.in-Some-None.field-0-is))

pub returns-in-Some-Some : goal.returns-in-Some-Some
returns-in-Some-Some c = then_ok c.in_struct.result (λ next made longer h known k p a.
    made longer h known k (plain_struct (type_in longer c.args.part.ty) c.in-Some-Some.number p (sym (stays_in c.table.ensures c.in-Some-Some.ensures.value longer h) ∙ c.in-Some-Some.field-0-is)))
    c.in_struct.ensures
