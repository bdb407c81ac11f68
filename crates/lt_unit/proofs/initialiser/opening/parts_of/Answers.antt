use Rattle.std.proofs.Common.{sym, ap, ◌∙◌}
use Rattle.lt_tree.specs.Typing.TypeRows.{type_in}
use Rattle.lt_tree.specs.Typing.Filling.{parts_of}
use Rattle.lt_table.proofs.TableFound.{then_ok}
use Rattle.lt_unit.specs.LeftParts.{plain}
use Rattle.lt_env.proofs.Judgements.{stays_in}
use Rattle.lt_unit.proofs.Openings.{plain_twice, plain_parts}
use Rattle.lt_unit.proofs.initialiser.opening.parts_of.Goals as goal

pub returns-in-Some-None : goal.returns-in-Some-None
returns-in-Some-None c = then_ok c.single_parts.result (λ left made longer h known k.
    let is = c.in_ok-ty.ensures longer h in
    let array = rw c.in-Some-None.field-0-is at c.in-Some-None.ensures.array in
    made longer h known k (ap plain is ∙ plain_twice (type_in longer c.args.part.ty) ∙ sym is) (stays_in c.table.ensures array longer h)
    ∙ ap (parts_of known c.args.part.offset) is
    ∙ plain_parts known c.args.part.offset (type_in longer c.args.part.ty))
    c.single_parts.ensures

pub returns-in-Some-Some : goal.returns-in-Some-Some
returns-in-Some-Some c = λ longer h known k.
    let array = rw c.in-Some-Some.field-0-is at c.in-Some-Some.ensures.array in
    c.elements.ensures longer
    ∙ ap (parts_of known c.args.part.offset) (sym (stays_in c.table.ensures array.2 longer h) ∙ c.in_ok-ty.ensures longer h)
    ∙ plain_parts known c.args.part.offset (type_in longer c.args.part.ty)
