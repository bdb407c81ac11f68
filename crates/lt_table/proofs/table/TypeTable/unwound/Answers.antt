use Rattle.std.proofs.Common.{sym, ap, subst, ◌∙◌}
use Rattle.lt_tree.specs.Typing.TypeRows.{type_in}
use Rattle.lt_table.specs.TableRows.{arrays, IsArrayOf}
use Rattle.lt_table.proofs.TableMade.{arrays-last}
use Rattle.lt_table.proofs.table.TypeTable.unwound.Goals as goal

pub more-preserved : goal.more-preserved
more-preserved c =
    let there = subst (IsArrayOf c.args.self.now c.more.inner) c.in-Some-Some.field-0-is c.in-Some-Some.ensures.array in
    λ longer more.
    c.more.invariant longer more ∙ ap (arrays c.more.lengths.items) (there.2 longer more)
    ∙ sym (arrays-last c.more.lengths.items c.in-Some-Some.length (type_in longer c.in-Some-Some.element))
    ∙ ap (λ l. arrays l (type_in longer c.in-Some-Some.element)) (sym c.in_ok-push-in-Some-Some.ensures.items)
