use Rattle.std.proofs.Common.{ap, ◌∙◌}
use Rattle.lt_tree.specs.Typing.TypeRows.{type_in}
use Rattle.lt_tree.specs.Typing.Operands.{is_assignable}
use Rattle.lt_tree.specs.Typing.Expressions.{own_type}
use Rattle.lt_env.specs.Views.{typed_of}
use Rattle.lt_judge.proofs.JudgedBinary.{at_rows}
use Rattle.lt_judge.proofs.shared.fits.Goals as goal

pub returns-in-Some : goal.returns-in-Some
returns-in-Some c = λ longer more.
    at_rows c.table.ensures c.in-Some.ensures.value longer more
    ∙ ap (λ t. is_assignable (type_in longer c.args.t) t c.counts_as_null-null.result) (c.own_type.ensures longer)
    ∙ ap (λ null. is_assignable (type_in longer c.args.t) (own_type (typed_of longer c.args.x.now)) null) (c.counts_as_null-null.ensures longer)
