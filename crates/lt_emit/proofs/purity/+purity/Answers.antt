use Rattle.std.proofs.Common.{sym, ap, ◌∙◌}
use Rattle.lt_tree.specs.Typing.ValueView.{values_in}
use Rattle.lt_tree.proofs.TypedRows.{comma_is}
use Rattle.lt_meaning.specs.Expressions as meaning
use Rattle.lt_emit.proofs.purity.+purity.Goals as goal

pub is_pure-returns-in-Comma : goal.is_pure-returns-in-Comma
is_pure-returns-in-Comma t c = λ types.
    c.are_pure.ensures types
    ∙ ap (λ xs. meaning.are_pure (values_in types xs)) c.as_slice.ensures.value
    ∙ sym (ap meaning.is_pure (comma_is types c.in-Comma.field-0 c.in-Comma.parts c.args.v.now c.in-Comma.is))
