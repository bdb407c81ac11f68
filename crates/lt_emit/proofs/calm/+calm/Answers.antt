use Rattle.std.proofs.Common.{sym, ap, ◌∙◌}
use Rattle.lt_tree.specs.Typing.ValueView.{values_in}
use Rattle.lt_tree.proofs.TypedRows.{call_is, comma_is}
use Rattle.lt_meaning.specs.Clashes as meaning
use Rattle.lt_emit.specs.Calm.{grade_of}
use Rattle.lt_emit.proofs.calm.+calm.Goals as goal

pub is_of-returns-in-Comma : goal.is_of-returns-in-Comma
is_of-returns-in-Comma t c = λ types.
    c.are_of-in-Comma.ensures types
    ∙ ap (λ xs. meaning.are_of (grade_of c.args.grade) (values_in types xs)) c.as_slice-in-Comma.ensures.value
    ∙ sym (ap (meaning.is_of (grade_of c.args.grade)) (comma_is types c.in-Comma.field-0 c.in-Comma.parts c.args.v.now c.in-Comma.is))

pub is_of-returns-in-Call : goal.is_of-returns-in-Call
is_of-returns-in-Call t c = λ types.
    c.are_of.ensures types
    ∙ ap (λ xs. meaning.are_of meaning.writes_nothing (values_in types xs)) c.as_slice.ensures.value
    ∙ sym (ap (meaning.is_of (grade_of c.args.grade)) (call_is types c.in-Call.field-0 _ c.in-Call.arguments c.args.v.now c.in-Call.is))
