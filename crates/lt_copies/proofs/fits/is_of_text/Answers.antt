use Rattle.std.proofs.Common.{◌∙◌, ap, nat_lt, not}
use Rattle.lt_copies.proofs.Rows.{comma_of_text, marked_of_text}
use Rattle.lt_copies.proofs.fits.is_of_text.Goals as goal

pub returns-in-Comma : goal.returns-in-Comma
returns-in-Comma c = ap (nat_lt 1) c.len.ensures ∙ comma_of_text c.args.e.now c.in-Comma.parts c.in-Comma.is

pub returns-in-Marked : goal.returns-in-Marked
returns-in-Marked c = ap not c.is_empty.ensures ∙ marked_of_text c.args.e.now c.in-Marked.marks c.in-Marked.field-1 c.in-Marked.is
