use Rattle.lt_tree.proofs.TypedRows.{marked_is}
use Rattle.lt_tree.proofs.typed.makes.value.marked.Goals as goal

pub returns : goal.returns
returns c = λ types. marked_is types c.args.ty c.args.marks c.args.value c.in_ok-new.field-0.value c.in_ok-new.ensures.ok
