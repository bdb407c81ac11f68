use Rattle.lt_tree.proofs.TypedRows.{comma_is}
use Rattle.lt_tree.proofs.typed.makes.value.comma.Goals as goal

pub returns : goal.returns
returns c = λ types. comma_is types c.args.ty c.args.parts c.in_ok-new.field-0.value c.in_ok-new.ensures.ok
