use Rattle.lt_tree.proofs.TypedRows.{call_is}
use Rattle.lt_tree.proofs.typed.makes.value.call.Goals as goal

pub returns : goal.returns
returns c = λ types. call_is types c.args.ty c.args.function c.args.arguments c.in_ok-new.field-0.value c.in_ok-new.ensures.ok
