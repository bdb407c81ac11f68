use Rattle.std.proofs.Common.{is_some, ap, ◌∙◌}
use Rattle.lt_declare.proofs.redeclared.is_object_elsewhere.Goals as goal

pub returns : goal.returns
returns c = λ types. c.is_some.ensures ∙ ap is_some (c.linked.ensures types)
