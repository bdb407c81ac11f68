use Rattle.std.proofs.Common.{◌∙◌}
use Rattle.lt_tree.specs.Typing.TypeRows.{type_in}
use Rattle.lt_declare.proofs.Steps.{some_mapped}
use Rattle.lt_declare.proofs.redeclared.is_function_elsewhere.Goals as goal

pub returns : goal.returns
returns c = λ types. c.is_some.ensures ∙ some_mapped (type_in types) _ _ (c.ty.ensures types)
