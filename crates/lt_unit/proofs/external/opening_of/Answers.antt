use Rattle.std.proofs.Common.{sym, ap, ◌∙◌}
use Rattle.std.specs.Prelude.{option_map}
use Rattle.lt_tree.specs.Typing.UnitTyping as typing
use Rattle.lt_declare.specs.DeclaredViews.{parameters_in}
use Rattle.lt_unit.proofs.external.opening_of.Goals as goal

pub returns-in-None-clause-frame : goal.returns-in-None-clause-frame
returns-in-None-clause-frame c = λ types. c.new.ensures types ∙ sym (ap (λ them. typing.frame_of (option_map (parameters_in types) them)) c.in-None.is)
