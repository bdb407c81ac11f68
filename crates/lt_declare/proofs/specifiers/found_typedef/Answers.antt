use Rattle.std.proofs.Common.{sym, ap, ◌∙◌}
use Rattle.lt_tree.specs.Typing.Specifying as typing
use Rattle.lt_declare.specs.DeclaredViews.{naming_of}
use Rattle.lt_declare.proofs.specifiers.found_typedef.Goals as goal

pub returns : goal.returns
returns c = λ types.
    ap (λ f. naming_of types (record { ty = c.typedef_in.result; faults = f })) c.new.ensures ∙ (sym (c.typedef_in.ensures types) ∙ ap typing.typedef_named (c.find.ensures types))
