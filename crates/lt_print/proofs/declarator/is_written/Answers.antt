use Rattle.std.proofs.Common.{◌||◌, not, is_some, List, Bool, eqb, length, ap, ◌∙◌}
use Rattle.lt_tree.specs.declared.declarator.DeclaratorPart.{DeclaratorPart}
use Rattle.lt_print.proofs.Declarators.{written_is}
use Rattle.lt_print.proofs.declarator.is_written.Goals as goal

pub returns : goal.returns
returns c =
    ap (λ (b : Bool). b || not c.is_empty.result) c.is_some.ensures
    ∙ ap (λ (b : Bool). is_some c.args.declarator.now.name || not b) (c.is_empty.ensures ∙ ap (λ (l : List DeclaratorPart). eqb (length l) 0) c.as_slice.ensures.value)
    ∙ written_is c.args.declarator.now.name c.args.declarator.now.parts.items
