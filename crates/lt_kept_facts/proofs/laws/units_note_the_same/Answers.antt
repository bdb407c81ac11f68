use Rattle.lt_kept_facts.proofs.KeptDeclared.{old_declarations, declarations}
use Rattle.lt_kept_facts.proofs.KeptUnits.{units_note}
use Rattle.lt_kept_facts.proofs.laws.units_note_the_same.Goals as goal

pub returns : goal.returns
returns c =
    let numbered = c.nodes_are_numbered.ensures.parts.1 in
    let noting = c.parts_note_their_nodes.ensures.1 in
    let again = c.expressions_are_typed_again.ensures in
    units_note numbered noting again (λ F G new. old_declarations {F = F} {G = G} {new = new} numbered noting) (λ F G new. declarations {F = F} {G = G} {new = new} numbered noting again)
