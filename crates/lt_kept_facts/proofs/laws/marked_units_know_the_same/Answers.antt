use Rattle.lt_kept_facts.proofs.KeptDeclared.{old_declarations, declarations}
use Rattle.lt_kept_facts.proofs.KeptExternals.{of_external}
use Rattle.lt_kept_facts.proofs.Marked.{marked_units_know}
use Rattle.lt_kept_facts.proofs.laws.marked_units_know_the_same.Goals as goal

pub returns : goal.returns
returns c =
    let numbered = c.nodes_are_numbered.ensures.parts.1 in
    let noting = c.parts_note_their_nodes.ensures.1 in
    let again = c.expressions_are_typed_again.ensures in
    marked_units_know c.units_note_the_same.ensures c.units_are_typed_again.ensures
    (λ new F G ids last further k l x y d b. of_external {F = F} {G = G} {new = new} numbered noting again (old_declarations {F = F} {G = G} {new = new} numbered noting) (declarations {F = F} {G = G} {new = new} numbered noting again) d l b)
