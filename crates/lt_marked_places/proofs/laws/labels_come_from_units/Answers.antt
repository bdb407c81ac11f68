use Rattle.lt_tree.specs.Typing.Entities.{Known}
use Rattle.lt_typed_nodes.specs.Reaching.{Piece, IsReached}
use Rattle.lt_marked_places.proofs.Coming.{ComesToPiece, comes}
use Rattle.lt_marked_places.proofs.Expressions.{expression_stands_on, expressions_stand_on}
use Rattle.lt_marked_places.proofs.Labels.{label_comes}
use Rattle.lt_marked_places.proofs.Units.{labels_come}
use Rattle.lt_marked_places.proofs.laws.labels_come_from_units.Goals as goal

pub returns : goal.returns
returns c =
    let coming = c.parts_are_come_to.ensures in
    λ new greatest model unit marked after program is d e label there at.
    let come : (it : Piece) (known : Known) → IsReached greatest model unit it known → ComesToPiece program.facts it known = λ it known reached. comes coming.units coming.externals coming.declarations coming.initialisers coming.statements coming.operands greatest model unit program is reached in
    labels_come c.expressions_are_typed_again.ensures c.statements_are_typed_again.ensures coming.statements coming.declarations new greatest model unit program come
    (expression_stands_on new greatest model unit program.facts come c.expressions_are_typed_again.ensures) (expressions_stand_on new greatest model unit program.facts come c.expressions_are_typed_again.ensures)
    (λ role labels it known there label stands comes. label_comes new greatest model unit program.facts come stands comes) marked after d e label there at
