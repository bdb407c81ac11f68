-- An expression to which typing comes is simple there, if predicates may copy each of its nodes.
use Rattle.std.proofs.Common.{◌≡◌, sym, ap, ◌∙◌, ℕ, Bool, true, List, [], ◌++◌, length, take, drop, arith}
use Rattle.std.proofs.lemmas.List.{append-nil}
use Rattle.std.proofs.Math.Seq.{take-append_seam}
use Rattle.std.specs.List.{list_all}
use Rattle.lt_model.specs.declared.scalar.DataModel.{DataModel}
use Rattle.lt_tree.specs.Tree as c
use Rattle.lt_tree.specs.Nodes.{Node, in_expression}
use Rattle.lt_tree.specs.Typing.Entities.{Known}
use Rattle.lt_objectives.specs.Tags.{Tags, fitting, fitting_nodes}
use Rattle.lt_objectives.specs.Copies.{all_fit}
use Rattle.lt_typed_nodes.specs.Reaching.{Piece, an_expression, IsReached, the_unit, a_part}
use Rattle.lt_simple_copies.specs.Laws.{CopiesAreSimple}
use Rattle.lt_simple_copies.proofs.SimpleParts.{AllFit, all_fit_of, simple}
use Rattle.lt_simple_copies.proofs.FittingLists.{as_many_as}
use Rattle.lt_simple_copies.proofs.ReachedPlaces.{Stands}
use Rattle.lt_simple_copies.proofs.ReachedLaws.{Laws}
use Rattle.lt_simple_copies.proofs.ReachedParts.{Located, of_part}

located : Laws → {greatest : ℕ} {model : DataModel} {unit : c.Unit} {it : Piece} {known : Known} → IsReached greatest model unit it known → Located (fitting_nodes unit) it known
located laws {unit = unit} the_unit = record { tags = []; stands = record { depth = omega arith; scope = tt; behind = []; is = sym (append-nil (fitting_nodes unit)) } }
located laws (a_part reached part) = of_part laws part (located laws reached)

-- the nodes that stand there are those that are judged
judged : {all : List Bool} {tags : Tags} {known : Known} (nodes : List Node) → Stands all tags known (fitting tags nodes)
    → all_fit all known.next (length nodes) ≡ true → AllFit tags nodes
judged {all} {tags} {known} nodes stands is = all_fit_of tags nodes (ap (list_all (λ it. it)) (sym own) ∙ is)
  where
    own : take (length nodes) (drop known.next all) ≡ fitting tags nodes
    own = ap (take (length nodes)) stands.is ∙ ap (λ n. take n (fitting tags nodes ++ stands.behind)) (sym (as_many_as tags nodes)) ∙ take-append_seam (fitting tags nodes) stands.behind

pub copies_are_simple : Laws → CopiesAreSimple
copies_are_simple laws greatest model unit role e known reached is =
    let there : Located (fitting_nodes unit) (an_expression role e) known = located laws reached in
    simple known.frames there.tags there.stands.scope e (judged (in_expression e) there.stands is)
