use Rattle.std.proofs.Common.{length}
use Rattle.lt_tree.specs.Nodes.{in_expression, in_declaration}
use Rattle.lt_objectives.specs.Objectives.{objectives}
use Rattle.lt_objectives.specs.Marked.{numbered}
use Rattle.lt_decisions.proofs.Parts as closed
use Rattle.lt_objective_places.proofs.Standing.{none_in_run, none_in_expression}
use Rattle.lt_objective_places.proofs.Unmarked.{has_none, unmarked}
use Rattle.lt_objective_places.proofs.UnmarkedDeclarations.{declaration_unmarked}
use Rattle.lt_objective_places.proofs.laws.nothing_is_marked_there.Goals as goal

pub returns : goal.returns
returns c = λ unit program criterion k id.
    let them = objectives unit program criterion in (
      (λ role e s are. unmarked (numbered id them) k e (has_none id k (length (in_expression e)) them (λ o h w. none_in_expression program criterion e o s are h w))),
      (λ d s are. declaration_unmarked (numbered id them) k d
          (has_none id k (length (in_declaration d)) them (λ o h w. none_in_run program criterion o (closed.declaration d) s are h w))),
    )
