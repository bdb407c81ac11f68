-- The criteria whose objectives are combinations of the clauses of decisions.
use Rattle.std.specs.Prelude.{◌&&◌, if◌then◌else◌, List, [], ◌∷◌}
use Rattle.lt_tree.specs.Tree as c
use Rattle.lt_tree.specs.Erasure.{erased}
use Rattle.lt_objectives.specs.declared.criteria.Criterion.{Criterion}
use Rattle.lt_objectives.specs.declared.criteria.Criterion.TheVariants as C
use Rattle.lt_objectives.specs.Copies.{is_pure_without_marks}
use Rattle.lt_objectives.specs.Decisions.{clause_list, conjunctions, active_clauses, has_few_clauses}
use Rattle.lt_mcc.specs.declared.combination.Combination.{Combination}
use Rattle.lt_mcc.specs.declared.combination.Combination.TheVariants as each

abbrev pub criteria : List Criterion
criteria = C.MultipleCondition ∷ C.GeneralActiveClause ∷ []

abbrev pub criterion_of : Combination → Criterion
criterion_of each.MultipleCondition = C.MultipleCondition
criterion_of each.GeneralActiveClause = C.GeneralActiveClause

-- the combinations of the clauses of a decision without marks
abbrev pub combinations_of : Combination → c.Expression → List c.Expression
combinations_of each.MultipleCondition d = conjunctions (clause_list d)
combinations_of each.GeneralActiveClause d = active_clauses d

-- those that are objectives at a decision of which predicates may copy each node
abbrev pub combined : Combination → c.Expression → List c.Expression
combined combination d = if is_pure_without_marks d && has_few_clauses (erased d) then combinations_of combination (erased d) else []
