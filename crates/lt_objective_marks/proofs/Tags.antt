-- A tag is that of one criterion; so labels of criteria without mutants have nothing to tell apart.
use Rattle.std.proofs.Common.{◌≡◌, ℕ, List, [], ◌∷◌, Bool, Some, refl, sym, ap, ◌∙◌, subst}
use Rattle.std.specs.Prelude.{find}
use Rattle.std.specs.Str.{bytes_eq}
use Rattle.lt_tree.specs.Tree as c
use Rattle.lt_tree.specs.Typing.Entities.{Known}
use Rattle.lt_objectives.specs.declared.criteria.Criterion.{Criterion}
use Rattle.lt_objectives.specs.declared.criteria.Criterion.TheVariants as C
use Rattle.lt_objectives.specs.Criteria.{tag_of}
use Rattle.lt_mark_laws.specs.Mutants.{IsOfMutants}
use Rattle.lt_objective_typing.specs.Laws.{AreToldThere}

abbrev all_criteria : List Criterion
all_criteria =
    C.Function ∷ C.InputDomain ∷ C.Decision ∷ C.Condition ∷ C.MultipleCondition ∷ C.GeneralActiveClause ∷ C.CorrelatedActiveClause ∷ C.RestrictedActiveClause ∷ C.AllUses
    ∷ C.AbsoluteValue ∷ C.ArithmeticOperator ∷ C.LogicalConnector ∷ C.RelationalOperator ∷ []

found_by : (criterion : Criterion) → find (λ it. bytes_eq (tag_of it) (tag_of criterion)) all_criteria ≡ Some criterion
found_by C.Function = refl
found_by C.InputDomain = refl
found_by C.Decision = refl
found_by C.Condition = refl
found_by C.MultipleCondition = refl
found_by C.GeneralActiveClause = refl
found_by C.CorrelatedActiveClause = refl
found_by C.RestrictedActiveClause = refl
found_by C.AllUses = refl
found_by C.AbsoluteValue = refl
found_by C.ArithmeticOperator = refl
found_by C.LogicalConnector = refl
found_by C.RelationalOperator = refl

pub same_criterion : (one other : Criterion) → tag_of one ≡ tag_of other → one ≡ other
same_criterion one other same =
    let both : Some one ≡ Some other = sym (found_by one) ∙ ap (λ tag. find (λ it. bytes_eq (tag_of it) tag) all_criteria) same ∙ found_by other in
    cc

pub nothing_told : (new : ℕ → Bool) (used : List ℕ) (known : Known) (criterion : Criterion) → (IsOfMutants criterion → ⊥) → (list : List c.Expression) → AreToldThere new used known criterion list
nothing_told new used known criterion other [] = tt
nothing_told new used known criterion other (p ∷ ps) =
    ((λ found is same. absurd (other (subst IsOfMutants (sym (same_criterion criterion found same)) is))), nothing_told new used known criterion other ps)
