-- That the labels of mutants are exact wherever they stand in a unit.
use Rattle.std.specs.Prelude.{◌≡◌, ℕ, Bool, true, List}
use Rattle.lt_model.specs.declared.scalar.DataModel.{DataModel}
use Rattle.lt_tree.specs.Tree as c
use Rattle.lt_tree.specs.Typing.Entities.{Known}
use Rattle.lt_tree.specs.Typing.MarkRules.{number_of_id}
use Rattle.lt_objectives.specs.declared.criteria.Criterion.{Criterion}
use Rattle.lt_objectives.specs.Criteria.{tag_of}
use Rattle.lt_objectives.specs.Decisions.{inequality}
use Rattle.lt_typed_nodes.specs.Reaching.{IsLabelAt}
use Rattle.lt_mark_laws.specs.Mutants.{IsOfMutants, IsMutant, entered, AreToldApart}

-- Each label of the unit with a new id and the tag of a criterion of mutants binds no names and says that an expression and a mutant of it differ; and where typing
-- comes to it, that is true, and noted in each run, exactly where both have a value and the values differ. (Which labels these are, and where, is said of the unit
-- elsewhere.)
abbrev pub MutationLabelsAreExact : (ℕ → Bool) → (greatest : ℕ) → DataModel → c.Unit → Type 0
MutationLabelsAreExact new greatest model unit =
    (criterion : Criterion) → IsOfMutants criterion → (predicate : c.Expression) (id : List ℕ) (bound : c.Bindings) (there : Known)
    → IsLabelAt greatest model unit (c.mark predicate id (tag_of criterion) bound) there → new (number_of_id id) ≡ true
    → (bound ≡ c.no_bindings) × (it : c.Expression) × (other : c.Expression) × (predicate ≡ inequality it other) × IsMutant criterion it other × AreToldApart (entered there) it other
