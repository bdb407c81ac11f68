-- That the predicates of objectives are typed where they stand, also where marks were put in front of them.
use Rattle.std.specs.Prelude.{◌≡◌, ◌≤◌, ◌<◌, ◌⊎◌, ℕ, suc, ◌+◌, ◌&&◌, Bool, true, false, List, [], ◌∷◌, ◌++◌, length, map, Option}
use Rattle.std.specs.List.{AllByRecursion}
use Rattle.lt_model.specs.declared.scalar.DataModel.{DataModel}
use Rattle.lt_model.specs.declared.operator.Op.{Op}
use Rattle.lt_tree.specs.declared.expression.LogicalOp.{LogicalOp}
use Rattle.lt_tree.specs.Tree as c
use Rattle.lt_tree.specs.Erasure.{erased}
use Rattle.lt_tree.specs.Purity.{is_pure}
use Rattle.lt_tree.specs.Typing.Types.{CType, is_integer, is_pointer, is_scalar}
use Rattle.lt_tree.specs.Typing.Entities.{Known, Object, Fact, greatest_label_id}
use Rattle.lt_tree.specs.Typing.Steps.{Goes}
use Rattle.lt_tree.specs.Typing.Expressions.{Typed, as_value, own_type}
use Rattle.lt_tree.specs.Typing.ExpressionTyping.{expression}
use Rattle.lt_objectives.specs.declared.criteria.Criterion.{Criterion}
use Rattle.lt_objectives.specs.Decisions.{negation, inequality, clause_list, conjunctions, active_clauses}
use Rattle.lt_objectives.specs.Mutants.{is_signed_integer, pointer_relations, relations, with_others, absolute_mutants, arithmetic_mutants, connector_mutants, relational_mutants}
use Rattle.lt_objectives.specs.Copies.{is_core}
use Rattle.lt_objectives.specs.Objectives.{Form, all_at, domains, at_test}
use Rattle.lt_objectives.specs.Marked.{ids_of, numbered, labels}
use Rattle.lt_mark_typing.specs.Beside.{is_used}
use Rattle.lt_object_laws.specs.Further.{IsFurther}
use Rattle.lt_erased_typing.specs.Literals.{NamesObjects}
use Rattle.lt_erased_typing.specs.Erasable.{CanBeErasedWith}
use Rattle.lt_objectives.specs.Criteria.{tag_of}
use Rattle.lt_mark_typing.specs.Placed.{AreNewLabels, IsThere, IsToldThere}

-- all of these are predicates where this is known
abbrev pub ArePredicates : (ℕ → Bool) → List ℕ → Known → List c.Expression → Type 0
ArePredicates new used known list = AllByRecursion (IsThere is_scalar new used known) list

-- A decision without marks whose clauses are predicates is one, and so are its negation, the conjunctions of its clauses, and what says that a clause
-- determines it.
abbrev pub DecisionsGivePredicates : Type 0
DecisionsGivePredicates =
    (new : ℕ → Bool) (used : List ℕ) (known : Known) (d : c.Expression) → is_pure d ≡ true → ArePredicates new used known (clause_list d)
    → ArePredicates new used known (d ∷ negation d ∷ []) × ArePredicates new used known (conjunctions (clause_list d)) × ArePredicates new used known (active_clauses d)

-- an expression and each of these differ
abbrev pub differences_from : c.Expression → List c.Expression → List c.Expression
differences_from e mutants = map (inequality e) mutants

-- Where the operands of an operator are integers, or those of a connector scalars, that it and each mutant differ is a predicate; so it is of an
-- equality, also of pointers, and of an integer expression and what is made of its absolute value.
abbrev pub MutantsGivePredicates : Type 0
MutantsGivePredicates =
    (new : ℕ → Bool) (used : List ℕ) (known : Known) (model : DataModel) (t u : CType) (op : Op) (connector : LogicalOp) (left right e : c.Expression)
    → (IsThere is_integer new used known left → IsThere is_integer new used known right
    → ArePredicates new used known (differences_from (c.Binary op left right) (arithmetic_mutants t u (c.Binary op left right)))
    × ArePredicates new used known (differences_from (c.Binary op left right) (with_others relations op left right)))
    × (IsThere is_integer new used known (c.Binary op left right) → ArePredicates new used known (differences_from (c.Binary op left right) (with_others pointer_relations op left right)))
    × (IsThere is_scalar new used known left → IsThere is_scalar new used known right
    → ArePredicates new used known (differences_from (c.Logical connector left right) (connector_mutants (c.Logical connector left right))))
    × (IsThere is_integer new used known e → ArePredicates new used known (differences_from e (absolute_mutants model t e)))

-- A parameter that is an integer, or a pointer, as its type says.
abbrev pub DomainsGivePredicates : Type 0
DomainsGivePredicates =
    (new : ℕ → Bool) (used : List ℕ) (known : Known) (model : DataModel) (t : CType) (e : c.Expression)
    → (is_integer t ≡ true → IsThere is_integer new used known e) → (is_pointer t ≡ true → IsThere is_pointer new used known e)
    → ArePredicates new used known (domains model t e)

-- the operands of an operator are integers where it stands
abbrev pub TakesIntegers : Known → c.Expression → Type 0
TakesIntegers known (c.Binary op left right) =
    (x y : Typed) (k j : Known) → expression left as_value (record known { next = known.next + 1 }) ≡ Goes x k → expression right as_value k ≡ Goes y j
    → is_integer (own_type x) && is_integer (own_type y) ≡ true
TakesIntegers known e = Unit {0}

-- Where a pure expression is typed, and nothing is found but facts and further objects, the objectives at it have predicates: as a decision or a clause, with marks or without,
-- if it is a scalar; and with its mutants, if the types by which these are made say of it and its operands no more than that they are integers which are such.
abbrev pub ObjectivesHavePredicates : Type 0
ObjectivesHavePredicates =
    (new : ℕ → Bool) (used : List ℕ) (known : Known) (e : c.Expression) (x : Typed) (next : ℕ) (facts : List Fact) (more : List Object)
    → is_pure e ≡ true → AllByRecursion IsFurther more → expression e as_value known ≡ Goes x (record known { next = next; objects = known.objects ++ more; facts = facts })
    → (is_scalar (own_type x) ≡ true → (criterion : Criterion) (copied : Bool) (decision clause : Option ℕ) (k : ℕ) (marked : c.Expression) → erased marked ≡ e
    → ArePredicates new used known (map (λ it. it.predicate) (at_test criterion copied decision clause k marked)))
    × ((model : DataModel) (t : CType) → (is_signed_integer model t ≡ true → is_integer (own_type x) ≡ true) → ArePredicates new used known (differences_from e (absolute_mutants model t e)))
    × ArePredicates new used known (differences_from e (connector_mutants e))
    × ((t u : CType) → (is_integer t && is_integer u ≡ true → TakesIntegers known e)
    → ArePredicates new used known (differences_from e (arithmetic_mutants t u e)) × ArePredicates new used known (differences_from e (relational_mutants t u e)))

-- So it is where an expression is typed whose marks can be taken off where each object that has a name in scope is known: the objectives at it have predicates,
-- which are made of it without its marks.
abbrev pub MarkedExpressionsHavePredicates : Type 0
MarkedExpressionsHavePredicates =
    (new : ℕ → Bool) (used : List ℕ) (known next : Known) (e : c.Expression) (x : Typed)
    → is_core e ≡ true → is_pure (erased e) ≡ true → (NamesObjects known → CanBeErasedWith true as_value known e) → expression e as_value known ≡ Goes x next
    → (is_scalar (own_type x) ≡ true → (criterion : Criterion) (copied : Bool) (decision clause : Option ℕ) (k : ℕ) → ArePredicates new used known (map (λ it. it.predicate) (at_test criterion copied decision clause k e)))
    × ((model : DataModel) (t : CType) → (is_signed_integer model t ≡ true → is_integer (own_type x) ≡ true) → ArePredicates new used known (differences_from (erased e) (absolute_mutants model t (erased e))))
    × ArePredicates new used known (differences_from (erased e) (connector_mutants (erased e)))
    × ((t u : CType) → (is_integer t && is_integer u ≡ true → TakesIntegers known e)
    → ArePredicates new used known (differences_from (erased e) (arithmetic_mutants t u (erased e))) × ArePredicates new used known (differences_from (erased e) (relational_mutants t u (erased e))))

-- Going over an expression is quiet there, and its type is this one: it passes each test that the type does.
abbrev pub IsThereAs : (ℕ → Bool) → List ℕ → Known → CType → c.Expression → Type 0
IsThereAs new used known type it = (test : CType → Bool) → test type ≡ true → IsThere test new used known it

-- Without its marks each operand of an operator has the type there that it has in the operator.
abbrev pub OperandsAreThere : (ℕ → Bool) → List ℕ → Known → c.Expression → Type 0
OperandsAreThere new used known (c.Binary op left right) =
    (x y : Typed) (k j : Known) → expression left as_value (record known { next = known.next + 1 }) ≡ Goes x k → expression right as_value k ≡ Goes y j
    → IsThereAs new used known (own_type x) (erased left) × IsThereAs new used known (own_type y) (erased right)
OperandsAreThere new used known e = Unit {0}

-- Such an expression without its marks has the type there that it has with them, and so have its operands.
abbrev pub MarkedExpressionsKeepTheirTypes : Type 0
MarkedExpressionsKeepTheirTypes =
    (new : ℕ → Bool) (used : List ℕ) (known next : Known) (e : c.Expression) (x : Typed)
    → is_core e ≡ true → is_pure (erased e) ≡ true → (NamesObjects known → CanBeErasedWith true as_value known e) → expression e as_value known ≡ Goes x next
    → IsThereAs new used known (own_type x) (erased e) × OperandsAreThere new used known e

-- ids that are used behind labels with so many ids from this one on: those before, and these
abbrev pub AddsIds : (used after : List ℕ) → (id count : ℕ) → Type 0
AddsIds used after id count = (n : ℕ) → is_used n after ≡ true → (is_used n used ≡ true) ⊎ ((id ≤ n) × (n < id + count))

-- each of these, as the predicate of a label of this criterion, tells an expression from its mutant exactly there, if the criterion is one of mutants
abbrev pub AreToldThere : (ℕ → Bool) → List ℕ → Known → Criterion → List c.Expression → Type 0
AreToldThere new used known criterion list = AllByRecursion (IsToldThere new used known (tag_of criterion)) list

-- The labels of objectives at one place, numbered from an id that is new as the next ones are, are new labels there, if their predicates are predicates there
-- and tell mutants apart, whatever ids are used.
abbrev pub LabelsOfObjectivesAreNew : Type 0
LabelsOfObjectivesAreNew =
    (new : ℕ → Bool) (used : List ℕ) (known : Known) (form : Form) (criterion : Criterion) (place id : ℕ) (predicates : List c.Expression)
    → ids_of form ≡ 1 → ((used : List ℕ) → ArePredicates new used known predicates) → ((used : List ℕ) → AreToldThere new used known criterion predicates) → 1 ≤ id → id + length predicates ≤ suc greatest_label_id
    → ((n : ℕ) → id ≤ n → n < id + length predicates → (new n ≡ true) × (is_used n used ≡ false))
    → (after : List ℕ) × AreNewLabels new used after known (labels form (numbered id (all_at place form criterion predicates)) place) × AddsIds used after id (length predicates)
