-- The labels of mutants tell an expression from its mutants exactly wherever they stand in the text with marks added.
use Rattle.std.proofs.Common.{◌≡◌, inl, inr, refl, sym, ap, ◌∙◌, subst, ℕ, List, [], ◌∷◌, ◌++◌, Bool, true, false, ◌&&◌, if◌then◌else◌, Option}
use Rattle.std.proofs.lemmas.Bool.{false≢true}
use Rattle.std.specs.Prelude.{map}
use Rattle.std.specs.List.{AllByRecursion}
use Rattle.lt_model.specs.declared.scalar.DataModel.{DataModel}
use Rattle.lt_tree.specs.Tree as c
use Rattle.lt_tree.specs.Comma.{comma_of}
use Rattle.lt_tree.specs.Erasure.{erased}
use Rattle.lt_tree.specs.Purity.{is_pure}
use Rattle.lt_tree.specs.Typing.Types.{CType, Void, is_integer}
use Rattle.lt_tree.specs.Typing.Entities.{Known}
use Rattle.lt_tree.specs.Typing.Expressions.{as_value, own_type}
use Rattle.lt_tree.specs.Typing.Programs.{Program}
use Rattle.lt_objectives.specs.declared.criteria.Criterion.{Criterion}
use Rattle.lt_objectives.specs.declared.criteria.Criterion.TheVariants as C
use Rattle.lt_objectives.specs.Criteria.{tag_of}
use Rattle.lt_objectives.specs.Places.{type_at, is_open, is_value_position}
use Rattle.lt_objectives.specs.Decisions.{decisions, clauses, inequality}
use Rattle.lt_objectives.specs.Copies.{is_core, can_be_copied}
use Rattle.lt_objectives.specs.Objectives.{in_front, Objective, all_at, decided_at, at_test, left_type, right_type, mutants, differences, at_expression}
use Rattle.lt_mark_laws.specs.Mutants.{IsOfMutants, mutants_by, IsOneOf, IsMutant, AreToldApart}
use Rattle.lt_mark_typing.specs.Beside.{IsBeside}
use Rattle.lt_erased_typing.specs.Literals.{NamesObjects}
use Rattle.lt_erased_typing.specs.Simple.{IsSimpleWith}
use Rattle.lt_erased_typing.specs.Erasable.{CanBeErasedWith}
use Rattle.lt_typed_nodes.specs.Coming.{ComesToIt}
use Rattle.lt_objective_typing.specs.Laws.{IsThereAs, OperandsAreThere, AreToldThere}
use Rattle.lt_mutation_labels.specs.Laws.{OperandsStayIntegers}
use Rattle.lt_objective_marks.specs.Settings.{Setting}
use Rattle.lt_objective_marks.proofs.Given.{Given}
use Rattle.lt_objective_marks.proofs.Noted.{integer_found, integer_operands}
use Rattle.lt_objective_marks.proofs.Predicates.{predicates_of}
use Rattle.lt_objective_marks.proofs.Staying.{stays_integer}
use Rattle.lt_objective_marks.proofs.Tags.{same_criterion}

-- ---- mutants

each_of : {P : c.Expression → Type 0} (list : List c.Expression) → ((e : c.Expression) → IsOneOf e list → P e) → AllByRecursion P list
each_of [] f = tt
each_of {P = P} (e ∷ es) f = (f e (inl refl), each_of {P = P} es (λ other h. f other (inr h)))

are_mutants : (criterion : Criterion) (m : DataModel) (type left right : CType) (it : c.Expression) → AllByRecursion (IsMutant criterion it) (mutants_by criterion m type left right it)
are_mutants criterion m type left right it = each_of {P = IsMutant criterion it} (mutants_by criterion m type left right it) (λ other h. (m, type, left, right, h))

-- ---- what is told

module _ (new : ℕ → Bool) (used : List ℕ) (known : Known) where
  -- these are told apart here in the text with marks added
  abbrev ApartThere : c.Expression → List c.Expression → Type 0
  ApartThere it list = (further : List Bool) (there : Known) → IsBeside new used further known there → AllByRecursion (AreToldApart there it) list

  -- so a predicate says that an expression and a mutant of it by this criterion differ
  abbrev IsTold : Criterion → (predicate : c.Expression) → Type 0
  IsTold criterion predicate =
      (it : c.Expression) × (other : c.Expression) × (predicate ≡ inequality it other) × IsMutant criterion it other
      × ((further : List Bool) (there : Known) → IsBeside new used further known there → AreToldApart there it other)

  told_mutants : (criterion : Criterion) (it : c.Expression) (list : List c.Expression) → AllByRecursion (IsMutant criterion it) list → ApartThere it list → AllByRecursion (IsTold criterion) (map (inequality it) list)
  told_mutants criterion it [] are apart = tt
  told_mutants criterion it (other ∷ others) are apart = (
    (it, other, refl, are.0, λ further there beside. (apart further there beside).0),
    told_mutants criterion it others are.1 (λ further there beside. (apart further there beside).1),
  )

  -- the tag of a label says of which criterion it is
  told_by_tag : (criterion : Criterion) (list : List c.Expression) → (IsOfMutants criterion → AllByRecursion (IsTold criterion) list) → AreToldThere new used known criterion list
  told_by_tag criterion list told = by list (λ found is same.
      let it = same_criterion criterion found same in
      subst (λ criterion. AllByRecursion (IsTold criterion) list) it (told (subst IsOfMutants (sym it) is)))
    where
      by : (list : List c.Expression) → ((found : Criterion) → IsOfMutants found → tag_of criterion ≡ tag_of found → AllByRecursion (IsTold found) list) → AreToldThere new used known criterion list
      by [] f = tt
      by (p ∷ ps) f = ((λ found is same. (f found is same).0), by ps (λ found is same. (f found is same).1))

-- no test has mutants
no_test : (criterion : Criterion) → IsOfMutants criterion → (copied : Bool) (decision clause : Option ℕ) (k : ℕ) (e : c.Expression) → at_test criterion copied decision clause k e ≡ []
no_test C.AbsoluteValue is copied decision clause k e = refl
no_test C.ArithmeticOperator is copied decision clause k e = refl
no_test C.LogicalConnector is copied decision clause k e = refl
no_test C.RelationalOperator is copied decision clause k e = refl
no_test _ is copied decision clause k e = absurd is

-- a comma expression is no operator between two operands
comma_stays : (known : Known) (first second : c.Expression) (rest : c.Expressions) → OperandsStayIntegers known (comma_of first (c.an_expression second rest))
comma_stays known (c.Comma parts) second rest = tt
comma_stays known _ second rest = tt

module _ (g : Given) {new : ℕ → Bool} {unit : c.Unit} {program : Program} {criterion : Criterion} {id : ℕ} (s : Setting new unit program criterion id) (known : Known) where
  -- the operands of an operator stay integers without their marks, if they are noted as such
  operands_stay : (used : List ℕ) (e : c.Expression) → is_core e ≡ true → IsSimpleWith true known.frames e → ComesToIt program.facts known as_value e → OperandsAreThere new used known e
      → is_integer (left_type unit program known.next e) && is_integer (right_type unit program known.next e) ≡ true
      → (further : List Bool) (there : Known) → IsBeside new used further known there → OperandsStayIntegers there (erased e)
  operands_stay used (c.Binary op left right) core simple comes operands are = λ further there beside.
      let them = integer_operands g s as_value op known left right comes are in
      let both = operands them.first.found them.second.found them.first.behind them.second.behind them.first.goes them.second.goes in
      (stays_integer both.0 them.left_integer beside, stays_integer both.1 them.right_integer beside)
  operands_stay used (c.Comma c.no_expressions) core simple comes operands are = absurd simple
  operands_stay used (c.Comma (c.an_expression first c.no_expressions)) core simple comes operands are = absurd simple
  operands_stay used (c.Comma (c.an_expression first (c.an_expression second rest))) core simple comes operands are = λ further there beside. comma_stays there (erased first) (erased second) _
  operands_stay used (c.Marked marks value) core simple comes operands are = absurd (false≢true core)
  operands_stay used (c.Decide operand when_true when_false tag) core simple comes operands are = absurd (false≢true core)
  operands_stay used (c.After operand id tag) core simple comes operands are = absurd (false≢true core)
  operands_stay used _ core simple comes operands are = λ further there beside. tt

  module _ (e : c.Expression) (core : is_core e ≡ true) (pure : is_pure (erased e) ≡ true) (simple : IsSimpleWith true known.frames e) (comes : ComesToIt program.facts known as_value e)
      (erasable : NamesObjects known → CanBeErasedWith true as_value known e) (used : List ℕ) where
    mutants_apart : (criterion : Criterion) → ApartThere new used known (erased e) (mutants unit program criterion known.next e (erased e))
    mutants_apart criterion = by criterion
      where
        types : IsThereAs new used known (own_type comes.found) (erased e) × OperandsAreThere new used known e
        types = g.types new used known comes.behind e comes.found core pure erasable comes.goes

        by : (criterion : Criterion) → ApartThere new used known (erased e) (mutants unit program criterion known.next e (erased e))
        by C.AbsoluteValue = λ further there beside. (g.told there (erased e) pure).3 program.model (type_at unit program known.next) (λ is. stays_integer types.0 (integer_found g s known e comes is) beside)
        by C.ArithmeticOperator = λ further there beside.
            (g.told there (erased e) pure).2 (left_type unit program known.next e) (right_type unit program known.next e) (λ are. operands_stay used e core simple comes types.1 are further there beside)
        by C.LogicalConnector = λ further there beside. (g.told there (erased e) pure).0
        by C.RelationalOperator = λ further there beside. (g.told there (erased e) pure).1 (left_type unit program known.next e) (right_type unit program known.next e)
        by _ = λ further there beside. tt

    mutants_are : (criterion : Criterion) → AllByRecursion (IsMutant criterion (erased e)) (mutants unit program criterion known.next e (erased e))
    mutants_are C.AbsoluteValue = are_mutants C.AbsoluteValue program.model (type_at unit program known.next) Void Void (erased e)
    mutants_are C.ArithmeticOperator = are_mutants C.ArithmeticOperator program.model Void (left_type unit program known.next e) (right_type unit program known.next e) (erased e)
    mutants_are C.LogicalConnector = are_mutants C.LogicalConnector program.model Void Void Void (erased e)
    mutants_are C.RelationalOperator = are_mutants C.RelationalOperator program.model Void (left_type unit program known.next e) (right_type unit program known.next e) (erased e)
    mutants_are _ = tt

    of_differences : (b : Bool)
        → AllByRecursion (IsTold new used known criterion) (map (λ it. it.predicate) (if b then all_at known.next in_front criterion (map (inequality (erased e)) (mutants unit program criterion known.next e (erased e))) else []))
    of_differences true =
        subst (AllByRecursion (IsTold new used known criterion)) (sym (predicates_of known.next criterion (map (inequality (erased e)) (mutants unit program criterion known.next e (erased e)))))
        (told_mutants new used known criterion (erased e) (mutants unit program criterion known.next e (erased e)) (mutants_are criterion) (mutants_apart criterion))
    of_differences false = tt

    at_open : (b : Bool) → IsOfMutants criterion
        → AllByRecursion (IsTold new used known criterion) (map (λ it. it.predicate) (if b then at_test criterion (can_be_copied unit known.next e) (decided_at (decisions unit) known.next) (decided_at (clauses unit) known.next) known.next e
        ++ differences unit program criterion known.next e else []))
    at_open true is =
        subst (λ tests. AllByRecursion (IsTold new used known criterion) (map (λ (it : Objective). it.predicate) (tests ++ differences unit program criterion known.next e)))
        (sym (no_test criterion is (can_be_copied unit known.next e) (decided_at (decisions unit) known.next) (decided_at (clauses unit) known.next) known.next e))
        (of_differences (can_be_copied unit known.next e && is_value_position unit known.next))
    at_open false is = tt

    -- all objectives there do so
    pub are_told : (ps : List c.Expression) → at_expression unit program criterion known.next e ≡ all_at known.next in_front criterion ps → AreToldThere new used known criterion ps
    are_told ps are =
        told_by_tag new used known criterion ps (λ is.
        subst (AllByRecursion (IsTold new used known criterion)) (ap (map (λ (it : Objective). it.predicate)) are ∙ predicates_of known.next criterion ps) (at_open (is_core e && is_open unit program known.next) is))
