-- The objectives of each criterion, in the order of a walk from parent to child: where each stands, in which form, with which predicate and tag.
use Rattle.std.specs.Prelude.{ℕ, ◌+◌, ◌==◌, Bool, ◌&&◌, if◌then◌else◌, List, [], ◌∷◌, ◌++◌, length, map, slice_get, Option, Some, None}
use Rattle.std.specs.List.{flat_map}
use Rattle.lt_model.specs.declared.operator.Op.TheVariants as O
use Rattle.lt_model.specs.declared.scalar.DataModel.{DataModel}
use Rattle.lt_tree.specs.Tree as c
use Rattle.lt_tree.specs.Erasure.{erased}
use Rattle.lt_tree.specs.Nodes.{an_external, an_expression, in_expression}
use Rattle.lt_tree.specs.Typing.Types.{CType, own_qualifiers, is_integer, is_pointer}
use Rattle.lt_tree.specs.Typing.Entities.{Function}
use Rattle.lt_tree.specs.Typing.Programs.{Program}
use Rattle.lt_objectives.specs.declared.criteria.Criterion.{Criterion}
use Rattle.lt_objectives.specs.declared.criteria.Criterion.TheVariants as C
use Rattle.lt_objectives.specs.Criteria.{tag_of}
use Rattle.lt_objectives.specs.Copies.{is_core, can_be_copied}
use Rattle.lt_objectives.specs.Places.{Site, sites, is_at, value_part, corresponding_node, type_at, is_open, is_value_position}
use Rattle.lt_objectives.specs.Decisions.{Test, decisions, clauses, one, zero_constant, negation, inequality, clause_list, conjunctions, active_clauses, has_few_clauses}
use Rattle.lt_objectives.specs.Mutants.{is_signed_integer, absolute_mutants, arithmetic_mutants, connector_mutants, relational_mutants}

pub data Form : Type 0 where
  -- a label as a statement, at the start of a function's body
  at_start : Form
  -- a label in front of an expression
  in_front : Form
  -- a `pc_decide` around an expression, whose truth is an objective and whose falsity is another
  around : Form

pub record Objective : Type 0 where
  -- the number of the node
  pub place : ℕ
  pub form : Form
  -- what has to be true; of a `pc_decide` its operand
  pub predicate : c.Expression
  pub tag : List ℕ

abbrev pub objective : ℕ → Form → Criterion → c.Expression → Objective
objective place form criterion predicate = record { place = place; form = form; predicate = predicate; tag = tag_of criterion }

-- these predicates, each as an objective at one place
abbrev pub all_at : ℕ → Form → Criterion → List c.Expression → List Objective
all_at place form criterion predicates = map (objective place form criterion) predicates

-- ---- at the start of functions

abbrev pub parameters_among : List Function → ℕ → List ℕ
parameters_among [] node = []
parameters_among (f ∷ fs) node = if f.node == node then f.parameters else parameters_among fs node

-- the objects of the parameters of the function that is defined at this number
abbrev pub parameters_at : c.Unit → Program → ℕ → List ℕ
parameters_at unit program k = elim (corresponding_node unit program k) [ None ↦ [] | Some n ↦ parameters_among program.functions n ]

-- less than 0, 0, and more, as far as the type has it; null or not
abbrev pub domains : DataModel → CType → c.Expression → List c.Expression
domains m t e =
    if (own_qualifiers t).volatile then []
    else (if is_pointer t then c.Binary O.Eq e zero_constant ∷ c.Binary O.Ne e zero_constant ∷ []
    else (if is_signed_integer m t then c.Binary O.Lt e zero_constant ∷ c.Binary O.Eq e zero_constant ∷ c.Binary O.Gt e zero_constant ∷ []
    else (if is_integer t then c.Binary O.Eq e zero_constant ∷ c.Binary O.Gt e zero_constant ∷ [] else [])))

abbrev pub domains_of_object : Program → ℕ → List c.Expression
domains_of_object program n = elim (slice_get program.objects n) [ None ↦ [] | Some object ↦ domains program.model object.type (c.Name object.name) ]

-- the predicates of a criterion at the start of the body of the function at this number
abbrev pub at_body : c.Unit → Program → Criterion → ℕ → List c.Expression
at_body unit program C.Function k = one ∷ []
at_body unit program C.InputDomain k = flat_map (domains_of_object program) (parameters_at unit program k)
at_body unit program _ k = []

-- ---- at decisions and clauses

-- the test at this number, if there is one: the number of what a new `pc_decide` stands around
abbrev pub decided_at : List Test → ℕ → Option ℕ
decided_at [] k = None
decided_at (it ∷ rest) k = if is_at k it.core then Some it.decided else decided_at rest k

-- both truths of an expression: two labels where it is copied, else a `pc_decide`
abbrev pub both_truths : Criterion → (copied : Bool) → ℕ → (decided : ℕ) → c.Expression → List Objective
both_truths criterion copied k decided e =
    if copied then all_at k in_front criterion (erased e ∷ negation (erased e) ∷ []) else objective decided around criterion (erased e) ∷ []

-- the combinations of the clauses of a decision, where it is copied
abbrev pub combinations : Criterion → (copied : Bool) → ℕ → (c.Expression → List c.Expression) → c.Expression → List Objective
combinations criterion copied k predicates d =
    if copied && has_few_clauses (erased d) then all_at k in_front criterion (predicates (erased d)) else []

-- The objectives of a criterion at an expression that is a decision or a clause, and that predicates may copy or not; with the number of what a new
-- `pc_decide` stands around.
abbrev pub at_test : Criterion → (copied : Bool) → (decision clause : Option ℕ) → ℕ → c.Expression → List Objective
at_test C.Decision copied (Some decided) clause k e = both_truths C.Decision copied k decided e
at_test C.Condition copied decision (Some decided) k e = both_truths C.Condition copied k decided e
at_test C.MultipleCondition copied (Some decided) clause k e = combinations C.MultipleCondition copied k (λ d. conjunctions (clause_list d)) e
at_test C.GeneralActiveClause copied (Some decided) clause k e = combinations C.GeneralActiveClause copied k active_clauses e
at_test _ copied decision clause k e = []

-- ---- at expressions in value positions that predicates may copy

-- the types of the operands of a binary operator at this number
abbrev pub left_type : c.Unit → Program → ℕ → c.Expression → CType
left_type unit program k (c.Binary op left right) = type_at unit program (value_part (k + 1) left).number
left_type unit program k e = type_at unit program k

abbrev pub right_type : c.Unit → Program → ℕ → c.Expression → CType
right_type unit program k (c.Binary op left right) = type_at unit program (value_part (k + 1 + length (in_expression left)) right).number
right_type unit program k e = type_at unit program k

-- the mutants of a criterion of an expression at this number, which is also given without its marks
abbrev pub mutants : c.Unit → Program → Criterion → ℕ → c.Expression → c.Expression → List c.Expression
mutants unit program C.AbsoluteValue k e plain = absolute_mutants program.model (type_at unit program k) plain
mutants unit program C.ArithmeticOperator k e plain = arithmetic_mutants (left_type unit program k e) (right_type unit program k e) plain
mutants unit program C.LogicalConnector k e plain = connector_mutants plain
mutants unit program C.RelationalOperator k e plain = relational_mutants (left_type unit program k e) (right_type unit program k e) plain
mutants unit program _ k e plain = []

-- that a pure expression and its mutant have different values
abbrev pub differences : c.Unit → Program → Criterion → ℕ → c.Expression → List Objective
differences unit program criterion k e =
    if can_be_copied unit k e && is_value_position unit k then all_at k in_front criterion (map (inequality (erased e)) (mutants unit program criterion k e (erased e)))
    else []

-- ---- in the order of the walk

abbrev pub at_expression : c.Unit → Program → Criterion → ℕ → c.Expression → List Objective
at_expression unit program criterion k e =
    if is_core e && is_open unit program k
    then at_test criterion (can_be_copied unit k e) (decided_at (decisions unit) k) (decided_at (clauses unit) k) k e ++ differences unit program criterion k e else []

abbrev pub at_node : c.Unit → Program → Criterion → Site → List Objective
at_node unit program criterion site =
    elim (site.node) [
      | an_external (c.Defines s d body) ↦ all_at site.number at_start criterion (at_body unit program criterion site.number)
      | an_expression e ↦ at_expression unit program criterion site.number e
      | _ ↦ []
    ]

-- The objectives of a criterion in a unit. The program is that of the unit, or of one that is the same without marks.
abbrev pub objectives : c.Unit → Program → Criterion → List Objective
objectives unit program criterion = flat_map (at_node unit program criterion) (sites unit)
