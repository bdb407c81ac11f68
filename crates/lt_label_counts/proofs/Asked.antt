-- How many ids the objectives of a criterion ask for at one node.
use Rattle.std.proofs.Common.{◌≡◌, ◌≤◌, ℕ, suc, ◌+◌, ◌*◌, ◌^◌, List, [], ◌∷◌, ◌++◌, length, map, Option, Some, None, Bool, true, false, refl, ap, arith}
use Rattle.std.proofs.lemmas.List.{length-map, length-append}
use Rattle.std.proofs.lemmas.Bool.Decides.{nat_tests}
use Rattle.std.proofs.Math.Pow.{pow_mono}
use Rattle.std.proofs.lemmas.Grind.{pow_more}
use Rattle.std.specs.Prelude.{nat_le, ◌&&◌, not, if◌then◌else◌, filter, is_some, slice_get}
use Rattle.std.specs.Cmp.{second_so}
use Rattle.std.specs.List.{flat_map}
use Rattle.lt_model.specs.declared.operator.Op.{Op}
use Rattle.lt_model.specs.declared.operator.Op.TheVariants as O
use Rattle.lt_tree.specs.Tree as c
use Rattle.lt_tree.specs.Erasure.{erased}
use Rattle.lt_tree.specs.Nodes.{Node, an_external, a_declarator, an_initialiser, a_member, an_enumerator, a_label, a_declared_item, a_stated_item, a_marked_item, a_statement, an_expression, a_mark}
use Rattle.lt_tree.specs.Typing.Types.{CType, own_qualifiers, is_integer, is_pointer}
use Rattle.lt_tree.specs.Typing.Entities.{Object}
use Rattle.lt_tree.specs.Typing.Programs.{Program}
use Rattle.lt_model.specs.declared.scalar.DataModel.{DataModel}
use Rattle.lt_objectives.specs.declared.criteria.Criterion.{Criterion}
use Rattle.lt_objectives.specs.declared.criteria.Criterion.TheVariants as C
use Rattle.lt_objectives.specs.Places.{Site, sites, is_open, is_value_position, type_at}
use Rattle.lt_objectives.specs.Decisions.{decisions, clauses, clause_list, clause_count, clauses_of, conjunctions_from, conjunctions, conjunction, negation, inequality, zero_constant, active_from, active_clauses, most_clauses, has_few_clauses}
use Rattle.lt_objectives.specs.Mutants.{with_others, is_one_of, same_op, arithmetic, relations, pointer_relations, is_fitting, is_signed_integer, minus, absolute, absolute_mutants, arithmetic_mutants, connector_mutants, relational_mutants}
use Rattle.lt_objectives.specs.Copies.{is_core, can_be_copied}
use Rattle.lt_objectives.specs.Objectives.{Form, at_start, in_front, around, Objective, objective, all_at, domains, domains_of_object, parameters_at, at_body, decided_at, both_truths, combinations, at_test, left_type, right_type, mutants, differences, at_expression, at_node, objectives}
use Rattle.lt_objectives.specs.Marked.{ids_of, next_id}
use Rattle.lt_label_counts.proofs.Totals.{count, total, total_both, total_flat, total_at_most}

abbrev pub ids_asked : List Objective → ℕ
ids_asked them = total (λ (it : Objective). ids_of it.form) them

pub next_is : (id : ℕ) (them : List Objective) → next_id id them ≡ id + ids_asked them
next_is id [] = omega arith
next_is id (it ∷ rest) = let more = next_is (id + ids_of it.form) rest in omega (arith, more)

-- labels, each with one id
labels_ask : (place : ℕ) (form : Form) (criterion : Criterion) (ps : List c.Expression) → ids_of form ≡ 1 → ids_asked (all_at place form criterion ps) ≡ length ps
labels_ask place form criterion [] one = refl
labels_ask place form criterion (p ∷ ps) one = let more = labels_ask place form criterion ps one in omega (arith, more, one)

-- ---- at decisions and clauses

truths_ask : (criterion : Criterion) (copied : Bool) (k decided : ℕ) (e : c.Expression) → ids_asked (both_truths criterion copied k decided e) ≤ 2
truths_ask criterion copied k decided e = by copied
  where
    by : (b : Bool) → ids_asked (if b then all_at k in_front criterion (erased e ∷ negation (erased e) ∷ []) else objective decided around criterion (erased e) ∷ []) ≤ 2
    by true = omega arith
    by false = omega arith

many_conjunctions_from : (made : c.Expression) (es : List c.Expression) → length (conjunctions_from made es) ≡ 2 ^ length es
many_conjunctions_from made [] = refl
many_conjunctions_from made (e ∷ es) =
    let left = many_conjunctions_from (conjunction made e) es in
    let right = many_conjunctions_from (conjunction made (negation e)) es in
    let both = length-append (conjunctions_from (conjunction made e) es) (conjunctions_from (conjunction made (negation e)) es) in
    let power = pow_more 2 (length es) in
    let same : 2 ^ (length es + 1) ≡ 2 ^ suc (length es) = ap (λ n. 2 ^ n) (omega arith) in
    omega (arith, left, right, both, power, same)

many_conjunctions : (es : List c.Expression) → length (conjunctions es) ≤ 2 ^ length es
many_conjunctions [] = omega arith
many_conjunctions (e ∷ es) =
    let left = many_conjunctions_from e es in
    let right = many_conjunctions_from (negation e) es in
    let both = length-append (conjunctions_from e es) (conjunctions_from (negation e) es) in
    let power = pow_more 2 (length es) in
    let same : 2 ^ (length es + 1) ≡ 2 ^ suc (length es) = ap (λ n. 2 ^ n) (omega arith) in
    omega (arith, left, right, both, power, same)

few_conjunctions : (d : c.Expression) → has_few_clauses d ≡ true → length (conjunctions (clause_list d)) ≤ 256
few_conjunctions d h =
    let few : clause_count d ≤ 8 = at_most (clause_count d) h in
    let long : length (clause_list d) ≡ clause_count d = length-map (clauses_of None 0 d) (λ it. it.core.expression) in
    let many = many_conjunctions (clause_list d) in
    let below : length (clause_list d) ≤ 8 = omega (arith, few, long) in
    let power : 2 ^ length (clause_list d) ≤ 2 ^ 8 = pow_mono below in
    omega (arith, many, power)
  where
    at_most : (n : ℕ) → nat_le n most_clauses ≡ true → n ≤ 8
    at_most n h = grind (arith, nat_tests)

many_active : (d : c.Expression) (n : ℕ) (es : List c.Expression) → length (active_from d n es) ≡ 2 * length es
many_active d n [] = refl
many_active d n (e ∷ es) = let more = many_active d (suc n) es in omega (arith, more)

few_active : (d : c.Expression) → has_few_clauses d ≡ true → length (active_clauses d) ≤ 16
few_active d h =
    let few : clause_count d ≤ 8 = at_most (clause_count d) h in
    let long : length (clause_list d) ≡ clause_count d = length-map (clauses_of None 0 d) (λ it. it.core.expression) in
    let many = many_active d 0 (clause_list d) in
    omega (arith, many, few, long)
  where
    at_most : (n : ℕ) → nat_le n most_clauses ≡ true → n ≤ 8
    at_most n h = grind (arith, nat_tests)

combinations_ask : (criterion : Criterion) (copied : Bool) (k n : ℕ) (predicates : c.Expression → List c.Expression) (d : c.Expression)
    → (has_few_clauses (erased d) ≡ true → length (predicates (erased d)) ≤ n)
    → ids_asked (combinations criterion copied k predicates d) ≤ n
combinations_ask criterion copied k n predicates d h = by (copied && has_few_clauses (erased d)) refl
  where
    by : (b : Bool) → (copied && has_few_clauses (erased d)) ≡ b → ids_asked (if b then all_at k in_front criterion (predicates (erased d)) else []) ≤ n
    by true e =
        let many = labels_ask k in_front criterion (predicates (erased d)) refl in
        let few = h (second_so copied (has_few_clauses (erased d)) e) in
        omega (arith, many, few)
    by false e = omega arith

-- ---- what is asked at most

-- at a decision or a clause
abbrev pub asked_by_test : Criterion → ℕ
asked_by_test C.Decision = 2
asked_by_test C.Condition = 2
asked_by_test _ = 0

-- more at a decision
abbrev pub asked_by_decision : Criterion → ℕ
asked_by_decision C.MultipleCondition = 256
asked_by_decision C.GeneralActiveClause = 16
asked_by_decision _ = 0

test_asks : (criterion : Criterion) (copied : Bool) (decision clause : Option ℕ) (k : ℕ) (e : c.Expression)
    → ids_asked (at_test criterion copied decision clause k e) ≤ asked_by_test criterion + asked_by_decision criterion * count (is_some decision)
test_asks C.Decision copied (Some decided) clause k e = let h = truths_ask C.Decision copied k decided e in omega (arith, h)
test_asks C.Decision copied None clause k e = omega arith
test_asks C.Condition copied decision (Some decided) k e = let h = truths_ask C.Condition copied k decided e in omega (arith, h)
test_asks C.Condition copied decision None k e = omega arith
test_asks C.MultipleCondition copied (Some decided) clause k e = combinations_ask C.MultipleCondition copied k 256 (λ d. conjunctions (clause_list d)) e (few_conjunctions (erased e))
test_asks C.MultipleCondition copied None clause k e = omega arith
test_asks C.GeneralActiveClause copied (Some decided) clause k e = combinations_ask C.GeneralActiveClause copied k 16 active_clauses e (few_active (erased e))
test_asks C.GeneralActiveClause copied None clause k e = omega arith
test_asks C.Function copied decision clause k e = omega arith
test_asks C.InputDomain copied decision clause k e = omega arith
test_asks C.CorrelatedActiveClause copied decision clause k e = omega arith
test_asks C.RestrictedActiveClause copied decision clause k e = omega arith
test_asks C.AllUses copied decision clause k e = omega arith
test_asks C.AbsoluteValue copied decision clause k e = omega arith
test_asks C.ArithmeticOperator copied decision clause k e = omega arith
test_asks C.LogicalConnector copied decision clause k e = omega arith
test_asks C.RelationalOperator copied decision clause k e = omega arith

-- ---- mutants

filter_at_most : {X : Type 0} (p : X → Bool) (xs : List X) → length (filter p xs) ≤ length xs
filter_at_most p [] = omega arith
filter_at_most p (x ∷ xs) = by (p x) (filter_at_most p xs)
  where
    by : (b : Bool) → length (filter p xs) ≤ length xs → length (if b then x ∷ filter p xs else filter p xs) ≤ suc (length xs)
    by true h = omega (arith, h)
    by false h = omega (arith, h)

others_at_most : (ops : List Op) (op : Op) (left right : c.Expression) → length (with_others ops op left right) ≤ length ops
others_at_most ops op left right = by (is_one_of op ops)
  where
    by : (b : Bool) → length (if b then map (λ other. c.Binary other left right) (filter (λ other. not (same_op op other)) ops) else []) ≤ length ops
    by true =
        let few = filter_at_most (λ other. not (same_op op other)) ops in
        let same = length-map (filter (λ other. not (same_op op other)) ops) (λ other. c.Binary other left right) in
        omega (arith, few, same)
    by false = omega arith

absolute_at_most : (m : DataModel) (t : CType) (e : c.Expression) → length (absolute_mutants m t e) ≤ 2
absolute_at_most m t e = by (is_fitting e && is_signed_integer m t)
  where
    by : (b : Bool) → length (if b then absolute e ∷ minus (absolute e) ∷ [] else []) ≤ 2
    by true = omega arith
    by false = omega arith

arithmetic_at_most : (t u : CType) (e : c.Expression) → length (arithmetic_mutants t u e) ≤ 5
arithmetic_at_most t u (c.Binary op left right) = by (is_integer t && is_integer u)
  where
    by : (b : Bool) → length (if b then with_others arithmetic op left right else []) ≤ 5
    by true = others_at_most arithmetic op left right
    by false = omega arith
arithmetic_at_most t u e = omega arith

connectors_at_most : (e : c.Expression) → length (connector_mutants e) ≤ 1
connectors_at_most (c.Logical op left right) = omega arith
connectors_at_most e = omega arith

relations_at_most : (t u : CType) (e : c.Expression) → length (relational_mutants t u e) ≤ 6
relations_at_most t u (c.Binary op left right) = by (is_integer t && is_integer u)
  where
    by : (b : Bool) → length (with_others (if b then relations else pointer_relations) op left right) ≤ 6
    by true = others_at_most relations op left right
    by false = let few = others_at_most pointer_relations op left right in omega (arith, few)
relations_at_most t u e = omega arith

-- by mutants of an expression
abbrev pub asked_by_mutants : Criterion → ℕ
asked_by_mutants C.AbsoluteValue = 2
asked_by_mutants C.ArithmeticOperator = 5
asked_by_mutants C.LogicalConnector = 1
asked_by_mutants C.RelationalOperator = 6
asked_by_mutants _ = 0

mutants_at_most : (unit : c.Unit) (program : Program) (criterion : Criterion) (k : ℕ) (e plain : c.Expression) → length (mutants unit program criterion k e plain) ≤ asked_by_mutants criterion
mutants_at_most unit program C.AbsoluteValue k e plain = absolute_at_most program.model (type_at unit program k) plain
mutants_at_most unit program C.ArithmeticOperator k e plain = arithmetic_at_most (left_type unit program k e) (right_type unit program k e) plain
mutants_at_most unit program C.LogicalConnector k e plain = connectors_at_most plain
mutants_at_most unit program C.RelationalOperator k e plain = relations_at_most (left_type unit program k e) (right_type unit program k e) plain
mutants_at_most unit program C.Function k e plain = omega arith
mutants_at_most unit program C.InputDomain k e plain = omega arith
mutants_at_most unit program C.Decision k e plain = omega arith
mutants_at_most unit program C.Condition k e plain = omega arith
mutants_at_most unit program C.MultipleCondition k e plain = omega arith
mutants_at_most unit program C.GeneralActiveClause k e plain = omega arith
mutants_at_most unit program C.CorrelatedActiveClause k e plain = omega arith
mutants_at_most unit program C.RestrictedActiveClause k e plain = omega arith
mutants_at_most unit program C.AllUses k e plain = omega arith

differences_ask : (unit : c.Unit) (program : Program) (criterion : Criterion) (k : ℕ) (e : c.Expression) → ids_asked (differences unit program criterion k e) ≤ asked_by_mutants criterion
differences_ask unit program criterion k e = by (can_be_copied unit k e && is_value_position unit k)
  where
    by : (b : Bool) → ids_asked (if b then all_at k in_front criterion (map (inequality (erased e)) (mutants unit program criterion k e (erased e))) else []) ≤ asked_by_mutants criterion
    by true =
        let them = mutants unit program criterion k e (erased e) in
        let many = labels_ask k in_front criterion (map (inequality (erased e)) them) refl in
        let same = length-map them (inequality (erased e)) in
        let few = mutants_at_most unit program criterion k e (erased e) in
        omega (arith, many, same, few)
    by false = omega arith

-- ---- at expressions

-- whether there may be objectives at an expression of this number, and at a decision
abbrev pub is_asked : c.Unit → Program → ℕ → c.Expression → Bool
is_asked unit program k e = is_core e && is_open unit program k

abbrev pub is_decided : c.Unit → ℕ → Bool
is_decided unit k = is_some (decided_at (decisions unit) k)

expression_asks : (unit : c.Unit) (program : Program) (criterion : Criterion) (k : ℕ) (e : c.Expression)
    → ids_asked (at_expression unit program criterion k e)
    ≤ (asked_by_test criterion + asked_by_mutants criterion) * count (is_asked unit program k e) + asked_by_decision criterion * count (is_asked unit program k e && is_decided unit k)
expression_asks unit program criterion k e = by (is_asked unit program k e)
  where
    test : List Objective
    test = at_test criterion (can_be_copied unit k e) (decided_at (decisions unit) k) (decided_at (clauses unit) k) k e

    by : (b : Bool) → ids_asked (if b then test ++ differences unit program criterion k e else [])
        ≤ (asked_by_test criterion + asked_by_mutants criterion) * count b + asked_by_decision criterion * count (b && is_decided unit k)
    by true =
        let at_the_test = test_asks criterion (can_be_copied unit k e) (decided_at (decisions unit) k) (decided_at (clauses unit) k) k e in
        let mutated = differences_ask unit program criterion k e in
        let both = total_both (λ (it : Objective). ids_of it.form) test (differences unit program criterion k e) in
        omega (arith, at_the_test, mutated, both)
    by false = omega arith

-- ---- at functions

domains_at_most : (m : DataModel) (t : CType) (e : c.Expression) → length (domains m t e) ≤ 3
domains_at_most m t e = by (own_qualifiers t).volatile (is_pointer t) (is_signed_integer m t) (is_integer t)
  where
    by : (a b c' d : Bool)
        → length (if a then []
        else (if b then c.Binary O.Eq e zero_constant ∷ c.Binary O.Ne e zero_constant ∷ []
        else (if c' then c.Binary O.Lt e zero_constant ∷ c.Binary O.Eq e zero_constant ∷ c.Binary O.Gt e zero_constant ∷ []
        else (if d then c.Binary O.Eq e zero_constant ∷ c.Binary O.Gt e zero_constant ∷ [] else [])))) ≤ 3
    by true b c' d = omega arith
    by false true c' d = omega arith
    by false false true d = omega arith
    by false false false true = omega arith
    by false false false false = omega arith

object_at_most : (program : Program) (n : ℕ) → length (domains_of_object program n) ≤ 3
object_at_most program n = by (slice_get program.objects n)
  where
    by : (o : Option Object) → length (elim o as (λ x. List c.Expression) [ None ↦ [] | Some object ↦ domains program.model object.type (c.Name object.name) ]) ≤ 3
    by None = omega arith
    by (Some object) = domains_at_most program.model object.type (c.Name object.name)

objects_at_most : (program : Program) (ns : List ℕ) → length (flat_map (domains_of_object program) ns) ≤ 3 * length ns
objects_at_most program [] = omega arith
objects_at_most program (n ∷ ns) =
    let here = object_at_most program n in
    let more = objects_at_most program ns in
    let both = length-append (domains_of_object program n) (flat_map (domains_of_object program) ns) in
    omega (arith, here, more, both)

-- by a function, and by each of its parameters
abbrev pub asked_by_function : Criterion → ℕ
asked_by_function C.Function = 1
asked_by_function _ = 0

abbrev pub asked_by_parameter : Criterion → ℕ
asked_by_parameter C.InputDomain = 3
asked_by_parameter _ = 0

body_asks : (unit : c.Unit) (program : Program) (criterion : Criterion) (k : ℕ)
    → length (at_body unit program criterion k) ≤ asked_by_function criterion * 1 + asked_by_parameter criterion * length (parameters_at unit program k)
body_asks unit program C.Function k = omega arith
body_asks unit program C.InputDomain k = let h = objects_at_most program (parameters_at unit program k) in omega (arith, h)
body_asks unit program C.Decision k = omega arith
body_asks unit program C.Condition k = omega arith
body_asks unit program C.MultipleCondition k = omega arith
body_asks unit program C.GeneralActiveClause k = omega arith
body_asks unit program C.CorrelatedActiveClause k = omega arith
body_asks unit program C.RestrictedActiveClause k = omega arith
body_asks unit program C.AllUses k = omega arith
body_asks unit program C.AbsoluteValue k = omega arith
body_asks unit program C.ArithmeticOperator k = omega arith
body_asks unit program C.LogicalConnector k = omega arith
body_asks unit program C.RelationalOperator k = omega arith

-- ---- at nodes

-- whether a node is an expression at which there may be objectives, such a decision, or a function; and the parameters of this
abbrev pub asked_here : c.Unit → Program → Site → ℕ
asked_here unit program site = elim (site.node) [ an_expression e ↦ count (is_asked unit program site.number e) | _ ↦ 0 ]

abbrev pub decided_here : c.Unit → Program → Site → ℕ
decided_here unit program site = elim (site.node) [ an_expression e ↦ count (is_asked unit program site.number e && is_decided unit site.number) | _ ↦ 0 ]

abbrev pub defined_here : Site → ℕ
defined_here site = elim (site.node) [ an_external (c.Defines s d body) ↦ 1 | _ ↦ 0 ]

abbrev pub parameters_here : c.Unit → Program → Site → ℕ
parameters_here unit program site = elim (site.node) [ an_external (c.Defines s d body) ↦ length (parameters_at unit program site.number) | _ ↦ 0 ]

abbrev pub most_here : c.Unit → Program → Criterion → Site → ℕ
most_here unit program criterion site =
    ((asked_by_test criterion + asked_by_mutants criterion) * asked_here unit program site + asked_by_decision criterion * decided_here unit program site)
    + (asked_by_function criterion * defined_here site + asked_by_parameter criterion * parameters_here unit program site)

node_asks : (unit : c.Unit) (program : Program) (criterion : Criterion) (k : ℕ) (x : Node)
    → let site : Site = record { number = k; node = x } in ids_asked (at_node unit program criterion site) ≤ most_here unit program criterion site
node_asks unit program criterion k (an_expression e) = let h = expression_asks unit program criterion k e in omega (arith, h)
node_asks unit program criterion k (an_external (c.Defines s d body)) =
    let many = labels_ask k at_start criterion (at_body unit program criterion k) refl in
    let h = body_asks unit program criterion k in
    omega (arith, many, h)
node_asks unit program criterion k (an_external (c.Declared d)) = omega arith
node_asks unit program criterion k (a_declarator d) = omega arith
node_asks unit program criterion k (an_initialiser i) = omega arith
node_asks unit program criterion k (a_member m) = omega arith
node_asks unit program criterion k (an_enumerator name value) = omega arith
node_asks unit program criterion k (a_label label) = omega arith
node_asks unit program criterion k (a_declared_item d) = omega arith
node_asks unit program criterion k (a_stated_item x) = omega arith
node_asks unit program criterion k (a_marked_item m) = omega arith
node_asks unit program criterion k (a_statement x) = omega arith
node_asks unit program criterion k (a_mark m) = omega arith

-- What a criterion asks for in a unit is no more than this at each node.
pub unit_asks : (unit : c.Unit) (program : Program) (criterion : Criterion) → ids_asked (objectives unit program criterion) ≤ total (most_here unit program criterion) (sites unit)
unit_asks unit program criterion =
    let flat = total_flat (λ (it : Objective). ids_of it.form) (at_node unit program criterion) (sites unit) in
    let most = total_at_most (λ site. ids_asked (at_node unit program criterion site)) (most_here unit program criterion) (λ site. node_asks unit program criterion site.number site.node) (sites unit) in
    omega (arith, flat, most)
