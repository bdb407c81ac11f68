-- The ids of the labels of criteria in a text of at most 4 MiB don't pass the greatest.
use Rattle.std.proofs.Math.Nat.{add-mul}
use Rattle.std.proofs.Common.{◌≡◌, ◌≤◌, ℕ, suc, ◌+◌, ◌*◌, List, [], ◌∷◌, Bool, true, false, inl, inr, arith}
use Rattle.std.specs.Prelude.{filter, if◌then◌else◌}
use Rattle.lt_tree.specs.Tree as c
use Rattle.lt_tree.specs.Nodes.{nodes}
use Rattle.lt_tree.specs.Ids.{ids_of_unit, greatest_id}
use Rattle.lt_tree.specs.Typing.Programs.{Program}
use Rattle.lt_objectives.specs.declared.criteria.Criterion.{Criterion}
use Rattle.lt_objectives.specs.declared.criteria.Criterion.TheVariants as C
use Rattle.lt_objectives.specs.Criteria.{is_in, criteria_of_labels, criteria_in}
use Rattle.lt_objectives.specs.Places.{Site, sites}
use Rattle.lt_objectives.specs.Objectives.{objectives}
use Rattle.lt_objectives.specs.Marked.{numbered, next_id, unit_with_marks}
use Rattle.lt_survey.specs.Marking.{IdsPass}
use Rattle.lt_label_counts.specs.Needs.{needs}
use Rattle.lt_label_counts.specs.Laws.{IdsNeverPass}
use Rattle.lt_label_counts.proofs.FewInUnits.{few_nodes}
use Rattle.lt_label_counts.proofs.KeptInUnits.{parameters_of, typed_units_are_bounded}
use Rattle.lt_label_counts.proofs.Totals.{total, total_plus, total_times}
use Rattle.lt_label_counts.proofs.Asked.{ids_asked, next_is, asked_by_test, asked_by_mutants, asked_by_decision, asked_by_function, asked_by_parameter, asked_here, decided_here, defined_here, parameters_here, most_here, unit_asks}
use Rattle.lt_label_counts.proofs.Needed.{open_tests_here, needed_of_unit}
use Rattle.lt_label_counts.proofs.Decided.{decided_at_most_tests, decided_at_most_asked}
use Rattle.lt_label_counts.proofs.ParametersAt.{parameters_at_most}
use Rattle.lt_label_counts.proofs.MarkedUnits.{marked_needs}
use Rattle.lt_label_counts.proofs.Named.{named_needs}

-- the ids that a criterion asks for at most, for each byte of the text: a decision takes two of them, its own and that of its expression
abbrev cost : Criterion → ℕ
cost C.Function = 1
cost C.InputDomain = 3
cost C.Decision = 2
cost C.Condition = 2
cost C.MultipleCondition = 128
cost C.GeneralActiveClause = 8
cost C.CorrelatedActiveClause = 0
cost C.RestrictedActiveClause = 0
cost C.AllUses = 0
cost C.AbsoluteValue = 2
cost C.ArithmeticOperator = 5
cost C.LogicalConnector = 1
cost C.RelationalOperator = 6

-- the same, of the numbers of expressions, decisions, functions and parameters
abbrev asked : Criterion → (expressions decisions functions parameters : ℕ) → ℕ
asked criterion o d f p = ((asked_by_test criterion + asked_by_mutants criterion) * o + asked_by_decision criterion * d) + (asked_by_function criterion * f + asked_by_parameter criterion * p)

asked_at_most : (criterion : Criterion) (o v f d p n : ℕ) → o + v + f ≤ n → d ≤ v → d ≤ o → p ≤ n → asked criterion o d f p ≤ cost criterion * n
asked_at_most C.Function o v f d p n a b e g = omega (arith, a, b, e, g)
asked_at_most C.InputDomain o v f d p n a b e g = omega (arith, a, b, e, g)
asked_at_most C.Decision o v f d p n a b e g = omega (arith, a, b, e, g)
asked_at_most C.Condition o v f d p n a b e g = omega (arith, a, b, e, g)
asked_at_most C.MultipleCondition o v f d p n a b e g = omega (arith, a, b, e, g)
asked_at_most C.GeneralActiveClause o v f d p n a b e g = omega (arith, a, b, e, g)
asked_at_most C.CorrelatedActiveClause o v f d p n a b e g = omega (arith, a, b, e, g)
asked_at_most C.RestrictedActiveClause o v f d p n a b e g = omega (arith, a, b, e, g)
asked_at_most C.AllUses o v f d p n a b e g = omega (arith, a, b, e, g)
asked_at_most C.AbsoluteValue o v f d p n a b e g = omega (arith, a, b, e, g)
asked_at_most C.ArithmeticOperator o v f d p n a b e g = omega (arith, a, b, e, g)
asked_at_most C.LogicalConnector o v f d p n a b e g = omega (arith, a, b, e, g)
asked_at_most C.RelationalOperator o v f d p n a b e g = omega (arith, a, b, e, g)

most_of_unit : (unit : c.Unit) (program : Program) (criterion : Criterion)
    → total (most_here unit program criterion) (sites unit)
    ≡ asked criterion (total (asked_here unit program) (sites unit)) (total (decided_here unit program) (sites unit)) (total defined_here (sites unit)) (total (parameters_here unit program) (sites unit))
most_of_unit unit program criterion =
    let e = asked_by_test criterion + asked_by_mutants criterion in
    let d = asked_by_decision criterion in
    let f = asked_by_function criterion in
    let p = asked_by_parameter criterion in
    let xs = sites unit in
    let first : Site → ℕ = λ site. e * asked_here unit program site + d * decided_here unit program site in
    let second : Site → ℕ = λ site. f * defined_here site + p * parameters_here unit program site in
    let both = total_plus first second xs in
    let left = total_plus (λ site. e * asked_here unit program site) (λ site. d * decided_here unit program site) xs in
    let right = total_plus (λ site. f * defined_here site) (λ site. p * parameters_here unit program site) xs in
    let a = total_times e (asked_here unit program) xs in
    let b = total_times d (decided_here unit program) xs in
    let g = total_times f defined_here xs in
    let h = total_times p (parameters_here unit program) xs in
    omega (arith, both, left, right, a, b, g, h)

-- what a criterion asks for in a unit whose nodes, and whose functions' parameters, are at most so many
asked_of_unit : (unit : c.Unit) (program : Program) (criterion : Criterion) (n : ℕ) → needs 0 (nodes unit) ≤ n → parameters_of program.functions ≤ n → ids_asked (objectives unit program criterion) ≤ cost criterion * n
asked_of_unit unit program criterion n few fewer =
    let xs = sites unit in
    let o = total (asked_here unit program) xs in
    let v = total (open_tests_here unit program) xs in
    let f = total defined_here xs in
    let d = total (decided_here unit program) xs in
    let p = total (parameters_here unit program) xs in
    let asks = unit_asks unit program criterion in
    let most = most_of_unit unit program criterion in
    let needed = needed_of_unit unit program in
    let first = total_plus (λ site. asked_here unit program site + open_tests_here unit program site) defined_here xs in
    let second = total_plus (asked_here unit program) (open_tests_here unit program) xs in
    let tests = decided_at_most_tests unit program in
    let expressions = decided_at_most_asked unit program in
    let parameters = parameters_at_most unit program in
    let bound : asked criterion o d f p ≤ cost criterion * n = asked_at_most criterion o v f d p n (omega (arith, needed, first, second, few)) tests expressions (omega (arith, parameters, fewer)) in
    omega (arith, asks, most, bound)

-- ---- criteria one after the other

abbrev cost_of : List Criterion → ℕ
cost_of criteria = total cost criteria

filtered_cost : (p : Criterion → Bool) (criteria : List Criterion) → cost_of (filter p criteria) ≤ cost_of criteria
filtered_cost p [] = omega arith
filtered_cost p (criterion ∷ rest) = by (p criterion) (filtered_cost p rest)
  where
    by : (b : Bool) → cost_of (filter p rest) ≤ cost_of rest → cost_of (if b then criterion ∷ filter p rest else filter p rest) ≤ cost criterion + cost_of rest
    by true h = omega (arith, h)
    by false h = omega (arith, h)

never : (criteria : List Criterion) (unit : c.Unit) (program : Program) (id n : ℕ) → needs 0 (nodes unit) ≤ n → parameters_of program.functions ≤ n → id + cost_of criteria * n ≤ 2147483648
    → IdsPass criteria unit program id → ⊥
never [] unit program id n few fewer room pass = pass
never (criterion ∷ rest) unit program id n few fewer room (inl pass) =
    let asks = asked_of_unit unit program criterion n few fewer in
    let next = next_is id (objectives unit program criterion) in
    let two = add-mul (cost criterion) (cost_of rest) n in
    absurd (omega (arith, asks, next, room, pass, two))
never (criterion ∷ rest) unit program id n few fewer room (inr pass) =
    let them = objectives unit program criterion in
    let asks = asked_of_unit unit program criterion n few fewer in
    let next = next_is id them in
    let two = add-mul (cost criterion) (cost_of rest) n in
    let same = marked_needs (numbered id them) unit in
    never rest (unit_with_marks (numbered id them) unit) program (next_id id them) n (omega (arith, few, same)) fewer (omega (arith, asks, next, room, two)) pass

pub never_pass : IdsNeverPass
never_pass model text tokens unit spots program set short lexes derives is pass =
    let few = few_nodes text tokens unit spots lexes derives in
    let bounded = typed_units_are_bounded model unit program is in
    let named = named_needs unit in
    let least : greatest_id (ids_of_unit unit) ≤ 1000000000 = bounded.0 in
    let cheap : cost_of (criteria_in set) ≤ 158 = filtered_cost (is_in set) criteria_of_labels in
    let scaled : cost_of (criteria_in set) * 4194304 ≤ 158 * 4194304 = omega (arith, cheap) in
    never (criteria_in set) unit program (suc (greatest_id (ids_of_unit unit))) 4194304 (omega (arith, few, short)) (omega (arith, few, short, named, bounded.1)) (omega (arith, least, scaled)) pass
