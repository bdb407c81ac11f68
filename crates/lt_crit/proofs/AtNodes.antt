-- The objectives at a node, by what a survey knows of it.
use Rattle.std.proofs.Common.{◌≡◌, ℕ, Bool, true, false, cond, ◌&&◌, List, [], ◌++◌, get_or, Option, Some, None, refl, sym, ap, ◌∙◌}
use Rattle.std.specs.Prelude.{option_map, slice_get}
use Rattle.std.specs.Borrow.{Bor}
use Rattle.std.specs.List.{flat_map}
use Rattle.std.proofs.Math.Bool.{and_comm}
use Rattle.std.proofs.lemmas.List.{append-nil}
use Rattle.std.proofs.lemmas.Option.{get_or_from_slice_get, slice_get-map}
use Rattle.lt_tree.specs.Tree as c
use Rattle.lt_tree.specs.View.{expression_of}
use Rattle.lt_tree.specs.UnitView.{external_of}
use Rattle.lt_tree.specs.declared.expression.Expr.{Expr}
use Rattle.lt_tree.specs.declared.unit.External.{External}
use Rattle.lt_tree.specs.declared.unit.External.TheVariants as external
use Rattle.lt_tree.specs.declared.unit.FunctionDefinition.{FunctionDefinition}
use Rattle.lt_tree.specs.Nodes.{Node, an_expression, an_external, nodes}
use Rattle.lt_sites.specs.declared.site.NodeRef.{NodeRef}
use Rattle.lt_sites.specs.declared.site.NodeRef.TheVariants as at
use Rattle.lt_sites.specs.Sites.{node_of}
use Rattle.lt_tree.specs.Typing.Programs.{Program}
use Rattle.lt_objectives.specs.declared.criteria.Criterion.{Criterion}
use Rattle.lt_objectives.specs.declared.criteria.Criterion.TheVariants as C
use Rattle.lt_objectives.specs.Places.{Site, sites, is_open, is_value_position}
use Rattle.lt_objectives.specs.Decisions.{decisions, clauses}
use Rattle.lt_objectives.specs.Copies.{is_core, is_pure_without_marks, all_nodes_fit, can_be_copied}
use Rattle.lt_objectives.specs.Objectives.{Objective, all_at, at_start, at_body, at_expression, at_node, at_test, both_truths, decided_at, differences, domains_of_object, parameters_at}
use Rattle.lt_facts.specs.Indices.{at_place}
use Rattle.lt_facts.specs.Facts.{AreFunctionIndices, parameters_of}
use Rattle.lt_survey.specs.declared.survey.Survey.{Survey}
use Rattle.lt_survey.specs.Survey.{IsSurvey}
use Rattle.lt_survey.specs.Rounds.{site}
use Rattle.lt_survey.proofs.Sites.{read_by_number, site_at, copied_there}
use Rattle.lt_crit.specs.Criteria.{IsOneOfThem}
use Rattle.lt_crit.specs.Known.{body_predicates, tested, truths_of_test, truths_where_open}

-- ---- expressions

truths_are : (criterion : Criterion) → IsOneOfThem criterion → (fits : Bool) (decision clause : Option ℕ) (k : ℕ) (e : c.Expression)
    → truths_of_test criterion fits k (tested criterion decision clause) e ≡ at_test criterion (is_pure_without_marks e && fits) decision clause k e
truths_are C.Function is fits decision clause k e = refl
truths_are C.InputDomain is fits decision clause k e = refl
truths_are C.Decision is fits None clause k e = refl
truths_are C.Decision is fits (Some decided) clause k e = ap (λ b. both_truths C.Decision b k decided e) (and_comm fits (is_pure_without_marks e))
truths_are C.Condition is fits decision None k e = refl
truths_are C.Condition is fits decision (Some decided) k e = ap (λ b. both_truths C.Condition b k decided e) (and_comm fits (is_pure_without_marks e))
truths_are _ is fits decision clause k e = absurd is

nothing : (b : Bool) → let none : List Objective = [] in cond b none none ≡ none
nothing true = refl
nothing false = refl

no_differences : (unit : c.Unit) (program : Program) (criterion : Criterion) → IsOneOfThem criterion → (k : ℕ) (e : c.Expression) → differences unit program criterion k e ≡ []
no_differences unit program C.Function is k e = nothing (can_be_copied unit k e && is_value_position unit k)
no_differences unit program C.InputDomain is k e = nothing (can_be_copied unit k e && is_value_position unit k)
no_differences unit program C.Decision is k e = nothing (can_be_copied unit k e && is_value_position unit k)
no_differences unit program C.Condition is k e = nothing (can_be_copied unit k e && is_value_position unit k)
no_differences unit program _ is k e = absurd is

pub truths_at_expression : (unit : c.Unit) (program : Program) (criterion : Criterion) (survey : Survey) (k : ℕ) (e : c.Expression) → IsOneOfThem criterion
    → IsSurvey unit program survey → slice_get (nodes unit) k ≡ Some (an_expression e)
    → truths_where_open (is_core e && get_or survey.open.items k false) (get_or survey.copied.items k false) criterion k
    (tested criterion (get_or survey.decisions.items k None) (get_or survey.clauses.items k None)) e ≡ at_expression unit program criterion k e
truths_at_expression unit program criterion survey k e is known here =
    let node = an_expression e in
    let places = read_by_number unit (is_open unit program) survey.open.items k node false known.open_places here in
    let decision = read_by_number unit (decided_at (decisions unit)) survey.decisions.items k node None known.decisions here in
    let clause = read_by_number unit (decided_at (clauses unit)) survey.clauses.items k node None known.clauses here in
    let copied = copied_there unit survey.copied.items k node known.copied here in
    let of_decision = decided_at (decisions unit) k in
    let of_clause = decided_at (clauses unit) k in
    let place = is_core e && is_open unit program k in
    let fits = all_nodes_fit unit k e in
    let tests = at_test criterion (can_be_copied unit k e) of_decision of_clause k e in
    ap (λ b. truths_where_open (is_core e && b) (get_or survey.copied.items k false) criterion k (tested criterion (get_or survey.decisions.items k None) (get_or survey.clauses.items k None)) e) places
    ∙ ap (λ b. truths_where_open place b criterion k (tested criterion (get_or survey.decisions.items k None) (get_or survey.clauses.items k None)) e) copied
    ∙ ap (λ d. truths_where_open place fits criterion k (tested criterion d (get_or survey.clauses.items k None)) e) decision
    ∙ ap (λ d. truths_where_open place fits criterion k (tested criterion of_decision d) e) clause
    ∙ ap (λ them. cond place them [])
    (truths_are criterion is fits of_decision of_clause k e ∙ sym (append-nil tests) ∙ ap (λ rest. tests ++ rest) (sym (no_differences unit program criterion is k e)))

-- ---- bodies

found : (program : Program) (indices : List (Option ℕ)) (k : ℕ) (parameters : List ℕ) (index : Option (Option ℕ)) → slice_get indices k ≡ index
    → option_map (λ it. parameters_of (at_place program.functions it)) index ≡ Some parameters → parameters_of (at_place program.functions (get_or indices k None)) ≡ parameters
found program indices k parameters None is same = absurd cc
found program indices k parameters (Some index) is same =
    ap (λ it. parameters_of (at_place program.functions it)) (get_or_from_slice_get indices k index None is) ∙ cc

parameters_are : (unit : c.Unit) (program : Program) (indices : List (Option ℕ)) (k : ℕ) (node : Node) → AreFunctionIndices unit program indices → slice_get (nodes unit) k ≡ Some node
    → parameters_of (at_place program.functions (get_or indices k None)) ≡ parameters_at unit program k
parameters_are unit program indices k node are here =
    let of_index = λ (it : Option ℕ). parameters_of (at_place program.functions it) in
    let of_site = λ (it : Site). parameters_at unit program it.number in
    found program indices k (parameters_at unit program k) (slice_get indices k) refl
    (sym (slice_get-map of_index indices k) ∙ ap (λ list. slice_get list k) are ∙ slice_get-map of_site (sites unit) k ∙ ap (option_map of_site) (site_at unit k node here))

predicates_are : (unit : c.Unit) (program : Program) (criterion : Criterion) (k : ℕ) (function : Option ℕ) → parameters_of (at_place program.functions function) ≡ parameters_at unit program k
    → body_predicates program criterion function ≡ at_body unit program criterion k
predicates_are unit program C.InputDomain k function same = ap (flat_map (domains_of_object program)) same
predicates_are unit program _ k function same = refl

pub labels_of_body : (unit : c.Unit) (program : Program) (criterion : Criterion) (survey : Survey) (k : ℕ) (node : Node) → IsSurvey unit program survey → slice_get (nodes unit) k ≡ Some node
    → all_at k at_start criterion (body_predicates program criterion (get_or survey.functions.items k None)) ≡ all_at k at_start criterion (at_body unit program criterion k)
labels_of_body unit program criterion survey k node known here =
    ap (all_at k at_start criterion)
    (predicates_are unit program criterion k (get_or survey.functions.items k None) (parameters_are unit program survey.functions.items k node known.functions here))

-- ---- nodes as they lie in memory

pub marks_of_expression : (unit : c.Unit) (program : Program) (criterion : Criterion) (survey : Survey) (k : ℕ) (node : NodeRef) (x : Bor Expr) → node ≡ at.Expression x → IsOneOfThem criterion
    → IsSurvey unit program survey → slice_get (nodes unit) k ≡ Some (node_of node)
    → truths_where_open (is_core (expression_of x.now) && get_or survey.open.items k false) (get_or survey.copied.items k false) criterion k
    (tested criterion (get_or survey.decisions.items k None) (get_or survey.clauses.items k None)) (expression_of x.now) ≡ at_node unit program criterion (site k (node_of node))
marks_of_expression unit program criterion survey k node x is one known here =
    truths_at_expression unit program criterion survey k (expression_of x.now) one known (here ∙ ap (λ n. Some (node_of n)) is)
    ∙ sym (ap (λ n. at_node unit program criterion (site k (node_of n))) is)

pub marks_of_function : (unit : c.Unit) (program : Program) (criterion : Criterion) (survey : Survey) (k : ℕ) (x : External) (f : FunctionDefinition) (function : Option ℕ) (indices : List (Option ℕ))
    → x ≡ external.Function f → function ≡ get_or indices k None → indices ≡ survey.functions.items → IsSurvey unit program survey → slice_get (nodes unit) k ≡ Some (an_external (external_of x))
    → all_at k at_start criterion (body_predicates program criterion function) ≡ at_node unit program criterion (site k (an_external (external_of x)))
marks_of_function unit program criterion survey k x f function indices is at_k table known here =
    ap (λ index. all_at k at_start criterion (body_predicates program criterion index)) (at_k ∙ ap (λ list. get_or list k None) table)
    ∙ labels_of_body unit program criterion survey k (an_external (external_of x)) known here
    ∙ sym (ap (λ held. at_node unit program criterion (site k (an_external (external_of held)))) is)
