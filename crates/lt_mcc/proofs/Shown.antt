-- The predicates at a node are those of its objectives.
use Rattle.std.proofs.Common.{◌≡◌, refl, sym, ap, ◌∙◌, ℕ, Bool, true, false, cond, ◌&&◌, List, [], ◌++◌, get_or, length, map, Option, Some, None}
use Rattle.std.specs.Prelude.{slice_get, option_map, is_some}
use Rattle.std.proofs.lemmas.List.{append-nil}
use Rattle.lt_tree.specs.declared.expression.Expr.{Expr}
use Rattle.lt_tree.specs.Tree as c
use Rattle.lt_tree.specs.View.{expression_of}
use Rattle.lt_tree.specs.Erasure.{erased}
use Rattle.lt_tree.specs.Nodes.{Node, an_external, an_expression, nodes}
use Rattle.lt_tree.specs.Typing.Programs.{Program}
use Rattle.lt_objectives.specs.Places.{is_open, is_value_position}
use Rattle.lt_objectives.specs.Decisions.{decisions, clauses, clause_list, conjunctions, active_clauses, has_few_clauses}
use Rattle.lt_objectives.specs.declared.criteria.Criterion.{Criterion}
use Rattle.lt_objectives.specs.declared.criteria.Criterion.TheVariants as C
use Rattle.lt_objectives.specs.Copies.{is_core, is_pure_without_marks, all_nodes_fit, can_be_copied}
use Rattle.lt_objectives.specs.Objectives.{Objective, at_start, in_front, all_at, at_body, at_test, at_node, decided_at, differences}
use Rattle.lt_sites.specs.declared.site.Site.{Site}
use Rattle.lt_sites.specs.Sites.{node_of}
use Rattle.lt_survey.specs.declared.survey.Survey.{Survey}
use Rattle.lt_survey.specs.Fitting.{fits_at}
use Rattle.lt_survey.specs.Survey.{IsSurvey}
use Rattle.lt_survey.specs.Rounds.{site, ArePredicates}
use Rattle.lt_survey.proofs.Sites.{read_by_number, copied_there, node_there}
use Rattle.lt_mcc.specs.declared.combination.Combination.{Combination}
use Rattle.lt_mcc.specs.declared.combination.Combination.TheVariants as each
use Rattle.lt_mcc.specs.Combinations.{criterion_of}
use Rattle.lt_mcc.specs.Candidates.{candidate, predicates}

no_body : (unit : c.Unit) (program : Program) (combination : Combination) (k : ℕ) → at_body unit program (criterion_of combination) k ≡ []
no_body unit program each.MultipleCondition k = refl
no_body unit program each.GeneralActiveClause k = refl

abbrev shown : Combination → ℕ → Option c.Expression → List Objective
shown combination k found = all_at k in_front (criterion_of combination) (predicates combination found)

by_purity : (criterion : Criterion) (k : ℕ) (list : List c.Expression) (pure few : Bool)
    → cond (pure && true && few) (all_at k in_front criterion list) [] ≡ all_at k in_front criterion (cond (pure && few) list [])
by_purity criterion k list true true = refl
by_purity criterion k list true false = refl
by_purity criterion k list false few = refl

none_where_not_copied : (pure few : Bool) (list : List Objective) → cond (pure && false && few) list [] ≡ []
none_where_not_copied true few list = refl
none_where_not_copied false few list = refl

-- at a decision, and elsewhere
test_is : (combination : Combination) (decision clause : Option ℕ) (k : ℕ) (e : c.Expression) (fits : Bool)
    → at_test (criterion_of combination) (is_pure_without_marks e && fits) decision clause k e ≡ shown combination k (cond (is_some decision && fits) (Some e) None)
test_is each.MultipleCondition (Some decided) clause k e true =
    by_purity C.MultipleCondition k (conjunctions (clause_list (erased e))) (is_pure_without_marks e) (has_few_clauses (erased e))
test_is each.GeneralActiveClause (Some decided) clause k e true =
    by_purity C.GeneralActiveClause k (active_clauses (erased e)) (is_pure_without_marks e) (has_few_clauses (erased e))
test_is each.MultipleCondition (Some decided) clause k e false =
    none_where_not_copied (is_pure_without_marks e) (has_few_clauses (erased e)) (all_at k in_front C.MultipleCondition (conjunctions (clause_list (erased e))))
test_is each.GeneralActiveClause (Some decided) clause k e false =
    none_where_not_copied (is_pure_without_marks e) (has_few_clauses (erased e)) (all_at k in_front C.GeneralActiveClause (active_clauses (erased e)))
test_is each.MultipleCondition None clause k e fits = refl
test_is each.GeneralActiveClause None clause k e fits = refl

none_in : (b : Bool) → cond {A = List Objective} b [] [] ≡ []
none_in true = refl
none_in false = refl

no_difference : (unit : c.Unit) (program : Program) (combination : Combination) (k : ℕ) (e : c.Expression) → differences unit program (criterion_of combination) k e ≡ []
no_difference unit program each.MultipleCondition k e = none_in (can_be_copied unit k e && is_value_position unit k)
no_difference unit program each.GeneralActiveClause k e = none_in (can_be_copied unit k e && is_value_position unit k)

nothing : (combination : Combination) (k : ℕ) (b : Bool) → [] ≡ shown combination k (cond b None None)
nothing combination k true = refl
nothing combination k false = refl

-- at an expression, by what is so there
at_core : (combination : Combination) (k : ℕ) (e : c.Expression) (tests differing : List Objective) (is_core is_open is_decision fits : Bool)
    → tests ≡ shown combination k (cond (is_decision && fits) (Some e) None) → differing ≡ []
    → cond (is_core && is_open) (tests ++ differing) [] ≡ shown combination k (cond (is_open && is_decision && fits) (cond is_core (Some e) None) None)
at_core combination k e tests differing true true is_decision fits are none = ap (λ list. tests ++ list) none ∙ append-nil tests ∙ are
at_core combination k e tests differing true false is_decision fits are none = refl
at_core combination k e tests differing false true is_decision fits are none = nothing combination k (is_decision && fits)
at_core combination k e tests differing false false is_decision fits are none = refl

-- whether there is a decision
abbrev pub is_decision : c.Unit → ℕ → Bool
is_decision unit k = is_some (decided_at (decisions unit) k)

-- what may be there, by what is known of the node
abbrev pub candidate_at : c.Unit → Program → ℕ → Node → Option c.Expression
candidate_at unit program k node = candidate node (is_open unit program k) (is_decision unit k) (fits_at unit (site k node))

at_node_is : (unit : c.Unit) (program : Program) (combination : Combination) (k : ℕ) (node : Node)
    → at_node unit program (criterion_of combination) (site k node) ≡ shown combination k (candidate_at unit program k node)
at_node_is unit program combination k (an_expression e) =
    at_core combination k e (at_test (criterion_of combination) (can_be_copied unit k e) (decided_at (decisions unit) k) (decided_at (clauses unit) k) k e)
    (differences unit program (criterion_of combination) k e) (is_core e) (is_open unit program k) (is_decision unit k) (all_nodes_fit unit k e)
    (test_is combination (decided_at (decisions unit) k) (decided_at (clauses unit) k) k e (all_nodes_fit unit k e)) (no_difference unit program combination k e)
at_node_is unit program combination k (an_external (c.Defines s d body)) =
    ap (all_at k at_start (criterion_of combination)) (no_body unit program combination k)
    ∙ nothing combination k (is_open unit program k && is_decision unit k && fits_at unit (site k (an_external (c.Defines s d body))))
at_node_is unit program combination k node = nothing combination k (is_open unit program k && is_decision unit k && fits_at unit (site k node))

-- ---- of what lies in memory

pub are_predicates : (unit : c.Unit) (program : Program) (combination : Combination) (k : ℕ) (node : Node) (found : Option c.Expression) (list : List Expr)
    → found ≡ candidate_at unit program k node → map expression_of list ≡ predicates combination found → ArePredicates unit program (criterion_of combination) k node list
are_predicates unit program combination k node found list is made =
    ap (all_at k in_front (criterion_of combination)) (made ∙ ap (predicates combination) is) ∙ sym (at_node_is unit program combination k node)

-- what is found at a number is the candidate there
pub found_there : (unit : c.Unit) (program : Program) (survey : Survey) (k : ℕ) (node : Node) (found : Option c.Expression) → IsSurvey unit program survey → slice_get (nodes unit) k ≡ Some node
    → ((x : Node) → option_map (λ (it : Site). node_of it.node) (slice_get survey.sites.items k) ≡ Some x
    → found ≡ candidate x (get_or survey.open.items k false) (is_some (get_or survey.decisions.items k None)) (get_or survey.copied.items k false))
    → found ≡ candidate_at unit program k node
found_there unit program survey k node found known at is =
    let decided = is_some (get_or survey.decisions.items k None) in
    let copied = get_or survey.copied.items k false in
    is node (node_there unit survey.sites.items k node known.sites at)
    ∙ ap (λ b. candidate node b decided copied) (read_by_number unit (is_open unit program) survey.open.items k node false known.open_places at)
    ∙ ap (λ d. candidate node (is_open unit program k) (is_some d) copied) (read_by_number unit (decided_at (decisions unit)) survey.decisions.items k node None known.decisions at)
    ∙ ap (candidate node (is_open unit program k) (is_decision unit k)) (copied_there unit survey.copied.items k node known.copied at)
