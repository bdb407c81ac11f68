-- The predicates at a node are those of its objectives.
use Rattle.std.proofs.Common.{◌≡◌, refl, sym, ap, ◌∙◌, ℕ, Bool, true, false, cond, ◌&&◌, List, [], ◌++◌, get_or, length, map, Option, Some, None}
use Rattle.std.specs.Prelude.{slice_get, option_map}
use Rattle.lt_tree.specs.declared.expression.Expr.{Expr}
use Rattle.lt_tree.specs.Tree as c
use Rattle.lt_tree.specs.View.{expression_of}
use Rattle.lt_tree.specs.Erasure.{erased}
use Rattle.lt_tree.specs.Nodes.{Node, an_external, an_expression, nodes}
use Rattle.lt_tree.specs.Typing.Programs.{Program}
use Rattle.lt_objectives.specs.Places.{is_open, is_value_position}
use Rattle.lt_objectives.specs.Decisions.{inequality, decisions, clauses}
use Rattle.lt_objectives.specs.declared.criteria.Criterion.{Criterion}
use Rattle.lt_objectives.specs.Copies.{is_core, is_pure_without_marks, all_nodes_fit, can_be_copied}
use Rattle.lt_objectives.specs.Objectives.{Objective, at_start, in_front, all_at, at_body, at_test, at_node, decided_at, differences, mutants}
use Rattle.lt_sites.specs.declared.site.Site.{Site}
use Rattle.lt_sites.specs.Sites.{node_of}
use Rattle.lt_survey.specs.declared.survey.Survey.{Survey}
use Rattle.lt_survey.specs.Fitting.{fits_at}
use Rattle.lt_survey.specs.Survey.{IsSurvey}
use Rattle.lt_survey.specs.Rounds.{site, ArePredicates}
use Rattle.lt_survey.proofs.Sites.{read_by_number, copied_there, node_there}
use Rattle.lt_mut.specs.declared.mutation.Mutation.{Mutation}
use Rattle.lt_mut.specs.declared.mutation.Mutation.TheVariants as change
use Rattle.lt_mut.specs.Mutations.{criterion_of}
use Rattle.lt_mut.specs.Candidates.{core_in, candidate, predicates}

no_body : (unit : c.Unit) (program : Program) (mutation : Mutation) (k : ℕ) → at_body unit program (criterion_of mutation) k ≡ []
no_body unit program change.AbsoluteValue k = refl
no_body unit program change.ArithmeticOperator k = refl
no_body unit program change.LogicalConnector k = refl
no_body unit program change.RelationalOperator k = refl

no_test : (mutation : Mutation) (copied : Bool) (decision clause : Option ℕ) (k : ℕ) (e : c.Expression) → at_test (criterion_of mutation) copied decision clause k e ≡ []
no_test change.AbsoluteValue copied decision clause k e = refl
no_test change.ArithmeticOperator copied decision clause k e = refl
no_test change.LogicalConnector copied decision clause k e = refl
no_test change.RelationalOperator copied decision clause k e = refl

abbrev shown : c.Unit → Program → Criterion → ℕ → Option c.Expression → List Objective
shown unit program criterion k found = all_at k in_front criterion (predicates unit program criterion k found)

abbrev all_mutants : c.Unit → Program → Criterion → ℕ → c.Expression → List c.Expression
all_mutants unit program criterion k e = map (inequality (erased e)) (mutants unit program criterion k e (erased e))

-- at an expression in a value position that is copied, and elsewhere
differing_are : (unit : c.Unit) (program : Program) (criterion : Criterion) (k : ℕ) (e : c.Expression) (is_value fits pure : Bool) → is_pure_without_marks e ≡ pure
    → cond (pure && fits && is_value) (all_at k in_front criterion (all_mutants unit program criterion k e)) [] ≡ shown unit program criterion k (cond (is_value && fits) (Some e) None)
differing_are unit program criterion k e true true true is = sym (ap (λ b. all_at k in_front criterion (cond b (all_mutants unit program criterion k e) [])) is)
differing_are unit program criterion k e true true false is = sym (ap (λ b. all_at k in_front criterion (cond b (all_mutants unit program criterion k e) [])) is)
differing_are unit program criterion k e true false true is = refl
differing_are unit program criterion k e true false false is = refl
differing_are unit program criterion k e false true true is = refl
differing_are unit program criterion k e false true false is = refl
differing_are unit program criterion k e false false true is = refl
differing_are unit program criterion k e false false false is = refl

nothing : (unit : c.Unit) (program : Program) (criterion : Criterion) (k : ℕ) (b : Bool) → [] ≡ shown unit program criterion k (cond b None None)
nothing unit program criterion k true = refl
nothing unit program criterion k false = refl

-- at an expression, by what is so there
at_core : (unit : c.Unit) (program : Program) (criterion : Criterion) (k : ℕ) (e : c.Expression) (tests differing : List Objective) (is_core is_open is_value fits : Bool)
    → tests ≡ [] → differing ≡ shown unit program criterion k (cond (is_value && fits) (Some e) None)
    → cond (is_core && is_open) (tests ++ differing) [] ≡ shown unit program criterion k (cond (is_open && is_value && fits) (cond is_core (Some e) None) None)
at_core unit program criterion k e tests differing true true is_value fits none are = ap (λ list. list ++ differing) none ∙ are
at_core unit program criterion k e tests differing true false is_value fits none are = refl
at_core unit program criterion k e tests differing false true is_value fits none are = nothing unit program criterion k (is_value && fits)
at_core unit program criterion k e tests differing false false is_value fits none are = refl

-- what may be there, by what is known of the node
abbrev pub candidate_at : c.Unit → Program → ℕ → Node → Option c.Expression
candidate_at unit program k node = candidate node (is_open unit program k) (is_value_position unit k) (fits_at unit (site k node))

at_node_is : (unit : c.Unit) (program : Program) (mutation : Mutation) (k : ℕ) (node : Node)
    → at_node unit program (criterion_of mutation) (site k node) ≡ shown unit program (criterion_of mutation) k (candidate_at unit program k node)
at_node_is unit program mutation k (an_expression e) =
    at_core unit program (criterion_of mutation) k e (at_test (criterion_of mutation) (can_be_copied unit k e) (decided_at (decisions unit) k) (decided_at (clauses unit) k) k e)
    (differences unit program (criterion_of mutation) k e) (is_core e) (is_open unit program k) (is_value_position unit k) (all_nodes_fit unit k e)
    (no_test mutation (can_be_copied unit k e) (decided_at (decisions unit) k) (decided_at (clauses unit) k) k e)
    (differing_are unit program (criterion_of mutation) k e (is_value_position unit k) (all_nodes_fit unit k e) (is_pure_without_marks e) refl)
at_node_is unit program mutation k (an_external (c.Defines s d body)) =
    ap (all_at k at_start (criterion_of mutation)) (no_body unit program mutation k)
    ∙ nothing unit program (criterion_of mutation) k (is_open unit program k && is_value_position unit k && fits_at unit (site k (an_external (c.Defines s d body))))
at_node_is unit program mutation k node = nothing unit program (criterion_of mutation) k (is_open unit program k && is_value_position unit k && fits_at unit (site k node))

-- ---- of what lies in memory

pub are_predicates : (unit : c.Unit) (program : Program) (mutation : Mutation) (k : ℕ) (node : Node) (found : Option c.Expression) (list : List Expr)
    → found ≡ candidate_at unit program k node → map expression_of list ≡ predicates unit program (criterion_of mutation) k found → ArePredicates unit program (criterion_of mutation) k node list
are_predicates unit program mutation k node found list is made =
    ap (all_at k in_front (criterion_of mutation)) (made ∙ ap (predicates unit program (criterion_of mutation) k) is) ∙ sym (at_node_is unit program mutation k node)

core_is : (e x : c.Expression) (b : Bool) → Some x ≡ cond b (Some e) None → e ≡ x
core_is e x true is = cc
core_is e x false is = absurd cc

in_core : (node : Node) (x : c.Expression) → Some x ≡ core_in node → node ≡ an_expression x
in_core (an_expression e) x is = ap an_expression (core_is e x (is_core e) is)
in_core node x is = absurd cc

in_candidate : (node : Node) (x : c.Expression) (b : Bool) → Some x ≡ cond b (core_in node) None → node ≡ an_expression x
in_candidate node x true is = in_core node x is
in_candidate node x false is = absurd cc

-- a candidate is the node
pub candidate_stands : (unit : c.Unit) (program : Program) (k : ℕ) (node : Node) (x : c.Expression) → Some x ≡ candidate_at unit program k node → node ≡ an_expression x
candidate_stands unit program k node x is = in_candidate node x (is_open unit program k && is_value_position unit k && fits_at unit (site k node)) is

-- what is found at a number is the candidate there
pub found_there : (unit : c.Unit) (program : Program) (survey : Survey) (k : ℕ) (node : Node) (found : Option c.Expression) → IsSurvey unit program survey → slice_get (nodes unit) k ≡ Some node
    → ((x : Node) → option_map (λ (it : Site). node_of it.node) (slice_get survey.sites.items k) ≡ Some x
    → found ≡ candidate x (get_or survey.open.items k false) (get_or survey.values.items k false) (get_or survey.copied.items k false))
    → found ≡ candidate_at unit program k node
found_there unit program survey k node found known at is =
    let value = get_or survey.values.items k false in
    let copied = get_or survey.copied.items k false in
    is node (node_there unit survey.sites.items k node known.sites at)
    ∙ ap (λ b. candidate node b value copied) (read_by_number unit (is_open unit program) survey.open.items k node false known.open_places at)
    ∙ ap (λ b. candidate node (is_open unit program k) b copied) (read_by_number unit (is_value_position unit) survey.values.items k node false known.values at)
    ∙ ap (candidate node (is_open unit program k) (is_value_position unit k)) (copied_there unit survey.copied.items k node known.copied at)
