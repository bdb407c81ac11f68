-- Objectives by what is known of a node.
use Rattle.std.specs.Prelude.{ℕ, Bool, ◌&&◌, if◌then◌else◌, List, [], ◌∷◌, Option, Some, None}
use Rattle.std.specs.List.{flat_map}
use Rattle.lt_tree.specs.Tree as c
use Rattle.lt_tree.specs.Typing.Programs.{Program}
use Rattle.lt_objectives.specs.declared.criteria.Criterion.{Criterion}
use Rattle.lt_objectives.specs.declared.criteria.Criterion.TheVariants as C
use Rattle.lt_objectives.specs.Decisions.{one}
use Rattle.lt_objectives.specs.Copies.{is_pure_without_marks}
use Rattle.lt_objectives.specs.Objectives.{Objective, domains_of_object, both_truths}
use Rattle.lt_facts.specs.Indices.{at_place}
use Rattle.lt_facts.specs.Facts.{parameters_of}

-- the predicates at the start of the body of the function with this index
abbrev pub body_predicates : Program → Criterion → Option ℕ → List c.Expression
body_predicates program C.Function function = one ∷ []
body_predicates program C.InputDomain function = flat_map (domains_of_object program) (parameters_of (at_place program.functions function))
body_predicates program _ function = []

-- what a new `pc_decide` stands around, at an expression that is a decision or a clause
abbrev pub tested : Criterion → (decision clause : Option ℕ) → Option ℕ
tested C.Decision decision clause = decision
tested C.Condition decision clause = clause
tested _ decision clause = None

-- both truths of an expression that is a test, by whether predicates may copy each of its nodes
abbrev pub truths_of_test : Criterion → (fits : Bool) → ℕ → Option ℕ → c.Expression → List Objective
truths_of_test criterion fits k None e = []
truths_of_test criterion fits k (Some decided) e = both_truths criterion (fits && is_pure_without_marks e) k decided e

-- the same where labels may stand
abbrev pub truths_where_open : (open_place fits : Bool) → Criterion → ℕ → Option ℕ → c.Expression → List Objective
truths_where_open open_place fits criterion k test e = if open_place then truths_of_test criterion fits k test e else []
