-- Facts are found by the numbers of their nodes.
use Rattle.std.proofs.Common.{◌≡◌, refl, sym, ap, ◌∙◌, subst, ℕ, suc, ◌+◌, ◌<◌, ◌≤◌, List, [], ◌∷◌, ◌++◌, false, if◌then◌else◌, Some, append_assoc, eqb, eq-eqb, arith}
use Rattle.std.proofs.lemmas.Bool.{ne_eqb}
use Rattle.std.specs.List.{AllByRecursion}
use Rattle.lt_tree.specs.Typing.Entities.{Known, Fact}
use Rattle.lt_tree.specs.Typing.Steps.{Goes}
use Rattle.lt_tree.specs.Typing.Expressions.{Typed, Use, used, fact_of}
use Rattle.lt_objectives.specs.Places.{fact_among}
use Rattle.lt_typed_nodes.specs.Laws.{AreOfNodes, ExpressionsAreNoted, FactsAreFound, NotesBetween, NotesBegunNodes, BegunNodesAreNoted, ExpressionsAreKnown}
use Rattle.lt_typed_nodes.specs.Coming.{entered}
use Rattle.lt_typed_nodes.proofs.FactSteps.{all_joined, all_weaker, went, Whole, EndsAt, ended}
use Rattle.lt_typed_nodes.proofs.NotedExpressions.{of_expression}

-- ---- lists of facts

-- a fact of another number is passed by
passed : (fact : Fact) (rest : List Fact) (n : ℕ) → eqb fact.node n ≡ false → fact_among (fact ∷ rest) n ≡ fact_among rest n
passed fact rest n other = ap (λ b. if b then Some fact else fact_among rest n) other

skipped : (xs ys : List Fact) (n : ℕ) → AllByRecursion (λ (it : Fact). eqb it.node n ≡ false) xs → fact_among (xs ++ ys) n ≡ fact_among ys n
skipped [] ys n others = refl
skipped (x ∷ xs) ys n others = passed x (xs ++ ys) n others.0 ∙ skipped xs ys n others.1

first : (fact : Fact) (rest : List Fact) → fact_among (fact ∷ rest) fact.node ≡ Some fact
first fact rest = ap (λ b. if b then Some fact else fact_among rest fact.node) (eq-eqb fact.node fact.node refl)

pub facts_are_found : FactsAreFound
facts_are_found before more later fact lower greater =
    skipped (before ++ more) (fact ∷ later) fact.node
    (all_joined (λ (it : Fact). eqb it.node fact.node ≡ false) before more
    (all_weaker (λ (it : Fact). it.node < fact.node) (λ (it : Fact). eqb it.node fact.node ≡ false) (λ it less. ne_eqb it.node fact.node (λ same. omega (arith, less, same))) before lower)
    (all_weaker (λ (it : Fact). fact.node < it.node) (λ (it : Fact). eqb it.node fact.node ≡ false) (λ it more. ne_eqb it.node fact.node (λ same. omega (arith, more, same))) more greater))
    ∙ first fact later

-- ---- what is known where

pub begun_inside : (known : Known) → NotesBegunNodes known → NotesBegunNodes (entered known)
begun_inside known begun = all_weaker (λ (fact : Fact). fact.node < known.next) (λ (fact : Fact). fact.node < known.next + 1) (λ fact less. omega (arith, less)) known.facts begun

-- where as much is noted and the same node is next
pub begun_as : (known other : Known) → other.next ≡ known.next → other.facts ≡ known.facts → NotesBegunNodes known → NotesBegunNodes other
begun_as known other next facts begun =
    subst (λ n. AllByRecursion (λ (fact : Fact). fact.node < n) other.facts) (sym next)
    (subst (λ list. AllByRecursion (λ (fact : Fact). fact.node < known.next) list) (sym facts) begun)

begun_between : (known behind : Known) → known.next ≤ behind.next → NotesBetween known behind → NotesBegunNodes known → NotesBegunNodes behind
begun_between known behind le noted begun =
    subst (λ facts. AllByRecursion (λ (fact : Fact). fact.node < behind.next) facts) (sym noted.1)
    (all_joined (λ (fact : Fact). fact.node < behind.next) known.facts noted.0
    (all_weaker (λ (fact : Fact). fact.node < known.next) (λ (fact : Fact). fact.node < behind.next) (λ fact less. omega (arith, less)) known.facts begun)
    (all_weaker (λ (fact : Fact). (known.next ≤ fact.node) × (fact.node < behind.next)) (λ (fact : Fact). fact.node < behind.next) (λ fact p. p.1) noted.0 noted.2))

pub begun_behind : {A : Type 0} {a : A} (known behind : Known) → Whole known (Goes a behind) → NotesBegunNodes known → NotesBegunNodes behind
begun_behind known behind (went more le e all) begun = begun_between known behind le (more, e, all) begun

pub begun_nodes_are_noted : BegunNodesAreNoted
begun_nodes_are_noted = ((λ greatest model defined. tt), begun_inside, begun_between)

-- ---- expressions

behind_node : (node behind : ℕ) (more : List Fact) → AreOfNodes (suc node) behind more → AllByRecursion (λ (it : Fact). node < it.node) more
behind_node node behind more all = all_weaker (λ (it : Fact). (suc node ≤ it.node) × (it.node < behind)) (λ (it : Fact). node < it.node) (λ it p. p.0) more all

-- the fact of an expression, whatever is noted later
pub found_later : (known behind : Known) (more later : List Fact) (y : Typed) → NotesBegunNodes known → behind.facts ≡ known.facts ++ more ++ fact_of known.next y ∷ []
    → AreOfNodes (suc known.next) behind.next more → fact_among (behind.facts ++ later) known.next ≡ Some (fact_of known.next y)
found_later known behind more later y begun e all =
    ap (λ facts. fact_among (facts ++ later) known.next) e
    ∙ ap (λ facts. fact_among facts known.next) (append_assoc (known.facts ++ more) (fact_of known.next y ∷ []) later)
    ∙ facts_are_found known.facts more later (fact_of known.next y) begun (behind_node known.next behind.next more all)

noted_at : {role : Use} (known behind : Known) (x : Typed) → EndsAt role known (Goes x behind)
    → (y : Typed) × (more : List Fact) × (x ≡ used role y) × (behind.facts ≡ known.facts ++ more ++ fact_of known.next y ∷ []) × AreOfNodes (suc known.next) behind.next more
noted_at known behind x (ended y more le e all) = (y, more, refl, e, all)

pub expressions_are_noted : ExpressionsAreNoted
expressions_are_noted it role known behind x is = noted_at known behind x (subst (λ o. EndsAt role known o) is (of_expression it role known))

known_at : {role : Use} (known behind : Known) (x : Typed) (later : List Fact) → NotesBegunNodes known → EndsAt role known (Goes x behind)
    → (y : Typed) × (x ≡ used role y) × (fact_among (behind.facts ++ later) known.next ≡ Some (fact_of known.next y))
known_at known behind x later begun (ended y more le e all) = (y, refl, found_later known behind more later y begun e all)

pub expressions_are_known : ExpressionsAreKnown
expressions_are_known it role known behind x later begun is = known_at known behind x later begun (subst (λ o. EndsAt role known o) is (of_expression it role known))
