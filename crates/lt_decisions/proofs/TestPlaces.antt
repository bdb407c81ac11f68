-- Where the controlling expression of a node stands.
use Rattle.std.proofs.Common.{◌≡◌, refl, sym, ap, ◌∙◌, subst, ℕ, ◌+◌, ◌^◌, ◌<◌, List, [], ◌∷◌, ◌++◌, length, get_or, drop, Option, Some, None, arith}
use Rattle.std.specs.Prelude.{slice_get, SomeIff, MatchOption}
use Rattle.lt_tree.specs.Tree as c
use Rattle.lt_tree.specs.Nodes.{Node, a_statement, an_expression, in_expression, in_statement, in_start, in_optional, nodes}
use Rattle.lt_objectives.specs.Decisions.{controlling}
use Rattle.lt_sites.specs.declared.site.Site.{Site}
use Rattle.lt_sites.specs.Sites.{in_node, part_of, entry_of, node_of, AreSitesOf}
use Rattle.lt_decisions.specs.declared.turn.TestPlace.{TestPlace}
use Rattle.lt_decisions.specs.declared.turn.TestPlace.TheVariants as place
use Rattle.lt_decisions.specs.Turns.{test_place}
use Rattle.lt_decisions.specs.Walk.{Stand, IsTest}
use Rattle.lt_decisions.proofs.Standing.{stand_at, entry_at, front, back, within, head, tail}
use Rattle.lt_decisions.proofs.Steps.{begins as begins_expression}

-- what a place of a test says of a node that stands at this number
abbrev pub Places : List Site → ℕ → Node → Site → Option TestPlace → Type 0
Places list k node site None = controlling k node ≡ []
Places list k node site (Some place.First) = IsTest list k node (k + 1)
Places list k node site (Some place.BehindBody) = (k + 1 < length list) × ((body : Site) → body ≡ get_or list (k + 1) body → IsTest list k node (k + 1 + body.size))
Places list k node site (Some place.BehindHead) = IsTest list k node (k + 1 + site.head)

begins : (x : c.Statement) → in_statement x ≡ a_statement x ∷ drop 1 (in_statement x)
begins c.Null = refl
begins x = refl

in_do : (list : List Site) (k : ℕ) (x : c.Statement) (test : c.Expression) (site : Site) → Stand list k (in_statement (c.Do x test)) → Places list k (a_statement (c.Do x test)) site (Some place.BehindBody)
in_do list k x test site stand =
    let S : List Node → Type 0 = λ xs. Stand list (k + 1) (xs ++ in_expression test) in
    let body = tail stand in
    let begun : Stand list (k + 1) (a_statement x ∷ (drop 1 (in_statement x) ++ in_expression test)) = subst S (begins x) body in
    let I : ℕ → Type 0 = λ n. IsTest list k (a_statement (c.Do x test)) (k + 1 + n) in
    let found : (it : Site) → it ≡ get_or list (k + 1) it → IsTest list k (a_statement (c.Do x test)) (k + 1 + it.size) =
    λ it is. subst I (ap (λ entry. entry.size) (sym (ap entry_of is ∙ head it begun))) (record { test = test; controls = refl; stands = back (in_statement x) (in_expression test) body }) in
    (within begun, found)

in_for : (list : List Site) (k : ℕ) (start : c.ForStart) (test : c.Expression) (step : Option c.Expression) (x : c.Statement) (site : Site) → length (in_start start) ≡ site.head →
    Stand list k (in_statement (c.For start (Some test) step x)) → Places list k (a_statement (c.For start (Some test) step x)) site (Some place.BehindHead)
in_for list k start test step x site is stand =
    let first = in_start start in
    let head_and_test = front (first ++ in_expression test) (in_optional step) (front (first ++ in_expression test ++ in_optional step) (in_statement x) (tail stand)) in
    let I : ℕ → Type 0 = λ n. IsTest list k (a_statement (c.For start (Some test) step x)) (k + 1 + n) in
    subst I is (record { test = test; controls = refl; stands = back first (in_expression test) head_and_test })

places : (list : List Site) (k : ℕ) (node : Node) (site : Site) → entry_of site ≡ part_of node → Stand list k (in_node node) → Places list k node site (test_place node)
places list k (a_statement (c.If test x)) site entry stand = record { test = test; controls = refl; stands = front (in_expression test) (in_statement x) (tail stand) }
places list k (a_statement (c.IfElse test x y)) site entry stand =
    record { test = test; controls = refl; stands = front (in_expression test) (in_statement x) (front (in_expression test ++ in_statement x) (in_statement y) (tail stand)) }
places list k (a_statement (c.While test x)) site entry stand = record { test = test; controls = refl; stands = front (in_expression test) (in_statement x) (tail stand) }
places list k (a_statement (c.Do x test)) site entry stand = in_do list k x test site stand
places list k (a_statement (c.For start (Some test) step x)) site entry stand = in_for list k start test step x site (ap (λ it. it.head) (sym entry)) stand
places list k (an_expression (c.Conditional test left right)) site entry stand =
    record { test = test; controls = refl; stands = front (in_expression test) (in_expression left) (front (in_expression test ++ in_expression left) (in_expression right) (tail stand)) }
places list k node site entry stand = refl

-- what the code sees at a site, as `found`, places the test of the node
pub placed : (list : List Site) (unit : c.Unit) (k : ℕ) (node : Node) (site : Site) (found : Option TestPlace) → AreSitesOf list unit → slice_get (nodes unit) k ≡ Some node →
    site ≡ get_or list k site → found ≡ test_place (node_of site.node) → Places list k node site found
placed list unit k node site found are at site_is found_is =
    let P : Option TestPlace → Type 0 = λ it. Places list k node site it in
    let entry : entry_of site ≡ part_of node = ap entry_of site_is ∙ entry_at list unit k node site are at in
    let same : found ≡ test_place node = found_is ∙ ap (λ it. test_place it.node) entry in
    subst P (sym same) (places list k node site entry (stand_at list unit k node are at))

-- a sum that is a number of the list, and so in range
pub in_range : {list : List Site} {k : ℕ} {node : Node} (sum : Option ℕ) (first : ℕ) → SomeIff sum (first < 2 ^ 64) first → length list < 2 ^ 64 → IsTest list k node first →
    MatchOption sum (controlling k node ≡ []) (λ n. IsTest list k node n)
in_range {list} {k} {node} None first h bound test =
    let S : List Node → Type 0 = λ xs. Stand list first xs in
    let here : first < length list = within (subst S (begins_expression test.test) test.stands) in
    absurd (h (omega arith))
in_range {list} {k} {node} (Some n) first h bound test = let I : ℕ → Type 0 = λ it. IsTest list k node it in subst I (sym h.1) test
