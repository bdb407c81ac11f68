-- Places of operands, node by node.
use Rattle.std.proofs.Common.{◌≡◌, refl, sym, ap, ◌∙◌, ℕ, zero, suc, ◌+◌, ◌<◌, ◌≤◌, Bool, true, false, not, ◌||◌, ◌==◌, List, [], ◌∷◌, ◌++◌, length, get_or, set, map, take, drop, Some, ◌⊎◌, inl, inr, add-one, arith, rules, tests}
use Rattle.std.specs.List.{slice_get, list_any}
use Rattle.std.proofs.lemmas.List.{append-nil, ext_get_or, get_or-set_same, get_or-set_other, get_or-map, take_all, length-set, length-map}
use Rattle.std.proofs.lemmas.Option.{slice_get_within}
use Rattle.std.proofs.lemmas.Bool.{cases_eq, cases_lt, false≢true}
use Rattle.std.proofs.lemmas.List.Folds.{list_any_more}
use Rattle.lt_tree.specs.declared.expression.UnaryOp.TheVariants as unary
use Rattle.lt_tree.specs.Tree as c
use Rattle.lt_tree.specs.Nodes.{Node, an_expression, in_expression, nodes}
use Rattle.lt_objectives.specs.Places as places
use Rattle.lt_objectives.specs.Places.{Part, part, core, is_at, place_operands, is_value_position, sites_from, sites}
use Rattle.lt_sites.specs.declared.site.Site.{Site}
use Rattle.lt_sites.specs.Sites.{AreSitesOf, node_of, in_node}
use Rattle.lt_places.specs.Operands.{has_place_operand}
use Rattle.lt_places.proofs.Parts.{unit_whole, part_at}
use Rattle.lt_places.proofs.SiteRuns.{expression_headed}
use Rattle.lt_places.proofs.Numbered.{placed, length-sites, node_at, site_of, node_of_site, long, or_false}

-- whether an operand of these nodes stands at this number
abbrev pub is_among : ℕ → List places.Site → Bool
is_among j list = list_any (λ site. list_any (is_at j) (place_operands site)) list

-- ---- operands that are places

pub no_operand : (k : ℕ) (x : Node) → has_place_operand x ≡ false → place_operands (placed k x) ≡ []
no_operand k (an_expression (c.Unary unary.AddressOf e)) is = absurd cc
no_operand k (an_expression (c.PostInc e)) is = absurd cc
no_operand k (an_expression (c.PostDec e)) is = absurd cc
no_operand k (an_expression (c.PreInc e)) is = absurd cc
no_operand k (an_expression (c.PreDec e)) is = absurd cc
no_operand k (an_expression (c.Assign op target value)) is = absurd cc
no_operand k (an_expression (c.Member whole name)) is = absurd cc
no_operand k x is = refl

-- the operand is the node behind
record Operand (k : ℕ) (x : Node) : Type 0 where
  e : c.Expression
  behind : List Node
  stands : in_node x ≡ x ∷ in_expression e ++ behind
  is : place_operands (placed k x) ≡ core (k + 1) e ∷ []

alone : (x : Node) (xs : List Node) → x ∷ xs ≡ x ∷ xs ++ []
alone x xs = ap (λ ys. x ∷ ys) (sym (append-nil xs))

operand_of : (k : ℕ) (x : Node) → has_place_operand x ≡ true → Operand k x
operand_of k (an_expression (c.Unary unary.AddressOf e)) is = record { e = e; behind = []; stands = alone (an_expression (c.Unary unary.AddressOf e)) (in_expression e); is = refl }
operand_of k (an_expression (c.PostInc e)) is = record { e = e; behind = []; stands = alone (an_expression (c.PostInc e)) (in_expression e); is = refl }
operand_of k (an_expression (c.PostDec e)) is = record { e = e; behind = []; stands = alone (an_expression (c.PostDec e)) (in_expression e); is = refl }
operand_of k (an_expression (c.PreInc e)) is = record { e = e; behind = []; stands = alone (an_expression (c.PreInc e)) (in_expression e); is = refl }
operand_of k (an_expression (c.PreDec e)) is = record { e = e; behind = []; stands = alone (an_expression (c.PreDec e)) (in_expression e); is = refl }
operand_of k (an_expression (c.Assign op target value)) is = record { e = target; behind = in_expression value; stands = refl; is = refl }
operand_of k (an_expression (c.Member whole name)) is = record { e = whole; behind = []; stands = alone (an_expression (c.Member whole name)) (in_expression whole); is = refl }
operand_of k x is = absurd cc

second_at : {X : Type 0} (xs : List X) (k : ℕ) (x y : X) (zs : List X) → drop k xs ≡ x ∷ y ∷ zs → slice_get xs (suc k) ≡ Some y
second_at [] zero x y zs is = absurd cc
second_at [] (suc k) x y zs is = absurd cc
second_at (a ∷ []) zero x y zs is = absurd cc
second_at (a ∷ b ∷ rest) zero x y zs is = cc
second_at (a ∷ rest) (suc k) x y zs is = second_at rest k x y zs is

-- where the operand stands among the nodes of a unit
operand_at : (unit : c.Unit) (k : ℕ) (x : Node) → slice_get (nodes unit) k ≡ Some x → (it : Operand k x) → slice_get (nodes unit) (k + 1) ≡ Some (an_expression it.e)
operand_at unit k x is it =
    let part = part_at (nodes unit) k x (unit_whole unit) is in
    let head = expression_headed it.e in
    let f = part.1 ∙ ap (λ xs. xs ++ part.0) (it.stands ∙ ap (λ xs. x ∷ xs ++ it.behind) head.1) in
    ap (slice_get (nodes unit)) (add-one k) ∙ second_at (nodes unit) k x (an_expression it.e) ((head.0 ++ it.behind) ++ part.0) f

-- ---- the table

-- after so many nodes: whether no operand of these stands at a number
pub record AreValues (unit : c.Unit) (k : ℕ) (values : List Bool) : Type 0 where
  pub long : length values ≡ length (nodes unit)
  pub are : (j : ℕ) → j < length values → get_or values j true ≡ not (is_among j (take k (sites unit)))

or_true : (b : Bool) → (b || true) ≡ true
or_true true = refl
or_true false = refl

-- one node more
among_more : (unit : c.Unit) (k : ℕ) (x : Node) (j : ℕ) → slice_get (nodes unit) k ≡ Some x → is_among j (take (k + 1) (sites unit)) ≡ (is_among j (take k (sites unit)) || list_any (is_at j) (place_operands (placed k x)))
among_more unit k x j is =
    let within : k < length (sites unit) = omega (arith, slice_get_within (nodes unit) k x is, length-sites 0 (nodes unit)) in
    list_any_more (λ site. list_any (is_at j) (place_operands site)) (sites unit) k (placed k x) within
    ∙ ap (λ site. is_among j (take k (sites unit)) || list_any (is_at j) (place_operands site)) (site_of unit k x (placed k x) is)

pub no_operand_more : (unit : c.Unit) (sites : List Site) (k : ℕ) (site : Site) (values : List Bool) → AreSitesOf sites unit → k < length sites → site ≡ get_or sites k site →
    has_place_operand (node_of site.node) ≡ false → AreValues unit k values → AreValues unit (k + 1) values
no_operand_more unit sites k site values are within at none so_far =
    let at' = node_at (nodes unit) k (omega (arith, long unit sites are)) in
    let same = node_of_site sites (nodes unit) k site at'.0 are within at at'.1 in
    let gives = no_operand k at'.0 (ap has_place_operand (sym same) ∙ none) in
    record {
      long = so_far.long;
      are = λ j short. so_far.are j short ∙ ap not (sym (among_more unit k at'.0 j at'.1 ∙ ap (λ list. is_among j (take k (places.sites unit)) || list_any (is_at j) list) gives ∙ or_false (is_among j (take k (places.sites unit)))));
    }

-- a table in which one more entry is false
one_cleared : (before : Bool) (values : List Bool) (place j : ℕ) → j < length values → get_or values j true ≡ not before → get_or (set values place false) j true ≡ not (before || ((place == j) || false))
one_cleared before values place j short is = by_place before values place j short is (cases_eq place j)
  where
    by_place : (before : Bool) (values : List Bool) (place j : ℕ) → j < length values → get_or values j true ≡ not before → (place ≡ j) ⊎ (place ≡ j → ⊥) → get_or (set values place false) j true ≡ not (before || ((place == j) || false))
    by_place before values place j short is (inl same) =
        let here : (place == j) ≡ true = search (rules, tests, same) in
        let within : place < length values = omega arith in
        ap (λ n. get_or (set values place false) n true) (sym same) ∙ get_or-set_same values place false true within ∙ sym (ap not (ap (λ b. before || (b || false)) here ∙ or_true before))
    by_place before values place j short is (inr apart) =
        let there : (place == j) ≡ false = search (rules, tests, apart) in
        get_or-set_other values place j false true (λ e. apart (sym e)) ∙ is ∙ sym (ap not (ap (λ b. before || (b || false)) there ∙ or_false before))

pub operand_more : (unit : c.Unit) (sites : List Site) (k : ℕ) (site : Site) (values : List Bool) (place : ℕ) → AreSitesOf sites unit → k < length sites → site ≡ get_or sites k site →
    has_place_operand (node_of site.node) ≡ true → ((unit : c.Unit) (e : c.Expression) → AreSitesOf sites unit → slice_get (nodes unit) (k + 1) ≡ Some (an_expression e) → place ≡ (core (k + 1) e).number) →
    AreValues unit k values → AreValues unit (k + 1) (set values place false)
operand_more unit sites k site values place are within at some stands so_far =
    let at' = node_at (nodes unit) k (omega (arith, long unit sites are)) in
    let same = node_of_site sites (nodes unit) k site at'.0 are within at at'.1 in
    let it = operand_of k at'.0 (ap has_place_operand (sym same) ∙ some) in
    let here = stands unit it.e are (operand_at unit k at'.0 at'.1 it) in
    record {
      long = length-set values place false ∙ so_far.long;
      are = λ j short.
          one_cleared (is_among j (take k (places.sites unit))) values place j (omega (arith, length-set values place false)) (so_far.are j (omega (arith, length-set values place false)))
          ∙ ap not (ap (λ n. is_among j (take k (places.sites unit)) || ((n == j) || false)) here
          ∙ sym (among_more unit k at'.0 j at'.1 ∙ ap (λ list. is_among j (take k (places.sites unit)) || list_any (is_at j) list) it.is));
    }

pub past_end : (place n : ℕ) (xs : List Bool) → n ≡ length xs → (place < n → false ≡ true) → length xs ≤ place
past_end place n xs is never = by_place (cases_lt place n)
  where
    by_place : (place < n) ⊎ (n ≤ place) → length xs ≤ place
    by_place (inl within) = absurd (false≢true (never within))
    by_place (inr past) = omega (arith, past, is)

-- after all nodes
pub all_values : (unit : c.Unit) (sites : List Site) (k : ℕ) (values : List Bool) → AreSitesOf sites unit → length sites ≤ k → AreValues unit k values → values ≡ map (λ site. is_value_position unit site.number) (places.sites unit)
all_values unit sites k values are past so_far =
    ext_get_or true values (map (λ site. is_value_position unit site.number) (places.sites unit))
    (so_far.long ∙ sym (length-sites 0 (nodes unit)) ∙ sym (length-map (places.sites unit) (λ site. is_value_position unit site.number)))
    (λ j short.
    let at' = node_at (nodes unit) j (omega (arith, so_far.long)) in
    let d = placed j at'.0 in
    so_far.are j short ∙ ap (λ list. not (is_among j list)) (take_all k (places.sites unit) (omega (arith, length-sites 0 (nodes unit), long unit sites are)))
    ∙ sym (get_or-map (λ site. is_value_position unit site.number) (places.sites unit) j (placed j at'.0) true (omega (arith, length-sites 0 (nodes unit), so_far.long))
    ∙ ap (λ (site : places.Site). is_value_position unit site.number) (site_of unit j at'.0 (placed j at'.0) at'.1)))
