-- Each step lowers the gauge.
use Rattle.std.proofs.Common.{◌≡◌, ℕ, zero, suc, ◌+◌, ◌-◌, ◌*◌, ◌<◌, ◌≤◌, List, [], ◌∷◌, length, Bool, true, false, Option, Some, None, refl, ap, ap₂, add-one, sym, subst, ◌∙◌, arith, if◌then◌else◌}
use Rattle.std.proofs.lemmas.List.Sums.{sum_by-cons}
use Rattle.std.proofs.lemmas.Option.{slice_get_within}
use Rattle.std.specs.Prelude.{sum_by, slice_get, ◌||◌}
use Rattle.lt_ir.specs.declared.code.Code.{Code}
use Rattle.lt_ir.specs.declared.graph.Graph.{Graph}
use Rattle.lt_ir.specs.declared.node.Node.{Node}
use Rattle.lt_ir.specs.Edges.{successors, is_tick}
use Rattle.lt_ir.specs.Running.{most_calls}
use Rattle.lt_ir.specs.Graph.{State, Goes, act, code_at, node_at, nodes_of, one_less}
use Rattle.lt_ends.specs.Gauge.{rest_of, breadth, rests, numeral, power, IsCounted, Lowers, StepsLowerTheGauge}
use Rattle.lt_ends.proofs.Numerals.{power_positive, within_call, at_tick, at_call, at_return}
use Rattle.lt_ends.proofs.Passing.{Kind, on_edge, on_tick, on_call, on_return, kind_of}

-- ---- rests

rest_positive : (nodes place : ℕ) (b : Bool) → 1 ≤ (if b then 1 else (nodes - place) + 1)
rest_positive nodes place true = omega arith
rest_positive nodes place false = omega arith

rest_small : (nodes place most : ℕ) (b : Bool) → nodes ≤ most → (if b then 1 else (nodes - place) + 1) < most + 2
rest_small nodes place most true h = omega arith
rest_small nodes place most false h = omega arith

nodes_few : (codes : List Code) (f : ℕ) → length (nodes_of (slice_get codes f)) ≤ sum_by (λ code. length code.nodes) codes
nodes_few [] f = omega arith
nodes_few (code ∷ codes) zero = let e = sum_by-cons (λ (it : Code). length it.nodes) code codes in omega arith
nodes_few (code ∷ codes) (suc f) = let e = sum_by-cons (λ (it : Code). length it.nodes) code codes in omega (arith, nodes_few codes f)

rest_within : (g : Graph) (f place : ℕ) → rest_of (code_at g f) place < breadth g
rest_within g f place = rest_small (length (nodes_of (code_at g f))) place _ (is_tick (slice_get (nodes_of (code_at g f)) place)) (nodes_few g.codes f)

rest_some : (g : Graph) (f place : ℕ) → 1 ≤ rest_of (code_at g f) place
rest_some g f place = rest_positive (length (nodes_of (code_at g f))) place (is_tick (slice_get (nodes_of (code_at g f)) place))

-- an edge from a node that is no tick leads nearer to one
lower_rest : (nodes from to : ℕ) (a b : Bool) → a ≡ false → from < nodes → (to ≤ from → (a || b) ≡ true) → (if b then 1 else (nodes - to) + 1) < (if a then 1 else (nodes - from) + 1)
lower_rest nodes from to true b h lt turn = absurd (cc)
lower_rest nodes from to false true h lt turn = omega arith
lower_rest nodes from to false false h lt turn =
    let up : ¬ (to ≤ from) = λ le. (let e : false ≡ true = turn le in cc) in omega arith

-- the code of a node that stands, and where it stands in it
record Stands (g : Graph) (f place : ℕ) (n : Node) : Type 0 where
  code : Code
  is : code_at g f ≡ Some code
  node : slice_get code.nodes place ≡ Some n

stands : (g : Graph) (f place : ℕ) (n : Node) (o : Option Code) → o ≡ code_at g f → slice_get (nodes_of o) place ≡ Some n → Stands g f place n
stands g f place n None h e = absurd (cc)
stands g f place n (Some code) h e = record { code = code; is = sym h; node = e }

-- where a node that is no tick leads there is less rest
lower : (g : Graph) (f place : ℕ) (n : Node) (i to : ℕ) → node_at g f place ≡ Some n → is_tick (Some n) ≡ false → slice_get (successors n) i ≡ Some to → rest_of (code_at g f) to < rest_of (code_at g f) place
lower g f place n i to h no_tick leads =
    let s = stands g f place n (code_at g f) refl h in
    let same : is_tick (slice_get (nodes_of (code_at g f)) place) ≡ false = ap is_tick h ∙ no_tick in
    let lt : place < length (nodes_of (code_at g f)) = slice_get_within (nodes_of (code_at g f)) place n h in
    lower_rest (length (nodes_of (code_at g f))) place to _ (is_tick (slice_get (nodes_of (code_at g f)) to)) same lt
    (λ le. subst (λ (o : Option Code). (is_tick (slice_get (nodes_of o) place) || is_tick (slice_get (nodes_of o) to)) ≡ true) (sym s.is)
    (g.turns f place to s.code s.is (record { node = n; stands = s.node; which = i; leads = leads }) le))

-- one call fewer may still become active
one_fewer : (n : ℕ) → n + 2 ≤ most_calls → most_calls - (n + 1) ≡ suc (most_calls - (suc n + 1))
one_fewer n h = omega arith

less : (m n : ℕ) → m ≡ suc n → one_less (m + 1) ≡ n + 1
less m n h = ap (λ x. one_less (x + 1)) h ∙ ap one_less (add-one (suc n)) ∙ sym (add-one n)

falls : (g : Graph) (s next : State) (n : Node) → IsCounted s → node_at g s.code s.place ≡ Some n → Kind n s next → Lowers g s next
falls g s next n h e (on_edge k) =
    let w : 1 ≤ breadth g = omega arith in
    let r : rest_of (code_at g s.code) next.place < rest_of (code_at g s.code) s.place = lower g s.code s.place n k.which next.place e k.no_tick k.leads in
    let r1 : rest_of (code_at g next.code) next.place < rest_of (code_at g s.code) s.place = subst (λ (f : ℕ). rest_of (code_at g f) next.place < rest_of (code_at g s.code) s.place) (sym k.code) r in
    record {
      counted = record {
        depth = k.later.depth ∙ h.depth ∙ ap (λ fs. length fs + 1) (sym k.stack);
        few = rw k.stack h.few;
      };
      lower = rw k.stack (within_call (breadth g) next.at.ticks s.at.ticks _ _ (power (breadth g) (most_calls - (length s.stack + 1))) (rests g s.stack) w (power_positive (breadth g) _ w) k.later.ticks r1);
    }
falls g s next n h e (on_tick k) =
    let w : 1 ≤ breadth g = omega arith in
    let small = rest_within g next.code next.place in
    record {
      counted = record {
        depth = k.depth ∙ h.depth ∙ ap (λ fs. length fs + 1) (sym k.stack);
        few = rw k.stack h.few;
      };
      lower = rw k.stack (at_tick (breadth g) next.at.ticks s.at.ticks (rest_of (code_at g s.code) s.place) (rest_of (code_at g next.code) next.place) (power (breadth g) (most_calls - (length s.stack + 1))) (rests g s.stack) w (power_positive (breadth g) _ w) k.ticks (omega arith));
    }
falls g s next n h e (on_call k) =
    let w : 1 ≤ breadth g = omega arith in
    let few : length s.stack + 2 ≤ most_calls = (let d = h.depth in let f = k.few in omega arith) in
    let r : rest_of (code_at g s.code) k.place < rest_of (code_at g s.code) s.place = lower g s.code s.place n k.which k.place e k.no_tick k.leads in
    record {
      counted = record {
        depth = k.depth ∙ ap (λ d. d + 1) h.depth ∙ omega (arith, ap length k.stack);
        few = rw k.stack (omega arith);
      };
      lower = rw k.stack (subst (λ (x : ℕ). numeral (breadth g) next.at.ticks (rest_of (code_at g next.code) next.place ∷ rest_of (code_at g s.code) k.place ∷ rests g s.stack) * power (breadth g) (most_calls - (suc (length s.stack) + 1)) < numeral (breadth g) s.at.ticks (rest_of (code_at g s.code) s.place ∷ rests g s.stack) * power (breadth g) x) (sym (one_fewer (length s.stack) few))
          (at_call (breadth g) next.at.ticks s.at.ticks _ _ (rest_of (code_at g next.code) next.place) (power (breadth g) (most_calls - (suc (length s.stack) + 1))) (rests g s.stack) w (power_positive (breadth g) _ w) k.ticks r (rest_within g next.code next.place)));
    }
falls g s next n h e (on_return k) =
    let w : 1 ≤ breadth g = omega arith in
    let long : length s.stack ≡ suc (length next.stack) = ap length k.stack in
    let few : length next.stack + 2 ≤ most_calls = (let f = h.few in omega arith) in
    let same : rest_of (code_at g next.code) next.place ≡ rest_of (code_at g k.frame.code) k.frame.place = ap₂ (λ f i. rest_of (code_at g f) i) k.code k.place in
    record {
      counted = record {
        depth = k.depth ∙ ap one_less h.depth ∙ less (length s.stack) (length next.stack) long;
        few = omega arith;
      };
      lower = rw k.stack (rw same (subst (λ (x : ℕ). numeral (breadth g) next.at.ticks (rest_of (code_at g k.frame.code) k.frame.place ∷ rests g next.stack) * power (breadth g) x < numeral (breadth g) s.at.ticks (rest_of (code_at g s.code) s.place ∷ rest_of (code_at g k.frame.code) k.frame.place ∷ rests g next.stack) * power (breadth g) (most_calls - (suc (length next.stack) + 1))) (sym (one_fewer (length next.stack) few))
          (at_return (breadth g) next.at.ticks s.at.ticks (rest_of (code_at g s.code) s.place) (rest_of (code_at g k.frame.code) k.frame.place) (power (breadth g) (most_calls - (suc (length next.stack) + 1))) (rests g next.stack) w (power_positive (breadth g) _ w) k.ticks (rest_some g s.code s.place))));
    }

-- a step is one of a node that stands
at_node : (g : Graph) (s next : State) (o : Option Node) → o ≡ node_at g s.code s.place → IsCounted s → act g (code_at g s.code) o s ≡ Goes next → Lowers g s next
at_node g s next None h counted e = absurd (cc)
at_node g s next (Some n) h counted e = falls g s next n counted (sym h) (kind_of g (code_at g s.code) n s next e)

pub lowers : StepsLowerTheGauge
lowers g s next counted e = at_node g s next (node_at g s.code s.place) refl counted e
