-- The worked examples of sizes and of a code compute.
use Rattle.std.proofs.Common.{◌≡◌, ℕ, zero, suc, ◌+◌, ◌<◌, ◌≤◌, Bool, true, false, ◌||◌, List, [], ◌∷◌, Option, Some, None, inr, refl, sym, ap, subst, arith}
use Rattle.std.specs.Prelude.{slice_get}
use Rattle.lt_ir.specs.declared.node.Node.{Node}
use Rattle.lt_ir.specs.Edges.{is_tick_at, TurnByTicks}
use Rattle.lt_code.specs.Bodies.{HasCode}
use Rattle.lt_code.specs.Bounds.{successors, callee, HasEdge, HasCall, IsBounded}
use Rattle.lt_code.specs.Sizes.{size_of}
use Rattle.lt_code.specs.Samples as s

pub sizes : s.SizesAreWorkedOut
sizes = (refl, refl, refl)

-- ---- something that is so of each node, and of each edge

abbrev AllAt : (Q : ℕ → Node → Type 0) → ℕ → List Node → Type 0
AllAt Q k [] = Unit {0}
AllAt Q k (n ∷ ns) = Q k n × AllAt Q (suc k) ns

node_at : (Q : ℕ → Node → Type 0) (k : ℕ) (ns : List Node) → AllAt Q k ns → (i : ℕ) (n : Node) → slice_get ns i ≡ Some n → Q (k + i) n
node_at Q k [] all zero n is = absurd (cc)
node_at Q k [] all (suc i) n is = absurd (cc)
node_at Q k (m ∷ ns) all zero n is = subst (λ j. Q j n) (omega arith) (subst (Q k) (cc) all.0)
node_at Q k (m ∷ ns) all (suc i) n is = subst (λ j. Q j n) (omega arith) (node_at Q (suc k) ns all.1 i n is)

at_each : (Q : ℕ → Node → Type 0) (ns : List Node) → AllAt Q 0 ns → (i : ℕ) (n : Node) → slice_get ns i ≡ Some n → Q i n
at_each Q ns all i n is = subst (λ j. Q j n) (omega arith) (node_at Q 0 ns all i n is)

abbrev Each : (ℕ → Type 0) → List ℕ → Type 0
Each Q [] = Unit {0}
Each Q (n ∷ ns) = Q n × Each Q ns

each_at : (Q : ℕ → Type 0) (ns : List ℕ) → Each Q ns → (i n : ℕ) → slice_get ns i ≡ Some n → Q n
each_at Q [] all zero n is = absurd (cc)
each_at Q [] all (suc i) n is = absurd (cc)
each_at Q (m ∷ ns) all zero n is = subst Q (cc) all.0
each_at Q (m ∷ ns) all (suc i) n is = each_at Q ns all.1 i n is

-- no edge leads to the start, and none leads back but to 1
abbrev IsGood : ℕ → ℕ → Type 0
IsGood from to = (0 < to) × (to ≤ from → to ≡ 1)

abbrev HasGoodEdges : ℕ → Node → Type 0
HasGoodEdges from n = Each (IsGood from) (successors n)

-- an edge to a greater number
on : (from to : ℕ) → from < to → IsGood from to
on from to lt = (omega (arith, lt), λ back. absurd (omega (arith, lt, back)))

on_alone : (from to : ℕ) → from < to → Each (IsGood from) (to ∷ [])
on_alone from to lt = (on from to lt, tt)

back_to_loop : Each (IsGood 12) (1 ∷ [])
back_to_loop = ((omega arith, λ back. refl), tt)

infixr 10 ◌⨾◌
abbrev ◌⨾◌ : {A B : Type 0} → A → B → A × B
(a ⨾ b) = (a, b)

edges_are_good : AllAt HasGoodEdges 0 s.nodes
edges_are_good =
    on_alone 0 1 (omega arith) ⨾ on_alone 1 2 (omega arith) ⨾ on_alone 2 3 (omega arith) ⨾ on_alone 3 4 (omega arith)
    ⨾ (on 4 5 (omega arith), (on 4 13 (omega arith), tt)) ⨾ on_alone 5 6 (omega arith) ⨾ on_alone 6 7 (omega arith)
    ⨾ on_alone 7 8 (omega arith) ⨾ on_alone 8 9 (omega arith) ⨾ on_alone 9 10 (omega arith)
    ⨾ on_alone 10 11 (omega arith) ⨾ on_alone 11 12 (omega arith) ⨾ back_to_loop ⨾ on_alone 13 14 (omega arith)
    ⨾ on_alone 14 15 (omega arith) ⨾ on_alone 15 16 (omega arith) ⨾ on_alone 16 17 (omega arith)
    ⨾ on_alone 17 18 (omega arith) ⨾ tt ⨾ on_alone 19 20 (omega arith) ⨾ tt ⨾ tt

edge_is_good : (from to : ℕ) → HasEdge s.code from to → IsGood from to
edge_is_good from to edge =
    each_at (IsGood from) (successors edge.node) (at_each HasGoodEdges s.nodes edges_are_good from edge.node edge.stands) edge.which to edge.leads

calls_nothing : AllAt (λ i n. callee n ≡ None) 0 s.nodes
calls_nothing =
    refl ⨾ refl ⨾ refl ⨾ refl ⨾ refl ⨾ refl ⨾ refl ⨾ refl ⨾ refl ⨾ refl ⨾ refl ⨾ refl ⨾ refl ⨾ refl ⨾ refl ⨾ refl
    ⨾ refl ⨾ refl ⨾ refl ⨾ refl ⨾ refl ⨾ tt

none_is : (o : Option ℕ) (f : ℕ) → o ≡ None → o ≡ Some f → ⊥
none_is None f e1 e2 = absurd (cc)
none_is (Some g) f e1 e2 = absurd (cc)

no_call : (i f : ℕ) → HasCall s.code i f → ⊥
no_call i f call = none_is (callee call.node) f (at_each (λ i n. callee n ≡ None) s.nodes calls_nothing i call.node call.stands) call.calls

-- ---- the code

bounded : IsBounded (size_of s.program.functions s.counting_definition s.counting) s.code
bounded = record {
  nodes = omega arith;
  registers = omega arith;
  calls = record { place = λ i. 0; there = λ i f call. absurd (no_call i f call); once = λ i j f g call other e. absurd (no_call i f call) };
  start = refl;
  entered_once = λ from to edge. (edge_is_good from to edge).0;
  heads = record {
    heads = 1 ∷ [];
    few = omega arith;
    each = λ from to edge back. (0, ap Some (sym ((edge_is_good from to edge).1 back)));
  };
}

stands : HasCode s.program [] [] s.counting s.code
stands =
    let first : 0 < 4 = omega arith in
    let fourth : 3 < 4 = omega arith in
    record {
      name = refl;
      params = refl;
      first = 0;
      back = 17;
      leaves = 19;
      last = 18;
      end = 20;
      seals = (0, refl, refl);
      body = (
        13,
        (
          1,
          refl,
          (
            2,
            5,
            1,
            refl,
            -- the test, from 2 on
            inr (refl, (4, (first, (3, (first, refl), refl)), refl)),
            -- the body, from 5 on
            (6, refl, inr (refl, (fourth, (8, (7, (first, refl), refl), (9, refl, (9, refl, (12, (10, refl, (11, refl, refl)), refl))))))),
            refl,
          ),
        ),
        -- the value, from 13 on
        (19, (first, (14, refl, (16, inr (refl, (first, (15, (first, refl), refl))), refl))), refl),
      );
      ends_with = (17, refl, refl);
      gives_it = λ lt. refl;
      ends_without = (19, refl, refl);
      gives_none = refl;
    }

or_true : (b : Bool) → (b || true) ≡ true
or_true true = refl
or_true false = refl

-- the one edge back leads to the tick of the loop's test
turns_of : (from to : ℕ) → HasEdge s.code from to → to ≤ from → (is_tick_at s.code from || is_tick_at s.code to) ≡ true
turns_of from to edge back =
    subst (λ j. (is_tick_at s.code from || is_tick_at s.code j) ≡ true) (sym ((edge_is_good from to edge).1 back)) (or_true (is_tick_at s.code from))

first_of : {A : Type 0} (a b : A) → slice_get (a ∷ []) 0 ≡ Some b → a ≡ b
first_of a b is = cc

turns : TurnByTicks (s.code ∷ [])
turns zero from to code is edge back =
    subst (λ it. (is_tick_at it from || is_tick_at it to) ≡ true) (first_of s.code code is) (turns_of from to (subst (λ it. HasEdge it from to) (sym (first_of s.code code is)) edge) back)
turns (suc f) from to code is edge back = absurd (cc)

-- ---- the code without registers

leads_on : (from to : ℕ) → HasEdge s.short from to → from < to
leads_on from to edge =
    each_at (λ n. from < n) (successors edge.node) (at_each (λ i n. Each (λ m. i < m) (successors n)) s.short_nodes ((omega arith, tt) ⨾ tt ⨾ tt) from edge.node edge.stands) edge.which to edge.leads

short_calls_nothing : (i f : ℕ) → HasCall s.short i f → ⊥
short_calls_nothing i f call = none_is (callee call.node) f (at_each (λ i n. callee n ≡ None) s.short_nodes (refl ⨾ refl ⨾ tt) i call.node call.stands) call.calls

short_bounded : IsBounded (size_of s.program.functions s.empty_definition s.empty) s.short
short_bounded = record {
  nodes = omega arith;
  registers = omega arith;
  calls = record {
    place = λ i. 0;
    there = λ i f call. absurd (short_calls_nothing i f call);
    once = λ i j f g call other e. absurd (short_calls_nothing i f call);
  };
  start = refl;
  entered_once = λ from to edge. omega (arith, leads_on from to edge);
  heads = record {
    heads = [];
    few = omega arith;
    each = λ from to edge back. absurd (omega (arith, leads_on from to edge, back));
  };
}

short_turns : TurnByTicks (s.short ∷ [])
short_turns zero from to code is edge back =
    absurd (omega (arith, leads_on from to (subst (λ it. HasEdge it from to) (sym (first_of s.short code is)) edge), back))
short_turns (suc f) from to code is edge back = absurd (cc)

short_stands : HasCode s.program [] [] s.empty s.short
short_stands = record {
  name = refl;
  params = refl;
  first = 0;
  back = 0;
  leaves = 0;
  last = 1;
  end = 1;
  seals = (0, refl, refl);
  body = refl;
  ends_with = (0, refl, refl);
  gives_it = λ lt. absurd (omega (arith, lt));
  ends_without = (0, refl, refl);
  gives_none = refl;
}

pub worked_out : s.CodesAreWorkedOut
worked_out =
    (record { stands = stands; bounded = bounded; in_range = refl; turns = turns }, record { stands = short_stands; bounded = short_bounded; in_range = refl; turns = short_turns })
