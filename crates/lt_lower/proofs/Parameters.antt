-- Parameters end one behind the other, and are sealed so.
use Rattle.std.proofs.Common.{◌≡◌, ℕ, suc, true, ◌&&◌, ◌+◌, ◌-◌, ◌<◌, ◌≤◌, List, [], ◌∷◌, length, drop, get_or, drop-cons, Ok, refl, sym, ap, subst, ◌∙◌, arith}
use Rattle.std.proofs.lemmas.Bool.{lt-ltb}
use Rattle.std.proofs.lemmas.List.{drop_all}
use Rattle.lt_emit.specs.Turning.{are_below}
use Rattle.lt_ir.specs.declared.variable.Variable.TheVariants as variable
use Rattle.lt_ir.specs.declared.node.Node.TheVariants as node
use Rattle.lt_code.specs.Bodies as code
use Rattle.lt_code.specs.Bodies.{stands_in}
use Rattle.lt_emit.specs.declared.builder.Builder.{Builder}
use Rattle.lt_code.specs.Costs.{Cost, alone}
use Rattle.lt_emit.specs.Emission.{Here, here_of, Finished, Adds, Emits, EmitsWithin, GivesWithin, HasPoint, IsPlaced, costs}
use Rattle.lt_emit.proofs.Adding.{both}
use Rattle.lt_emit.proofs.Spent.{spends_none, spends_both, spends_within}
use Rattle.lt_lower.specs.Functions.{parameters_cost, ParametersEnd, ParametersSealed, ParameterSealed}
use Rattle.lt_lower.proofs.Flows.{nothing_added}

pub one_below : (next n : ℕ) → next < n → are_below n (next ∷ []) ≡ true
one_below next n there = ap (λ b. b && true) (lt-ltb next n there)

-- ---- ends

-- what ends the parameters that are left ends them all
abbrev pub EndsRest : (to from k : ℕ) → Here → Finished → Type 0
EndsRest to from k here it =
    (m : ℕ) → code.parameters_end (stands_in it.nodes) k (drop k here.function.parameters) m (it.point from)
    → code.parameters_end (stands_in it.nodes) 0 here.function.parameters m (it.point to)

pub ends_more :
    {a b c : Builder} (to from k m : ℕ) → k < length (here_of a).function.parameters → Adds a b (EndsRest to from k)
    → Emits b c m (IsPlaced (node.End (variable.Parameter k) from) m) → Adds a c (EndsRest to m (k + 1))
ends_more {a} {b} {c} to from k m there before one = record {
  grows = all.grows;
  stands = λ it kept. by it (all.stands it kept);
}
  where
    all : Adds a c (λ here it. EndsRest to from k here it × IsPlaced (node.End (variable.Parameter k) from) m here it)
    all = both before one.adds (λ here it p q. (p, q))

    by : (it : Finished) → EndsRest to from k (here_of a) it × IsPlaced (node.End (variable.Parameter k) from) m (here_of a) it
        → EndsRest to m (k + 1) (here_of a) it
    by it p n ended =
        let row = (here_of a).function.parameters in
        let next : suc k ≡ k + 1 = omega arith in
        let Next : ℕ → Type 0 = λ j. code.parameters_end (stands_in it.nodes) j (drop j row) n (it.point m) in
        let Are : List ℕ → Type 0 = λ ns. code.parameters_end (stands_in it.nodes) k ns n (it.point from) in
        p.0 n (subst Are (sym (drop-cons row k 0 there)) (_, subst Next (sym next) ended, p.1.0))

pub ends_all :
    {a b : Builder} (to from k : ℕ) → length (here_of a).function.parameters ≤ k → Adds a b (EndsRest to from k)
    → Adds a b (ParametersEnd to from)
ends_all {a} {b} to from k all before = record {
  grows = before.grows;
  stands = λ it kept.
      let row = (here_of a).function.parameters in
      let Are : List ℕ → Type 0 = λ ns. code.parameters_end (stands_in it.nodes) k ns (it.point from) (it.point from) in
      before.stands it kept (it.point from) (subst Are (sym (drop_all k row all)) refl);
}

-- ---- seals

-- the parameters from one on
abbrev pub SealsRest : (to from k : ℕ) → Here → Finished → Type 0
SealsRest to from k here it =
    code.parameters_sealed (stands_in it.nodes) here.program k (drop k here.function.parameters) (it.point from) (it.point to)

-- what they cost
abbrev pub sealed_cost : (k : ℕ) → Here → Cost
sealed_cost k here = alone (length here.function.parameters - k)

pub seals_none :
    {a : Builder} (to k : ℕ) → length (here_of a).function.parameters ≤ k → HasPoint a to
    → EmitsWithin a a to (sealed_cost k) (SealsRest to to k)
seals_none {a} to k all has = record {
  emits = record {
    adds = nothing_added (λ it.
        let Are : List ℕ → Type 0 = λ ns. code.parameters_sealed (stands_in it.nodes) (here_of a).program k ns (it.point to) (it.point to) in
        subst Are (sym (drop_all k (here_of a).function.parameters all)) refl);
    within = has;
  };
  spends = spends_none (sealed_cost k (here_of a));
}

pub seals_more :
    {a b c : Builder} (to from k m : ℕ) (n : ℕ) → 0 < k → k ≤ length (here_of a).function.parameters
    → n ≡ get_or (here_of a).function.parameters (k - 1) 0 → EmitsWithin a b from (sealed_cost k) (SealsRest to from k)
    → GivesWithin b c (Ok m) (costs 1 0) (ParameterSealed (k - 1) n from) → EmitsWithin a c m (sealed_cost (k - 1)) (SealsRest to m (k - 1))
seals_more {a} {b} {c} to from k m n some fits is before one = record {
  emits = record {
    adds = record { grows = all.grows; stands = λ it kept. by it (all.stands it kept) };
    within = one.gives.code.within;
  };
  spends = spends_within (spends_both before.spends one.spends) record {
    nodes = omega (arith, some, fits);
    registers = omega arith;
    loops = omega arith;
    calls = λ f. omega arith;
  };
}
  where
    all : Adds a c (λ here it. SealsRest to from k here it × ParameterSealed (k - 1) n from m here it)
    all = both before.emits.adds one.gives.code.adds (λ here it p q. (p, q))

    by : (it : Finished) → SealsRest to from k (here_of a) it × ParameterSealed (k - 1) n from m (here_of a) it
        → SealsRest to m (k - 1) (here_of a) it
    by it p =
        let ns = (here_of a).function.parameters in
        let less = k - 1 in
        let next : suc less ≡ k = omega arith in
        let there : less < length ns = omega arith in
        let row : drop less ns ≡ n ∷ drop (suc less) ns = drop-cons ns less 0 there ∙ ap (λ x. x ∷ drop (suc less) ns) (sym is) in
        let Are : List ℕ → Type 0 = λ row. code.parameters_sealed (stands_in it.nodes) (here_of a).program less row (it.point m) (it.point to) in
        let Next : ℕ → Type 0 = λ j. code.parameters_sealed (stands_in it.nodes) (here_of a).program j (drop j ns) (it.point from) (it.point to) in
        subst Are (sym row) (_, p.1, subst Next (sym next) p.0)

pub seals_all :
    {a b : Builder} (to from k : ℕ) → k ≤ 0 → EmitsWithin a b from (sealed_cost k) (SealsRest to from k)
    → EmitsWithin a b from parameters_cost (ParametersSealed to from)
seals_all {a} {b} to from k first code = record {
  emits =
      let none : k ≡ 0 = omega arith in
      let From : ℕ → Type 0 = λ n. Emits a b from (SealsRest to from n) in
      subst From none code.emits;
  spends = spends_within code.spends (record { nodes = omega arith; registers = omega arith; loops = omega arith; calls = λ f. omega arith });
}
