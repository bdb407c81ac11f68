use Rattle.std.proofs.Common.{ℕ, ◌<◌, length, ap, subst, arith}
use Rattle.std.proofs.lemmas.Bool.{lt-ltb}
use Rattle.lt_ir.specs.declared.variable.Variable.TheVariants as variable
use Rattle.lt_ir.specs.declared.node.Node.TheVariants as node
use Rattle.lt_emit.specs.Emission.{Emits, IsPlaced}
use Rattle.lt_code.specs.Costs.{alone}
use Rattle.lt_emit.proofs.Spent.{spends_none, spends_both, spends_within, fitting}
use Rattle.lt_lower.proofs.Flows.{nothing_added}
use Rattle.lt_lower.proofs.Parameters.{one_below, ends_more, ends_all}
use Rattle.lt_lower.proofs.function.parameters.parameters_end.Goals as goal

pub parameters-init : goal.parameters-init
parameters-init c = record {
  adds = nothing_added (λ it m ended. ended);
  spends = spends_none (alone 0);
  within = c.requires;
  opens = λ sound behind. behind;
}

pub emit-requires-clause-leads : goal.emit-requires-clause-leads
emit-requires-clause-leads c = one_below c.parameters.from (length c.parameters.b.nodes.items) c.parameters.invariant.within

pub emit-requires-clause-names : goal.emit-requires-clause-names
emit-requires-clause-names c =
    let same = ap (λ h. length h.function.parameters) c.parameters.invariant.adds.grows.same in
    lt-ltb c.in_ok-place_of.field-0 (length c.parameters.b.site.now.function.now.parameters.items)
    (omega (arith, c.in_ok-place_of.ensures, c.parameters-test.true, ap length c.as_slice-parameters.ensures.value, same))

pub parameters-preserved : goal.parameters-preserved
parameters-preserved c =
    let from = c.in_ok-from.from in
    let there : c.parameters.at < length c.args.b.now.site.now.function.now.parameters.items =
    omega (arith, c.parameters-test.true, ap length c.as_slice-parameters.ensures.value) in
    let Placed : ℕ → Type 0 = λ k. Emits c.parameters.b c.emit.new.self from (IsPlaced (node.End (variable.Parameter k) c.parameters.from) from) in
    record {
      adds = ends_more c.args.to c.parameters.from c.parameters.at from there c.parameters.invariant.adds
          (subst Placed c.in_ok-place_of.ensures c.in_ok-from.ensures.code.gives.code);
      spends = spends_within (spends_both c.parameters.invariant.spends c.in_ok-from.ensures.code.spends) (grind fitting);
      within = c.in_ok-from.ensures.code.gives.code.within;
      opens = λ sound behind. c.in_ok-from.ensures.enters (c.parameters.invariant.adds.grows.sound sound);
    }

pub returns-clause-enters : goal.returns-clause-enters
returns-clause-enters c = c.parameters.invariant.opens

pub returns-clause-code : goal.returns-clause-code
returns-clause-code c =
    let all = ap length c.as_slice-parameters.ensures.value in
    record {
      gives = record {
        code = record {
          adds = ends_all c.args.to c.parameters.from c.parameters.at (omega (arith, c.parameters-test.false, all)) c.parameters.invariant.adds;
          within = c.parameters.invariant.within;
        };
      };
      spends = spends_within c.parameters.invariant.spends record {
        nodes = omega (arith, c.parameters.auto.at-end, all);
        registers = omega arith;
        loops = omega arith;
        calls = λ f. omega arith;
      };
    }
