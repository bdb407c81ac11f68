use Rattle.std.proofs.Common.{rules, ◌≡◌, [], ◌∷◌, ◌++◌, length, slice_get, refl, ap, ◌∙◌, inr, arith}
use Rattle.lt_ir.specs.declared.node.Node.TheVariants as node
use Rattle.lt_emit.proofs.Emitted.{grown, longer, last_of}
use Rattle.lt_emit.proofs.Counted.{reserved_spends}
use Rattle.lt_emit.proofs.builder.Builder.reserve.Goals as goal

pub returns : goal.returns
returns c =
    let a = c.args.self.now in
    let after = record a { nodes = c.push.new.self } in
    let hole = c.in-Ok.number in
    let number : hole ≡ length a.nodes.items = search rules in
    let items = c.in_ok-push.ensures.items in
    record {
      number = number;
      grows = grown a after (node.Tick hole) refl items refl (omega arith) (inr (hole, refl, omega (arith, number))) tt tt;
      longer = ap length items ∙ longer a.nodes.items (node.Tick hole);
      tick = ap (λ row. slice_get row hole) items ∙ ap (slice_get (a.nodes.items ++ node.Tick hole ∷ [])) number
          ∙ last_of a.nodes.items (node.Tick hole);
      spends = reserved_spends a after hole items (omega arith);
    }
