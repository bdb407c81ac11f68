use Rattle.std.proofs.Common.{rules, ◌≡◌, ◌-◌, length, refl, ap, ◌∙◌, arith}
use Rattle.lt_emit.specs.Turned.{turned_round}
use Rattle.lt_lower.proofs.function.finished.Goals as goal

pub returns : goal.returns
returns c =
    let last = c.in-Ok.last in
    let number : last ≡ length c.args.b.nodes.items - 1 = search rules in
    record {
      name = c.in_ok-new.ensures ∙ c.as_slice.ensures;
      params = c.new-2.ensures ∙ c.in_ok-parameters_of.ensures;
      locals = c.new-3.ensures ∙ c.in_ok-local_shapes.ensures;
      structs = c.new-4.ensures;
      registers = refl;
      last = last;
      count = omega (arith, number, c.requires);
      nodes = c.new-5.ensures ∙ c.turned_round.ensures ∙ ap (turned_round last) c.give_back.ensures;
      start = refl;
    }
