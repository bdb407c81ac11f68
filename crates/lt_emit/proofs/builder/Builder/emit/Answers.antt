use Rattle.std.proofs.Common.{rules, ◌≡◌, ℕ, length, refl, subst, arith}
use Rattle.lt_emit.specs.Emission.{Emits, IsEntrance, IsPlaced}
use Rattle.lt_emit.proofs.Emitted.{emitted, emitted_enters}
use Rattle.lt_emit.proofs.Counted.{emitted_spends}
use Rattle.lt_emit.proofs.builder.Builder.emit.Goals as goal

pub returns : goal.returns
returns c =
    let a = c.args.self.now in
    let after = record a { nodes = c.push.new.self; registers = c.max-self.result } in
    let At : ℕ → Type 0 = λ e. Emits a after e (IsPlaced c.args.node e) in
    let number : length a.nodes.items ≡ c.in-Ok.number = search rules in
    let items = c.in_ok-push.ensures.items in
    record {
      code = record {
        gives = record {
          code = subst At number (emitted a after c.args.node c.in_ok-used.used refl items refl c.max-self.ensures c.requires.leads
              c.in_ok-used.ensures.uses c.requires.names);
        };
        spends = emitted_spends a after c.args.node items (omega (arith, c.max-self.ensures, c.in_ok-used.ensures.least)) c.requires.leads;
      };
      enters = λ sound. subst (IsEntrance after) number (emitted_enters a after c.args.node items c.requires.leads sound);
    }
