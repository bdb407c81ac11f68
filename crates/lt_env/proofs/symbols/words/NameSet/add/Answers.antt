use Rattle.std.proofs.Common.{◌∙◌}
use Rattle.std.specs.Str.{bytes_eq}
use Rattle.lt_env.proofs.NameMaps.{one_more, same_name_back}
use Rattle.lt_env.proofs.symbols.words.NameSet.add.Goals as goal

pub invariant_of-self-in-Ok : goal.invariant_of-self-in-Ok
invariant_of-self-in-Ok c =
    one_more bytes_eq c.self.inside.list.items _ c.args.name c.self.inside.names c.insert.new.self c.in_ok-key.key.items c.self.invariant c.in_ok-push.ensures.items
    (λ w. same_name_back _ c.args.name w (c.in_ok-key.ensures.items ∙ c.as_slice.ensures)) c.in-Ok.ensures.updates
