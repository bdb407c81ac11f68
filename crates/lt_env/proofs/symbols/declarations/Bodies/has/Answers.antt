use Rattle.std.proofs.Common.{◌∙◌, ap}
use Rattle.std.specs.List.{list_any}
use Rattle.std.specs.Str.{bytes_eq}
use Rattle.lt_env.proofs.NameMaps.{is_there}
use Rattle.lt_env.proofs.symbols.declarations.Bodies.has.Goals as goal

pub returns : goal.returns
returns c =
    c.is_some.ensures
    ∙ is_there (λ w. list_any (λ f. bytes_eq f.name w) c.self.inside.list.items) c.self.inside.names c.args.name.now _ c.self.invariant c.get.ensures.value
    ∙ ap (list_any (λ f. bytes_eq f.name c.args.name.now)) c.self.view_is
