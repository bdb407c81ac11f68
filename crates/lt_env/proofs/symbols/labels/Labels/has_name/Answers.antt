use Rattle.std.proofs.Common.{◌∙◌, ap, sym}
use Rattle.std.specs.Prelude.{map}
use Rattle.std.specs.List.{list_any}
use Rattle.lt_tree.specs.Typing.EntityView.{label_of}
use Rattle.lt_tree.specs.Typing.Operations.{is_among}
use Rattle.lt_env.proofs.NameMaps.{is_there, listed}
use Rattle.lt_env.proofs.symbols.labels.Labels.has_name.Goals as goal

pub returns : goal.returns
returns c =
    c.is_some.ensures
    ∙ is_there (λ w. list_any (λ label. is_among w label.bound.items) c.self.inside.list.items) c.self.inside.bound c.args.name.now _ c.self.invariant.by_name c.get.ensures.value
    ∙ sym (listed (λ label. is_among c.args.name.now label.bound) label_of c.self.inside.list.items)
    ∙ ap (λ list. list_any (λ label. is_among c.args.name.now label.bound) (map label_of list)) c.self.view_is
