use Rattle.std.proofs.Common.{◌∙◌, ap, sym}
use Rattle.std.specs.Prelude.{◌==◌, map}
use Rattle.std.specs.List.{list_any}
use Rattle.lt_tree.specs.Typing.EntityView.{label_of}
use Rattle.lt_tree.specs.declared.typed.entity.LabelInfo.{LabelInfo}
use Rattle.lt_env.proofs.NameMaps.{listed}
use Rattle.lt_env.proofs.LabelNames.{id_is_there}
use Rattle.lt_env.proofs.symbols.labels.Labels.has_id.Goals as goal

pub returns : goal.returns
returns c =
    c.is_some.ensures
    ∙ id_is_there (list_any (λ (l : LabelInfo). l.id == c.args.id) c.self.inside.list.items) c.self.inside.ids c.args.id _ (c.self.invariant.by_id c.args.id) c.get.ensures.value
    ∙ sym (listed (λ label. label.id == c.args.id) label_of c.self.inside.list.items)
    ∙ ap (λ list. list_any (λ label. label.id == c.args.id) (map label_of list)) c.self.view_is
