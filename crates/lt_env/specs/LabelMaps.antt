-- Maps beside a list of labels: by their ids, and by the names that they bind.
use Rattle.std.specs.Prelude.{◌≡◌, ◌==◌, ℕ, nat_eq, List}
use Rattle.std.specs.Global.{Vec}
use Rattle.std.specs.HashMap.{HashMap, get}
use Rattle.std.specs.List.{list_any}
use Rattle.lt_tree.specs.declared.typed.entity.LabelInfo.{LabelInfo}
use Rattle.lt_tree.specs.Typing.Operations.{is_among}
use Rattle.lt_env.specs.NameMaps.{Agrees, member}

pub record KnowLabels {S R : Type 0} (labels : List LabelInfo) (ids : HashMap ℕ (Unit {0}) S) (bound : HashMap (Vec ℕ) (Unit {0}) R) : Type 0 where
  pub by_id : (id : ℕ) → get nat_eq ids id ≡ member (list_any (λ label. label.id == id) labels)
  pub by_name : Agrees bound (λ w. member (list_any (λ label. is_among w label.bound.items) labels))
