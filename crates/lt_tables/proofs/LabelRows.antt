-- The labels of a program, as graph code has them.
use Rattle.std.proofs.Common.{◌≡◌, List, [], ◌∷◌, map, refl, ap, ◌∙◌, Result, Ok, Err}
use Rattle.std.specs.Result.{IfOk}
use Rattle.std.specs.Global.{Vec}
use Rattle.lt_ir.specs.declared.code.LabelInfo.{LabelInfo}
use Rattle.lt_tree.specs.declared.typed.entity.LabelInfo as typed
use Rattle.lt_tree.specs.Typing.Entities.{Label}
use Rattle.lt_tree.specs.Typing.EntityView.{label_of}
use Rattle.lt_tables.specs.Views.{label_in_code}

abbrev pub in_code : Label → LabelInfo
in_code it = record { id = it.id; tag = it.tag; bound = it.bound }

labels_same : (labels : List typed.LabelInfo) → map label_in_code labels ≡ map in_code (map label_of labels)
labels_same [] = refl
labels_same (label ∷ labels) = ap (λ ls. label_in_code label ∷ ls) (labels_same labels)

pub labels_done : {E : Type 0} (r : Result (Vec LabelInfo) E) (labels list : List typed.LabelInfo) → labels ≡ list
    → IfOk r (λ all. all.items ≡ map label_in_code labels) → IfOk r (λ all. all.items ≡ map in_code (map label_of list))
labels_done (Ok all) labels list same h = h ∙ ap (map label_in_code) same ∙ labels_same list
labels_done (Err e) labels list same h = h
