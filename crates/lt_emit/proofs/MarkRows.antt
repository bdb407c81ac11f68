-- Marks, by their labels.
use Rattle.std.proofs.Common.{◌≡◌, ℕ, List, Some, map, slice_get, ap, sym, subst, ◌∙◌}
use Rattle.std.specs.Prelude.{option_map}
use Rattle.std.proofs.lemmas.Option.{slice_get-map}
use Rattle.lt_tree.specs.declared.typed.tree.Mark.{Mark}
use Rattle.lt_tree.specs.declared.typed.tree.Place.TheViews as views
use Rattle.lt_tree.specs.Typing.Types.{CType}
use Rattle.lt_tree.specs.Typing.Entities.{Label}
use Rattle.lt_tree.specs.Typing.TypedTree as e
use Rattle.lt_tree.specs.Typing.ValueView.{value_of, mark_of, bindings_in}
use Rattle.lt_tree.proofs.TypedRows.{bindings_are}
use Rattle.lt_ir.specs.declared.pure.Pure.{Pure}
use Rattle.lt_ir.specs.PureView.{pure_of}
use Rattle.lt_code.specs.Predicates.{pure_in, pures_bound}
use Rattle.lt_code.specs.Code.{mark}
use Rattle.lt_code.specs.Bodies.{label_of}
use Rattle.lt_emit.specs.Emission.{Here, Finished, site_in}
use Rattle.lt_emit.specs.Known.{IsMarked}
use Rattle.lt_emit.specs.Stands.{MarkStands}
use Rattle.lt_emit.specs.Marking.{LabelStands}

-- a label of the graph
pub label_there : (labels : List Label) (k : ℕ) (label : Label) → slice_get labels k ≡ Some label → slice_get (map label_of labels) k ≡ Some (label_of label)
label_there labels k label is = slice_get-map label_of labels k ∙ ap (option_map label_of) is

-- a mark with its parts
pub mark_is : (types : List CType) (m : Mark) → mark_of types m ≡ e.mark (value_of types (views.out-Mark m).predicate.value) (views.out-Mark m).id (bindings_in types (views.out-Mark m).bound.items)
mark_is types m =
    ap (mark_of types) (sym (views.roll-out-Mark m)) ∙ ap (mark_of types) (views.rolls-struct-Mark (views.out-Mark m))
    ∙ ap (e.mark (value_of types (views.out-Mark m).predicate.value) (views.out-Mark m).id) (bindings_are types (views.out-Mark m).bound)

pub one_value : {X : Type 0} {x y : X} → Some x ≡ Some y → x ≡ y
one_value is = cc

-- a mark by its parts
pub mark_stands :
    (here : Here) (it : Finished) (m : Mark) (q : Pure) (qs : List Pure) (from to : ℕ)
    → pure_of q ≡ pure_in (site_in here it).names (value_of here.types (views.out-Mark m).predicate.value)
    → map pure_of qs ≡ pures_bound (site_in here it).names (bindings_in here.types (views.out-Mark m).bound.items)
    → LabelStands (views.out-Mark m).id q qs to from here it → MarkStands m to from here it
mark_stands here it m q qs from to is are stands =
    let Is : e.Mark → Type 0 = λ k. IsMarked here k → mark (site_in here it) k (it.point from) (it.point to) in
    subst Is (sym (mark_is here.types m)) (λ known. let at = stands _ known in (at.0, q, qs, at.1, is, are, at.2))
