use Rattle.std.proofs.Common.{◌≡◌, ◌*◌, Some, ap, sym, ◌∙◌}
use Rattle.lt_model.specs.Types.{element}
use Rattle.lt_model.specs.TypeView.{type_of, structs_of}
use Rattle.lt_model.specs.Layout.{then_some, within, resized, elements, single_extent, struct_extent}
use Rattle.lt_model.proofs.Counting.{capped_within}
use Rattle.lt_model.proofs.Layouts.{single_unqualified}
use Rattle.lt_model.proofs.sizes.+extent.Goals as goal

pub type_extent-returns : goal.type_extent-returns
type_extent-returns t c =
    let of = type_of c.args.t.now in
    let known = struct_extent c.args.model (structs_of c.args.structs.now) c.args.depth in
    let e = c.in_ok-extent.extent in
    let single : single_extent c.args.model known (element of) ≡ Some e = sym (single_unqualified c.args.model known (element of)) ∙ ap (single_extent c.args.model known) (sym c.elements-count.ensures.element) ∙ sym c.single_extent.ensures ∙ c.in_ok-extent.was in
    c.resized.ensures
    ∙ ap (resized e) (c.repeated.ensures ∙ ap (λ k. within (e.size * k)) c.elements-count.ensures.count ∙ capped_within e.size (elements of))
    ∙ sym (ap (λ o. then_some o (λ e. resized e (within (e.size * elements of)))) single)
