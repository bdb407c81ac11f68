use Rattle.std.proofs.Common.{◌∙◌, sym, ap}
use Rattle.std.specs.List.{list_all}
use Rattle.lt_input_values.specs.Finding.{is_within, may_give}
use Rattle.lt_input_values.proofs.Sets.{all_same}
use Rattle.lt_input_values.proofs.Swaps.{ranges_kept}
use Rattle.lt_input_values.proofs.stubs.are_in_ranges.Goals as goal

pub returns : goal.returns
returns c =
    let ranges = c.args.finder.now.spec.now.stubs in
    let it = c.args.it.now in
    c.are_within.ensures ∙ all_same (is_within c.bounds-bounds.result) (may_give ranges c.as_slice.result.now) c.bounds-bounds.ensures c.as_slice-2.result.now
    ∙ ap (λ name. list_all (may_give ranges name) c.as_slice-2.result.now) c.as_slice.ensures
    ∙ ap (list_all (may_give ranges it.name)) c.as_slice-2.ensures
    ∙ sym (ranges_kept ranges it)
