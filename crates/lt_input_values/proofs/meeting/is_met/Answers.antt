use Rattle.std.proofs.Common.{◌∙◌, sym}
use Rattle.lt_input_values.proofs.Judging.{have_numbers, stubs_swapped}
use Rattle.lt_input_values.proofs.meeting.is_met.Goals as goal

pub returns-then-not-stubs_keep_ranges : goal.returns-then-not-stubs_keep_ranges
returns-then-not-stubs_keep_ranges c =
    let it = c.args.finder.now in
    let ill = sym c.if-not-stubs_keep_ranges.true ∙ c.stubs_keep_ranges.ensures ∙ stubs_swapped it.spec.now it.input.now in
    (λ h. absurd (cc), λ meets. ill ∙ meets.stubs)

pub needs_hold-requires-clause-numbers : goal.needs_hold-requires-clause-numbers
needs_hold-requires-clause-numbers c =
    have_numbers c.args.finder.now.spec.now c.args.finder.now.input.now c.requires.bounded (sym c.cells_hold_well.ensures ∙ c.if-not-cells_hold_well.false)

pub returns : goal.returns
returns c =
    let it = c.args.finder.now in
    let blocks = sym c.as_slice.ensures ∙ c.same_blocks.ensures.0 c.if-not-same_blocks.false ∙ c.as_slice-2.ensures in
    let sets = sym c.sets_free_cells.ensures ∙ c.if-not-sets_free_cells.false in
    let cells = sym c.cells_hold_well.ensures ∙ c.if-not-cells_hold_well.false in
    let stubs = sym (c.stubs_keep_ranges.ensures ∙ stubs_swapped it.spec.now it.input.now) ∙ c.if-not-stubs_keep_ranges.false in
    (λ h. record { blocks = blocks; sets = sets; cells = cells; stubs = stubs; needs = sym c.needs_hold.ensures ∙ h }, λ meets. c.needs_hold.ensures ∙ meets.needs)
