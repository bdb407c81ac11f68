use Rattle.std.proofs.Common.{Some, None, ap, sym, ◌∙◌, refl, arith}
use Rattle.std.proofs.lemmas.List.{length-take-le}
use Rattle.std.proofs.lemmas.Option.{slice_get_within}
use Rattle.std.specs.Option.{option_copied}
use Rattle.lt_model.specs.TypeView.{structs_of}
use Rattle.lt_model.specs.Layout.{extent_of, no_members}
use Rattle.lt_model.proofs.Layouts.{offset_found, no_offset}
use Rattle.lt_model.proofs.sizes.offset_among.Goals as goal

pub returns-in_err-member : goal.returns-in_err-member
returns-in_err-member c =
    c.from_residual.ensures
    ∙ sym (no_offset (extent_of c.args.model (structs_of c.args.structs.now)) no_members c.args.members.now c.args.place
    (sym c.member_at.ensures ∙ ap option_copied c.in_err-member.was))

pub slice_bounds-end_of-end : goal.slice_bounds-end_of-end
slice_bounds-end_of-end c =
    let within = slice_get_within c.args.members.now c.args.place c.in_ok-member.member.now (sym c.member_at.ensures ∙ ap option_copied c.in_ok-member.was) in
    sym (length-take-le c.args.place c.args.members.now (omega (arith, within)))

pub returns-in_err-extent : goal.returns-in_err-extent
returns-in_err-extent c =
    c.from_residual-in_err-extent.ensures
    ∙ sym (offset_found (extent_of c.args.model (structs_of c.args.structs.now)) no_members c.args.members.now c.args.place c.in_ok-member.member.now None _
    (sym c.member_at.ensures ∙ ap option_copied c.in_ok-member.was) (sym c.extent_of.ensures ∙ c.in_err-extent.was) refl)

pub returns-in_err-before : goal.returns-in_err-before
returns-in_err-before c =
    c.from_residual-in_err-before.ensures
    ∙ sym (offset_found (extent_of c.args.model (structs_of c.args.structs.now)) no_members c.args.members.now c.args.place c.in_ok-member.member.now (Some c.in_ok-extent.extent) None
    (sym c.member_at.ensures ∙ ap option_copied c.in_ok-member.was) (sym c.extent_of.ensures ∙ c.in_ok-extent.was) (sym c.end_of.ensures ∙ c.in_err-before.was))

pub returns : goal.returns
returns c =
    c.offset_behind.ensures
    ∙ sym (offset_found (extent_of c.args.model (structs_of c.args.structs.now)) no_members c.args.members.now c.args.place c.in_ok-member.member.now (Some c.in_ok-extent.extent) (Some c.in_ok-before.before)
    (sym c.member_at.ensures ∙ ap option_copied c.in_ok-member.was) (sym c.extent_of.ensures ∙ c.in_ok-extent.was) (sym c.end_of.ensures ∙ c.in_ok-before.was))
