use Rattle.std.proofs.Common.{refl, sym, subst, List}
use Rattle.std.specs.Prelude.{All}
use Rattle.lt_cover.specs.declared.rows.LabelRow.{LabelRow}
use Rattle.lt_cover.specs.Coverage.Table.{label_ids}
use Rattle.lt_cover.specs.Coverage.Rows.{IsBelowId}
use Rattle.std.proofs.lemmas.Bool.{false≢true}
use Rattle.lt_cover.proofs.Drafts.{nil_if, not_nil, known_as}
use Rattle.lt_cover.proofs.draft.Draft.label_may_follow.Goals as goal

pub returns-then-not-is_empty : goal.returns-then-not-is_empty
returns-then-not-is_empty c = (λ bad. absurd (false≢true bad), λ h. absurd (not_nil c.args.self.now.hypers.items c.as_slice.result.now c.as_slice.ensures.value c.if-not-is_empty.ensures h.hypers))

pub returns-then-not-is_above_labels : goal.returns-then-not-is_above_labels
returns-then-not-is_above_labels c = (λ bad. absurd (false≢true bad), λ h. c.if-not-is_above_labels.ensures.1 (subst (λ (z : List LabelRow). All (IsBelowId c.args.label.now.id) (label_ids z)) (sym c.as_slice-2.ensures.value) h.above))

pub returns-then-not-may_hold : goal.returns-then-not-may_hold
returns-then-not-may_hold c = (λ bad. absurd (false≢true bad), λ h. c.if-not-may_hold.ensures.1 h.holds)

pub returns : goal.returns
returns c =
    let tests = c.as_slice-3.result.now in
    let names = c.as_slice-4.result.now in (
      λ yes. record {
        hypers = nil_if c.args.self.now.hypers.items c.as_slice.result.now c.as_slice.ensures.value c.if-not-is_empty.ensures;
        above = subst (λ (z : List LabelRow). All (IsBelowId c.args.label.now.id) (label_ids z)) c.as_slice-2.ensures.value (c.if-not-is_above_labels.ensures.0 refl);
        known = known_as tests c.args.self.now.tests.items names c.args.label.now.by c.as_slice-3.ensures.value c.as_slice-4.ensures (c.are_tests.ensures.0 yes);
        holds = c.if-not-may_hold.ensures.0 refl;
      },
      λ h. c.are_tests.ensures.1 (known_as c.args.self.now.tests.items tests c.args.label.now.by names (sym c.as_slice-3.ensures.value) (sym c.as_slice-4.ensures) h.known),
    )
