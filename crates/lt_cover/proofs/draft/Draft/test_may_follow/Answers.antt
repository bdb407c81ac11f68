use Rattle.std.proofs.Common.{sym}
use Rattle.std.proofs.lemmas.Bool.{false≢true}
use Rattle.lt_cover.proofs.Drafts.{nil_if, not_nil, above_as}
use Rattle.lt_cover.proofs.draft.Draft.test_may_follow.Goals as goal

pub returns-then-not-is_empty : goal.returns-then-not-is_empty
returns-then-not-is_empty c = (λ bad. absurd (false≢true bad), λ h. absurd (not_nil c.args.self.now.labels.items c.as_slice.result.now c.as_slice.ensures.value c.if-not-is_empty.ensures h.labels))

pub returns-then-not-is_empty-2 : goal.returns-then-not-is_empty-2
returns-then-not-is_empty-2 c = (λ bad. absurd (false≢true bad), λ h. absurd (not_nil c.args.self.now.hypers.items c.as_slice-2.result.now c.as_slice-2.ensures.value c.if-not-is_empty-2.ensures h.hypers))

pub returns : goal.returns
returns c =
    let tests = c.as_slice-3.result.now in
    let name = c.as_slice-4.result.now in (
      λ yes. record {
        labels = nil_if c.args.self.now.labels.items c.as_slice.result.now c.as_slice.ensures.value c.if-not-is_empty.ensures;
        hypers = nil_if c.args.self.now.hypers.items c.as_slice-2.result.now c.as_slice-2.ensures.value c.if-not-is_empty-2.ensures;
        above = above_as tests c.args.self.now.tests.items name c.args.test.now.name c.as_slice-3.ensures.value c.as_slice-4.ensures (c.is_above_tests.ensures.0 yes);
      },
      λ h. c.is_above_tests.ensures.1 (above_as c.args.self.now.tests.items tests c.args.test.now.name name (sym c.as_slice-3.ensures.value) (sym c.as_slice-4.ensures) h.above),
    )
