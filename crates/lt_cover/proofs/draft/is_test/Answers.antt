use Rattle.std.proofs.Common.{rules}
use Rattle.std.specs.Ordering.{nat_cmp}
use Rattle.std.specs.Cmp.Lexicographic.{slice_cmp}
use Rattle.std.proofs.lemmas.Fn.{always_returns_same}
use Rattle.lt_cover.proofs.Drafts.{is_test_told}
use Rattle.lt_cover.proofs.draft.is_test.Goals as goal

pub returns : goal.returns
returns c =
    let facts = c.binary_search_by.ensures in
    is_test_told c.args.tests.now c.args.name.now c.binary_search_by.result c.is_ok.result c.is_ok.ensures.value c.requires facts.bound (facts.position (λ test. slice_cmp nat_cmp test.name c.args.name.now) (always_returns_same _ _ _ (λ a r f called. search rules)))
