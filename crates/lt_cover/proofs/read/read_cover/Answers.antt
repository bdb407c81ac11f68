use Rattle.std.proofs.Common.{refl, sym, ◌∙◌}
use Rattle.lt_cover.proofs.Fronts.{no_version}
use Rattle.lt_cover.proofs.read.read_cover.Goals as goal

pub returns-in_default-version_of : goal.returns-in_default-version_of
returns-in_default-version_of c =
    (c.in_ok-rows.rows.items, c.in_ok-rows.ensures, 1, no_version c.in-Some.first.now c.in-Some.rest.now c.in_ok-rows.rows.items (sym c.as_slice.ensures.value ∙ c.in-Some.ensures.cases.0) (λ v any e. c.in_default-version_of.ensures v tt (e ∙ sym c.as_slice-2.ensures)), refl)
