use Rattle.std.proofs.Common.{sym, ap, ◌∙◌}
use Rattle.lt_tree.specs.Records.{expressions_in}
use Rattle.lt_objectives.specs.Copies.{any_hides}
use Rattle.lt_predicates.proofs.HidingCommas.{hides_comma}
use Rattle.lt_predicates.proofs.hidden.+hiding.Goals as goal

pub hides-returns-in-Comma : goal.hides-returns-in-Comma
hides-returns-in-Comma t c =
    c.any_hides.ensures ∙ ap (λ xs. any_hides (expressions_in xs)) c.as_slice.ensures.value ∙ sym (hides_comma _ c.in-Comma.parts c.in-Comma.is)
