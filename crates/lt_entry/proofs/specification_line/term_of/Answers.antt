use Rattle.std.proofs.Common.{◌≡◌, sym, subst, Option, IfOk}
use Rattle.std.specs.Prelude.{option_map}
use Rattle.lt_entry.specs.SpecificationLines.{Term}
use Rattle.lt_entry.specs.LineViews.{term_view}
use Rattle.lt_entry.proofs.LinesRead.{term_alone}
use Rattle.lt_entry.proofs.specification_line.term_of.Goals as goal

pub returns-in_default : goal.returns-in_default
returns-in_default c =
    subst (λ (t : Option Term). IfOk c.term_at.result (λ o. option_map term_view o ≡ t))
    (sym (term_alone c.args.word.now c.in_ok-parts.parts.items c.as_slice.result.now c.in_ok-parts.ensures c.as_slice.ensures.value c.in_default.ensures))
    c.term_at.ensures
