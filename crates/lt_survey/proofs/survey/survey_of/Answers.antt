use Rattle.std.proofs.Common.{◌≡◌, ◌∙◌, ap, length, subst, sym}
use Rattle.lt_tree.specs.UnitView.{unit_of}
use Rattle.lt_tree.specs.Typing.ProgramView.{program_of}
use Rattle.lt_objectives.specs.Places.{is_constant}
use Rattle.lt_sites.specs.Sites.{AreSitesOf}
use Rattle.lt_facts.specs.Numbers.{own_numbers}
use Rattle.lt_facts.specs.Facts.{AreFactIndices}
use Rattle.lt_survey.specs.Survey.{by_number}
use Rattle.lt_survey.proofs.Sites.{length_by_number}
use Rattle.lt_survey.proofs.survey.survey_of.Goals as goal

-- as many constants as nodes
pub open_places-requires : goal.open_places-requires
open_places-requires c =
    let unit = unit_of c.args.unit.now in
    let program = program_of c.args.program.now in
    let sites : AreSitesOf c.as_slice.result.now unit = subst (λ list. AreSitesOf list unit) (sym c.as_slice.ensures.value) c.in_ok-sites.ensures in
    let own : AreSitesOf c.as_slice-2.result.now program.unit = subst (λ list. AreSitesOf list program.unit) (sym c.as_slice-2.ensures.value) c.in_ok-own.ensures in
    let numbers : c.as_slice-3.result.now ≡ own_numbers unit program = c.as_slice-3.ensures.value ∙ c.in_ok-numbers.ensures unit program sites own in
    let facts : AreFactIndices unit program c.as_slice-4.result.now
    = subst (AreFactIndices unit program) (sym c.as_slice-4.ensures.value) (c.in_ok-facts.ensures.facts unit numbers) in
    let constants : c.as_slice-6.result.now ≡ by_number unit (is_constant unit program) = c.as_slice-6.ensures.value ∙ c.in_ok-constants.ensures unit facts in
    ap length constants ∙ length_by_number unit (is_constant unit program) c.in_ok-sites.sites.items c.in_ok-sites.ensures ∙ sym (ap length c.as_slice-5.ensures.value)
