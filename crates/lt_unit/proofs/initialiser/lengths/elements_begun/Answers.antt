use Rattle.std.proofs.Common.{sym, ap, ◌∙◌}
use Rattle.lt_tree.specs.Typing.Filling.{elements_begun}
use Rattle.lt_table.proofs.TableFound.{then_ok}
use Rattle.lt_unit.proofs.LeftLists.{nothing}
use Rattle.lt_unit.proofs.ElementsBegun.{begun_behind, begun_here}
use Rattle.lt_unit.proofs.initialiser.lengths.elements_begun.Goals as goal

pub returns-in-Some-endless : goal.returns-in-Some-endless
returns-in-Some-endless c = then_ok c.begun.result (λ n made longer h known k.
    made longer h known k
    ∙ begun_here longer known c.in-Some.top.now c.in-Some.below.now c.parts.rest.now c.in-Some-endless.first c.in-Some.ensures.cases.0 (sym c.endless.ensures ∙ c.in-Some-endless.is)
    ∙ c.parts.invariant longer h known k)
    c.begun.ensures

pub parts-preserved : goal.parts-preserved
parts-preserved c = λ longer h known k.
    begun_behind longer known c.in-Some.top.now c.in-Some.below.now c.parts.rest.now c.in-Some.ensures.cases.0 (sym c.endless.ensures ∙ c.in_default-endless.is)
    ∙ c.parts.invariant longer h known k

pub returns : goal.returns
returns c = λ longer h known k. sym (ap (elements_begun known) (nothing longer c.parts.rest.now c.in_default.ensures.cases)) ∙ c.parts.invariant longer h known k
