-- What was found of the expressions to which typing comes is known in the end.
use Rattle.std.proofs.Common.{◌≡◌, sym, subst, List, Some}
use Rattle.lt_tree.specs.Tree as c
use Rattle.lt_tree.specs.Typing.Entities.{Known, Fact}
use Rattle.lt_tree.specs.Typing.Expressions.{Typed, Use, as_value, own_type, used, fact_of}
use Rattle.lt_tree_laws.specs.Typing.NodeNumbers.{PartsAreNumbered}
use Rattle.lt_objectives.specs.Places.{value_part, fact_among}
use Rattle.lt_typed_nodes.specs.Laws.{StaysConstant, IsReadAs}
use Rattle.lt_typed_nodes.specs.Coming.{ComesToIt, WhatIsComeToIsKnown}
use Rattle.lt_typed_nodes.proofs.FoundFacts.{expressions_are_known}
use Rattle.lt_typed_nodes.proofs.Constants.{constants_stay, noted_as}
use Rattle.lt_typed_nodes.proofs.OperandTypes.{operands_have_their_types}

with_constant : (role : Use) (x y : Typed) → x ≡ used role y → StaysConstant x.constancy x.erased → StaysConstant x.constancy y.erased
with_constant role x y is stays =
    subst (λ x. StaysConstant x.constancy y.erased) (sym is) (noted_as role y (subst (λ x. StaysConstant x.constancy x.erased) is stays))

found_there : (facts : List Fact) (known : Known) (role : Use) (it : c.Expression) (there : ComesToIt facts known role it)
    → (y : Typed) × (there.found ≡ used role y) × (fact_among facts known.next ≡ Some (fact_of known.next y)) × StaysConstant there.found.constancy y.erased
found_there facts known role it there =
    let at = expressions_are_known it role known there.behind there.found there.later there.begun there.goes in (
      at.0,
      at.1,
      subst (λ list. fact_among list known.next ≡ Some (fact_of known.next at.0)) (sym there.are) at.2,
      with_constant role there.found at.0 at.1 (constants_stay it role known there.behind there.found there.goes),
    )

typed_there : PartsAreNumbered → (facts : List Fact) (known : Known) (it : c.Expression) (there : ComesToIt facts known as_value it)
    → (fact : Fact) × (fact_among facts (value_part known.next it).number ≡ Some fact) × IsReadAs fact.type (own_type there.found)
typed_there numbered facts known it there =
    subst (λ list. (fact : Fact) × (fact_among list (value_part known.next it).number ≡ Some fact) × IsReadAs fact.type (own_type there.found)) (sym there.are)
    (operands_have_their_types numbered it known there.behind there.found there.later there.begun there.goes)

pub what_is_come_to_is_known : PartsAreNumbered → WhatIsComeToIsKnown
what_is_come_to_is_known numbered = (found_there, typed_there numbered)
