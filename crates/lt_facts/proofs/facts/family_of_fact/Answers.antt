use Rattle.std.proofs.Common.{◌≡◌, ◌∙◌, sym, ap, map, slice_index_or, Some}
use Rattle.std.specs.Prelude.{option_map}
use Rattle.lt_tree.specs.Typing.Types.{Void}
use Rattle.lt_tree.specs.Typing.TypeRows.{types_of_rows}
use Rattle.lt_tree.specs.Typing.EntityView.{fact_of}
use Rattle.lt_facts.specs.declared.types.Family.TheVariants as F
use Rattle.lt_facts.specs.Indices.{at_place}
use Rattle.lt_facts.specs.Families.{family}
use Rattle.lt_facts.specs.Facts.{type_of_fact}
use Rattle.lt_facts.proofs.Maps.{at_place-map}
use Rattle.lt_facts.proofs.TypeFamilies.{at_map}
use Rattle.lt_facts.proofs.facts.family_of_fact.Goals as goal

pub returns-in-Some : goal.returns-in-Some
returns-in-Some c =
    let program = c.args.program.now in
    let types = types_of_rows program.table.items in
    let fact = c.in-Some.fact in
    let found : Some (fact_of types fact) ≡ at_place (map (fact_of types) program.facts.items) c.args.index =
    ap (option_map (fact_of types)) c.in-Some.ensures ∙ sym (at_place-map (fact_of types) program.facts.items c.args.index) in
    c.family_at.ensures
    ∙ ap (λ families. slice_index_or families fact.ty.place F.Other) c.requires
    ∙ at_map (family program.model) types fact.ty.place Void
    ∙ ap (λ fact. family program.model (type_of_fact fact)) found
