use Rattle.std.proofs.Common.{map, ap, ◌∙◌}
use Rattle.std.specs.List.{flat_map}
use Rattle.lt_tree.specs.Typing.EntityView.{structs_of, object_of, declared_of, fact_of}
use Rattle.lt_tree.specs.Typing.Programs.{made_of, types_of_struct, with_new}
use Rattle.lt_unit.specs.Listing.{types_at}
use Rattle.lt_unit.specs.ListedTypes.{types_in_all}
use Rattle.lt_unit.proofs.Listings.{lists_then}
use Rattle.lt_unit.proofs.listed.listed_types.Goals as goal

pub returns-clause-listed : goal.returns-clause-listed
returns-clause-listed c =
    (lists_then _ (flat_map (λ fact. made_of fact.type) (map (fact_of (types_at c.args.types.now)) c.args.facts.now))
    (lists_then _ (flat_map (λ f. made_of f.type) (map (declared_of (types_at c.args.types.now)) c.args.declared.now))
    (lists_then (flat_map types_of_struct (structs_of (types_at c.args.types.now) c.args.structs.now)) (flat_map (λ object. made_of object.type) (map (object_of (types_at c.args.types.now)) c.args.objects.now)) c.in_ok-list_structs.ensures c.in_ok-list_objects.ensures)
    c.in_ok-list_declared.ensures)
    c.in_ok-list_facts.ensures).listed
    ∙ ap (λ l. with_new l (types_in_all (types_at c.args.types.now) c.args.structs.now c.args.objects.now c.args.declared.now c.args.facts.now)) c.in_ok-listed.ensures.none

pub returns-clause-rows : goal.returns-clause-rows
returns-clause-rows c = c.in_ok-list_facts.ensures.listing.marked.rows
