use Rattle.std.proofs.Common.{◌≡◌, map, drop}
use Rattle.std.specs.List.{flat_map}
use Rattle.lt_tree.specs.Typing.EntityView.{fact_of}
use Rattle.lt_tree.specs.Typing.Programs.{made_of, with_new}
use Rattle.lt_unit.specs.Listing.{IsListing, types_at, listed_in}
use Rattle.lt_unit.proofs.listed.list_facts.Given as goal

abbrev pub invariant-all : goal.invariant-all
invariant-all l = record {
  listing : IsListing l.types l.listed;
  listed : with_new (listed_in (types_at l.types) l.listed) (flat_map (λ fact. made_of fact.type) (map (fact_of (types_at l.types)) (drop l.fact-index l.facts)))
      ≡ with_new (listed_in (types_at l.types) l.initial.listed) (flat_map (λ fact. made_of fact.type) (map (fact_of (types_at l.types)) l.facts));
}
