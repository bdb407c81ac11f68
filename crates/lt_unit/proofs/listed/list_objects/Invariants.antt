use Rattle.std.proofs.Common.{◌≡◌, map, drop}
use Rattle.std.specs.List.{flat_map}
use Rattle.lt_tree.specs.Typing.EntityView.{object_of}
use Rattle.lt_tree.specs.Typing.Programs.{made_of, with_new}
use Rattle.lt_unit.specs.Listing.{IsListing, types_at, listed_in}
use Rattle.lt_unit.proofs.listed.list_objects.Given as goal

abbrev pub invariant-all : goal.invariant-all
invariant-all l = record {
  listing : IsListing l.types l.listed;
  listed : with_new (listed_in (types_at l.types) l.listed) (flat_map (λ object. made_of object.type) (map (object_of (types_at l.types)) (drop l.object-index l.objects)))
      ≡ with_new (listed_in (types_at l.types) l.initial.listed) (flat_map (λ object. made_of object.type) (map (object_of (types_at l.types)) l.objects));
}
