use Rattle.std.proofs.Common.{◌≡◌, map, drop}
use Rattle.std.specs.List.{flat_map}
use Rattle.lt_tree.specs.Typing.EntityView.{struct_of}
use Rattle.lt_tree.specs.Typing.Programs.{types_of_struct, with_new}
use Rattle.lt_unit.specs.Listing.{IsListing, types_at, listed_in}
use Rattle.lt_unit.proofs.listed.list_structs.Given as goal

abbrev pub invariant-all : goal.invariant-all
invariant-all l = record {
  listing : IsListing l.types l.listed;
  listed : with_new (listed_in (types_at l.types) l.listed) (flat_map types_of_struct (map (struct_of (types_at l.types)) (drop l.it-index l.structs)))
      ≡ with_new (listed_in (types_at l.types) l.initial.listed) (flat_map types_of_struct (map (struct_of (types_at l.types)) l.structs));
}
