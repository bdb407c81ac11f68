use Rattle.lt_tree.specs.Typing.EntityView.{struct_of}
use Rattle.lt_tree.specs.Typing.Programs.{types_of_struct}
use Rattle.lt_unit.specs.Listing.{types_at}
use Rattle.lt_unit.proofs.Listings.{item_listed, all_listed}
use Rattle.lt_unit.proofs.listed.list_structs.Goals as goal

pub all-preserved : goal.all-preserved
all-preserved c = record {
  listing = c.in_ok-list_struct.ensures.listing;
  listed = item_listed types_of_struct (struct_of (types_at c.args.types.now)) c.args.types.now c.all.listed c.list_struct.new.listed c.args.structs.now c.all.it-index c.it-item.result _ _ c.all-test.true c.it-item.is c.all.invariant.listed
      c.in_ok-list_struct.ensures;
}

pub returns : goal.returns
returns c = all_listed types_of_struct (struct_of (types_at c.args.types.now)) c.args.types.now c.args.listed.now c.all.listed c.args.structs.now c.all.it-index c.all-test.false c.all.invariant.listing c.all.invariant.listed
