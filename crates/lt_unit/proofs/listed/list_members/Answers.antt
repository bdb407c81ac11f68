use Rattle.lt_tree.specs.Typing.EntityView.{member_of}
use Rattle.lt_tree.specs.Typing.Programs.{made_of}
use Rattle.lt_unit.specs.Listing.{types_at}
use Rattle.lt_unit.proofs.Listings.{item_listed, all_listed}
use Rattle.lt_unit.proofs.listed.list_members.Goals as goal

pub all-preserved : goal.all-preserved
all-preserved c = record {
  listing = c.in_ok-list.ensures.listing;
  listed = item_listed (λ member. made_of member.type) (member_of (types_at c.args.types.now)) c.args.types.now c.all.listed c.list.new.listed c.args.members.now c.all.member-index c.member-item.result _ _ c.all-test.true c.member-item.is c.all.invariant.listed
      c.in_ok-list.ensures;
}

pub returns : goal.returns
returns c = all_listed (λ member. made_of member.type) (member_of (types_at c.args.types.now)) c.args.types.now c.args.listed.now c.all.listed c.args.members.now c.all.member-index c.all-test.false c.all.invariant.listing c.all.invariant.listed
