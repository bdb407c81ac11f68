use Rattle.std.proofs.Common.{false, None, refl, get_or}
use Rattle.lt_tree.specs.declared.typed.constancy.Constancy.TheVariants as constancy
use Rattle.lt_tree.specs.declared.typed.entity.Fact.{Fact}
use Rattle.lt_tree.specs.Typing.EntityView.{fact_of}
use Rattle.lt_tree.specs.Typing.Programs.{made_of}
use Rattle.lt_unit.specs.Listing.{types_at}
use Rattle.lt_unit.proofs.Listings.{item_listed, all_listed}
use Rattle.lt_unit.proofs.listed.list_facts.Goals as goal

-- what a list gives past its end
abbrev spare : Fact
spare = record { node = 0; ty = record { place = 0 }; is_place = false; constancy = constancy.Varying; object = None }

pub all-preserved : goal.all-preserved
all-preserved c = record {
  listing = c.in_ok-list.ensures.listing;
  listed = item_listed (λ fact. made_of fact.type) (fact_of (types_at c.args.types.now)) c.args.types.now c.all.listed c.list.new.listed c.args.facts.now c.all.fact-index (get_or c.args.facts.now c.all.fact-index spare) spare _ c.all-test.true refl c.all.invariant.listed
      c.in_ok-list.ensures;
}

pub returns : goal.returns
returns c = all_listed (λ fact. made_of fact.type) (fact_of (types_at c.args.types.now)) c.args.types.now c.args.listed.now c.all.listed c.args.facts.now c.all.fact-index c.all-test.false c.all.invariant.listing c.all.invariant.listed
