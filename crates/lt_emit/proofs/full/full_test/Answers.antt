use Rattle.std.proofs.Common.{not}
use Rattle.lt_tree.specs.Typing.ValueView.{value_of}
use Rattle.lt_emit.specs.Emission.{site_in}
use Rattle.lt_emit.proofs.Footprints.{inside_within, test_is_full}
use Rattle.lt_emit.proofs.Spent.{fitting}
use Rattle.lt_emit.proofs.full.full_test.Goals as goal

pub returns : goal.returns
returns c =
    inside_within (not c.is_of.result) c.test-code.ensures (λ from here it p known.
    test_is_full (site_in here it) (value_of here.types c.args.v.now) _ _ _ _ c.is_of.result (c.is_of.ensures here.types) (p known)) (λ here. grind fitting)
