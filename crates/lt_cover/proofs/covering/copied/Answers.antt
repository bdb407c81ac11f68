use Rattle.std.proofs.Common.{get_or}
use Rattle.std.proofs.lemmas.List.{get_or_default}
use Rattle.lt_cover.proofs.Rising.{now_of, none}
use Rattle.lt_cover.proofs.Loops.{more_mapped, all_mapped}
use Rattle.lt_cover.proofs.covering.copied.Goals as goal

pub loop-name-preserved : goal.loop-name-preserved
loop-name-preserved c =
    let names = c.args.names.now in
    let i = c.loop-name.name-index in
    let name = get_or names i none in
    more_mapped now_of _ _ names i name _ c.loop-name-test.true (get_or_default names i none name c.loop-name-test.true) c.loop-name.invariant c.in_ok-new.ensures c.in_ok-push.ensures.items

pub returns : goal.returns
returns c = all_mapped now_of _ _ _ c.loop-name-test.false c.loop-name.invariant
