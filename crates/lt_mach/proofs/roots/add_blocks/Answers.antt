use Rattle.std.proofs.Common.{◌≡◌, ◌-◌, suc, get_or, ap, arith}
use Rattle.lt_model.specs.declared.input.BlockIn.{BlockIn}
use Rattle.lt_mach.specs.Roots.{root_of}
use Rattle.lt_mach.proofs.Rooted.{one_block, puts_so}
use Rattle.lt_mach.proofs.roots.add_blocks.Goals as goal

pub loop-place-preserved : goal.loop-place-preserved
loop-place-preserved c =
    let e : c.loop-place.place ≡ suc (c.loop-place.place - 1) = omega arith in
    let it = c.index-blocks-place.result in
    record {
      within = omega arith;
      are = λ rest are. one_block c.args.blocks.now c.args.first (c.loop-place.place - 1) c.loop-place.place c.in-Some.number it rest c.loop-place.roots c.put.new.roots e c.loop-place.invariant.within c.in-Some.ensures (c.loop-place.invariant.are rest are)
          (puts_so c.loop-place.roots c.put.new.roots (root_of it c.in-Some.number) (root_of (get_or c.args.blocks.now (c.loop-place.place - 1) it) c.in-Some.number) (ap (λ (b : BlockIn). root_of b c.in-Some.number) c.index-blocks-place.is) c.in_ok-put.ensures);
    }
