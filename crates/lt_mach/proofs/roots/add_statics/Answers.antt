use Rattle.std.proofs.Common.{◌≡◌, ◌-◌, suc, get_or, ap, arith}
use Rattle.lt_mach.specs.Roots.{root_of}
use Rattle.lt_mach.proofs.Rooted.{one_static, puts_so}
use Rattle.lt_mach.proofs.roots.add_statics.Goals as goal

pub loop-place-preserved : goal.loop-place-preserved
loop-place-preserved c =
    let n : c.in-Ok.number ≡ c.loop-place.place - 1 = omega (arith, c.in-Ok.ensures) in
    let e : c.loop-place.place ≡ suc (c.loop-place.place - 1) = omega arith in
    let it = c.index-statics-place.result in
    record {
      within = omega arith;
      are = one_static c.args.statics.now (c.loop-place.place - 1) c.loop-place.place it c.loop-place.roots c.put.new.roots e c.loop-place.invariant.within c.loop-place.invariant.are
          (puts_so c.loop-place.roots c.put.new.roots (root_of (get_or c.args.statics.now (c.loop-place.place - 1) it).block c.in-Ok.number) (root_of (get_or c.args.statics.now (c.loop-place.place - 1) it).block (c.loop-place.place - 1)) (ap (root_of (get_or c.args.statics.now (c.loop-place.place - 1) it).block) n) c.in_ok-put.ensures);
    }
