use Rattle.std.proofs.Common.{◌≡◌, ◌-◌, suc, get_or, arith}
use Rattle.lt_mach.proofs.Rooted.{one_parameter, parameter_so}
use Rattle.lt_mach.proofs.roots.add_parameters.Goals as goal

pub loop-place-preserved : goal.loop-place-preserved
loop-place-preserved c =
    let n : c.in-Ok.number ≡ c.loop-place.place - 1 = omega (arith, c.in-Ok.ensures) in
    let e : c.loop-place.place ≡ suc (c.loop-place.place - 1) = omega arith in
    let it = c.index-params-place.result in
    record {
      within = omega arith;
      are = λ rest are. one_parameter c.args.scope.now c.args.params.now (c.loop-place.place - 1) c.loop-place.place it rest c.loop-place.roots c.put_parameter.new.roots e c.loop-place.invariant.within (c.loop-place.invariant.are rest are)
          (parameter_so c.loop-place.roots c.put_parameter.new.roots c.args.scope.now it (get_or c.args.params.now (c.loop-place.place - 1) it) c.in-Ok.number (c.loop-place.place - 1) c.index-params-place.is n c.in_ok-put_parameter.ensures);
    }
