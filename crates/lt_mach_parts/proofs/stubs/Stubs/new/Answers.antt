use Rattle.std.proofs.Common.{◌∙◌, ap, ℕ, map, take_all}
use Rattle.lt_model.specs.declared.input.StubSet.{StubSet}
use Rattle.lt_mach_parts.specs.Stubs.{lefts_after}
use Rattle.lt_mach_parts.proofs.Placed.{all_left}
use Rattle.lt_mach_parts.proofs.stubs.Stubs.new.Goals as goal

pub returns : goal.returns
returns c = ap (lefts_after c.args.sets.now) (c.loop-set.invariant ∙ ap (map (λ (it : StubSet). 0)) (take_all c.loop-set._set-index c.args.sets.now c.loop-set-test.false)) ∙ all_left c.args.sets.now
