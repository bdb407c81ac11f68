use Rattle.std.proofs.Common.{◌≡◌, ℕ, take, map}
use Rattle.lt_model.specs.declared.input.StubSet.{StubSet}
use Rattle.lt_mach_parts.proofs.stubs.Stubs.new.Given as goal

abbrev pub invariant-loop-set : goal.invariant-loop-set
invariant-loop-set l = l.taken.items ≡ map (λ (it : StubSet). 0) (take l._set-index l.sets)
