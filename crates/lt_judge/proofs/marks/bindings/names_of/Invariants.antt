use Rattle.std.proofs.Common.{◌≡◌}
use Rattle.std.specs.Prelude.{map}
use Rattle.lt_judge.proofs.marks.bindings.names_of.Given as goal

abbrev pub invariant-bound : goal.invariant-bound
invariant-bound l = l.names.items ≡ map (λ p. p.0.now.name) l.yielded
