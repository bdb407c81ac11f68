use Rattle.std.proofs.Common.{◌≡◌, ◌++◌}
use Rattle.std.specs.Prelude.{flat_map}
use Rattle.lt_spec_reader.specs.Objects.{freed_by}
use Rattle.lt_spec_reader.proofs.objects.Lookups.put_objects.Given as goal

abbrev pub invariant-object : goal.invariant-object
invariant-object l = l.cells.items ≡ l.initial.cells.items ++ flat_map (λ p. freed_by l.self p.0.now.now p.1.now) l.yielded
