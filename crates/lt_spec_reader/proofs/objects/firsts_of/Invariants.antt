use Rattle.std.proofs.Common.{◌≡◌, map, take}
use Rattle.std.specs.List.{filter}
use Rattle.lt_spec_reader.specs.Objects.{is_first_life}
use Rattle.lt_spec_reader.proofs.objects.firsts_of.Given as goal

abbrev pub invariant-loop-object : goal.invariant-loop-object
invariant-loop-object l = map (λ it. it.now) l.firsts.items ≡ filter (λ it. is_first_life it.life) (take l.object-index l.objects)
