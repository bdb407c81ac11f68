use Rattle.std.proofs.Common.{take}
use Rattle.std.specs.Prelude.{◌<◌, All}
use Rattle.ltest.proofs.annotations.bytes_are_small.Given as goal

abbrev pub invariant-bytes : goal.invariant-bytes
invariant-bytes l = All (λ b. b < 256) (take l.byte-index l.text)
