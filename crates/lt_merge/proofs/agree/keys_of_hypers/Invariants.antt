use Rattle.std.proofs.Common.{◌≡◌, map, take}
use Rattle.lt_cover.specs.Coverage.Merge.{hyper_keys}
use Rattle.lt_merge.specs.Keys.{key_of}
use Rattle.lt_merge.proofs.agree.keys_of_hypers.Given as goal

abbrev pub invariant-loop-hyper : goal.invariant-loop-hyper
invariant-loop-hyper l = map key_of l.keys.items ≡ hyper_keys (take l.hyper-index l.hypers)
