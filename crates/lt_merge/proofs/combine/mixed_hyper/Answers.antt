use Rattle.std.proofs.Common.{◌∙◌, ap, map}
use Rattle.lt_merge.specs.Keys.{key_of}
use Rattle.lt_merge.proofs.Merging.{hyper_keys_rise}
use Rattle.lt_merge.proofs.combine.mixed_hyper.Goals as goal

pub first_mixed-requires-clause-first : goal.first_mixed-requires-clause-first
first_mixed-requires-clause-first c = hyper_keys_rise c.args.a.now (map key_of c.as_slice.result.now) (ap (map key_of) c.as_slice.ensures.value ∙ c.in_ok-left.ensures) c.requires.first

pub first_mixed-requires-clause-second : goal.first_mixed-requires-clause-second
first_mixed-requires-clause-second c = hyper_keys_rise c.args.b.now (map key_of c.as_slice-2.result.now) (ap (map key_of) c.as_slice-2.ensures.value ∙ c.in_ok-right.ensures) c.requires.second
