use Rattle.std.proofs.Common.{◌≡◌, ◌*◌, ◌^◌, drop, ◌+ℤ◌}
use Rattle.std.specs.Prelude.{option_map}
use Rattle.lt_entry.specs.Meeting.{sum_of}
use Rattle.lt_input_values.specs.Bounds.{IsWithin}
use Rattle.lt_input_values.proofs.needs.sum_of.Given as goal

abbrev pub invariant-loop-term : goal.invariant-loop-term
invariant-loop-term l = record {
  within : IsWithin (l.term-index * 2 ^ 95) l.sum;
  rest : sum_of l.finder.spec.now l.finder.input.now l.terms ≡ option_map (λ sum. l.sum +ℤ sum) (sum_of l.finder.spec.now l.finder.input.now (drop l.term-index l.terms));
}
