-- What of an input is judged in turn, and what it means that it meets its specification.
use Rattle.std.proofs.Common.{◌≡◌, true, sym}
use Rattle.std.specs.List.{list_all}
use Rattle.lt_model.specs.declared.input.Input.{Input}
use Rattle.lt_model.specs.declared.input.Spec.{Spec}
use Rattle.lt_model.specs.declared.input.StubRange.{StubRange}
use Rattle.lt_model.specs.declared.input.StubSet.{StubSet}
use Rattle.lt_entry.specs.Meeting.{held, is_wanted, keeps_range}
use Rattle.lt_entry.specs.Inputs.{IsBounded}
use Rattle.lt_input_values.specs.Bounds.{HaveNumbers64}
use Rattle.lt_input_values.proofs.Numbers.{numbers_64}
use Rattle.lt_input_values.proofs.Swaps.{all_swap}

pub have_numbers : (spec : Spec) (input : Input) → IsBounded spec → list_all (λ cell. is_wanted cell.want (held input cell)) spec.cells ≡ true → HaveNumbers64 spec input
have_numbers spec input bounded h = numbers_64 spec input bounded.ranges h

-- Values are asked after one by one in place of range by range.
pub stubs_swapped : (spec : Spec) (input : Input) → list_all (λ it. list_all (λ range. keeps_range range it) spec.stubs) input.stubs ≡ list_all (λ range. list_all (keeps_range range) input.stubs) spec.stubs
stubs_swapped spec input = sym (all_swap (λ (range : StubRange) (it : StubSet). keeps_range range it) spec.stubs input.stubs)
