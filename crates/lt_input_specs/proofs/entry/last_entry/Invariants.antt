use Rattle.std.proofs.Common.{◌≡◌, ℕ, ◌<◌, ◌≤◌, false, length}
use Rattle.lt_tree.specs.Typing.ProgramView.{program_of}
use Rattle.lt_entry.specs.Conditions.{may_be_entry}
use Rattle.lt_input_specs.proofs.entry.last_entry.Given as goal

abbrev pub invariant-functions : goal.invariant-functions
invariant-functions l = record {
  left : l.left ≤ length l.kinds.program.now.functions.items;
  none : (k : ℕ) → l.left ≤ k → k < length l.kinds.program.now.functions.items → may_be_entry (program_of l.kinds.program.now) k ≡ false;
}

abbrev pub decreases-functions : goal.decreases-functions
decreases-functions l = l.left
