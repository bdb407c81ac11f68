use Rattle.std.proofs.Common.{◌≡◌, ◌++◌}
use Rattle.lt_input_names.specs.Parts.{run}
use Rattle.lt_input_names.proofs.names.steps.put_run.Given as goal

abbrev pub invariant-loop-k : goal.invariant-loop-k
invariant-loop-k l = l.offsets.items ≡ l.fn.offsets.items ++ run l.first l.apart l.k
