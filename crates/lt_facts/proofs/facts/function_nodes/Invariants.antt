use Rattle.std.proofs.Common.{◌≡◌, ◌++◌, map, drop}
use Rattle.lt_facts.proofs.facts.function_nodes.Given as goal

abbrev pub invariant-loop-function : goal.invariant-loop-function
invariant-loop-function l = l.nodes.items ++ map (λ function. function.node) (drop l.function-index l.functions) ≡ map (λ function. function.node) l.functions
