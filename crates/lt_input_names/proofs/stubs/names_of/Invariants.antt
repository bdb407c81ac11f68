use Rattle.std.proofs.Common.{◌≡◌, take, List, ℕ}
use Rattle.std.specs.List.{list_any}
use Rattle.std.specs.Str.{bytes_eq}
use Rattle.lt_input_names.specs.Stubs.{has_name}
use Rattle.lt_input_names.proofs.stubs.names_of.Given as goal

abbrev pub invariant-loop-function : goal.invariant-loop-function
invariant-loop-function l = (name : List ℕ) → has_name l.names name ≡ list_any (λ f. bytes_eq f.name name) (take l.function-index l.functions)
