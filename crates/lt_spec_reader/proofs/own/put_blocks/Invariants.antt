use Rattle.std.proofs.Common.{◌≡◌, ℕ, List, take}
use Rattle.std.specs.Prelude.{◌||◌}
use Rattle.std.specs.List.{list_any}
use Rattle.std.specs.Str.{bytes_eq}
use Rattle.lt_input_names.specs.Stubs.{has_name}
use Rattle.lt_spec_reader.proofs.own.put_blocks.Given as goal

abbrev pub invariant-loop-it : goal.invariant-loop-it
invariant-loop-it l = (name : List ℕ) → has_name l.own name ≡ (has_name l.initial.own name || list_any (λ it. bytes_eq it.name name) (take l.it-index l.blocks))
