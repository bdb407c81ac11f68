use Rattle.std.proofs.Common.{◌≡◌, ◌-◌}
use Rattle.lt_entry.specs.Naming.{is_pointed}
use Rattle.lt_input_names.specs.Blocks.{base_of, pointers}
use Rattle.lt_input_names.specs.Views.{types_at}
use Rattle.lt_input_names.proofs.names.Names.is_behind.Given as goal

abbrev pub invariant-turns : goal.invariant-turns
invariant-turns l =
    is_pointed (base_of (types_at l.self) l.fn.it) (pointers l.fn.depth (base_of (types_at l.self) l.base)) ≡ is_pointed (base_of (types_at l.self) l.inner) (pointers (l.fn.depth - l._turn) (base_of (types_at l.self) l.base))
