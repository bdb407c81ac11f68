use Rattle.std.proofs.Common.{◌≡◌, true, List, map, take}
use Rattle.std.specs.List.{list_all}
use Rattle.lt_entry.specs.Lines.{Row}
use Rattle.lt_entry.specs.Conditions.{is_free}
use Rattle.lt_input_names.specs.declared.names.Names.{Names}
use Rattle.lt_input_names.specs.Views.{scope_of, named_at}
use Rattle.lt_spec_reader.specs.Frees.{AreFree}
use Rattle.lt_spec_reader.proofs.unfree.are_free.Given as goal

abbrev pub invariant-loop-part : goal.invariant-loop-part
invariant-loop-part l = (names : Names) (rows : List Row) → AreFree (scope_of names) rows l.free → list_all (is_free (scope_of names) rows) (map (named_at names) (take l.part-index l.parts)) ≡ true
