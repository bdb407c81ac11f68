-- What the call on a parser gives that reads a unit.
use Rattle.std.specs.Prelude.{◌≡◌, map, Option, Some, Result, Ok, Err}
use Rattle.std.specs.Global.{Vec}
use Rattle.lt_tree.specs.declared.stop.Stop.{Stop}
use Rattle.lt_tree.specs.declared.unit.External.{External}
use Rattle.lt_tree.specs.Tree as c
use Rattle.lt_tree.specs.UnitView.{external_of}
use Rattle.lt_expr.specs.Front.{Rest}
use Rattle.lt_expr.specs.Parsing.{Parsing, rest_of, Fails}

-- The externals, and what is left then, are what reading gives, unless memory ran out.
abbrev pub GivesUnit : Parsing → Parsing → Result (Vec External) Stop → Option (c.Unit × Rest) → Type 0
GivesUnit before after (Ok xs) read = read ≡ Some (map external_of xs.items, rest_of after)
GivesUnit before after (Err stop) read = Fails stop read
