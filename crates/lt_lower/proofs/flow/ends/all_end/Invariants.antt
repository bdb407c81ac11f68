use Rattle.std.proofs.Common.{◌*◌, map, drop}
use Rattle.lt_tree.specs.Typing.StatementView.{local_of}
use Rattle.lt_code.specs.Bodies.{Exits}
use Rattle.lt_code.specs.Costs.{alone}
use Rattle.lt_emit.specs.Spending.{Spends}
use Rattle.lt_emit.specs.Emission.{site_in, Adds}
use Rattle.lt_lower.specs.Stands.{HasExits, exits_in, all_end}
use Rattle.lt_lower.proofs.flow.ends.all_end.Given as goal

-- what ends the objects that are left ends them all
abbrev pub invariant-objects : goal.invariant-objects
invariant-objects l =
    record {
      adds : Adds l.fn.b l.b (λ here it. (last : Exits)
          → all_end (site_in here it) (map (local_of here.types) (drop l.it-index l.its)) last (exits_in it l.inner)
          → all_end (site_in here it) (map (local_of here.types) l.its) last (exits_in it l.fn.outer));
      spends : Spends (alone (5 * l.it-index)) l.fn.b l.b;
      within : HasExits l.b l.inner;
    }
