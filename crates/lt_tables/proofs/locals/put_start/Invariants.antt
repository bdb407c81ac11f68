use Rattle.std.proofs.Common.{◌≡◌, ◌++◌, map, take}
use Rattle.lt_tables.proofs.locals.put_start.Given as goal

abbrev pub invariant-loop-local : goal.invariant-loop-local
invariant-loop-local l = l.locals.items ≡ l.initial.locals.items ++ map (λ local. local.object) (take l.local-index l.local-items)
