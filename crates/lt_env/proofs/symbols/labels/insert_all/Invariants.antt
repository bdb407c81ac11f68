use Rattle.std.proofs.Common.{take}
use Rattle.lt_env.specs.NameMaps.{HasNames}
use Rattle.lt_env.proofs.symbols.labels.insert_all.Given as goal

abbrev pub invariant-loop-name : goal.invariant-loop-name
invariant-loop-name l = HasNames (take l.name-index l.names) l.fn.bound l.bound
