use Rattle.std.proofs.Common.{refl}
use Rattle.lt_tree.specs.Typing.Types.{Void}
use Rattle.lt_tables.proofs.NumbersKept.{id_exact}
use Rattle.lt_tables.proofs.bare_types.BareTypes.void.Goals as goal

pub returns : goal.returns
returns c = let it = c.args.self.now in id_exact it.rows Void it.void.id it.void.id refl it.void_holds
