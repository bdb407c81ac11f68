use Rattle.lt_unit.proofs.Units.{none_added}
use Rattle.lt_unit.proofs.external.add_defined.Goals as goal

pub returns-in-Declaration : goal.returns-in-Declaration
returns-in-Declaration c = rw c.in-Declaration.is (none_added c.args.all.now)

pub returns-in-Function : goal.returns-in-Function
returns-in-Function c = rw c.in-Function.is c.add_name.ensures
