use Rattle.lt_unit.proofs.external.external.Goals as goal

pub returns-in-Function : goal.returns-in-Function
returns-in-Function c = rw c.in-Function.is c.definition.ensures

pub returns-in-Declaration : goal.returns-in-Declaration
returns-in-Declaration c = rw c.in-Declaration.is c.outer_declaration.ensures
