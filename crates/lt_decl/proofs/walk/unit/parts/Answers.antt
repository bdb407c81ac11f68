use Rattle.lt_decl.proofs.WalkRows.{ok_then, function_walked, declaration_walked}
use Rattle.lt_decl.proofs.walk.unit.parts.Goals as goal

pub returns-in-Function : goal.returns-in-Function
returns-in-Function c = ok_then _ _ c.function.ensures (function_walked c.args.x.now c.in-Function.f c.args.walker.now c.in-Function.is)

pub returns-in-Declaration : goal.returns-in-Declaration
returns-in-Declaration c = ok_then _ _ c.declaration.ensures (declaration_walked c.args.x.now c.in-Declaration.given c.args.walker.now c.in-Declaration.is)
