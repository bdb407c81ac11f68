-- A call at the end of a function gives what the function has to give.
use Rattle.std.proofs.Common.{◌≡◌, Option, Result, Ok, Err, ◌∙◌}
use Rattle.lt_tree.specs.declared.stop.Stop.{Stop}
use Rattle.lt_tree.specs.declared.stop.Stop.TheVariants.{NotOfForm, NoMemory}
use Rattle.lt_expr.specs.Front.{Rest}
use Rattle.lt_expr.specs.Parsing.{Parsing, GoesOn, Gives}
use Rattle.lt_expr.proofs.Turns.{goes_on}

pub gives_on : {X Y : Type 0} (view : X → Y) (before at later : Parsing) (result : Result X Stop) (read read' : Option (Y × Rest))
    → GoesOn before at → read ≡ read' → Gives view at later result read' → Gives view before later result read
gives_on view before at later (Ok x) read read' on is gives = (is ∙ gives.0, goes_on before at later on gives.1)
gives_on view before at later (Err NotOfForm) read read' on is gives = is ∙ gives
gives_on view before at later (Err NoMemory) read read' on is gives = tt
