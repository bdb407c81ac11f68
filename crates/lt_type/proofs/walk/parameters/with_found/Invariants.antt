use Rattle.std.proofs.Common.{map}
use Rattle.lt_tree.specs.Typing.Steps.{Goes, gives}
use Rattle.lt_type.specs.Ends.{without_any}
use Rattle.lt_type.specs.Found.{found_of, with_all_found}
use Rattle.lt_declare.specs.DeclaredViews.{parameters_in}
use Rattle.lt_type.proofs.Turns.{Turning}
use Rattle.lt_type.proofs.ParameterTurns.{all_behind}
use Rattle.lt_type.proofs.walk.parameters.with_found.Given as goal

abbrev pub invariant-all : goal.invariant-all
invariant-all l = Turning l.fn.walker l.walker (λ types known. Goes (with_all_found (map (found_of types) l.fn.all.items) (without_any known)) known)
    (λ types known. Goes (all_behind (parameters_in types l.made) (map (found_of types) l.p-iterator.rest.items)) known) (λ types b. gives b)
