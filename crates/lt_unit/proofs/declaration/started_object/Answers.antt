use Rattle.std.proofs.Common.{None, ap, ◌∙◌}
use Rattle.lt_tree.specs.UnitView as source
use Rattle.lt_tree.specs.Typing.Steps.{Goes, ◌>>=◌, goes_on, gives}
use Rattle.lt_tree.specs.Typing.Entities.{type_of_object}
use Rattle.lt_tree.specs.Typing.Declaring.{length_faults}
use Rattle.lt_tree.specs.Typing.InitialiserTyping.{object_initialiser}
use Rattle.lt_tree.specs.Typing.DeclarationTyping as typing
use Rattle.lt_type.proofs.Sequences.{gives_then, gives_stops, gives_so, gives_itself, stopped}
use Rattle.lt_unit.specs.Inside.{start_end}
use Rattle.lt_unit.proofs.declaration.started_object.Goals as goal

pub returns-in-None : goal.returns-in-None
returns-in-None c =
    rw c.in-None.is (gives_so (λ types k. ap (λ l. Goes l k) (c.created.ensures types ∙ ap (λ b. typing.created b c.args.number None) c.is_static-is_there.ensures)) gives_itself)

pub returns-in_err-t-in-Some : goal.returns-in_err-t-in-Some
returns-in_err-t-in-Some c =
    rw c.in-Some.is (gives_so
    (λ types k. ap (λ b. goes_on (object_initialiser b (type_of_object k c.args.number) length_faults (source.initialiser_of c.in-Some.i) k) (λ it. start_end b c.args.number it)) c.is_static-is_there.ensures)
    (gives_stops (λ types t. object_initialiser c.is_static-is_there.result t length_faults (source.initialiser_of c.in-Some.i) >>= (λ it. start_end c.is_static-is_there.result c.args.number it)) c.in_err-t-in-Some.ensures (stopped c.from_residual.ensures)))

pub returns-in_err-started-in-Some : goal.returns-in_err-started-in-Some
returns-in_err-started-in-Some c =
    rw c.in-Some.is (gives_so
    (λ types k. ap (λ b. goes_on (object_initialiser b (type_of_object k c.args.number) length_faults (source.initialiser_of c.in-Some.i) k) (λ it. start_end b c.args.number it)) c.is_static-is_there.ensures)
    (gives_then (λ types t. object_initialiser c.is_static-is_there.result t length_faults (source.initialiser_of c.in-Some.i) >>= (λ it. start_end c.is_static-is_there.result c.args.number it)) c.in_ok-t-in-Some.ensures (
    gives_stops _ c.in_err-started-in-Some.ensures (stopped c.from_residual-in_err-started-in-Some.ensures))))

pub returns-in_ok-started-in-Some : goal.returns-in_ok-started-in-Some
returns-in_ok-started-in-Some c =
    rw c.in-Some.is (gives_so
    (λ types k. ap (λ b. goes_on (object_initialiser b (type_of_object k c.args.number) length_faults (source.initialiser_of c.in-Some.i) k) (λ it. start_end b c.args.number it)) c.is_static-is_there.ensures)
    (gives_then (λ types t. object_initialiser c.is_static-is_there.result t length_faults (source.initialiser_of c.in-Some.i) >>= (λ it. start_end c.is_static-is_there.result c.args.number it)) c.in_ok-t-in-Some.ensures (
    gives_then _ c.in_ok-started-in-Some.ensures c.end_start.ensures)))
