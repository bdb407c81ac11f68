use Rattle.std.proofs.Common.{refl, ap, ◌∙◌}
use Rattle.lt_tree.specs.Typing.Specifying as typing
use Rattle.lt_env.specs.Going.{answering, known_of}
use Rattle.lt_declare.specs.DeclaredViews.{members_in, open_struct_of}
use Rattle.lt_declare.specs.Declaring.{closed}
use Rattle.lt_declare.proofs.Steps.{gives_as, gives_then}
use Rattle.lt_declare.proofs.StructsClosed.{closing_is}
use Rattle.lt_declare.proofs.structs.close_struct.Goals as goal

pub returns : goal.returns
returns c =
    gives_as (gives_then (λ types _. answering (closed c.args.opened.number c.in_ok-faults.faults)) c.in_ok-complete.ensures c.closed.ensures)
    (λ types. closing_is c.args.opened.number (members_in types c.into_list-members.result.items) (members_in types c.args.members) (open_struct_of types c.args.opened) c.in_ok-faults.faults (known_of types c.args.walker.now)
    (ap (members_in types) c.into_list-members.ensures) refl
    (c.in_ok-faults.ensures types ∙ ap (λ list. typing.struct_faults (known_of types c.args.walker.now) (open_struct_of types c.args.opened) (members_in types list)) (c.deref.ensures.value ∙ c.into_list-members.ensures)))
