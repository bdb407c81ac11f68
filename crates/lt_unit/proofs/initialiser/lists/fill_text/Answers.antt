use Rattle.std.proofs.Common.{ap, ◌∙◌}
use Rattle.lt_tree.specs.Typing.Rules.{broken_if, bad_initialiser}
use Rattle.lt_tree.specs.Typing.TypeRows.{type_in}
use Rattle.lt_tree.specs.Typing.Filling.{is_too_long_for, letters_of}
use Rattle.lt_env.proofs.Goings.{as_long}
use Rattle.lt_type.proofs.Sequences.{gives_then, gives_stops, gives_made, stopped}
use Rattle.lt_type.proofs.Turns.{lacks_memory}
use Rattle.lt_unit.specs.Fillings.{filling_in, with_part}
use Rattle.lt_env.proofs.Judgements.{widens_none}
use Rattle.lt_unit.proofs.Lasting.{settled}
use Rattle.lt_unit.proofs.initialiser.lists.fill_text.Goals as goal

pub returns-in_err-literal_alone : goal.returns-in_err-literal_alone
returns-in_err-literal_alone c = gives_stops _ c.in_err-literal_alone.ensures (stopped c.from_residual.ensures)

pub returns-in_err-faults : goal.returns-in_err-faults
returns-in_err-faults c = gives_then _ c.in_ok-literal_alone.ensures (lacks_memory (as_long _) (stopped c.from_residual-in_err-faults.ensures))

pub returns-in_err-settle : goal.returns-in_err-settle
returns-in_err-settle c =
    gives_then _ c.in_ok-literal_alone.ensures
    (gives_stops _ (settled c.args.node (λ types. broken_if bad_initialiser (is_too_long_for (type_in types c.args.part.ty) c.args.bytes.now)) c.in_ok-faults.ensures c.in_err-settle.ensures.gives) (stopped c.from_residual-in_err-settle.ensures))

pub returns-in_err-made : goal.returns-in_err-made
returns-in_err-made c =
    gives_then _ c.in_ok-literal_alone.ensures
    (gives_then _ (settled c.args.node (λ types. broken_if bad_initialiser (is_too_long_for (type_in types c.args.part.ty) c.args.bytes.now)) c.in_ok-faults.ensures c.in_ok-settle.ensures.gives) (lacks_memory (as_long _) (stopped c.from_residual-in_err-made.ensures)))

pub returns-in_err-with_part : goal.returns-in_err-with_part
returns-in_err-with_part c =
    gives_then _ c.in_ok-literal_alone.ensures
    (gives_then _ (settled c.args.node (λ types. broken_if bad_initialiser (is_too_long_for (type_in types c.args.part.ty) c.args.bytes.now)) c.in_ok-faults.ensures c.in_ok-settle.ensures.gives) (lacks_memory (as_long _) (stopped c.from_residual-in_err-with_part.ensures)))

pub returns : goal.returns
returns c =
    gives_then _ c.in_ok-literal_alone.ensures
    (gives_then _ (settled c.args.node (λ types. broken_if bad_initialiser (is_too_long_for (type_in types c.args.part.ty) c.args.bytes.now)) c.in_ok-faults.ensures c.in_ok-settle.ensures.gives)
    (gives_made (λ types known. with_part (letters_of c.args.part.offset (type_in types c.args.part.ty) c.args.bytes.now) (filling_in types c.args.filling)) widens_none
    (λ types h. c.in_ok-with_part.ensures types ∙ ap (λ part. with_part part (filling_in types c.args.filling)) (c.in_ok-made.ensures types h))))
