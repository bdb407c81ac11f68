use Rattle.std.proofs.Common.{suc, [], ◌∷◌, ◌++◌, length, true, ap, ◌∙◌}
use Rattle.lt_tree.specs.Typing.TypeRows.{type_in}
use Rattle.lt_tree.specs.Typing.Rules.{broken_if, bad_initialiser}
use Rattle.lt_tree.specs.Typing.Steps.{◌>>◌, gives, settle}
use Rattle.lt_tree.specs.Typing.Declaring.{length_faults}
use Rattle.lt_tree.specs.Typing.Filling.{is_too_long_for, letters_of}
use Rattle.lt_tree.specs.Typing.InitialiserTyping.{with_length, started}
use Rattle.lt_env.specs.Going.{known_of}
use Rattle.lt_env.proofs.Goings.{as_long}
use Rattle.lt_type.proofs.Sequences.{gives_then, gives_stops, gives_made, stopped}
use Rattle.lt_type.proofs.Turns.{lacks_memory}
use Rattle.lt_env.proofs.Judgements.{widens_none}
use Rattle.lt_unit.proofs.FillingWalks.{knows_itself, knows_on, judged_then}
use Rattle.lt_unit.proofs.initialiser.whole.end_of_text.Goals as goal

pub returns-in_err-ty : goal.returns-in_err-ty
returns-in_err-ty c = lacks_memory c.with_length.ensures.widens.grows (stopped c.from_residual.ensures)

pub returns-in_err-faults : goal.returns-in_err-faults
returns-in_err-faults c = lacks_memory c.with_length.ensures.widens.grows (stopped c.from_residual-in_err-faults.ensures)

pub returns-in_err-settle : goal.returns-in_err-settle
returns-in_err-settle c =
    judged_then {s0 = c.args.walker.now} (λ types known. broken_if bad_initialiser (is_too_long_for (type_in types c.args.t) c.args.bytes.now) ++ length_faults known (with_length (type_in types c.args.t) (suc (length c.args.bytes.now))))
    (λ types faults. settle c.args.node faults >> gives (started true (letters_of 0 (type_in types c.args.t) c.args.bytes.now ∷ []) (with_length (type_in types c.args.t) (suc (length c.args.bytes.now)))))
    c.with_length.ensures.widens
    (λ types h.
    c.in_ok-faults.ensures types h (known_of types c.args.walker.now) (knows_on c.with_length.ensures.widens (knows_itself types c.args.walker.now))
    ∙ ap (λ t. broken_if bad_initialiser (is_too_long_for (type_in types c.args.t) c.args.bytes.now) ++ length_faults (known_of types c.args.walker.now) t)
    (c.in_ok-ty.ensures.made types h ∙ ap (with_length (type_in types c.args.t)) c.text_length.ensures))
    (gives_stops _ c.in_err-settle.ensures.gives (stopped c.from_residual-in_err-settle.ensures))

pub returns-in_err-part : goal.returns-in_err-part
returns-in_err-part c =
    judged_then {s0 = c.args.walker.now} (λ types known. broken_if bad_initialiser (is_too_long_for (type_in types c.args.t) c.args.bytes.now) ++ length_faults known (with_length (type_in types c.args.t) (suc (length c.args.bytes.now))))
    (λ types faults. settle c.args.node faults >> gives (started true (letters_of 0 (type_in types c.args.t) c.args.bytes.now ∷ []) (with_length (type_in types c.args.t) (suc (length c.args.bytes.now)))))
    c.with_length.ensures.widens
    (λ types h.
    c.in_ok-faults.ensures types h (known_of types c.args.walker.now) (knows_on c.with_length.ensures.widens (knows_itself types c.args.walker.now))
    ∙ ap (λ t. broken_if bad_initialiser (is_too_long_for (type_in types c.args.t) c.args.bytes.now) ++ length_faults (known_of types c.args.walker.now) t)
    (c.in_ok-ty.ensures.made types h ∙ ap (with_length (type_in types c.args.t)) c.text_length.ensures))
    (gives_then _ c.in_ok-settle.ensures.gives (lacks_memory (as_long _) (stopped c.from_residual-in_err-part.ensures)))

pub returns-in_err-all : goal.returns-in_err-all
returns-in_err-all c =
    judged_then {s0 = c.args.walker.now} (λ types known. broken_if bad_initialiser (is_too_long_for (type_in types c.args.t) c.args.bytes.now) ++ length_faults known (with_length (type_in types c.args.t) (suc (length c.args.bytes.now))))
    (λ types faults. settle c.args.node faults >> gives (started true (letters_of 0 (type_in types c.args.t) c.args.bytes.now ∷ []) (with_length (type_in types c.args.t) (suc (length c.args.bytes.now)))))
    c.with_length.ensures.widens
    (λ types h.
    c.in_ok-faults.ensures types h (known_of types c.args.walker.now) (knows_on c.with_length.ensures.widens (knows_itself types c.args.walker.now))
    ∙ ap (λ t. broken_if bad_initialiser (is_too_long_for (type_in types c.args.t) c.args.bytes.now) ++ length_faults (known_of types c.args.walker.now) t)
    (c.in_ok-ty.ensures.made types h ∙ ap (with_length (type_in types c.args.t)) c.text_length.ensures))
    (gives_then _ c.in_ok-settle.ensures.gives (lacks_memory (as_long _) (stopped c.from_residual-in_err-all.ensures)))

pub returns : goal.returns
returns c =
    judged_then {s0 = c.args.walker.now} (λ types known. broken_if bad_initialiser (is_too_long_for (type_in types c.args.t) c.args.bytes.now) ++ length_faults known (with_length (type_in types c.args.t) (suc (length c.args.bytes.now))))
    (λ types faults. settle c.args.node faults >> gives (started true (letters_of 0 (type_in types c.args.t) c.args.bytes.now ∷ []) (with_length (type_in types c.args.t) (suc (length c.args.bytes.now)))))
    c.with_length.ensures.widens
    (λ types h.
    c.in_ok-faults.ensures types h (known_of types c.args.walker.now) (knows_on c.with_length.ensures.widens (knows_itself types c.args.walker.now))
    ∙ ap (λ t. broken_if bad_initialiser (is_too_long_for (type_in types c.args.t) c.args.bytes.now) ++ length_faults (known_of types c.args.walker.now) t)
    (c.in_ok-ty.ensures.made types h ∙ ap (with_length (type_in types c.args.t)) c.text_length.ensures))
    (gives_then _ c.in_ok-settle.ensures.gives
    (gives_made (λ types known. started true (letters_of 0 (type_in types c.args.t) c.args.bytes.now ∷ []) (with_length (type_in types c.args.t) (suc (length c.args.bytes.now)))) widens_none
    (λ types h.
    c.in_ok-all.ensures types
    ∙ ap (λ part. started true (part ∷ []) (type_in types c.in_ok-ty.ty)) (c.in_ok-part.ensures types h)
    ∙ ap (λ t. started true (letters_of 0 (type_in types c.args.t) c.args.bytes.now ∷ []) t)
    (c.in_ok-ty.ensures.made types (rw c.in_ok-settle.ensures.same at h) ∙ ap (with_length (type_in types c.args.t)) c.text_length.ensures))))
