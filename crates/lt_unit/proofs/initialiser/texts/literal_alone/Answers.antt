use Rattle.std.proofs.Common.{ℕ, List, None, true, ap, ◌∙◌}
use Rattle.lt_tree.specs.Typing.Types.{CType}
use Rattle.lt_tree.specs.Typing.Constants.{varying}
use Rattle.lt_tree.specs.Typing.Entities.{Fact}
use Rattle.lt_tree.specs.Typing.Steps.{Walk, ◌>>=◌, ◌>>◌, here, settle, notes}
use Rattle.lt_tree.specs.Typing.Operations.{text_type}
use Rattle.lt_tree.specs.Typing.Declaring.{length_faults}
use Rattle.lt_env.specs.Going.{known_of}
use Rattle.lt_type.proofs.Sequences.{gives_entered, gives_then, gives_stops, stopped}
use Rattle.lt_type.proofs.Turns.{lacks_memory}
use Rattle.lt_unit.proofs.Lasting.{gives_here}
use Rattle.lt_unit.proofs.FillingWalks.{knows_itself, knows_on, judged_then}
use Rattle.lt_unit.proofs.initialiser.texts.literal_alone.Goals as goal

abbrev fact : ℕ → CType → Fact
fact node t = record { node = node; type = t; is_place = true; constancy = varying; object = None }

abbrev ends : List ℕ → ℕ → Walk (Unit {0})
ends bytes node = here >>= (λ known. settle node (length_faults known (text_type bytes)) >> notes (fact node (text_type bytes)))

pub returns-in_err-ty : goal.returns-in_err-ty
returns-in_err-ty c =
    gives_entered (λ types node. ends c.args.bytes.now node) c.in_ok-node.ensures.entered c.in_ok-node.ensures.node
    (lacks_memory c.text_type.ensures.widens.grows (stopped c.from_residual-in_err-ty.ensures))

pub returns-in_err-faults : goal.returns-in_err-faults
returns-in_err-faults c =
    gives_entered (λ types node. ends c.args.bytes.now node) c.in_ok-node.ensures.entered c.in_ok-node.ensures.node
    (lacks_memory c.text_type.ensures.widens.grows (stopped c.from_residual-in_err-faults.ensures))

pub returns-in_err-settle : goal.returns-in_err-settle
returns-in_err-settle c =
    gives_entered (λ types node. ends c.args.bytes.now node) c.in_ok-node.ensures.entered c.in_ok-node.ensures.node
    (judged_then {s0 = c.enter.new.self} (λ types known. length_faults known (text_type c.args.bytes.now)) (λ types faults. settle c.in_ok-node.node faults >> notes (fact c.in_ok-node.node (text_type c.args.bytes.now)))
    c.text_type.ensures.widens
    (λ types h.
    c.in_ok-faults.ensures types h (known_of types c.enter.new.self) (knows_on c.text_type.ensures.widens (knows_itself types c.enter.new.self))
    ∙ ap (length_faults (known_of types c.enter.new.self)) (c.in_ok-ty.ensures.made types h))
    (gives_stops (λ types u. notes (fact c.in_ok-node.node (text_type c.args.bytes.now))) c.in_err-settle.ensures.gives (stopped c.from_residual-in_err-settle.ensures)))

pub returns : goal.returns
returns c =
    gives_entered (λ types node. ends c.args.bytes.now node) c.in_ok-node.ensures.entered c.in_ok-node.ensures.node
    (judged_then {s0 = c.enter.new.self} (λ types known. length_faults known (text_type c.args.bytes.now)) (λ types faults. settle c.in_ok-node.node faults >> notes (fact c.in_ok-node.node (text_type c.args.bytes.now)))
    c.text_type.ensures.widens
    (λ types h.
    c.in_ok-faults.ensures types h (known_of types c.enter.new.self) (knows_on c.text_type.ensures.widens (knows_itself types c.enter.new.self))
    ∙ ap (length_faults (known_of types c.enter.new.self)) (c.in_ok-ty.ensures.made types h))
    (gives_then (λ types u. notes (fact c.in_ok-node.node (text_type c.args.bytes.now))) c.in_ok-settle.ensures.gives
    (gives_here (λ types h. ap (λ t. notes (fact c.in_ok-node.node t) (known_of types c.settle.new.self)) (c.in_ok-ty.ensures.made types (rw c.in_ok-settle.ensures.same at h))) c.note.ensures.gives)))
