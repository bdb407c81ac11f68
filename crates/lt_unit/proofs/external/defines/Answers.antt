use Rattle.std.proofs.Common.{[], ap, sym, ◌∙◌}
use Rattle.std.specs.Prelude.{option_map, unwrap_or}
use Rattle.lt_tree.specs.UnitView as source
use Rattle.lt_tree.specs.Typing.TypeRows.{type_in}
use Rattle.lt_tree.specs.Typing.StatementView.{items_in}
use Rattle.lt_tree.specs.Typing.Steps.{◌>>=◌, goes_on, within, gives}
use Rattle.lt_tree.specs.Typing.Declaring as declaring
use Rattle.lt_tree.specs.Typing.StatementTyping as statements
use Rattle.lt_tree.specs.Typing.UnitTyping as typing
use Rattle.lt_env.specs.NamesValue.{frame_at}
use Rattle.lt_declare.specs.DeclaredViews.{declares_of, parameters_in}
use Rattle.lt_type.proofs.Sequences.{gives_then, gives_stops, gives_so, stopped}
use Rattle.lt_unit.specs.UnitViews.{around_of}
use Rattle.lt_unit.proofs.Units.{body_then, function_added}
use Rattle.lt_unit.proofs.external.defines.Goals as goal

pub returns-in_err-declare_function : goal.returns-in_err-declare_function
returns-in_err-declare_function c =
    gives_stops (λ types u. within (typing.frame_of (option_map (parameters_in types) c.args.it.parameters)) (statements.items (source.items_in c.args.body.now) (typing.around_body (type_in types c.args.it.ty))) >>= (λ inside. typing.adds_function c.args.node (unwrap_or c.args.it.name []) (declares_of types c.args.it) inside.0))
    (gives_so (λ types k. ap (λ n. declaring.declare_function n (type_in types c.args.it.ty) k) (c.as_slice.ensures ∙ c.in_ok-name.ensures)) c.in_err-declare_function.ensures) (stopped c.from_residual-in_err-declare_function.ensures)

pub returns-in_err-around : goal.returns-in_err-around
returns-in_err-around c =
    gives_then (λ types u. within (typing.frame_of (option_map (parameters_in types) c.args.it.parameters)) (statements.items (source.items_in c.args.body.now) (typing.around_body (type_in types c.args.it.ty))) >>= (λ inside. typing.adds_function c.args.node (unwrap_or c.args.it.name []) (declares_of types c.args.it) inside.0))
    (gives_so (λ types k. ap (λ n. declaring.declare_function n (type_in types c.args.it.ty) k) (c.as_slice.ensures ∙ c.in_ok-name.ensures)) c.in_ok-declare_function.ensures)
    (gives_stops (λ types around. within (typing.frame_of (option_map (parameters_in types) c.args.it.parameters)) (statements.items (source.items_in c.args.body.now) around) >>= (λ inside. typing.adds_function c.args.node (unwrap_or c.args.it.name []) (declares_of types c.args.it) inside.0)) c.in_err-around.ensures (stopped c.from_residual-in_err-around.ensures))

pub returns-in_err-body : goal.returns-in_err-body
returns-in_err-body c =
    gives_then (λ types u. within (typing.frame_of (option_map (parameters_in types) c.args.it.parameters)) (statements.items (source.items_in c.args.body.now) (typing.around_body (type_in types c.args.it.ty))) >>= (λ inside. typing.adds_function c.args.node (unwrap_or c.args.it.name []) (declares_of types c.args.it) inside.0))
    (gives_so (λ types k. ap (λ n. declaring.declare_function n (type_in types c.args.it.ty) k) (c.as_slice.ensures ∙ c.in_ok-name.ensures)) c.in_ok-declare_function.ensures)
    (gives_then (λ types around. within (typing.frame_of (option_map (parameters_in types) c.args.it.parameters)) (statements.items (source.items_in c.args.body.now) around) >>= (λ inside. typing.adds_function c.args.node (unwrap_or c.args.it.name []) (declares_of types c.args.it) inside.0)) c.in_ok-around.ensures
    (gives_so
    (λ types k. body_then (within (frame_at types c.opening_of-opening.result.frame) (statements.items (source.items_in c.args.body.now) (around_of types c.in_ok-around.around)) k) (λ body. typing.adds_function c.args.node (unwrap_or c.args.it.name []) (declares_of types c.args.it) body)
    ∙ ap (λ f. goes_on (within f (statements.items (source.items_in c.args.body.now) (around_of types c.in_ok-around.around)) k) (λ inside. typing.adds_function c.args.node (unwrap_or c.args.it.name []) (declares_of types c.args.it) inside.0)) (c.opening_of-opening.ensures.frame types))
    (gives_stops (λ types body. typing.adds_function c.args.node (unwrap_or c.args.it.name []) (declares_of types c.args.it) body) c.in_err-body.ensures (stopped c.from_residual-in_err-body.ensures))))

pub returns : goal.returns
returns c =
    gives_then (λ types u. within (typing.frame_of (option_map (parameters_in types) c.args.it.parameters)) (statements.items (source.items_in c.args.body.now) (typing.around_body (type_in types c.args.it.ty))) >>= (λ inside. typing.adds_function c.args.node (unwrap_or c.args.it.name []) (declares_of types c.args.it) inside.0))
    (gives_so (λ types k. ap (λ n. declaring.declare_function n (type_in types c.args.it.ty) k) (c.as_slice.ensures ∙ c.in_ok-name.ensures)) c.in_ok-declare_function.ensures)
    (gives_then (λ types around. within (typing.frame_of (option_map (parameters_in types) c.args.it.parameters)) (statements.items (source.items_in c.args.body.now) around) >>= (λ inside. typing.adds_function c.args.node (unwrap_or c.args.it.name []) (declares_of types c.args.it) inside.0)) c.in_ok-around.ensures
    (gives_so
    (λ types k. body_then (within (frame_at types c.opening_of-opening.result.frame) (statements.items (source.items_in c.args.body.now) (around_of types c.in_ok-around.around)) k) (λ body. typing.adds_function c.args.node (unwrap_or c.args.it.name []) (declares_of types c.args.it) body)
    ∙ ap (λ f. goes_on (within f (statements.items (source.items_in c.args.body.now) (around_of types c.in_ok-around.around)) k) (λ inside. typing.adds_function c.args.node (unwrap_or c.args.it.name []) (declares_of types c.args.it) inside.0)) (c.opening_of-opening.ensures.frame types))
    (gives_then (λ types body. typing.adds_function c.args.node (unwrap_or c.args.it.name []) (declares_of types c.args.it) body) c.in_ok-body.ensures
    (gives_so (λ types k. function_added k c.args.node (type_in types c.args.it.ty) (items_in types c.in_ok-body.body.items) _ _ _ _ c.in_ok-name.ensures (c.opening_of-opening.ensures.objects types)) c.add_function.ensures))))
