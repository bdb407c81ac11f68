use Rattle.std.proofs.Common.{true, []}
use Rattle.std.specs.Prelude.{unwrap_or}
use Rattle.lt_tree.specs.UnitView as source
use Rattle.lt_tree.specs.Records.{specifiers_of, declarator_of}
use Rattle.lt_tree.specs.Typing.Steps.{◌>>=◌}
use Rattle.lt_tree.specs.Typing.Specifying.{elsewhere}
use Rattle.lt_tree.specs.Typing.Declaring.{definition_faults}
use Rattle.lt_tree.specs.Typing.ExpressionTyping as expressions
use Rattle.lt_tree.specs.Typing.UnitTyping as typing
use Rattle.lt_type.proofs.Sequences.{gives_entered, gives_then, gives_stops, stopped}
use Rattle.lt_unit.proofs.external.definition.Goals as goal

pub returns-in_err-it : goal.returns-in_err-it
returns-in_err-it c =
    gives_entered
    (λ types node. expressions.specifiers (specifiers_of c.args.f.now.specifiers) elsewhere >>= (λ it. expressions.declarator (declarator_of c.args.f.now.declarator) it true (definition_faults it.storage) >>= (λ declared. typing.defines node (unwrap_or declared.name []) declared (source.items_in c.args.f.now.body.items))))
    c.in_ok-node.ensures.entered c.in_ok-node.ensures.node (
    gives_stops _ c.in_err-it.ensures (stopped c.from_residual-in_err-it.ensures))

pub returns-in_err-declared : goal.returns-in_err-declared
returns-in_err-declared c =
    gives_entered
    (λ types node. expressions.specifiers (specifiers_of c.args.f.now.specifiers) elsewhere >>= (λ it. expressions.declarator (declarator_of c.args.f.now.declarator) it true (definition_faults it.storage) >>= (λ declared. typing.defines node (unwrap_or declared.name []) declared (source.items_in c.args.f.now.body.items))))
    c.in_ok-node.ensures.entered c.in_ok-node.ensures.node (
    gives_then _ c.in_ok-it.ensures (
    gives_stops _ c.in_err-declared.ensures (stopped c.from_residual-in_err-declared.ensures)))

pub returns : goal.returns
returns c =
    gives_entered
    (λ types node. expressions.specifiers (specifiers_of c.args.f.now.specifiers) elsewhere >>= (λ it. expressions.declarator (declarator_of c.args.f.now.declarator) it true (definition_faults it.storage) >>= (λ declared. typing.defines node (unwrap_or declared.name []) declared (source.items_in c.args.f.now.body.items))))
    c.in_ok-node.ensures.entered c.in_ok-node.ensures.node (
    gives_then _ c.in_ok-it.ensures (
    gives_then _ c.in_ok-declared.ensures (rw c.as_slice.ensures.value at c.defines.ensures)))
