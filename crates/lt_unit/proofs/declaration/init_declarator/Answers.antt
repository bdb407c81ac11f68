use Rattle.std.specs.Prelude.{option_map}
use Rattle.lt_tree.specs.UnitView as source
use Rattle.lt_tree.specs.Records.{declarator_of}
use Rattle.lt_tree.specs.Typing.DeclarationTyping as typing
use Rattle.lt_declare.specs.DeclaredViews.{specified_of, declares_of}
use Rattle.lt_type.proofs.Sequences.{gives_then, gives_stops, gives_so, stopped}
use Rattle.lt_unit.specs.Inside.{declare_as}
use Rattle.lt_unit.specs.UnitViews.{with_storage}
use Rattle.lt_unit.proofs.Declarations.{declarator_judged}
use Rattle.lt_unit.proofs.declaration.init_declarator.Goals as goal

pub returns-in_err-declared : goal.returns-in_err-declared
returns-in_err-declared c =
    gives_stops (λ types declared. typing.declare_named (with_storage c.args.class (specified_of types c.args.it.now)) declared (option_map source.initialiser_of c.args.d.now.initialiser))
    (gives_so (λ types k. declarator_judged (declarator_of c.args.d.now.declarator) (specified_of types c.args.it.now) c.args.class _ c.args.d.now.initialiser k c.is_some.ensures) c.in_err-declared.ensures)
    (stopped c.from_residual.ensures)

pub returns-in_err-kind : goal.returns-in_err-kind
returns-in_err-kind c =
    gives_then (λ types declared. typing.declare_named (with_storage c.args.class (specified_of types c.args.it.now)) declared (option_map source.initialiser_of c.args.d.now.initialiser))
    (gives_so (λ types k. declarator_judged (declarator_of c.args.d.now.declarator) (specified_of types c.args.it.now) c.args.class _ c.args.d.now.initialiser k c.is_some.ensures) c.in_ok-declared.ensures)
    (gives_stops (λ types kind. declare_as kind (declares_of types c.in_ok-declared.declared) (option_map source.initialiser_of c.args.d.now.initialiser)) c.in_err-kind.ensures (stopped c.from_residual-in_err-kind.ensures))

pub returns : goal.returns
returns c =
    gives_then (λ types declared. typing.declare_named (with_storage c.args.class (specified_of types c.args.it.now)) declared (option_map source.initialiser_of c.args.d.now.initialiser))
    (gives_so (λ types k. declarator_judged (declarator_of c.args.d.now.declarator) (specified_of types c.args.it.now) c.args.class _ c.args.d.now.initialiser k c.is_some.ensures) c.in_ok-declared.ensures)
    (gives_then (λ types kind. declare_as kind (declares_of types c.in_ok-declared.declared) (option_map source.initialiser_of c.args.d.now.initialiser)) c.in_ok-kind.ensures c.declare_as.ensures)
