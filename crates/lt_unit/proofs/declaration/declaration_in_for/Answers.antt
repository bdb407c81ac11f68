use Rattle.std.proofs.Common.{[], map, ap, ◌∙◌}
use Rattle.std.specs.Prelude.{if◌then◌else◌}
use Rattle.lt_tree.specs.UnitView as source
use Rattle.lt_tree.specs.Records.{specifiers_of}
use Rattle.lt_tree.specs.Typing.Steps.{Goes, ◌>>=◌, gives}
use Rattle.lt_tree.specs.Typing.Specifying.{alone, elsewhere}
use Rattle.lt_tree.specs.Typing.ExpressionTyping as expressions
use Rattle.lt_tree.specs.Typing.DeclarationTyping as typing
use Rattle.lt_declare.specs.DeclaredViews.{specified_of}
use Rattle.lt_type.proofs.Sequences.{gives_then, gives_stops, gives_so, stopped}
use Rattle.lt_unit.specs.UnitViews.{locals_of, with_storage}
use Rattle.lt_unit.proofs.declaration.declaration_in_for.Goals as goal

pub returns-in_err-it : goal.returns-in_err-it
returns-in_err-it c =
    let D = map source.init_declarator_of c.args.d.now.declarators.items in
    let none = c.has_no_declarator-is_alone.ensures ∙ ap (λ l. typing.has_no_declarator (map source.init_declarator_of l)) c.as_slice.ensures.value in
    gives_stops (λ types it. typing.init_declarators (with_storage (typing.effective_in_for it.storage) it) D >>= (λ locals. gives (record { locals = locals; faults = typing.left_over D it })))
    (gives_so (λ types k. ap (λ it. expressions.specifiers (specifiers_of c.args.d.now.specifiers) it k) (c.setting.ensures ∙ ap (λ b. if b then alone else elsewhere) none)) c.in_err-it.ensures) (stopped c.from_residual.ensures)

pub returns-in_err-locals : goal.returns-in_err-locals
returns-in_err-locals c =
    let D = map source.init_declarator_of c.args.d.now.declarators.items in
    let none = c.has_no_declarator-is_alone.ensures ∙ ap (λ l. typing.has_no_declarator (map source.init_declarator_of l)) c.as_slice.ensures.value in
    gives_then (λ types it. typing.init_declarators (with_storage (typing.effective_in_for it.storage) it) D >>= (λ locals. gives (record { locals = locals; faults = typing.left_over D it })))
    (gives_so (λ types k. ap (λ it. expressions.specifiers (specifiers_of c.args.d.now.specifiers) it k) (c.setting.ensures ∙ ap (λ b. if b then alone else elsewhere) none)) c.in_ok-it.ensures) (
    gives_stops _ (gives_so (λ types k. ap (λ class. typing.init_declarators (with_storage class (specified_of types c.in_ok-it.it)) D k) c.effective_in_for-class.ensures) (rw c.as_slice-2.ensures.value at c.in_err-locals.ensures))
    (stopped c.from_residual-in_err-locals.ensures))

pub returns : goal.returns
returns c =
    let D = map source.init_declarator_of c.args.d.now.declarators.items in
    let none = c.has_no_declarator-is_alone.ensures ∙ ap (λ l. typing.has_no_declarator (map source.init_declarator_of l)) c.as_slice.ensures.value in
    gives_then (λ types it. typing.init_declarators (with_storage (typing.effective_in_for it.storage) it) D >>= (λ locals. gives (record { locals = locals; faults = typing.left_over D it })))
    (gives_so (λ types k. ap (λ it. expressions.specifiers (specifiers_of c.args.d.now.specifiers) it k) (c.setting.ensures ∙ ap (λ b. if b then alone else elsewhere) none)) c.in_ok-it.ensures) (
    gives_then _ (gives_so (λ types k. ap (λ class. typing.init_declarators (with_storage class (specified_of types c.in_ok-it.it)) D k) c.effective_in_for-class.ensures) (rw c.as_slice-2.ensures.value at c.in_ok-locals.ensures))
    (gives_so (λ types k. ap (λ b. Goes (record { locals = locals_of types c.in_ok-locals.locals.items; faults = if b then c.in_ok-it.it.faults else [] }) k) none) c.left_over.ensures))
