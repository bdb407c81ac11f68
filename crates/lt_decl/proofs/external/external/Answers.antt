use Rattle.std.proofs.Common.{suc, sym, ap, ◌∙◌}
use Rattle.lt_tree.specs.Records.{specifiers_of, declarator_of, parts_in}
use Rattle.lt_tree.specs.UnitView.{external_of}
use Rattle.lt_tree.specs.Ahead.{sees, naming_behind}
use Rattle.lt_tree.specs.Symbols.{start_of}
use Rattle.lt_tree.specs.Scope.{after_specifiers, after_external}
use Rattle.lt_tree.specs.declared.terminal.Terminal.TheVariants.{Semicolon}
use Rattle.lt_expr.specs.Namings.{naming_of}
use Rattle.lt_expr.specs.Parsing.{rest_of, scope_of}
use Rattle.lt_expr.specs.Reading as ex
use Rattle.lt_decl.specs.Singles.{definition, declared_on, behind_external}
use Rattle.lt_decl.specs.Reading as reading
use Rattle.lt_expr.proofs.Scopes.{same_scope, read_there, within_here, within_on, within_hides}
use Rattle.lt_expr.proofs.Failures.{names_through}
use Rattle.lt_decl.proofs.Turns.{external_defines, external_declares, scope_behind_definition, scope_behind_declared}
use Rattle.lt_decl.proofs.external.external.Goals as goal

pub returns-then-sees-2 : goal.returns-then-sees-2
returns-then-sees-2 c =
    let scope = scope_of c.args.parser.now in
    let n = c.in_ok-depth-2.depth in
    let ss = specifiers_of c.in_ok-specifiers.specifiers in
    let d = declarator_of c.in_ok-declarator.declarator in
    let first = c.in_ok-specifiers.ensures in
    let hides = c.in_ok-hide_specifiers.ensures in
    let second = c.in_ok-declarator.ensures in
    let declared = hides.scope ∙ ap (after_specifiers ss) (same_scope _ _ first.1) in
    let names = same_scope _ _ second.1 ∙ declared in
    names_through external_of (λ x. behind_external x (scope_of c.declarator.new.self)) (λ x. after_external x scope) c.args.parser.now c.declarator.new.self c.definition.new.parser c.definition.result _ _
    (within_on _ _ _ (within_hides _ _ _ _ (within_on _ _ _ (within_here _) first.1) hides) second.1)
    (ap (λ k. reading.external k scope (rest_of c.args.parser.now)) (c.in_ok-depth.ensures ∙ ap suc c.in_ok-depth-2.ensures)
    ∙ external_defines n scope _ _ _ ss c.in_ok-declarator.declarator.name (parts_in c.in_ok-declarator.declarator.parts.items)
    (ap (λ k. ex.specifiers k scope (rest_of c.args.parser.now)) (sym c.in_ok-depth-2.ensures) ∙ first.0)
    (ap (λ r. sees Semicolon r.0) (sym hides.rest) ∙ sym c.sees.ensures ∙ c.if-sees.false)
    (ap (λ k. ex.declarator k (after_specifiers ss scope) (naming_behind ss) (rest_of c.specifiers.new.self)) (sym c.in_ok-depth-2.ensures)
    ∙ ap (λ v. ex.declarator c.in_ok-depth.depth (after_specifiers ss scope) v (rest_of c.specifiers.new.self)) (sym c.naming_behind.ensures)
    ∙ read_there (λ s r. ex.declarator c.in_ok-depth.depth s (naming_of c.naming_behind.result) r) c.hide_specifiers.new.self _ _ _ declared hides.rest second.0)
    (sym c.sees-2.ensures ∙ c.if-sees-2.true)
    ∙ ap (λ s. definition n s (start_of (rest_of c.args.parser.now).0) ss d (rest_of c.declarator.new.self)) (sym names)
    ∙ ap (λ a. definition n (scope_of c.declarator.new.self) a ss d (rest_of c.declarator.new.self)) (sym c.start-start.ensures))
    (scope_behind_definition n (scope_of c.declarator.new.self) scope c.start-start.result ss d (rest_of c.declarator.new.self) names)
    c.definition.ensures

pub returns-else-sees-2 : goal.returns-else-sees-2
returns-else-sees-2 c =
    let scope = scope_of c.args.parser.now in
    let n = c.in_ok-depth-2.depth in
    let ss = specifiers_of c.in_ok-specifiers.specifiers in
    let d = declarator_of c.in_ok-declarator.declarator in
    let first = c.in_ok-specifiers.ensures in
    let hides = c.in_ok-hide_specifiers.ensures in
    let second = c.in_ok-declarator.ensures in
    let declared = hides.scope ∙ ap (after_specifiers ss) (same_scope _ _ first.1) in
    let names = same_scope _ _ second.1 ∙ declared in
    names_through external_of (λ x. behind_external x (scope_of c.declarator.new.self)) (λ x. after_external x scope) c.args.parser.now c.declarator.new.self c.declared.new.parser c.declared.result _ _
    (within_on _ _ _ (within_hides _ _ _ _ (within_on _ _ _ (within_here _) first.1) hides) second.1)
    (ap (λ k. reading.external k scope (rest_of c.args.parser.now)) (c.in_ok-depth.ensures ∙ ap suc c.in_ok-depth-2.ensures)
    ∙ external_declares n scope _ _ _ ss d
    (ap (λ k. ex.specifiers k scope (rest_of c.args.parser.now)) (sym c.in_ok-depth-2.ensures) ∙ first.0)
    (ap (λ r. sees Semicolon r.0) (sym hides.rest) ∙ sym c.sees.ensures ∙ c.if-sees.false)
    (ap (λ k. ex.declarator k (after_specifiers ss scope) (naming_behind ss) (rest_of c.specifiers.new.self)) (sym c.in_ok-depth-2.ensures)
    ∙ ap (λ v. ex.declarator c.in_ok-depth.depth (after_specifiers ss scope) v (rest_of c.specifiers.new.self)) (sym c.naming_behind.ensures)
    ∙ read_there (λ s r. ex.declarator c.in_ok-depth.depth s (naming_of c.naming_behind.result) r) c.hide_specifiers.new.self _ _ _ declared hides.rest second.0)
    (sym c.sees-2.ensures ∙ c.if-sees-2.false)
    ∙ ap (λ s. declared_on n s (start_of (rest_of c.args.parser.now).0) ss d (rest_of c.declarator.new.self)) (sym names)
    ∙ ap (λ a. declared_on n (scope_of c.declarator.new.self) a ss d (rest_of c.declarator.new.self)) (sym c.start-start.ensures))
    (scope_behind_declared n (scope_of c.declarator.new.self) scope c.start-start.result ss d (rest_of c.declarator.new.self) names)
    c.declared.ensures
