use Rattle.std.proofs.Common.{◌++◌, map, refl, sym, ap, ◌∙◌}
use Rattle.lt_tree.specs.Records.{declarator_of}
use Rattle.lt_tree.specs.UnitView.{init_declarator_of}
use Rattle.lt_tree.specs.Scope.{after_declarators}
use Rattle.lt_tree.specs.Ahead.{named}
use Rattle.lt_expr.specs.Parsing.{scope_of}
use Rattle.lt_expr.specs.Reading as ex
use Rattle.lt_decl.specs.Singles.{after_one}
use Rattle.lt_decl.specs.Reading as reading
use Rattle.lt_expr.proofs.Scopes.{same_scope, read_there, within_on, within_declares, declares}
use Rattle.lt_expr.proofs.Loops.{turned, finished}
use Rattle.lt_decl.proofs.Turns.{declarators_more, declarators_last, declarators_fail, after_more}
use Rattle.lt_expr.proofs.Failures.{fails_as, names_fail, failed}
use Rattle.lt_decl.proofs.declaration.declarators.Goals as goal

pub returns-then-not-sees : goal.returns-then-not-sees
returns-then-not-sees c =
    let x = c.in_ok-one.one in
    let one = c.in_ok-one.ensures in
    let end = c.in_ok-expect.ensures in
    let type = c.args.is_type in
    let d = declarator_of c.more.declarator in (
      finished (λ xs rest. map init_declarator_of xs ++ rest) (λ n s r. reading.declarators n s type d r) (λ xs. map init_declarator_of xs) c.more.list.items c.push.new.self.items x _ _ _ _ _ _ _ c.in_ok-push.ensures.items refl c.in_ok-depth.ensures
          (declarators_last c.more.list.items x _ _ type d _ _ _ one.0 (sym c.sees.ensures ∙ c.if-not-sees.true) end.0) c.more.invariant.read,
      declares _ _ _ (within_on _ _ _ (within_declares _ _ _ _ c.more.invariant.within one.1) end.1)
          (same_scope _ _ end.1 ∙ one.1.scope ∙ ap (after_one type (init_declarator_of x)) c.more.invariant.scope
          ∙ sym (after_more type c.more.list.items x (scope_of c.args.parser.now))
          ∙ ap (λ xs. after_declarators type (map init_declarator_of xs) (scope_of c.args.parser.now)) (sym c.in_ok-push.ensures.items)),
    )

pub more-preserved : goal.more-preserved
more-preserved c =
    let x = c.in_ok-one.one in
    let one = c.in_ok-one.ensures in
    let next = c.in_ok-declarator.ensures in
    let type = c.args.is_type in
    let d = declarator_of c.more.declarator in
    let e = declarator_of c.in_ok-declarator.declarator in
    let scope = same_scope _ _ c.advance.ensures.on ∙ one.1.scope in
    record {
      read =
          turned (λ xs rest. map init_declarator_of xs ++ rest) (λ n s r. reading.declarators n s type e r) (λ n s r. reading.declarators n s type d r) c.more.list.items c.push.new.self.items x _ _ _ _ _ _ _ _ _ c.in_ok-push.ensures.items
          (same_scope _ _ next.1 ∙ scope) refl c.in_ok-depth.ensures
          (declarators_more c.more.list.items x _ _ type d e _ _ _ one.0 (sym c.sees.ensures ∙ c.if-not-sees.false)
          (read_there (λ s r. ex.declarator c.in_ok-depth.depth s named r) c.advance.new.self _ _ _ scope c.advance.ensures.rest next.0)) c.more.invariant.read;
      scope =
          same_scope _ _ next.1 ∙ scope ∙ ap (after_one type (init_declarator_of x)) c.more.invariant.scope
          ∙ sym (after_more type c.more.list.items x (scope_of c.args.parser.now))
          ∙ ap (λ xs. after_declarators type (map init_declarator_of xs) (scope_of c.args.parser.now)) (sym c.in_ok-push.ensures.items);
      within = within_on _ _ _ (within_on _ _ _ (within_declares _ _ _ _ c.more.invariant.within one.1) c.advance.ensures.on) next.1;
    }

pub returns-in_err-declarator : goal.returns-in_err-declarator
returns-in_err-declarator c =
    let x = c.in_ok-one.one in
    let one = c.in_ok-one.ensures in
    let type = c.args.is_type in
    let d = declarator_of c.more.declarator in
    let h = c.from_residual-in_err-declarator.ensures in
    names_fail (λ xs. map init_declarator_of xs.items) (λ ds. after_declarators type ds (scope_of c.args.parser.now)) c.args.parser.now c.declarator.new.self _ _ _ h.0 h.1
    (fails_as _ _ _ (λ none.
    failed (λ xs rest. map init_declarator_of xs ++ rest) (λ n s r. reading.declarators n s type d r) c.more.list.items _ _ _ _ _ c.in_ok-depth.ensures
    (declarators_fail x _ _ type d _ _ one.0 (sym c.sees.ensures ∙ c.if-not-sees.false)
    (read_there (λ s r. ex.declarator c.in_ok-depth.depth s named r) c.advance.new.self _ _ _ (same_scope _ _ c.advance.ensures.on ∙ one.1.scope) c.advance.ensures.rest none)) c.more.invariant.read)
    c.in_err-declarator.ensures)
