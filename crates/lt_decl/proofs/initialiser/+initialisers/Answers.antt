use Rattle.std.proofs.Common.{refl, sym, ap, ◌∙◌, arith}
use Rattle.lt_tree.specs.declared.terminal.Terminal.TheVariants.{CloseBrace}
use Rattle.lt_tree.specs.Ahead.{sees}
use Rattle.lt_expr.specs.Front.{behind}
use Rattle.lt_tree.specs.UnitView.{initialisers_in}
use Rattle.lt_decl.specs.Reading as reading
use Rattle.lt_decl.proofs.Fronts.{initialisers_before}
use Rattle.lt_expr.proofs.Scopes.{same_scope, on_through}
use Rattle.lt_expr.proofs.Loops.{turned, finished}
use Rattle.lt_decl.proofs.Turns.{initialisers_more, initialisers_last, initialisers_closed}
use Rattle.lt_decl.proofs.initialiser.+initialisers.Goals as goal

pub initialisers-returns-then-not-sees : goal.initialisers-returns-then-not-sees
initialisers-returns-then-not-sees t c =
    let one = c.in_ok-part.ensures in
    let end = c.in_ok-expect.ensures in (
      finished (λ xs. initialisers_before (initialisers_in xs)) reading.initialisers initialisers_in c.more.parts.items c.push.new.self.items c.in_ok-part.part _ _ _ _ _ _ _ c.in_ok-push.ensures.items refl c.in_ok-depth.ensures
          (initialisers_last _ c.in_ok-part.part _ _ _ _ _ one.0 (sym c.sees.ensures ∙ c.if-not-sees.true) end.0) c.more.invariant.read,
      on_through _ _ _ (on_through _ _ _ c.more.invariant.on one.1) end.1,
    )

pub initialisers-returns-then-sees : goal.initialisers-returns-then-sees
initialisers-returns-then-sees t c =
    let one = c.in_ok-part.ensures in
    let on = on_through _ _ _ (on_through _ _ _ c.more.invariant.on one.1) c.advance.ensures.on in (
      finished (λ xs. initialisers_before (initialisers_in xs)) reading.initialisers initialisers_in c.more.parts.items c.push.new.self.items c.in_ok-part.part _ _ _ _ _ _ _ c.in_ok-push.ensures.items
          (c.advance-then-sees.ensures.rest ∙ ap behind c.advance.ensures.rest) c.in_ok-depth.ensures
          (initialisers_closed _ c.in_ok-part.part _ _ _ _ one.0 (sym c.sees.ensures ∙ c.if-not-sees.false) (ap (λ r. sees CloseBrace r.0) (sym c.advance.ensures.rest) ∙ sym c.sees-in-more.ensures ∙ c.if-sees.true)) c.more.invariant.read,
      on_through _ _ _ on c.advance-then-sees.ensures.on,
    )

pub initialisers-more-preserved : goal.initialisers-more-preserved
initialisers-more-preserved t c =
    let one = c.in_ok-part.ensures in
    record {
      read =
          turned (λ xs. initialisers_before (initialisers_in xs)) reading.initialisers reading.initialisers c.more.parts.items c.push.new.self.items c.in_ok-part.part _ _ _ _ _ _ _ _ _ c.in_ok-push.ensures.items
          (same_scope _ _ c.advance.ensures.on ∙ same_scope _ _ one.1) c.advance.ensures.rest c.in_ok-depth.ensures
          (initialisers_more _ c.in_ok-part.part _ _ _ _ one.0 (sym c.sees.ensures ∙ c.if-not-sees.false) (ap (λ r. sees CloseBrace r.0) (sym c.advance.ensures.rest) ∙ sym c.sees-in-more.ensures ∙ c.if-sees.false)) c.more.invariant.read;
      within = (let h = c.more.invariant.within in let k = c.in_ok-depth.ensures in omega arith);
      on = on_through _ _ _ (on_through _ _ _ c.more.invariant.on one.1) c.advance.ensures.on;
    }
