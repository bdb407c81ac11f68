use Rattle.std.proofs.Common.{◌++◌, map, refl, sym, ◌∙◌}
use Rattle.lt_tree.specs.UnitView.{external_of}
use Rattle.lt_decl.specs.Reading as reading
use Rattle.lt_expr.proofs.Scopes.{same_scope}
use Rattle.lt_expr.proofs.Loops.{turned, skipped, stopped}
use Rattle.lt_decl.proofs.Turns.{externals_more, externals_skip, externals_end}
use Rattle.lt_decl.proofs.external.externals.Goals as goal

pub returns-then-is_at_end : goal.returns-then-is_at_end
returns-then-is_at_end c =
    stopped (λ xs rest. map external_of xs ++ rest) reading.externals (λ xs. map external_of xs) c.more.externals.items _ _ _ _ _ _ _ refl c.in_ok-depth.ensures
    (externals_end c.more.externals.items _ _ _ (sym c.is_at_end.ensures ∙ c.if-is_at_end.true)) c.more.invariant

pub more-preserved-then-sees : goal.more-preserved-then-sees
more-preserved-then-sees c =
    skipped (λ xs rest. map external_of xs ++ rest) reading.externals c.more.externals.items _ _ _ _ _ _ _ _ (same_scope _ _ c.advance.ensures.on) c.advance.ensures.rest c.in_ok-depth.ensures
    (externals_skip _ _ _ (sym c.is_at_end.ensures ∙ c.if-is_at_end.false) (sym c.sees.ensures ∙ c.if-sees.true)) c.more.invariant

pub more-preserved : goal.more-preserved
more-preserved c =
    let x = c.in_ok-one.one in
    let one = c.in_ok-one.ensures in
    turned (λ xs rest. map external_of xs ++ rest) reading.externals reading.externals c.more.externals.items c.push.new.self.items x _ _ _ _ _ _ _ _ _ c.in_ok-push.ensures.items one.1.scope refl c.in_ok-depth.ensures
    (externals_more c.more.externals.items x _ _ _ _ (sym c.is_at_end.ensures ∙ c.if-is_at_end.false) (sym c.sees.ensures ∙ c.if-sees.false) one.0) c.more.invariant
