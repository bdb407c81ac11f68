use Rattle.std.proofs.Common.{Bor, List, ℕ, [], get_or, sym, ◌∙◌}
use Rattle.lt_input_blocks.proofs.Lists.{item_is}
use Rattle.lt_input_blocks.proofs.NameLaws.{star_more, qualifier_more}
use Rattle.lt_input_blocks.proofs.types.stars.Goals.{then-is_star+in_ok-count, else-is_star+else-not-is_qualifier}
use Rattle.lt_input_blocks.proofs.types.stars.Goals as goal

pub loop-token-preserved : goal.loop-token-preserved
loop-token-preserved c = λ t.
    let other : Bor (List ℕ) = record { ref_ptr = (0, 0); now = [] } in
    let tokens = c.args.tokens.now in
    let i = c.loop-token.token-index in
    elim c.if-is_star.branch [
      | then-is_star+in_ok-count w ↦
          star_more tokens i (get_or tokens i other) c.loop-token-test.true (item_is tokens i other c.loop-token-test.true) c.loop-token.count c.if-is_star.count t _ (c.loop-token.invariant t)
          (sym c.is_star.ensures ∙ w.if-is_star.true) (w.count-is ∙ w.in_ok-count.ensures)
      | else-is_star+else-not-is_qualifier w ↦
          qualifier_more tokens i (get_or tokens i other) c.loop-token-test.true (item_is tokens i other c.loop-token-test.true) c.loop-token.count c.if-is_star.count t _ (c.loop-token.invariant t)
          (sym c.is_star.ensures ∙ w.if-is_star.false) (sym w.is_qualifier.ensures ∙ w.if-not-is_qualifier.false) w.count-is
    ]
