use Rattle.std.proofs.Common.{arith, refl, sym, ap, subst, ◌∙◌, ◌<◌, ◌≤◌, ◌+◌, ◌∷◌, ◌++◌, ℕ, [], map}
use Rattle.std.proofs.lemmas.List.{length-map}
use Rattle.lt_token.specs.Nest.{deepest, weight, levels_after}
use Rattle.lt_lex.specs.Views.{token_of}
use Rattle.lt_lex.specs.Levels.{levels_of}
use Rattle.lt_lex.proofs.Nesting.{GoesOn, begins, turn, deep, over}
use Rattle.lt_lex.proofs.levels.nests.Goals as goal

pub turn-requires-clause-room : goal.turn-requires-clause-room
turn-requires-clause-room c = c.loop-at.invariant.so_far.light

pub loop-at-init : goal.loop-at-init
loop-at-init c = rw (c.new.ensures.items, c.new-depths.ensures.items) (record { weighed = refl; so_far = begins (map token_of c.args.tokens.now) })

pub returns-then-levels-gt-DEEPEST : goal.returns-then-levels-gt-DEEPEST
returns-then-levels-gt-DEEPEST c =
    let is = c.in_ok-turn.ensures.levels ∙ ap (λ s. levels_after s c.begins_with_else-else_follows.result (levels_of c.loop-at.levels)) c.step_of.ensures in
    let heavy : deepest < weight (levels_of c.turn.new.self) = omega (arith, c.in_ok-turn.ensures.weighed, c.if-levels-gt-DEEPEST.true) in
    deep token_of c.args.tokens.now c.loop-at.at _ c.loop-at-test.true c.loop-at.depths.items c.loop-at.levels.weight (levels_of c.loop-at.levels) (levels_of c.turn.new.self) _ c.split_at.ensures.back
    (rw c.begins_with_else-else_follows.ensures at is) c.loop-at.invariant.so_far heavy

pub loop-at-preserved : goal.loop-at-preserved
loop-at-preserved c =
    let is = c.in_ok-turn.ensures.levels ∙ ap (λ s. levels_after s c.begins_with_else-else_follows.result (levels_of c.loop-at.levels)) c.step_of.ensures in
    let heavy : weight (levels_of c.turn.new.self) ≤ deepest = omega (arith, c.in_ok-turn.ensures.weighed, c.if-levels-gt-DEEPEST.false) in
    let on = turn token_of c.args.tokens.now c.loop-at.at _ c.loop-at-test.true c.loop-at.depths.items c.loop-at.levels.weight (levels_of c.loop-at.levels) (levels_of c.turn.new.self) _ c.split_at.ensures.back
    (rw c.begins_with_else-else_follows.ensures at is) c.loop-at.invariant.so_far heavy in
    let w = c.in_ok-turn.ensures.weighed in
    record {
      weighed = w;
      so_far = rw c.in_ok-push.ensures.items (
          subst (λ (n : ℕ). GoesOn (map token_of c.args.tokens.now) (c.loop-at.depths.items ++ n ∷ []) n (levels_of c.turn.new.self) (c.loop-at.at + 1)) (sym w) on);
    }

pub returns : goal.returns
returns c = over (map token_of c.args.tokens.now) c.loop-at.depths.items c.loop-at.levels.weight (levels_of c.loop-at.levels) c.loop-at.at (omega (arith, length-map c.args.tokens.now token_of)) c.loop-at.invariant.so_far
