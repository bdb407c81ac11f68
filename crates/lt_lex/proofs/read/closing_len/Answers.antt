use Rattle.std.proofs.Common.{arith, sym, ◌∙◌, drop, map, ◌+◌}
use Rattle.lt_lex.specs.Views.{lexeme_of}
use Rattle.lt_lex.proofs.Reading.{closing_turn, closing_over}
use Rattle.lt_lex.proofs.read.closing_len.Goals as goal

pub returns-then-depth-eq0-clause-value : goal.returns-then-depth-eq0-clause-value
returns-then-depth-eq0-clause-value c =
    sym (closing_turn lexeme_of c.args.lexemes.now c.loop-at.at _ c.loop-at-test.true c.loop-at.depth c.depth_after-depth.result c.loop-at.invariant.opened c.loop-at.invariant.same c.depth_after-depth.ensures.value)
    ∙ closing_over c.depth_after-depth.result (drop (c.loop-at.at + 1) (map lexeme_of c.args.lexemes.now)) c.if-depth-eq0.true

pub loop-at-preserved : goal.loop-at-preserved
loop-at-preserved c = record {
  same = closing_turn lexeme_of c.args.lexemes.now c.loop-at.at _ c.loop-at-test.true c.loop-at.depth c.depth_after-depth.result c.loop-at.invariant.opened c.loop-at.invariant.same c.depth_after-depth.ensures.value;
  opened = omega arith;
  room = omega arith;
}
