use Rattle.std.proofs.Common.{arith, map}
use Rattle.std.proofs.lemmas.Result.{err_from_is_err_and}
use Rattle.lt_lex.specs.Views.{lexeme_of, token_of}
use Rattle.lt_lex.proofs.Reading.{turn, stop_turn, is_over_at}
use Rattle.lt_lex.proofs.read.read.Goals as goal

pub returns-in_err-len : goal.returns-in_err-len
returns-in_err-len c =
    let p = err_from_is_err_and c.from_residual.result c.from_residual.ensures.1 in
    rw (p.1, p.2) (stop_turn lexeme_of c.args.lexemes.now c.loop-at.at _ c.loop-at-test.true (map token_of c.loop-at.tokens.items) c.loop-at.trails _ c.split_at.ensures.back c.in_err-len.field-0.0 c.in_err-len.ensures.err c.loop-at.invariant.goes_on)

pub loop-at-preserved : goal.loop-at-preserved
loop-at-preserved c = record {
  within = omega (arith, c.in_ok-len.ensures.within, c.split_at.ensures.back_len);
  goes_on = turn lexeme_of c.args.lexemes.now c.loop-at.at _ c.loop-at-test.true (map token_of c.loop-at.tokens.items) (map token_of c.take_lexeme.new.tokens.items) c.loop-at.trails c.take_lexeme.new.trails c.in_ok-len.len _ c.split_at.ensures.back c.in_ok-len.ensures.ok c.loop-at.invariant.goes_on;
}

pub returns : goal.returns
returns c = is_over_at lexeme_of c.args.lexemes.now c.loop-at.at (map token_of c.loop-at.tokens.items) c.loop-at.trails c.loop-at-test.false c.loop-at.invariant.goes_on
