use Rattle.std.proofs.Common.{arith, sym, map, length, ◌<◌}
use Rattle.lt_lex.specs.Views.{lexeme_of}
use Rattle.lt_lex.proofs.Cutting.{goes_on, is_over}
use Rattle.lt_lex.proofs.cut.cut.Goals as goal

pub loop-rest-preserved : goal.loop-rest-preserved
loop-rest-preserved c =
    let rest = c.loop-rest.rest.now in
    let cut = c.first_cut-sort.result in
    let some : 0 < length rest = omega (arith, c.first_cut-sort.ensures.some, c.first_cut-sort.ensures.within) in
    let taken = rw c.split_at.ensures.front at c.in_ok-take_piece.ensures in
    let on = goes_on c.args.text.now (map lexeme_of c.loop-rest.lexemes.items) (map lexeme_of c.take_piece.new.lexemes.items) c.loop-rest.fresh rest cut c.loop-rest.invariant.within some c.first_cut-sort.ensures.value taken c.loop-rest.invariant.goes_on in
    record { within = omega (arith, c.split_at.ensures.back_len); goes_on = rw (c.fresh_after-fresh.ensures, c.split_at.ensures.front, c.split_at.ensures.back) on }

pub returns : goal.returns
returns c = is_over c.args.text.now (map lexeme_of c.loop-rest.lexemes.items) c.loop-rest.fresh c.loop-rest.rest.now (sym c.loop-rest-test.ensures) c.loop-rest.invariant.goes_on
