use Rattle.std.proofs.Common.{Bor, List, ℕ, [], get_or, ap}
use Rattle.lt_input_blocks.specs.Tokens.{texts}
use Rattle.lt_input_blocks.proofs.Lists.{item_is}
use Rattle.lt_input_blocks.proofs.TokenLaws.{pieces_begin, pieces_step}
use Rattle.lt_input_blocks.proofs.tokens.put_pieces.Goals as goal

pub loop-piece-init : goal.loop-piece-init
loop-piece-init c =
    pieces_begin (texts c.args.pieces.now) c.in-Some.first.now.now (texts c.in-Some.others.now) (texts c.args.tokens.now.items) (texts c.put_token.new.tokens.items) (ap texts c.in-Some.ensures.cases.0) c.in_ok-put_token.ensures

pub loop-piece-preserved : goal.loop-piece-preserved
loop-piece-preserved c =
    let other : Bor (List ℕ) = record { ref_ptr = (0, 0); now = [] } in
    let others = c.in-Some.others.now in
    let i = c.loop-piece.piece-index in
    pieces_step others i (get_or others i other) (texts c.loop-piece.tokens.items) (texts c.put_token-in-loop-piece.new.tokens.items) (texts c.put_token-in-loop-piece-2.new.tokens.items) _ c.loop-piece-test.true
    (item_is others i other c.loop-piece-test.true) c.in_ok-put_token-2.ensures c.in_ok-put_token-3.ensures c.loop-piece.invariant
