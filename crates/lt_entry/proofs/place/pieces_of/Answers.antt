use Rattle.std.proofs.Common.{rules, arith, sym, ◌<◌, length}
use Rattle.std.proofs.lemmas.List.{map-append}
use Rattle.lt_entry.proofs.Pieces.{onto_nothing, more_in_piece, more_between}
use Rattle.lt_entry.proofs.place.pieces_of.Goals as goal
use Rattle.lt_entry.proofs.place.pieces_of.Goals.{then-begins_step+in_ok-push, else-begins_step}

pub loop-i-init : goal.loop-i-init
loop-i-init c = record { before = omega arith; are = rw c.new-pieces.ensures.items (sym (onto_nothing c.args.word.now)) }

pub loop-i-preserved : goal.loop-i-preserved
loop-i-preserved c =
    let word = c.args.word.now in
    let i = c.loop-i.i in
    let inside : i < length word = omega arith in
    elim c.if-begins_step.branch [
      | then-begins_step+in_ok-push w ↦ record {
        before = omega arith;
        are = rw (w.pieces-is, w.start-is, w.in_ok-push.ensures.items, map-append) (more_between word c.loop-i.start i _ inside (search rules) c.loop-i.invariant.are);
      }
      | else-begins_step w ↦ record {
        before = omega arith;
        are = rw (w.pieces-is, w.start-is) (more_in_piece word c.loop-i.start i _ c.loop-i.invariant.before inside (search (rules)) c.loop-i.invariant.are);
      }
    ]
