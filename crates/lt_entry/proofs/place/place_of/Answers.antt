use Rattle.std.proofs.Common.{rules, arith, sym, ◌≡◌, true}
use Rattle.std.proofs.lemmas.List.{map-append}
use Rattle.lt_entry.specs.Written.{is_object_name}
use Rattle.lt_entry.specs.Reading.{read_step}
use Rattle.lt_entry.proofs.ReadAll.{loop_more, loop_none, loop_all}
use Rattle.lt_entry.proofs.PlacesRead.{place_is, no_place}
use Rattle.lt_entry.proofs.place.place_of.Goals as goal

pub returns-in-None : goal.returns-in-None
returns-in-None c =
    let name : is_object_name c.in-Some.name.now.now ≡ true = search rules in
    sym (no_place c.args.word.now c.in_ok-pieces.pieces.items c.as_slice.result.now c.in-Some.name.now c.in-Some.others.now c.in_ok-pieces.ensures c.as_slice.ensures.value c.in-Some.ensures.cases.0 name
    (loop_none read_step c.in-Some.others.now c.loop-piece.piece-index _ c.loop-piece-test.true (sym c.in-None.ensures)))

pub loop-piece-preserved : goal.loop-piece-preserved
loop-piece-preserved c =
    rw (c.in_ok-push-in-Some-step_of.ensures.items, map-append)
    (loop_more read_step c.in-Some.others.now c.loop-piece.piece-index _ _ _ c.loop-piece-test.true c.loop-piece.invariant (sym c.in-Some-step_of.ensures))

pub returns : goal.returns
returns c =
    let name : is_object_name c.in-Some.name.now.now ≡ true = search rules in
    sym (place_is c.args.word.now c.in_ok-pieces.pieces.items c.as_slice.result.now c.in-Some.name.now c.in-Some.others.now _ c.in_ok-pieces.ensures c.as_slice.ensures.value c.in-Some.ensures.cases.0 name
    (loop_all read_step c.in-Some.others.now c.loop-piece.piece-index _ (omega arith) c.loop-piece.invariant))
