use Rattle.std.proofs.Common.{◌≡◌, ◌==◌, refl, true, false, arith}
use Rattle.std.proofs.lemmas.Bool.Decides.{nat_tests}
use Rattle.lt_placing.proofs.Taking.{takes_nothing, takes_start, takes_label, takes_decision}
use Rattle.lt_placing.proofs.place.PlaceMarks.add.Goals as goal

pub returns-then-from-place : goal.returns-then-from-place
returns-then-from-place c =
    let other : (c.args.it.place == c.args.place) ≡ false = grind (arith, nat_tests, c.from.ensures, c.if-from-place.true) in
    takes_nothing _ _ _ other

pub returns-in_ok-push-in-AtStart : goal.returns-in_ok-push-in-AtStart
returns-in_ok-push-in-AtStart c =
    let here : (c.args.it.place == c.args.place) ≡ true = grind (arith, nat_tests, c.from.ensures, c.if-from-place.false) in
    takes_start _ _ c.args.it _ _ c.in-AtStart.is here c.in_ok-made_label-in-AtStart.ensures c.in_ok-push-in-AtStart.ensures.items refl refl

pub returns-in_ok-push-in-InFront : goal.returns-in_ok-push-in-InFront
returns-in_ok-push-in-InFront c =
    let here : (c.args.it.place == c.args.place) ≡ true = grind (arith, nat_tests, c.from.ensures, c.if-from-place.false) in
    takes_label _ _ c.args.it _ _ c.in-InFront.is here c.in_ok-made_label-in-InFront.ensures refl c.in_ok-push-in-InFront.ensures.items refl

pub returns-in_ok-push-in-Around : goal.returns-in_ok-push-in-Around
returns-in_ok-push-in-Around c =
    let here : (c.args.it.place == c.args.place) ≡ true = grind (arith, nat_tests, c.from.ensures, c.if-from-place.false) in
    takes_decision _ _ _ _ c.in-Around.is here refl refl c.in_ok-push-in-Around.ensures.items
