use Rattle.std.proofs.Common.{◌≡◌, ℕ, ◌+◌, ◌-◌, get_or, Ok, refl, subst, arith, rules}
use Rattle.lt_emit.specs.Emission.{GivesWithin, costs}
use Rattle.lt_emit.proofs.Spent.{as_given}
use Rattle.lt_lower.specs.Stands.{ObjectStands, letter}
use Rattle.lt_lower.proofs.Objects.{letters_none, letters_more, letters_all}
use Rattle.lt_lower.proofs.object.letters.Goals as goal

pub letters-init : goal.letters-init
letters-init c = letters_none c.args.object c.args.ty c.args.bytes.now c.args.offset _ c.args.to (omega arith) c.requires

pub letter-requires : goal.letter-requires
letter-requires c = c.letters.invariant.emits.within

pub letters-preserved : goal.letters-preserved
letters-preserved c =
    let k = c.letters.at in
    let byte = get_or c.args.bytes.now (k - 1) 0 in
    let from = c.in_ok-from.from in
    let sum : c.in_ok-offset.offset ≡ c.args.offset + (k - 1) = search rules in
    let At : ℕ → Type 0 = λ n.
    GivesWithin c.letters.b c.letter.new.b (Ok from) (costs 4 2) (ObjectStands (λ s v. letter s v c.args.ty n byte) c.args.object c.letters.from) in
    letters_more c.args.object c.args.ty c.args.bytes.now c.args.offset k c.args.to c.letters.from byte from c.letters-test.true
    (omega (arith, c.letters.auto.at)) refl c.letters.invariant (subst At sum c.in_ok-from.ensures)

pub returns : goal.returns
returns c =
    as_given (letters_all c.args.object c.args.ty c.args.bytes.now c.args.offset c.letters.at c.args.to c.letters.from (omega arith) c.letters.invariant)
