use Rattle.std.proofs.Common.{◌≡◌, suc, ◌+◌, ◌-◌, length, ap, ◌∙◌, arith}
use Rattle.lt_expr.specs.Literals.{value_within}
use Rattle.lt_expr.proofs.Texts.{spelled, at_end, at_limit, at_quote, closed_here, not_closed, at_none, at_character}
use Rattle.lt_expr.proofs.literal.value_behind_quote.Goals as goal

pub returns-in_default : goal.returns-in_default
returns-in_default c = at_end c.bytes.value.items c.bytes.rest.now _ _ c.in_default.ensures.cases c.bytes.invariant

pub returns-then-is_empty : goal.returns-then-is_empty
returns-then-is_empty c =
    let some : length c.args.bytes.now - c.bytes._turn ≡ suc (length c.args.bytes.now - (c.bytes._turn + 1)) = omega arith in
    at_quote c.bytes.value.items c.bytes.rest.now c.in-Some.behind.now _ _ c.in-Some.byte.now _ some c.in-Some.ensures.cases.0 c.if-byte-eq34.true c.bytes.invariant
    ∙ closed_here c.bytes.value.items c.in-Some.behind.now c.if-is_empty.ensures

pub returns-else-is_empty : goal.returns-else-is_empty
returns-else-is_empty c =
    let some : length c.args.bytes.now - c.bytes._turn ≡ suc (length c.args.bytes.now - (c.bytes._turn + 1)) = omega arith in
    at_quote c.bytes.value.items c.bytes.rest.now c.in-Some.behind.now _ _ c.in-Some.byte.now _ some c.in-Some.ensures.cases.0 c.if-byte-eq34.true c.bytes.invariant
    ∙ not_closed c.bytes.value.items c.in-Some.behind.now c.if-is_empty.ensures

pub returns-in_default-character : goal.returns-in_default-character
returns-in_default-character c =
    let some : length c.args.bytes.now - c.bytes._turn ≡ suc (length c.args.bytes.now - (c.bytes._turn + 1)) = omega arith in
    at_none c.bytes.value.items c.bytes.rest.now c.in-Some.behind.now _ _ c.in-Some.byte.now _ some c.in-Some.ensures.cases.0 c.if-byte-eq34.false c.in_default-character.ensures c.bytes.invariant

pub bytes-preserved : goal.bytes-preserved
bytes-preserved c =
    let some : length c.args.bytes.now - c.bytes._turn ≡ suc (length c.args.bytes.now - (c.bytes._turn + 1)) = omega arith in
    ap (λ value. spelled value (value_within (length c.args.bytes.now - (c.bytes._turn + 1)) c.in-Some-character.after.now)) c.in_ok-push.ensures.items
    ∙ at_character c.bytes.value.items c.bytes.rest.now c.in-Some.behind.now c.in-Some-character.after.now _ _ c.in-Some.byte.now c.in-Some-character.spelled _ some c.in-Some.ensures.cases.0 c.if-byte-eq34.false
    c.in-Some-character.ensures c.bytes.invariant

pub returns : goal.returns
returns c =
    let none : length c.args.bytes.now - c.bytes._turn ≡ 0 = omega arith in
    at_limit c.bytes.value.items c.bytes.rest.now _ _ none c.bytes.invariant
