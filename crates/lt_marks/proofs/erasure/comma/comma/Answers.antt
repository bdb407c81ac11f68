use Rattle.std.proofs.Common.{◌≡◌, ◌<◌, ◌∙◌, length, arith}
use Rattle.std.proofs.lemmas.Grind.{common_steps}
use Rattle.lt_marks.proofs.CommaParts.{none_made, some_made, taken}
use Rattle.lt_marks.proofs.erasure.comma.comma.Goals as goal

pub returns-then-is_empty : goal.returns-then-is_empty
returns-then-is_empty c list same =
    let none : length c.args.parts.items ≡ 0 = grind (arith, common_steps, c.is_empty.ensures, c.if-is_empty.true, c.args.parts.ok.0) in
    c.comma.ensures ∙ none_made c.args.parts.items list none same

pub returns : goal.returns
returns c =
    let some : 0 < length c.args.parts.items = grind (arith, common_steps, c.is_empty.ensures, c.if-is_empty.false, c.args.parts.ok.0) in
    some_made _ c.args.parts.items _ _ (taken c.args.parts.items _ _ some c.remove-first.ensures.value c.remove-first.ensures.items) c.before-2.ensures
