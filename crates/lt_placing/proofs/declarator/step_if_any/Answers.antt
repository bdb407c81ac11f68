use Rattle.std.proofs.Common.{◌<◌, sym, subst, length, None, arith}
use Rattle.std.proofs.lemmas.Bool.Decides.{nat_tests}
use Rattle.lt_placing.specs.Walks.{GoesOn}
use Rattle.lt_placing.proofs.Openings.{with_parts}
use Rattle.lt_placing.proofs.declarator.step_if_any.Goals as goal

pub returns-then-not-is_empty : goal.returns-then-not-is_empty
returns-then-not-is_empty c =
    let some : 0 < length c.args.parts.now = grind (arith, nat_tests, c.is_empty.ensures, c.if-not-is_empty.true) in
    subst (GoesOn c.args.walk.now c.step.new.self) (sym (with_parts None c.args.parts.now some)) c.step.ensures
