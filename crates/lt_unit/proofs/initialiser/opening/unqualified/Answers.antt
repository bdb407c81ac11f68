use Rattle.std.proofs.Common.{sym, ap, ◌∙◌}
use borrow.Author.Tests.{eqb-true}
use Rattle.std.specs.Prelude.{slice_index_or}
use Rattle.lt_tree.specs.Typing.Types.{Void}
use Rattle.lt_tree.specs.Typing.TypeRows.{type_in}
use Rattle.lt_unit.specs.LeftParts.{plain}
use Rattle.lt_env.proofs.Judgements.{stays_in}
use Rattle.lt_unit.proofs.Openings.{plain_itself, plain_bare}
use Rattle.lt_unit.proofs.initialiser.opening.unqualified.Goals as goal

pub returns-then-eq : goal.returns-then-eq
returns-then-eq c = λ longer h.
    let is = stays_in c.table.ensures c.in-Some.ensures.value longer h in
    let same = ap (λ place. slice_index_or longer place Void) (eqb-true c.in-Some.bare.place c.loop-turn.ty.place (sym c.eq.ensures ∙ c.if-eq.true)) in
    sym (plain_itself (type_in longer c.loop-turn.ty) (sym is ∙ same)) ∙ c.loop-turn.invariant longer h

pub loop-turn-preserved : goal.loop-turn-preserved
loop-turn-preserved c = λ longer h.
    ap plain (stays_in c.table.ensures c.in-Some.ensures.value longer h)
    ∙ plain_bare (type_in longer c.loop-turn.ty)
    ∙ c.loop-turn.invariant longer h
