use Rattle.std.proofs.Common.{subst, sym, ◌∙◌}
use Rattle.std.proofs.lemmas.Bool.{false≢true}
use Rattle.lt_cover.specs.Coverage.Rows.{MayFollow}
use Rattle.lt_cover.specs.Coverage.Draft.{table_of}
use Rattle.lt_cover.specs.declared.rows.Row.{Row}
use Rattle.lt_cover.proofs.RowFields.{row_inj}
use Rattle.lt_cover.proofs.draft.Draft.take.Goals as goal

pub returns-then-not-may_follow-clause-row : goal.returns-then-not-may_follow-clause-row
returns-then-not-may_follow-clause-row c = λ row h may.
    let mine = rw c.in-Some.is at c.in_ok-row.ensures in
    false≢true (c.if-not-may_follow.ensures.1 (subst (λ (r : Row). MayFollow c.args.self.now.version (table_of c.args.self.now) r) (row_inj row c.in-Some.row h.0 mine.0 (h.1 ∙ sym mine.1)) may))
