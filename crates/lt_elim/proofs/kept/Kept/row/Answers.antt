use Rattle.std.proofs.Common.{◌∙◌, ap, subst, sym, Some, List}
use Rattle.std.specs.Prelude.{slice_get}
use Rattle.lt_lin.specs.declared.row.Row.{Row}
use Rattle.lt_lin.specs.Terms.{Term}
use Rattle.lt_elim.specs.Progress.{KeptRows}
use Rattle.lt_elim.specs.Tracing.{IsKnownAs, AreKnown}
use Rattle.lt_elim.proofs.KeptRows.{row_at, known_at}
use Rattle.lt_elim.proofs.kept.Kept.row.Goals as goal

pub returns-in-Some-clause-row : goal.returns-in-Some-clause-row
returns-in-Some-clause-row c =
    let e = row_at c.self.inside.rows.entries c.args.place (c.in-Some.terms.now, c.in-Some.held.now) c.in-Some.ensures.entry in
    ap (λ (ts : List Term). let r : Row = record { terms = ts; constant = c.in-Some.held.now.constant } in Some r) c.as_slice.ensures.value ∙ e ∙ ap (λ (ks : KeptRows). slice_get ks.rows c.args.place) c.self.view_is

pub returns-in-Some-clause-known : goal.returns-in-Some-clause-known
returns-in-Some-clause-known c = λ known a.
    subst (λ (ts : List Term). IsKnownAs known c.in-Some.held.now.number (record { terms = ts; constant = c.in-Some.held.now.constant })) (sym c.as_slice.ensures.value)
    (known_at known c.self.inside.rows.entries c.args.place (c.in-Some.terms.now, c.in-Some.held.now) c.in-Some.ensures.entry (subst (λ (ks : KeptRows). AreKnown known ks.numbered) (sym c.self.view_is) a))
