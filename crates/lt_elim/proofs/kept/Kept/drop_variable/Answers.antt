use Rattle.std.proofs.Common.{◌≡◌, sym, ◌∙◌, ap, subst, rules, List, pos}
use Rattle.std.specs.List.{filter}
use Rattle.std.specs.Ordering.{int_eq}
use Rattle.indexmap.proofs.CallerLemmas.{filter-RetainsPairs}
use Rattle.lt_elim.specs.Elimination.{without}
use Rattle.lt_elim.specs.Progress.{rows_of, found_factor, numbered_of, KeptRows, AllInOrder}
use Rattle.lt_elim.specs.Tracing.{AreKnown}
use Rattle.lt_elim.specs.declared.kept.Held.{Held}
use Rattle.lt_lin.specs.Terms.{Term}
use Rattle.std.specs.Global.{Vec}
use Rattle.std.specs.Prelude.{map}
use Rattle.lt_elim.proofs.KeptRows.{dropped_rows, known_filtered}
use Rattle.lt_elim.proofs.kept.Kept.drop_variable.Goals as goal

pub returns-clause-rows : goal.returns-clause-rows
returns-clause-rows c =
    ap rows_of (filter-RetainsPairs _ _ _ (λ k v b w g call. search rules) _ _ c.retain.ensures.filtered)
    ∙ dropped_rows c.args.variable c.self.inside.rows.entries (subst (λ (ks : KeptRows). AllInOrder ks.rows) (sym c.self.view_is) c.requires)
    ∙ ap (λ (ks : KeptRows). without c.args.variable ks.rows) c.self.view_is

pub returns-clause-known : goal.returns-clause-known
returns-clause-known c =
    let left : c.retain.new.self.entries ≡ filter (λ (e : Vec Term × Held). int_eq (found_factor c.args.variable e.0.items) (pos 0)) c.self.inside.rows.entries = filter-RetainsPairs _ _ _ (λ k v b w g call. search rules) _ _ c.retain.ensures.filtered in
    λ known a. subst (λ (es : List (Vec Term × Held)). AreKnown known (map numbered_of es)) (sym left)
    (known_filtered known (λ (e : Vec Term × Held). int_eq (found_factor c.args.variable e.0.items) (pos 0)) c.self.inside.rows.entries (subst (λ (ks : KeptRows). AreKnown known ks.numbered) (sym c.self.view_is) a))
