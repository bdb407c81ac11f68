use Rattle.std.proofs.Common.{◌≡◌, sym, ◌∙◌, ap, subst, List, Bool, ◌&&◌, Option}
use Rattle.std.specs.Prelude.{nat_eq, map, option_copied}
use Rattle.std.specs.Ordering.{int_eq}
use Rattle.std.specs.Map.{lookup}
use Rattle.std.specs.Global.{Vec}
use Rattle.std.specs.Cmp.Lexicographic.{pointwise}
use Rattle.indexmap.specs.IndexMap.{insert_entry}
use Rattle.lt_lin.specs.declared.row.Row.{Row}
use Rattle.lt_lin.specs.Terms.{Term}
use Rattle.lt_elim.specs.Elimination.{with_row}
use Rattle.lt_elim.specs.Progress.{row_of, rows_of, numbered_of, KeptRows, kept_of, least_of}
use Rattle.lt_elim.specs.Tracing.{IsKnownAs, AreKnown}
use Rattle.lt_elim.specs.declared.kept.Held.{Held}
use Rattle.lt_elim.proofs.KeptRows.{with_row_inserted, known_inserted, same_keys}
use Rattle.lt_elim.proofs.kept.Kept.put.Goals as goal

key_eq : Vec Term → Vec Term → Bool
key_eq a b = pointwise (λ (x y : Term). nat_eq x.0 y.0 && int_eq x.1 y.1) a.items b.items

put_rows : (es after : List (Vec Term × Held)) (k : Vec Term) (h least : Held) (o : Option Held) (old : KeptRows) → after ≡ insert_entry key_eq es k least → least ≡ least_of h o → o ≡ lookup (key_eq k) es → kept_of es ≡ old → rows_of after ≡ with_row old.rows (row_of (k, h))
unfolding key_eq
put_rows es after k h least o old e l g v =
    ap rows_of e ∙ ap (λ (z : Held). rows_of (insert_entry key_eq es k z)) (l ∙ ap (least_of h) g) ∙ with_row_inserted key_eq (λ a b. same_keys a.items b.items) es k h ∙ ap (λ (ks : KeptRows). with_row ks.rows (row_of (k, h))) v

put_known : (es after : List (Vec Term × Held)) (k : Vec Term) (h least : Held) (o : Option Held) (old : KeptRows) → after ≡ insert_entry key_eq es k least → least ≡ least_of h o → o ≡ lookup (key_eq k) es → kept_of es ≡ old → (known : List Row) → AreKnown known old.numbered → IsKnownAs known h.number (row_of (k, h)) → AreKnown known (map numbered_of after)
unfolding key_eq
put_known es after k h least o old e l g v known a n =
    subst (λ (xs : List (Vec Term × Held)). AreKnown known (map numbered_of xs)) (sym (e ∙ ap (λ (z : Held). insert_entry key_eq es k z) (l ∙ ap (least_of h) g)))
    (known_inserted key_eq (λ a b. same_keys a.items b.items) known es k h (subst (λ (ks : KeptRows). AreKnown known ks.numbered) (sym v) a) n)

pub returns-clause-rows : goal.returns-clause-rows
unfolding key_eq
returns-clause-rows c =
    put_rows c.self.inside.rows.entries c.insert.new.self.entries c.args.terms c.args.held c.least_of-least.result (option_copied c.get.result) c.args.self.now c.in_ok-insert.ensures.entries c.least_of-least.ensures c.get.ensures.value c.self.view_is

pub returns-clause-known : goal.returns-clause-known
unfolding key_eq
returns-clause-known c =
    put_known c.self.inside.rows.entries c.insert.new.self.entries c.args.terms c.args.held c.least_of-least.result (option_copied c.get.result) c.args.self.now c.in_ok-insert.ensures.entries c.least_of-least.ensures c.get.ensures.value c.self.view_is
