use Rattle.std.proofs.Common.{rules, ◌≡◌, sym, ◌∙◌, ap, subst, List, [], ◌∷◌, ◌++◌, ℤ, pos, append-nil}
use Rattle.std.proofs.lemmas.Int.{to_z-of_z}
use Rattle.std.proofs.lemmas.List.{map-append}
use mir.Val.{SFits, to_z, of_z}
use mir.Syntax.{w128}
use Rattle.lt_lin.specs.declared.row.Row.{Row}
use Rattle.lt_lin.specs.Terms.{Term}
use Rattle.lt_elim.specs.Elimination.{raising, lowering}
use Rattle.lt_elim.specs.Tracing.{bare, AreKnown, IsKnownAs}
use Rattle.lt_elim.specs.declared.numbered.Numbered.{Numbered}
use Rattle.lt_elim.proofs.Tracing.{known_both}
use Rattle.lt_elim.proofs.Staging.{put_nowhere, put_raising, put_lowering}
use Rattle.lt_elim.proofs.stage.put_row.Goals as goal

abbrev row : List Term → ℤ → Row
row ts k = record { terms = ts; constant = k }

bare_push : (ns : List Numbered) (n : Numbered) → bare (ns ++ n ∷ []) ≡ bare ns ++ n.row ∷ []
bare_push ns n = map-append (λ (x : Numbered). x.row) ns (n ∷ [])

is_zero : (z : ℤ) → SFits w128 z → of_z w128 z ≡ 0 → z ≡ pos 0
is_zero z s e = sym (to_z-of_z w128 z s) ∙ ap (to_z w128) e

to_end : (old next more some : List Row) → next ≡ old ++ more → some ≡ more → next ≡ old ++ some
to_end old next more some e f = e ∙ ap (λ (qs : List Row). old ++ qs) (sym f)

stays : (old some : List Row) → some ≡ [] → old ≡ old ++ some
stays old some e = sym (ap (λ (qs : List Row). old ++ qs) e ∙ append-nil old)

pub returns-then-factor-eq0-clause-raising : goal.returns-then-factor-eq0-clause-raising
returns-then-factor-eq0-clause-raising c =
    let k : SFits w128 c.args.held.constant = search rules in
    let z : SFits w128 c.factor_of-factor.result = search rules in
    let p = put_nowhere c.args.variable (row c.args.terms.now c.args.held.constant) c.factor_of-factor.result c.requires c.factor_of-factor.ensures (is_zero c.factor_of-factor.result z c.if-factor-eq0.true) in
    stays (bare c.args.stage.now.raising.items) (raising c.args.variable ((row c.args.terms.now c.args.held.constant) ∷ [])) p.raising

pub returns-then-factor-eq0-clause-lowering : goal.returns-then-factor-eq0-clause-lowering
returns-then-factor-eq0-clause-lowering c =
    let k : SFits w128 c.args.held.constant = search rules in
    let z : SFits w128 c.factor_of-factor.result = search rules in
    let p = put_nowhere c.args.variable (row c.args.terms.now c.args.held.constant) c.factor_of-factor.result c.requires c.factor_of-factor.ensures (is_zero c.factor_of-factor.result z c.if-factor-eq0.true) in
    stays (bare c.args.stage.now.lowering.items) (lowering c.args.variable ((row c.args.terms.now c.args.held.constant) ∷ [])) p.lowering

pub returns-in_ok-push-clause-raising : goal.returns-in_ok-push-clause-raising
returns-in_ok-push-clause-raising c =
    let k : SFits w128 c.args.held.constant = search rules in
    let z : SFits w128 c.factor_of-factor.result = search rules in
    let p = put_raising c.args.variable (row c.args.terms.now c.args.held.constant) c.factor_of-factor.result c.requires c.factor_of-factor.ensures (simp to_z-of_z at c.if-factor-gt0.true) in
    let copied = simp to_z-of_z at c.in_ok-copy.ensures in
    to_end (bare c.args.stage.now.raising.items) (bare c.push.new.self.items) ((row c.args.terms.now c.args.held.constant) ∷ []) (raising c.args.variable ((row c.args.terms.now c.args.held.constant) ∷ [])) (ap bare c.in_ok-push.ensures.items ∙ bare_push c.args.stage.now.raising.items (record { row = c.in_ok-copy.copy; number = c.args.held.number }) ∙ ap (λ (z : Row). (bare c.args.stage.now.raising.items) ++ z ∷ []) copied) p.raising

pub returns-in_ok-push-clause-lowering : goal.returns-in_ok-push-clause-lowering
returns-in_ok-push-clause-lowering c =
    let k : SFits w128 c.args.held.constant = search rules in
    let z : SFits w128 c.factor_of-factor.result = search rules in
    let p = put_raising c.args.variable (row c.args.terms.now c.args.held.constant) c.factor_of-factor.result c.requires c.factor_of-factor.ensures (simp to_z-of_z at c.if-factor-gt0.true) in
    stays (bare c.args.stage.now.lowering.items) (lowering c.args.variable ((row c.args.terms.now c.args.held.constant) ∷ [])) p.lowering

pub returns-in_ok-push-2-clause-raising : goal.returns-in_ok-push-2-clause-raising
returns-in_ok-push-2-clause-raising c =
    let k : SFits w128 c.args.held.constant = search rules in
    let z : SFits w128 c.factor_of-factor.result = search rules in
    let p = put_lowering c.args.variable (row c.args.terms.now c.args.held.constant) c.factor_of-factor.result c.requires c.factor_of-factor.ensures (simp to_z-of_z at c.if-factor-gt0.false) (λ e. c.if-factor-eq0.false (ap (of_z w128) e)) in
    stays (bare c.args.stage.now.raising.items) (raising c.args.variable ((row c.args.terms.now c.args.held.constant) ∷ [])) p.raising

pub returns-in_ok-push-2-clause-lowering : goal.returns-in_ok-push-2-clause-lowering
returns-in_ok-push-2-clause-lowering c =
    let k : SFits w128 c.args.held.constant = search rules in
    let z : SFits w128 c.factor_of-factor.result = search rules in
    let p = put_lowering c.args.variable (row c.args.terms.now c.args.held.constant) c.factor_of-factor.result c.requires c.factor_of-factor.ensures (simp to_z-of_z at c.if-factor-gt0.false) (λ e. c.if-factor-eq0.false (ap (of_z w128) e)) in
    let copied = simp to_z-of_z at c.in_ok-copy.ensures in
    to_end (bare c.args.stage.now.lowering.items) (bare c.push-else-factor-gt0.new.self.items) ((row c.args.terms.now c.args.held.constant) ∷ []) (lowering c.args.variable ((row c.args.terms.now c.args.held.constant) ∷ [])) (ap bare c.in_ok-push-2.ensures.items ∙ bare_push c.args.stage.now.lowering.items (record { row = c.in_ok-copy.copy; number = c.args.held.number }) ∙ ap (λ (z : Row). (bare c.args.stage.now.lowering.items) ++ z ∷ []) copied) p.lowering

pub returns-in_ok-push-clause-known : goal.returns-in_ok-push-clause-known
returns-in_ok-push-clause-known c =
    let k : SFits w128 c.args.held.constant = search rules in
    let copied = simp to_z-of_z at c.in_ok-copy.ensures in
    λ known i a. (subst (AreKnown known) (sym c.in_ok-push.ensures.items) (known_both known c.args.stage.now.raising.items (record { row = c.in_ok-copy.copy; number = c.args.held.number } ∷ []) a.0 (subst (IsKnownAs known c.args.held.number) (sym copied) i, tt)), a.1)

pub returns-in_ok-push-2-clause-known : goal.returns-in_ok-push-2-clause-known
returns-in_ok-push-2-clause-known c =
    let k : SFits w128 c.args.held.constant = search rules in
    let copied = simp to_z-of_z at c.in_ok-copy.ensures in
    λ known i a. (a.0, subst (AreKnown known) (sym c.in_ok-push-2.ensures.items) (known_both known c.args.stage.now.lowering.items (record { row = c.in_ok-copy.copy; number = c.args.held.number } ∷ []) a.1 (subst (IsKnownAs known c.args.held.number) (sym copied) i, tt)))
