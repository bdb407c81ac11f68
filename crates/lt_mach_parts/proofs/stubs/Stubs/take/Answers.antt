use Rattle.std.proofs.Common.{◌≡◌, ◌<◌, ◌≤◌, length, ◌∙◌, ap, sym, arith, Some, inl, inr}
use Rattle.lt_ir.specs.Prepared.{place_of, value_at}
use Rattle.lt_mach_parts.proofs.Placed.{none_at, none_now, taken_now, not_none, places_kept}
use Rattle.lt_mach_parts.proofs.stubs.Stubs.take.Goals as goal

pub returns-then-place-self-clause-value : goal.returns-then-place-self-clause-value
returns-then-place-self-clause-value c =
    ap (λ place. value_at place c.args.self.now) c.in_ok-place.was ∙ ap (value_at (Some c.in_ok-place.place)) (sym c.self.view_is) ∙ none_at c.self.inside.sets.now c.self.inside.taken.items c.in_ok-place.place (inl c.if-place-self.true)

pub returns-then-place-len-clause-value : goal.returns-then-place-len-clause-value
returns-then-place-len-clause-value c =
    let o = c.self.inside.taken.ok.0 in
    let l = c.len.ensures in
    let t = c.if-place-len.true in
    let h : length c.self.inside.taken.items ≤ c.in_ok-place.place = omega arith in
    ap (λ place. value_at place c.args.self.now) c.in_ok-place.was ∙ ap (value_at (Some c.in_ok-place.place)) (sym c.self.view_is) ∙ none_at c.self.inside.sets.now c.self.inside.taken.items c.in_ok-place.place (inr h)

pub returns-clause-places : goal.returns-clause-places
returns-clause-places c = λ name. places_kept c.self.inside.sets.now c.self.inside.taken.items c.in_ok-place.place _ name ∙ ap (place_of name) c.self.view_is

pub returns-then-count-values-clause-value : goal.returns-then-count-values-clause-value
returns-then-count-values-clause-value c =
    let o = c.self.inside.taken.ok.0 in
    let l = c.len.ensures in
    let t = c.if-place-len.false in
    let h : c.in_ok-place.place < length c.self.inside.taken.items = omega arith in
    ap (λ place. value_at place c.args.self.now) c.in_ok-place.was ∙ ap (value_at (Some c.in_ok-place.place)) (sym c.self.view_is)
    ∙ none_now c.self.inside.sets.now c.self.inside.taken.items c.in_ok-place.place _ _ c.if-place-self.false h c.index-count.result.now c.as_slice-values.result.now c.index-count.ensures c.as_slice-values.ensures c.if-count-values.true

pub returns-clause-value : goal.returns-clause-value
returns-clause-value c =
    let o = c.self.inside.taken.ok.0 in
    let l = c.len.ensures in
    let t = c.if-place-len.false in
    let h : c.in_ok-place.place < length c.self.inside.taken.items = omega arith in
    ap (λ place. value_at place c.args.self.now) c.in_ok-place.was ∙ ap (value_at (Some c.in_ok-place.place)) (sym c.self.view_is)
    ∙ taken_now c.self.inside.sets.now c.self.inside.taken.items c.in_ok-place.place _ _ c.if-place-self.false h c.index-count.result.now c.as_slice-values.result.now c.value_in.result c.index-count.ensures c.as_slice-values.ensures c.value_in.ensures c.if-count-values.false

pub returns-clause-kept : goal.returns-clause-kept
returns-clause-kept c = not_none _ c.value_in.result c.as_slice-values.result.now c.index-count.result.now c.value_in.ensures c.if-count-values.false
