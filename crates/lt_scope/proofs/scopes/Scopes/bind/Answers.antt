use Rattle.std.proofs.Common.{◌≡◌, ℕ, List, sym, ap, ◌∙◌, ◌+◌, ◌-◌, length, Result, Ok, Err, arith}
use Rattle.std.specs.Global.{Vec}
use Rattle.std.specs.Result.{OnErr}
use Rattle.std.proofs.lemmas.List.{get_or-set_same}
use Rattle.lt_scope.specs.Names.{Bound, binding}
use Rattle.lt_scope.specs.Binders.{binders_in, shown, standing_in, standing_at}
use Rattle.lt_scope.proofs.Standings.{agree_same}
use Rattle.lt_scope.proofs.Innermost.{undone, undone_twice, taken, shows_more, agree_more}
use Rattle.lt_scope.proofs.scopes.Scopes.bind.Goals as goal

abbrev bound : {T : Type 0} → List ℕ → T → Bound T
bound name what = record { name = name; what = what }

on_err : {A E : Type 0} (r : Result A E) {P : Type 0} → P → OnErr r P
on_err (Ok x) p = tt
on_err (Err e) p = p

pub invariant_of-self : goal.invariant_of-self
invariant_of-self g c =
    let fs = c.self.inside.frames.items in
    let end : c.len-depth.result - 1 + 1 ≡ length fs = omega arith in
    rw (undone fs (c.len-depth.result - 1) c.index_mut-innermost.result.now c.push.new.self end c.index_mut-innermost.ensures.value c.in_err-push.ensures.items) c.self.invariant

pub returns-in_err-push-clause-same : goal.returns-in_err-push-clause-same
returns-in_err-push-clause-same g c =
    let fs = c.self.inside.frames.items in
    let end : c.len-depth.result - 1 + 1 ≡ length fs = omega arith in
    on_err c.from_residual-in_err-push.result
    (ap shown (undone fs (c.len-depth.result - 1) c.index_mut-innermost.result.now c.push.new.self end c.index_mut-innermost.ensures.value c.in_err-push.ensures.items) ∙ c.self.view_is)

pub invariant_of-self-in-Err : goal.invariant_of-self-in-Err
invariant_of-self-in-Err g c =
    let fs = c.self.inside.frames.items in
    let k = c.len-depth.result - 1 in
    let end : k + 1 ≡ length fs = omega arith in
    let old = c.index_mut-innermost-in-Err.result.now in
    let same = ap (λ (v : Vec _). v.items) (c.index_mut-innermost-in-Err.ensures.value ∙ get_or-set_same fs k c.push.new.self old (omega arith)) in
    let gone = taken c.index_mut-innermost.result.now.items old.items c.pop-undone.new.self.items _ old.len (same ∙ c.in_ok-push.ensures.items) old.ok.0 c.pop-undone.ensures.rest in
    agree_same (binders_in fs) _ c.self.inside.newest c.insert.new.self
    (undone_twice fs k c.index_mut-innermost.result.now c.push.new.self c.pop-undone.new.self end c.index_mut-innermost.ensures.value gone) c.in-Err.ensures.err c.self.invariant

pub returns-in-Err-clause-same : goal.returns-in-Err-clause-same
returns-in-Err-clause-same g c =
    let fs = c.self.inside.frames.items in
    let k = c.len-depth.result - 1 in
    let end : k + 1 ≡ length fs = omega arith in
    let old = c.index_mut-innermost-in-Err.result.now in
    let same = ap (λ (v : Vec _). v.items) (c.index_mut-innermost-in-Err.ensures.value ∙ get_or-set_same fs k c.push.new.self old (omega arith)) in
    let gone = taken c.index_mut-innermost.result.now.items old.items c.pop-undone.new.self.items _ old.len (same ∙ c.in_ok-push.ensures.items) old.ok.0 c.pop-undone.ensures.rest in
    ap shown (undone_twice fs k c.index_mut-innermost.result.now c.push.new.self c.pop-undone.new.self end c.index_mut-innermost.ensures.value gone) ∙ c.self.view_is

pub invariant_of-self-in-Ok : goal.invariant_of-self-in-Ok
invariant_of-self-in-Ok g c =
    let fs = c.self.inside.frames.items in
    let k = c.len-depth.result - 1 in
    let end : k + 1 ≡ length fs = omega arith in
    let depth : c.len-depth.result ≡ length fs = omega arith in
    let hides = c.copied-hidden.ensures ∙ c.get.ensures.value ∙ ap (standing_in c.self.inside.newest) c.as_slice.ensures.value in
    agree_more fs k c.index_mut-innermost.result.now c.push.new.self _ c.self.inside.newest c.insert.new.self c.in_ok-key.key.items _ end c.index_mut-innermost.ensures.value c.in_ok-push.ensures.items c.self.invariant
    (c.in_ok-key.ensures.items ∙ sym c.in_ok-name.ensures) hides (ap (λ d. standing_at d c.args.what) depth) c.in-Ok.ensures.updates

pub returns-clause-bound : goal.returns-clause-bound
returns-clause-bound g c =
    let fs = c.self.inside.frames.items in
    let k = c.len-depth.result - 1 in
    let end : k + 1 ≡ length fs = omega arith in
    shows_more fs k c.index_mut-innermost.result.now c.push.new.self _ c.args.name.now c.args.what end c.index_mut-innermost.ensures.value c.in_ok-push.ensures.items
    (ap (λ name. bound name c.args.what) c.in_ok-name.ensures) ∙ ap (binding c.args.name.now c.args.what) c.self.view_is
