use Rattle.std.proofs.Common.{◌≡◌, replicate, None, true≢false, ap, sym, ◌∙◌, subst, length, ◌≤◌, ◌<◌, ◌+◌, ◌-◌, cond, ℕ}
use Rattle.std.proofs.lemmas.List.{with_items_is}
use Rattle.std.proofs.lemmas.List.{length-replicate}
use Rattle.lt_tables.specs.TypeParts.{known_count, AreReached}
use Rattle.lt_tables.specs.PartTypes.{structs_with}
use Rattle.lt_tables.proofs.StructExtents.{fewer_left, extents_known, count_length, reached_blank}
use Rattle.lt_tables.proofs.parts.Parts.extents.Goals as goal

pub rounds-init : goal.rounds-init
rounds-init c =
    let m = c.args.self.now.model in
    let all = structs_with c.args.self.now c.args.structs.now in
    let first = c.in_ok-known.known in
    let new = c.learn_in.new.known in
    let long : length new ≡ length first.items = c.learn_in.auto.known ∙ ap length c.deref_mut.ensures.value in
    let same = with_items_is first new (long ∙ sym first.ok.0) in
    let blank : first.items ≡ replicate (length c.args.structs.now) None = c.in_ok-known.ensures in
    let begun : AreReached m all c.deref_mut.result.now = subst (AreReached m all) (sym (c.deref_mut.ensures.value ∙ blank)) (reached_blank m all (length c.args.structs.now)) in
    record {
      length = ap length same ∙ long ∙ ap length blank ∙ length-replicate (length c.args.structs.now) None;
      reached = subst (AreReached m all) (sym same) (c.learn_in.ensures begun);
      settled = λ unchanged. absurd (true≢false unchanged);
    }

pub rounds-smaller : goal.rounds-smaller
rounds-smaller c =
    let old = c.rounds.known.items in
    let new = c.learn-is_changed.new.known in
    let changed = c.learn-is_changed.result in
    let long : length new ≡ length old = c.learn-is_changed.auto.known ∙ ap length c.deref_mut-in-rounds.ensures.value in
    subst (λ l. (length l - known_count l) + cond changed 1 0 < (length old - known_count old) + cond c.rounds.is_changed 1 0) (sym (with_items_is c.rounds.known new (long ∙ sym c.rounds.known.ok.0)))
    (subst (λ b. (length new - known_count new) + cond changed 1 0 < (length old - known_count old) + cond b 1 0) (sym c.rounds-test.true)
    (fewer_left old new changed long
    (subst (λ l. known_count l + cond changed 1 0 ≤ known_count new) c.deref_mut-in-rounds.ensures.value c.learn-is_changed.ensures.more)))

pub returns : goal.returns
returns c = λ k.
    let known = c.rounds.known.items in
    let few : known_count known ≤ length c.args.structs.now = subst (λ (n : ℕ). known_count known ≤ n) c.rounds.invariant.length (count_length known) in
    extents_known c.args.self.now.model (structs_with c.args.self.now c.args.structs.now) known c.rounds.invariant.reached (c.rounds.invariant.settled c.rounds-test.false) (length c.args.structs.now) few k
