use Rattle.std.proofs.Common.{rules, refl, sym, ◌∙◌, not, ◌==◌, ◌≡◌}
use Rattle.std.specs.Prelude.{filter}
use Rattle.std.proofs.lemmas.Fn.{filter_same}
use Rattle.lt_address.proofs.Parts.{others_ascending, after_block}
use Rattle.lt_address.proofs.end.end_block.Goals as goal

pub invariant_of-value : goal.invariant_of-value
invariant_of-value c =
    let e : c.retain.new.self.items ≡ filter (λ t. not (t.block == c.args.block)) c.args.value.now.targets.list.items = filter_same _ _ _ (λ x b f' k. search rules) _ _ c.retain.ensures.filtered in
    record { ascending = rw e (others_ascending c.args.block 0 c.args.value.now.targets.list.items c.args.value.now.targets.ascending) }

pub returns-then-is_some : goal.returns-then-is_some
returns-then-is_some c =
    let e : c.retain.new.self.items ≡ filter (λ t. not (t.block == c.args.block)) c.args.value.now.targets.list.items = filter_same _ _ _ (λ x b f' k. search rules) _ _ c.retain.ensures.filtered in
    after_block c.args.block c.args.value.now _ c.seek-offsets.result.0 _ (rw c.as_slice.ensures.value at c.seek-offsets.ensures.found) (sym c.is_some.ensures ∙ c.if-is_some.true) refl refl refl refl e
