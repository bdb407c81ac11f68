use Rattle.std.proofs.Common.{◌≡◌, ◌*◌, Some, take, ◌+◌, ◌∷◌, ◌++◌, [], ◌<◌, List, length, slice_get, ap, sym, subst, ◌∙◌, arith}
use Rattle.std.proofs.lemmas.List.{take_all}
use Rattle.lt_tree.specs.declared.typed.statement.Item.{Item}
use Rattle.lt_code.specs.Costs.{alone}
use Rattle.lt_emit.specs.Spending.{Spends}
use Rattle.lt_emit.specs.Emission.{Adds}
use Rattle.lt_lower.specs.declared.flow.Exits.{Exits as HeldExits}
use Rattle.lt_lower.specs.Stands.{EndsAlong, declared_along}
use Rattle.lt_emit.proofs.Emitted.{longer, front_of, last_of}
use Rattle.lt_lower.proofs.Items.{along_more, along_spends, along_within, declared_next}
use Rattle.lt_lower.proofs.flow.ends.ends_along.Goals as goal

pub items-preserved : goal.items-preserved
items-preserved c =
    let before = c.items.all.items in
    let inner = c.in_ok-inner.inner in
    let is : c.push-in-items.new.self.items ≡ before ++ inner ∷ [] = c.in_ok-push-2.ensures.items in
    let some : 0 < length before = omega (arith, c.items.invariant.each) in
    let Adding : List HeldExits → Type 0 = λ xs. Adds c.args.b.now c.ends_behind.new.b (EndsAlong c.args.its.now xs) in
    record {
      adds = subst Adding (sym is) (along_more c.args.its.now before c.items.it-index c.it-item.result c.items.inner inner
          c.items.invariant.each c.items-test.true c.it-item.is c.items.invariant.last c.items.invariant.adds c.in_ok-inner.ensures.exits.adds);
      spends = along_spends c.args.its.now c.items.it-index c.it-item.result c.items-test.true c.it-item.is c.items.invariant.spends
          c.in_ok-inner.ensures.exits.spends;
      first = ap (λ xs. slice_get xs 0) is ∙ front_of before inner 0 some ∙ c.items.invariant.first;
      last = ap (λ xs. slice_get xs (c.items.it-index + 1)) is ∙ ap (slice_get (before ++ inner ∷ [])) (sym c.items.invariant.each) ∙ last_of before inner;
      each = ap length is ∙ longer before inner ∙ ap (λ n. n + 1) c.items.invariant.each;
      within = λ k y at. along_within before inner c.in_ok-inner.ensures.exits.adds.grows c.items.invariant.within c.in_ok-inner.ensures.exits.within k y
          (ap (λ xs. slice_get xs k) (sym is) ∙ at);
      unchanged = λ none.
          let split = declared_next c.args.its.now c.items.it-index c.it-item.result c.items-test.true c.it-item.is in
          c.in_ok-inner.ensures.unchanged (omega (arith, none, split)) ∙ c.items.invariant.unchanged (omega (arith, none, split));
    }

pub returns : goal.returns
returns c =
    let its = c.args.its.now in
    let end : c.items.it-index ≡ length its = omega arith in
    let whole : take c.items.it-index its ≡ its = take_all c.items.it-index its (omega (arith, end)) in
    let Costs : List Item → Type 0 = λ row. Spends (alone (5 * declared_along row)) c.args.b.now c.items.b in
    record {
      adds = c.items.invariant.adds;
      spends = subst Costs whole c.items.invariant.spends;
      first = c.items.invariant.first;
      each = c.items.invariant.each ∙ ap (λ n. n + 1) end;
      within = c.items.invariant.within;
      unchanged = λ none.
          ap (slice_get c.items.all.items) (sym end) ∙ c.items.invariant.last ∙ ap Some (c.items.invariant.unchanged (ap declared_along whole ∙ none));
    }
