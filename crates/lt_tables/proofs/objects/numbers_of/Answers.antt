use Rattle.std.proofs.Common.{◌∙◌, ap, cond, ◌+◌, ◌&&◌, ◌==◌, Some, ◌≤◌, subst, sym, ℕ}
use Rattle.std.specs.Ordering.{nat_cmp}
use Rattle.std.specs.BTreeMap.{get}
use Rattle.lt_tables.specs.Objects.{is_made_first}
use Rattle.lt_tables.proofs.ObjectNumbers.{number_more, count_more, few_more, numbers_all}
use Rattle.lt_tables.proofs.objects.numbers_of.Goals as goal

pub loop-place-preserved : goal.loop-place-preserved
loop-place-preserved c =
    let counted = c.in_ok-count.ensures.count ∙ ap (λ b. c.loop-place.count + cond b 1 0) c.is_made_first-is_first.ensures in
    let IsFew : ℕ → Type 0 = λ k. k ≤ c.loop-place.place + 1 in
    record {
      count = counted ∙ count_more c.args.objects.now c.loop-place.place c.loop-place.count c.index-objects-place.result c.loop-place-test.true c.index-objects-place.is c.loop-place.invariant.count;
      few = subst IsFew (sym counted) (few_more (is_made_first c.index-objects-place.result) c.loop-place.count c.loop-place.place c.loop-place.invariant.few);
      numbers = number_more c.args.objects.now c.loop-place.place c.loop-place.count c.index-objects-place.result (get nat_cmp c.loop-place.numbers) (get nat_cmp c.with_number.new.numbers) c.loop-place-test.true
          c.index-objects-place.is c.loop-place.invariant.count c.loop-place.invariant.numbers
          (λ n. c.in_ok-count.ensures.numbers n ∙ ap (λ b. cond (b && (c.loop-place.place == n)) (Some c.loop-place.count) (get nat_cmp c.loop-place.numbers n)) c.is_made_first-is_first.ensures);
    }

pub returns : goal.returns
returns c = numbers_all c.args.objects.now c.loop-place.place (get nat_cmp c.loop-place.numbers) c.loop-place-test.false c.loop-place.invariant.numbers
