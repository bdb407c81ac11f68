use Rattle.std.proofs.Common.{arith, ◌≡◌, ◌≤◌, sym, ◌∙◌, ap, subst, length}
use Rattle.std.proofs.lemmas.List.{with_items_is}
use Rattle.std.proofs.lemmas.Result.{err_from_is_err_and}
use Rattle.lt_mem.specs.Image.{IsKept}
use Rattle.lt_mem.specs.Steps.{delivered}
use Rattle.lt_mem.proofs.Blocks.{change_through}
use Rattle.lt_mem.proofs.Copies.{copy_failed, copy_sealed, copy_done, target_ended, source_ended, no_change}
use Rattle.lt_mem.proofs.Keeping.{given, kept_with, kept_after_change}
use Rattle.lt_mem.proofs.memory.Memory.copy_struct.Goals as goal

pub returns-in_default-get : goal.returns-in_default-get
returns-in_default-get c = rw (c.in-Some.is, c.in-Some-from.is) (target_ended c.self.inside.model c.self.inside.living c.self.inside.living c.self.inside.made c.self.invariant.unmade _ c.self.view_is c.in-Some.to c.in-Some-from.from c.args.shape.now (sym c.in_default-get.ensures.value))

pub returns-in_default-get-2 : goal.returns-in_default-get-2
returns-in_default-get-2 c = rw (c.in-Some.is, c.in-Some-from.is) (source_ended c.self.inside.model c.self.inside.living c.self.inside.living c.self.inside.made c.self.invariant.unmade _ c.self.view_is c.in-Some.to c.in-Some-from.from c.in-Some-get.target.now c.args.shape.now (sym c.in-Some-get.ensures.value) (sym c.in_default-get-2.ensures.value))

pub returns-in_err-gather : goal.returns-in_err-gather
returns-in_err-gather c =
    let p = err_from_is_err_and c.from_residual.result c.from_residual.ensures.1 in
    let there = sym c.in-Some-get.ensures.value in
    let here = sym c.in-Some-get-2.ensures.value in
    let below = given c.self.inside.living c.self.inside.made _ _ c.self.invariant c.in-Some.to.block c.in-Some-get.target.now there in
    let room : length c.in-Some-get.target.now.cells ≤ length c.as_mut_slice.result.now = omega (arith, c.self.invariant.room c.in-Some.to.block c.in-Some-get.target.now there, ap length c.as_mut_slice.ensures.value) in
    rw (p.1, p.2, c.in-Some.is, c.in-Some-from.is)
    (copy_failed c.self.inside.model c.self.inside.living c.self.inside.living c.self.inside.made c.self.invariant.unmade c.args.self.now c.self.view_is c.in-Some.to c.in-Some-from.from
    c.in-Some-get.target.now c.in-Some-get-2.source.now c.args.shape.now c.as_slice-cells.result.now c.as_mut_slice.result.now c.as_slice-cells.ensures below there here room _ c.in_err-gather.ensures.waits (no_change c.self.inside.living _ _ there))

pub returns-then-not-is_writable : goal.returns-then-not-is_writable
returns-then-not-is_writable c =
    let there = sym c.in-Some-get.ensures.value in
    let here = sym c.in-Some-get-2.ensures.value in
    let below = given c.self.inside.living c.self.inside.made _ _ c.self.invariant c.in-Some.to.block c.in-Some-get.target.now there in
    let room : length c.in-Some-get.target.now.cells ≤ length c.as_mut_slice.result.now = omega (arith, c.self.invariant.room c.in-Some.to.block c.in-Some-get.target.now there, ap length c.as_mut_slice.ensures.value) in
    rw (c.in-Some.is, c.in-Some-from.is)
    (copy_sealed c.self.inside.model c.self.inside.living c.self.inside.living c.self.inside.made c.self.invariant.unmade c.args.self.now c.self.view_is c.in-Some.to c.in-Some-from.from
    c.in-Some-get.target.now c.in-Some-get-2.source.now c.args.shape.now c.as_slice-cells.result.now c.as_mut_slice.result.now c.as_slice-cells.ensures below there here room _ c.in_ok-gather.ensures.waits (sym c.is_writable.ensures ∙ c.if-not-is_writable.true) (no_change c.self.inside.living _ _ there))

pub invariant_of-self-2 : goal.invariant_of-self-2
invariant_of-self-2 c =
    let found = sym c.in-Some-get_mut.ensures.value in
    let change = change_through c.self.inside.living (c.get_mut.follows.lender c.deliver.new.self) c.in-Some.to.block c.in-Some-get_mut.target.now c.deliver.new.self (c.get_mut.follows.holds c.deliver.new.self) found in
    let kept = kept_after_change c.self.inside.living _ _ _ c.self.invariant (c.get_mut.follows.lender c.deliver.new.self) c.in-Some.to.block c.in-Some-get_mut.target.now c.deliver.new.self found change c.deliver.ensures.length in
    let same : length c.gather.new.waits ≡ c.self.inside.scratch.len = omega (arith, c.gather.auto.waits, c.as_mut_slice.ensures.len) in
    subst (IsKept (c.get_mut.follows.lender c.deliver.new.self) c.self.inside.made c.self.inside.alive) (sym (with_items_is c.self.inside.scratch c.gather.new.waits same))
    (kept_with (c.get_mut.follows.lender c.deliver.new.self) c.self.inside.made c.self.inside.alive c.self.inside.scratch.items kept c.gather.new.waits (omega (arith, c.gather.auto.waits, ap length c.as_mut_slice.ensures.value)) c.in_ok-gather.ensures.fit)

pub returns : goal.returns
returns c =
    let there = sym c.in-Some-get.ensures.value in
    let here = sym c.in-Some-get-2.ensures.value in
    let below = given c.self.inside.living c.self.inside.made _ _ c.self.invariant c.in-Some.to.block c.in-Some-get.target.now there in
    let room : length c.in-Some-get.target.now.cells ≤ length c.as_mut_slice.result.now = omega (arith, c.self.invariant.room c.in-Some.to.block c.in-Some-get.target.now there, ap length c.as_mut_slice.ensures.value) in
    let found = sym c.in-Some-get_mut.ensures.value in
    let change = change_through c.self.inside.living (c.get_mut.follows.lender c.deliver.new.self) c.in-Some.to.block c.in-Some-get_mut.target.now c.deliver.new.self (c.get_mut.follows.holds c.deliver.new.self) found in
    rw (c.in-Some.is, c.in-Some-from.is)
    (copy_done c.self.inside.model c.self.inside.living (c.get_mut.follows.lender c.deliver.new.self) c.self.inside.made c.self.invariant.unmade c.args.self.now c.self.view_is c.in-Some.to c.in-Some-from.from
    c.in-Some-get.target.now c.in-Some-get-2.source.now c.args.shape.now c.as_slice-cells.result.now c.as_mut_slice.result.now c.as_slice-cells.ensures below there here room c.gather.new.waits c.in-Some-get_mut.target.now c.deliver.new.self c.in_ok-gather.ensures.waits (sym c.is_writable.ensures ∙ c.if-not-is_writable.false) found (c.deliver.ensures.cells ∙ ap (λ waits. record c.in-Some-get_mut.target.now { cells = delivered c.self.inside.model c.in-Some-get_mut.target.now.cells c.in-Some.to.offset waits c.as_slice-cells.result.now }) (c.as_slice.ensures.value ∙ with_items_is c.self.inside.scratch c.gather.new.waits (omega (arith, c.gather.auto.waits, c.as_mut_slice.ensures.len)))) change)
