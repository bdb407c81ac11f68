use Rattle.std.proofs.Common.{sym, ◌∙◌, ap}
use Rattle.lt_mem.proofs.Blocks.{used, if_living, change_through}
use Rattle.lt_mem.proofs.Becoming.{stored, not_stored}
use Rattle.lt_mem.proofs.Keeping.{given, kept_after_change}
use Rattle.lt_mem.proofs.memory.Memory.store.Goals as goal

pub returns-in_default-get_mut : goal.returns-in_default-get_mut
returns-in_default-get_mut c =
    let none = used c.self.inside.living c.self.inside.made c.self.invariant.unmade c.in-Some.at.block ∙ ap if_living (sym c.in_default-get_mut.ensures.value) in
    rw (c.in-Some.is, c.get_mut.follows.holds-at-none) (not_stored c.args.self.now _ _ c.args.ty c.args.value _ (rw (← c.self.view_is) none) c.self.view_is)

pub invariant_of-self-2 : goal.invariant_of-self-2
invariant_of-self-2 c =
    let at = sym c.in-Some-get_mut.ensures.value in
    let change = change_through c.self.inside.living (c.get_mut.follows.lender c.store.new.self) c.in-Some.at.block c.in-Some-get_mut.object.now c.store.new.self (c.get_mut.follows.holds c.store.new.self) at in
    kept_after_change c.self.inside.living _ _ _ c.self.invariant (c.get_mut.follows.lender c.store.new.self) c.in-Some.at.block c.in-Some-get_mut.object.now c.store.new.self at change c.store.ensures.length

pub returns : goal.returns
returns c =
    let at = sym c.in-Some-get_mut.ensures.value in
    let change = change_through c.self.inside.living (c.get_mut.follows.lender c.store.new.self) c.in-Some.at.block c.in-Some-get_mut.object.now c.store.new.self (c.get_mut.follows.holds c.store.new.self) at in
    let below = given c.self.inside.living c.self.inside.made _ _ c.self.invariant c.in-Some.at.block c.in-Some-get_mut.object.now at in
    rw c.in-Some.is (stored c.self.inside.model c.self.inside.living (c.get_mut.follows.lender c.store.new.self) c.self.inside.made c.in-Some.at c.in-Some-get_mut.object.now c.store.new.self below at change c.args.self.now c.args.ty c.args.value c.store.result c.self.invariant.unmade c.self.view_is (rw c.from.ensures at c.store.ensures.becomes))
