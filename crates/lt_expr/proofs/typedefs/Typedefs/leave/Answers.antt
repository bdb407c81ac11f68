use Rattle.std.proofs.Common.{◌≡◌, None, Some, sym, ◌∙◌, rules}
use Rattle.lt_expr.proofs.Names.{agree_leave, last_is_there}
use Rattle.lt_expr.proofs.typedefs.Typedefs.leave.Goals as goal

pub invariant_of-self-in-None : goal.invariant_of-self-in-None
invariant_of-self-in-None c =
    agree_leave c.self.inside.binders.items c.pop.new.self.items c.in-Some.field-0 c.self.inside.newest c.swap_remove-gone.new.self c.as_slice.result.now None c.self.invariant
    c.in-Some.ensures.items c.as_slice.ensures c.in-None.is c.swap_remove-gone.ensures.updates

pub invariant_of-self-in-Some-get_mut : goal.invariant_of-self-in-Some-get_mut
invariant_of-self-in-Some-get_mut c =
    agree_leave c.self.inside.binders.items c.pop.new.self.items c.in-Some.field-0 c.self.inside.newest (c.get_mut.follows.lender c.in-Some-hidden.place) c.as_slice-in-Some-hidden.result.now (Some c.in-Some-hidden.place)
    c.self.invariant c.in-Some.ensures.items c.as_slice-in-Some-hidden.ensures c.in-Some-hidden.is ((c.get_mut.follows.holds c.in-Some-hidden.place).3 (search rules))

pub invariant_of-self-in_default-get_mut : goal.invariant_of-self-in_default-get_mut
invariant_of-self-in_default-get_mut c =
    let there = last_is_there c.self.inside.binders.items c.pop.new.self.items c.in-Some.field-0 c.self.inside.newest c.as_slice-in-Some-hidden.result.now c.self.invariant c.in-Some.ensures.items c.as_slice-in-Some-hidden.ensures in
    let clash : None ≡ Some _ = c.in_default-get_mut.ensures.value ∙ there in
    absurd cc
