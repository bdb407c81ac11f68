use Rattle.std.proofs.Common.{◌<◌, length, ◌∙◌, ap, sym, arith, subst}
use Rattle.lt_ir.specs.Running.{without}
use Rattle.lt_mach_parts.specs.Stacks.{AreOf}
use Rattle.lt_mach_parts.specs.Bindings.{scope_of, last_of}
use Rattle.lt_mach_parts.proofs.Scoped.{last_within, removed, none_removed, one_removed}
use Rattle.lt_mach_parts.proofs.bounds.Bounds.remove.Goals as goal

pub remove-requires : goal.remove-requires
remove-requires c =
    let l : c.in-Some.place < length c.self.inside.list.items = last_within c.self.inside.list.items c.args.v c.in-Some.place (sym (c.last_of.ensures ∙ ap (λ its. last_of its c.args.v) c.as_slice.ensures.value) ∙ c.in-Some.is) in
    let o = c.self.inside.list.ok.0 in omega arith

pub invariant_of-self : goal.invariant_of-self
invariant_of-self c =
    subst (λ items. AreOf c.pop.new.self (scope_of items)) (sym c.remove.ensures.items)
    (subst (AreOf c.pop.new.self) (sym (removed c.self.inside.list.items c.args.v c.in-Some.place (sym (c.last_of.ensures ∙ ap (λ its. last_of its c.args.v) c.as_slice.ensures.value) ∙ c.in-Some.is)))
    (one_removed c.self.inside.stacks c.pop.new.self (scope_of c.self.inside.list.items) c.args.v c.self.invariant c.pop.ensures))

pub returns-in-Some : goal.returns-in-Some
returns-in-Some c =
    ap scope_of c.remove.ensures.items ∙ removed c.self.inside.list.items c.args.v c.in-Some.place (sym (c.last_of.ensures ∙ ap (λ its. last_of its c.args.v) c.as_slice.ensures.value) ∙ c.in-Some.is)
    ∙ ap (λ scope. without scope c.args.v) c.self.view_is

pub returns-in-None : goal.returns-in-None
returns-in-None c =
    sym c.self.view_is ∙ sym (none_removed c.self.inside.list.items c.args.v (sym (c.last_of.ensures ∙ ap (λ its. last_of its c.args.v) c.as_slice.ensures.value) ∙ c.in-None.is))
    ∙ ap (λ scope. without scope c.args.v) c.self.view_is
