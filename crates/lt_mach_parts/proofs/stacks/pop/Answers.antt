use Rattle.std.proofs.Common.{◌<◌, ◌≤◌, length, ◌∙◌, ap, sym, arith, if◌then◌else◌}
use Rattle.std.specs.Prelude.{nat_eq}
use Rattle.lt_mach_parts.specs.Stacks.{stack_at, rest_of}
use Rattle.lt_mach_parts.proofs.Stacked.{at_set, at_within, none_goes}
use Rattle.lt_mach_parts.proofs.stacks.pop.Goals as goal

pub returns-then-k-len : goal.returns-then-k-len
returns-then-k-len c = λ j.
    let o = c.args.list.now.ok.0 in
    let l = c.len.ensures in
    let t = c.if-k-len.true in
    let h : c.args.k < length c.args.list.now.items = omega arith in
    at_set c.args.list.now.items c.args.k c.pop.new.self h j
    ∙ ap (λ it. if nat_eq c.args.k j then it else stack_at c.args.list.now.items j) (c.pop.ensures ∙ ap rest_of (c.index_mut-stack.ensures.value ∙ sym (at_within c.args.list.now.items c.args.k _ h)))

pub returns-else-k-len : goal.returns-else-k-len
returns-else-k-len c =
    let o = c.args.list.now.ok.0 in
    let l = c.len.ensures in
    let t = c.if-k-len.false in
    let h : length c.args.list.now.items ≤ c.args.k = omega arith in
    none_goes c.args.list.now.items c.args.k h
