use Rattle.std.proofs.Common.{◌≡◌, ◌+◌, ◌-◌, ◌∙◌, ap, sym, Some, None, rules, arith}
use Rattle.lt_ir.specs.Graph.{register_at}
use Rattle.lt_mach.proofs.Gathering.{at_first, goes_further, lacks_one, has_all}
use Rattle.lt_mach.proofs.calling.gather.Goals as goal

pub loop-k-init : goal.loop-k-init
loop-k-init c = λ at. rw c.clear.ensures.items (at_first c.args.registers.now c.args.first c.args.count at)

pub returns : goal.returns
returns c = λ at.
    c.loop-k.invariant at ∙ has_all c.args.registers.now (c.args.first + c.loop-k.k) (c.args.count - c.loop-k.k) c.loop-k.contents.items at (omega arith)

pub returns-in-None : goal.returns-in-None
returns-in-None c = λ at.
    let e : c.in_ok-register.register ≡ c.args.first + c.loop-k.k = search rules in
    let h : (register_at c.args.registers.now (c.args.first + c.loop-k.k)).content ≡ None = ap (λ r. (register_at c.args.registers.now r).content) (sym e) ∙ sym c.content.ensures ∙ c.in-None.is in
    c.loop-k.invariant at ∙ lacks_one c.args.registers.now c.args.first c.args.count c.loop-k.k c.loop-k.contents.items at c.loop-k-test.true h

pub loop-k-preserved : goal.loop-k-preserved
loop-k-preserved c = λ at.
    let e : c.in_ok-register.register ≡ c.args.first + c.loop-k.k = search rules in
    let h : (register_at c.args.registers.now (c.args.first + c.loop-k.k)).content ≡ Some c.in-Some.content = ap (λ r. (register_at c.args.registers.now r).content) (sym e) ∙ sym c.content.ensures ∙ c.in-Some.is in
    rw c.in_ok-push-in-Some.ensures.items
    (c.loop-k.invariant at ∙ goes_further c.args.registers.now c.args.first c.args.count c.loop-k.k c.in-Some.content c.loop-k.contents.items at c.loop-k-test.true h)
