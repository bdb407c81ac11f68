use Rattle.std.proofs.Common.{◌≡◌, ℕ, suc, pos, ◌+◌, ◌<◌, ◌++◌, length, map, take, drop, slice_set, slice_index_or, ap, ◌∙◌, arith}
use Rattle.lt_ir.specs.declared.node.Arm.{Arm}
use Rattle.lt_emit.specs.Turning.{turned_arm}
use Rattle.lt_emit.specs.Turned.{point_of}
use Rattle.lt_emit.proofs.Stepwise.{turn_step}
use Rattle.lt_emit.proofs.turning.turned_arms.Goals as goal

pub arms-preserved : goal.arms-preserved
arms-preserved c =
    let before = c.arms.arm-items in
    let k = c.arms.arm-index in
    let blank : Arm = record { value = pos 0; next = 0 } in
    let turn : Arm → Arm = turned_arm (point_of c.args.last) in
    let there : k < length c.args.arms =
    omega (arith, c.arms-test.true, ap length c.deref_mut-arm-items.ensures.value, ap length c.into_vec-arms.ensures) in
    let next : suc k ≡ k + 1 = omega arith in
    let with_next : ℕ → Arm = λ n. record { value = (slice_index_or before k blank).value; next = n } in
    ap (λ n. slice_set before k (with_next n)) c.saturating_sub-arm.ensures
    ∙ ap (λ arms. slice_set arms k (turn (slice_index_or arms k blank))) c.arms.invariant
    ∙ turn_step turn c.args.arms k blank there
    ∙ ap (λ n. map turn (take n c.args.arms) ++ drop n c.args.arms) next
