use Rattle.std.proofs.Common.{rules, Ok, Err, ◌∙◌, ap}
use Rattle.std.proofs.lemmas.Int.{to_z-of_z}
use Rattle.std.proofs.lemmas.List.Sorted.{answers_always}
use Rattle.std.specs.Int.{w128}
use Rattle.lt_ir.specs.Tables.{arm_of}
use Rattle.lt_acts.proofs.Halving.{followed}
use Rattle.lt_acts.proofs.arms.follow.Goals as goal

pub returns-in-Ok : goal.returns-in-Ok
returns-in-Ok c =
    let laws = c.switches_are_tables.ensures.1 c.args.table.now c.requires in
    followed c.args.table.now c.requires _ c.args.default (Ok c.in-Ok.k) laws.0 laws.1 c.in-Ok.ensures.bound (c.in-Ok.ensures.position (λ arm. arm.value) (answers_always _ _ _ (λ f a r g called. search rules))) _
    ∙ ap (arm_of c.args.table.now c.args.default) (to_z-of_z w128 c.args.z c.ranges.z)

pub returns-in-Err : goal.returns-in-Err
returns-in-Err c =
    let laws = c.switches_are_tables.ensures.1 c.args.table.now c.requires in
    followed c.args.table.now c.requires _ c.args.default (Err c.in-Err.field-0) laws.0 laws.1 c.in-Err.ensures.bound (c.in-Err.ensures.position (λ arm. arm.value) (answers_always _ _ _ (λ f a r g called. search rules)))
    ∙ ap (arm_of c.args.table.now c.args.default) (to_z-of_z w128 c.args.z c.ranges.z)
