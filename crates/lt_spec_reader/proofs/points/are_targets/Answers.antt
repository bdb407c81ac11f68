use Rattle.std.proofs.Common.{◌≡◌, ◌≤◌, true, false, length, sym, ◌∙◌, arith, rules}
use Rattle.std.specs.Prelude.{not, ◌==◌}
use Rattle.lt_entry.specs.Naming.{targets_of}
use Rattle.lt_entry.specs.Written.{TargetWord}
use Rattle.lt_entry.specs.Views.{target_view}
use Rattle.lt_input_names.specs.Views.{scope_of, type_at}
use Rattle.lt_spec_reader.proofs.Loops.{all_more, all_fails, all_done}
use Rattle.lt_spec_reader.proofs.points.are_targets.Goals as goal

pub returns-then-not-branch : goal.returns-then-not-branch
returns-then-not-branch c =
    let targets = targets_of (scope_of c.args.names.now) (type_at c.args.names.now c.args.pointed) in
    let fails : c.in_ok-is_target.field-0 ≡ false = search rules in
    sym (all_fails (λ (target : TargetWord). not (length (targets target) == 0)) target_view c.args.targets.now c.loop-target.target-index c.target-item.result c.loop-target-test.true c.target-item.is (sym c.in_ok-is_target.ensures ∙ fails))

pub loop-target-preserved : goal.loop-target-preserved
loop-target-preserved c =
    let targets = targets_of (scope_of c.args.names.now) (type_at c.args.names.now c.args.pointed) in
    let holds : c.in_ok-is_target.field-0 ≡ true = search rules in
    all_more (λ (target : TargetWord). not (length (targets target) == 0)) target_view c.args.targets.now c.loop-target.target-index c.target-item.result c.loop-target-test.true c.target-item.is c.loop-target.invariant (sym c.in_ok-is_target.ensures ∙ holds)

pub returns : goal.returns
returns c =
    let targets = targets_of (scope_of c.args.names.now) (type_at c.args.names.now c.args.pointed) in
    let all : length c.args.targets.now ≤ c.loop-target.target-index = omega arith in
    sym (all_done (λ (target : TargetWord). not (length (targets target) == 0)) target_view c.args.targets.now c.loop-target.target-index all c.loop-target.invariant)
