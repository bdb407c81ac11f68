use Rattle.std.proofs.Common.{◌+◌, ◌<◌, ◌≤◌, ◌∙◌, drop, map, length, refl, sym, subst, arith}
use Rattle.std.proofs.lemmas.Result.{err_from_is_err_and}
use Rattle.lt_tree.specs.UnitView.{unit_of}
use Rattle.lt_tree.specs.Typing.ProgramView.{program_of}
use Rattle.lt_survey.specs.Marking.{chosen}
use Rattle.lt_survey.specs.Rounds.{Leads}
use Rattle.lt_survey.proofs.Rounds.{leads_at_first, answered, leads_past, leads_through, leads_out, leads_to_end}
use Rattle.lt_mcc.specs.declared.combination.TheConstants.{COMBINATIONS}
use Rattle.lt_mcc.specs.Combinations.{criteria, criterion_of}
use Rattle.lt_mcc.proofs.annotation.annotate_further.Goals as goal
use Rattle.lt_mcc.proofs.annotation.annotate_further.Goals.{then-contains+in_ok-made, else-contains}

pub combinations-init : goal.combinations-init
combinations-init c =
    leads_at_first (chosen criteria c.args.which.0) (unit_of c.args.before.unit) (program_of c.args.program.now) c.args.before.next c.args.before refl refl c.requires

pub mark_combinations-requires : goal.mark_combinations-requires
mark_combinations-requires c = c.combinations.invariant.within

pub returns-in_err-made-clause-ids : goal.returns-in_err-made-clause-ids
returns-in_err-made-clause-ids c =
    let p = err_from_is_err_and c.from_residual.result c.from_residual.ensures.1 in
    let within : c.combinations.combination-index < length COMBINATIONS = omega (arith, c.combinations-test.true) in
    rw (p.1, p.2) (λ ids.
    leads_out criterion_of COMBINATIONS c.combinations.combination-index _ c.args.which.0 (chosen criteria c.args.which.0) (unit_of c.args.before.unit) (program_of c.args.program.now) c.args.before.next c.combinations.made within
    (answered c.args.which.0 c.alone.result.0 c.criterion.result _ c.contains.result c.alone.ensures c.criterion.ensures (c.contains.ensures tt) ∙ c.if-contains.true)
    c.combinations.invariant (c.in_err-made.ensures.ids ids))

pub combinations-preserved : goal.combinations-preserved
combinations-preserved c =
    let set = c.args.which.0 in
    let whole = chosen criteria set in
    let unit = unit_of c.args.before.unit in
    let program = program_of c.args.program.now in
    let i = c.combinations.combination-index in
    let within : i < length COMBINATIONS = omega (arith, c.combinations-test.true) in
    let answer = answered set c.alone.result.0 c.criterion.result _ c.contains.result c.alone.ensures c.criterion.ensures (c.contains.ensures tt) in
    elim c.if-contains.branch [
      | then-contains+in_ok-made w ↦
          subst (Leads (chosen (map criterion_of (drop (i + 1) COMBINATIONS)) set) whole unit program c.args.before.next) (sym w.made-is)
          (leads_through criterion_of COMBINATIONS i _ set whole unit program c.args.before.next c.combinations.made w.in_ok-made.made within (answer ∙ w.if-contains.true) c.combinations.invariant w.in_ok-made.ensures.marked w.in_ok-made.ensures.within)
      | else-contains w ↦
          subst (Leads (chosen (map criterion_of (drop (i + 1) COMBINATIONS)) set) whole unit program c.args.before.next) (sym w.made-is)
          (leads_past criterion_of COMBINATIONS i _ set whole unit program c.args.before.next c.combinations.made within (answer ∙ w.if-contains.false) c.combinations.invariant)
    ]

pub returns-clause-marked : goal.returns-clause-marked
returns-clause-marked c =
    let past : length COMBINATIONS ≤ c.combinations.combination-index = omega (arith, c.combinations-test.false) in
    leads_to_end criterion_of COMBINATIONS c.combinations.combination-index c.args.which.0 (chosen criteria c.args.which.0) (unit_of c.args.before.unit) (program_of c.args.program.now) c.args.before.next c.combinations.made past c.combinations.invariant
