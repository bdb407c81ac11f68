use Rattle.std.proofs.Common.{◌+◌, ◌<◌, ◌≤◌, ◌∙◌, drop, map, length, refl, sym, subst, arith}
use Rattle.std.proofs.lemmas.Result.{err_from_is_err_and}
use Rattle.lt_tree.specs.UnitView.{unit_of}
use Rattle.lt_tree.specs.Typing.ProgramView.{program_of}
use Rattle.lt_survey.specs.Marking.{chosen}
use Rattle.lt_survey.specs.Rounds.{Leads}
use Rattle.lt_survey.proofs.Rounds.{leads_at_first, answered, leads_past, leads_through, leads_out, leads_to_end}
use Rattle.lt_mut.specs.declared.mutation.TheConstants.{MUTATIONS}
use Rattle.lt_mut.specs.Mutations.{criteria, criterion_of}
use Rattle.lt_mut.proofs.annotation.annotate_further.Goals as goal
use Rattle.lt_mut.proofs.annotation.annotate_further.Goals.{then-contains+in_ok-made, else-contains}

pub mutations-init : goal.mutations-init
mutations-init c =
    leads_at_first (chosen criteria c.args.which.0) (unit_of c.args.before.unit) (program_of c.args.program.now) c.args.before.next c.args.before refl refl c.requires

pub mark_mutants-requires : goal.mark_mutants-requires
mark_mutants-requires c = c.mutations.invariant.within

pub returns-in_err-made-clause-ids : goal.returns-in_err-made-clause-ids
returns-in_err-made-clause-ids c =
    let p = err_from_is_err_and c.from_residual.result c.from_residual.ensures.1 in
    let within : c.mutations.mutation-index < length MUTATIONS = omega (arith, c.mutations-test.true) in
    rw (p.1, p.2) (λ ids.
    leads_out criterion_of MUTATIONS c.mutations.mutation-index _ c.args.which.0 (chosen criteria c.args.which.0) (unit_of c.args.before.unit) (program_of c.args.program.now) c.args.before.next c.mutations.made within
    (answered c.args.which.0 c.alone.result.0 c.criterion.result _ c.contains.result c.alone.ensures c.criterion.ensures (c.contains.ensures tt) ∙ c.if-contains.true)
    c.mutations.invariant (c.in_err-made.ensures.ids ids))

pub mutations-preserved : goal.mutations-preserved
mutations-preserved c =
    let set = c.args.which.0 in
    let whole = chosen criteria set in
    let unit = unit_of c.args.before.unit in
    let program = program_of c.args.program.now in
    let i = c.mutations.mutation-index in
    let within : i < length MUTATIONS = omega (arith, c.mutations-test.true) in
    let answer = answered set c.alone.result.0 c.criterion.result _ c.contains.result c.alone.ensures c.criterion.ensures (c.contains.ensures tt) in
    elim c.if-contains.branch [
      | then-contains+in_ok-made w ↦
          subst (Leads (chosen (map criterion_of (drop (i + 1) MUTATIONS)) set) whole unit program c.args.before.next) (sym w.made-is)
          (leads_through criterion_of MUTATIONS i _ set whole unit program c.args.before.next c.mutations.made w.in_ok-made.made within (answer ∙ w.if-contains.true) c.mutations.invariant w.in_ok-made.ensures.marked w.in_ok-made.ensures.within)
      | else-contains w ↦
          subst (Leads (chosen (map criterion_of (drop (i + 1) MUTATIONS)) set) whole unit program c.args.before.next) (sym w.made-is)
          (leads_past criterion_of MUTATIONS i _ set whole unit program c.args.before.next c.mutations.made within (answer ∙ w.if-contains.false) c.mutations.invariant)
    ]

pub returns-clause-marked : goal.returns-clause-marked
returns-clause-marked c =
    let past : length MUTATIONS ≤ c.mutations.mutation-index = omega (arith, c.mutations-test.false) in
    leads_to_end criterion_of MUTATIONS c.mutations.mutation-index c.args.which.0 (chosen criteria c.args.which.0) (unit_of c.args.before.unit) (program_of c.args.program.now) c.args.before.next c.mutations.made past c.mutations.invariant
