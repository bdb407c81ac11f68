use Rattle.std.proofs.Common.{sym, subst}
use Rattle.std.specs.Prelude.{◌<◌, length}
use Rattle.std.proofs.lemmas.Result.{err_from_is_err_and}
use Rattle.lt_tree.specs.Typing.Programs.{Program}
use Rattle.lt_tree.specs.Typing.ProgramView.{program_of}
use Rattle.lt_replayed.specs.Replayed.{IsCoverage}
use Rattle.lt_input_names.specs.Blocks.{specification_of}
use Rattle.lt_sources.specs.Views.{sources_of}
use Rattle.ltest.proofs.Merging.{programmed, specified, suited, covered_by, merged_so}
use Rattle.ltest.proofs.Spelled.{program_spelled}
use Rattle.ltest.proofs.Stages.{at_program}
use Rattle.ltest.proofs.text.covered.Goals as goal

pub returns-in_err-program : goal.returns-in_err-program
returns-in_err-program c =
    let from = sources_of c.args.from.now in
    let p = err_from_is_err_and c.from_residual.result c.from_residual.ensures.1 in
    rw (p.1, p.2) (at_program from _ (c.in_err-program.ensures c.args.from.now.file.items c.requires))

pub returns-in_err-task : goal.returns-in_err-task
returns-in_err-task c =
    let p = err_from_is_err_and c.from_residual-in_err-task.result c.from_residual-in_err-task.ensures.1 in
    rw (p.1, p.2) c.in_err-task.ensures

pub replay-requires-clause-entry : goal.replay-requires-clause-entry
replay-requires-clause-entry c = subst (λ (p : Program). c.in_ok-task.task.specification.spec.entry < length p.functions) (sym c.stripped-program.ensures) c.in_ok-task.ensures.entry

pub returns : goal.returns
returns c =
    let from = sources_of c.args.from.now in
    let program = program_of c.in_ok-program.program in
    let task = c.in_ok-task.task in
    let is = program_spelled c.args.from.now.model c.args.from.now.file.items c.args.parsed program c.requires c.in_ok-program.ensures in
    let before = specified from (programmed from program is) (specification_of c.in_ok-program.program task.specification) c.in_ok-task.ensures.specified in
    let read = suited from before task.suite c.in_ok-task.ensures.said in
    let new = c.coverage_needs_no_unit.ensures program _ _ task.specification.spec task.suite c.args.from.now.steps c.in_ok-new.new
    (subst (λ (p : Program). IsCoverage p task.specification.spec task.suite c.args.from.now.steps c.in_ok-new.new) c.stripped-program.ensures c.in_ok-new.ensures) in
    merged_so from (covered_by from read task.old c.in_ok-new.new c.in_ok-task.ensures.old new) c.merged.result c.merged.ensures
