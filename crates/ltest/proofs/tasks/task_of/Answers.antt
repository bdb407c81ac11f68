use Rattle.std.proofs.lemmas.Result.{err_from_is_err_and}
use Rattle.lt_tree.specs.Typing.ProgramView.{program_of}
use Rattle.lt_input_names.specs.Blocks.{specification_of}
use Rattle.lt_sources.specs.Views.{sources_of}
use Rattle.ltest.proofs.Merging.{programmed, specified, suited}
use Rattle.ltest.proofs.Reading.{names_differ}
use Rattle.ltest.proofs.Stages.{at_specification, at_suite, at_old}
use Rattle.ltest.proofs.Entries.{bounded_entry}
use Rattle.ltest.proofs.tasks.task_of.Goals as goal

pub returns-in_err-specification : goal.returns-in_err-specification
returns-in_err-specification c =
    let from = sources_of c.args.from.now in
    let p = err_from_is_err_and c.from_residual.result c.from_residual.ensures.1 in
    rw (p.1, p.2) (at_specification from (programmed from (program_of c.args.program.now) c.requires) _ c.in_err-specification.ensures)

pub returns-in_err-suite : goal.returns-in_err-suite
returns-in_err-suite c =
    let from = sources_of c.args.from.now in
    let p = err_from_is_err_and c.from_residual-in_err-suite.result c.from_residual-in_err-suite.ensures.1 in
    let before = specified from (programmed from (program_of c.args.program.now) c.requires) (specification_of c.args.program.now c.in_ok-specification.specification) c.in_ok-specification.ensures in
    rw (p.1, p.2) (at_suite from before _ (rw c.as_slice.ensures.value at c.in_err-suite.ensures))

pub returns-in_err-old : goal.returns-in_err-old
returns-in_err-old c =
    let from = sources_of c.args.from.now in
    let p = err_from_is_err_and c.from_residual-in_err-old.result c.from_residual-in_err-old.ensures.1 in
    let before = specified from (programmed from (program_of c.args.program.now) c.requires) (specification_of c.args.program.now c.in_ok-specification.specification) c.in_ok-specification.ensures in
    rw (p.1, p.2) (at_old from (suited from before c.in_ok-suite.suite (rw c.as_slice.ensures.value at c.in_ok-suite.ensures)) _ c.in_err-old.ensures)

pub returns : goal.returns
returns c =
    let from = sources_of c.args.from.now in
    let program = program_of c.args.program.now in
    let it = specification_of c.args.program.now c.in_ok-specification.specification in
    let said = rw c.as_slice.ensures.value at c.in_ok-suite.ensures in
    let kept = bounded_entry c.specifications_are_bounded.ensures c.defaults_are_bounded.ensures program from.entry it c.in_ok-specification.ensures in
    record {
      specified = c.in_ok-specification.ensures;
      said = said;
      old = c.in_ok-old.ensures;
      entry = kept.1.there;
      bounded = kept.0;
      names = names_differ c.tests_of_a_suite_differ.ensures program it from.suite c.in_ok-suite.suite said;
    }
