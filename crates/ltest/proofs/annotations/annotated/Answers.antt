use Rattle.std.proofs.lemmas.Result.{err_from_is_err_and}
use Rattle.lt_tree.specs.Typing.ProgramView.{program_of}
use Rattle.ltest.proofs.Spelled.{program_spelled}
use Rattle.lt_survey.specs.Marking.{bits_of}
use Rattle.ltest.proofs.Annotating.{unspelled, untyped, annotated_so}
use Rattle.ltest.proofs.Marking.{none_pass}
use Rattle.ltest.proofs.annotations.annotated.Goals as goal

pub returns-in_err-parsed : goal.returns-in_err-parsed
returns-in_err-parsed c =
    let p = err_from_is_err_and c.from_residual.result c.from_residual.ensures.1 in
    rw (p.1, p.2) (unspelled c.args.model c.args.which.0 c.args.text.now _ c.in_err-parsed.ensures)

pub returns-in_err-program : goal.returns-in_err-program
returns-in_err-program c =
    let p = err_from_is_err_and c.from_residual-in_err-program.result c.from_residual-in_err-program.ensures.1 in
    rw (p.1, p.2) (untyped c.args.model c.args.which.0 c.args.text.now _ (c.in_err-program.ensures c.args.text.now c.in_ok-parsed.ensures))

pub with_labels-requires : goal.with_labels-requires
with_labels-requires c =
    none_pass c.ids_never_pass.ensures c.args.model c.args.text.now c.in_ok-parsed.parsed (program_of c.in_ok-program.program) (bits_of c.args.which) c.requires c.in_ok-parsed.ensures
    c.in_ok-program.ensures

pub returns : goal.returns
returns c =
    let program = program_of c.in_ok-program.program in
    let is = program_spelled c.args.model c.args.text.now c.in_ok-parsed.parsed program c.in_ok-parsed.ensures c.in_ok-program.ensures in
    annotated_so c.args.model (bits_of c.args.which) c.args.text.now program is c.in_ok-unit.unit c.in_ok-unit.ensures
