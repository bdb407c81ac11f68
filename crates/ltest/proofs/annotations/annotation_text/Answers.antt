use Rattle.lt_tree.specs.UnitView.{unit_of}
use Rattle.lt_survey.specs.Marking.{bits_of}
use Rattle.ltest.proofs.Annotating.{alone_so, same_so, runs_so, exact_so, put_so}
use Rattle.ltest.proofs.annotations.annotation_text.Goals as goal

pub returns : goal.returns
returns c =
    let model = c.args.model in
    let set = bits_of c.args.which in
    let text = c.args.text.now in
    let unit = unit_of c.in_ok-unit.unit in
    let has = c.in_ok-unit.ensures in
    put_so model set text unit c.in_ok-bytes.bytes.items c.shallow.result has
    (alone_so c.ids_never_pass.ensures c.annotated_texts_are_of_units_alone.ensures model set text unit c.requires c.bytes_are_small.ensures has)
    (same_so c.marks_are_erased.ensures model set text unit has)
    (runs_so c.ids_never_pass.ensures c.marked_units_of_sets_run_as_they_did.ensures model set text unit c.requires has)
    (exact_so c.ids_never_pass.ensures c.marked_units_tell_mutants_apart.ensures model set text unit c.requires has) c.in_ok-bytes.ensures.canonical c.shallow.ensures
