use Rattle.lt_objectives.specs.Marked.{marked}
use Rattle.lt_print.proofs.Alone.{of_unit_alone}
use Rattle.lt_marked_texts.proofs.laws.annotated_texts_are_of_units_alone.Goals as goal

pub returns : goal.returns
returns c model unit program set id made is small =
    of_unit_alone (marked unit program set id) (c.marked_units_are_well_made.ensures model unit program set id made is small)
