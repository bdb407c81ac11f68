-- New marks as values.
use Rattle.std.specs.Prelude.{List, map}
use Rattle.lt_tree.specs.View.{expression_of}
use Rattle.lt_objectives.specs.Objectives as o
use Rattle.lt_objectives.specs.Marked as m
use Rattle.lt_placing.specs.declared.new_mark.Form.{Form}
use Rattle.lt_placing.specs.declared.new_mark.Form.TheVariants.{AtStart, InFront, Around}
use Rattle.lt_placing.specs.declared.new_mark.NewMark.{NewMark}

abbrev pub form_of : Form → o.Form
form_of AtStart = o.at_start
form_of InFront = o.in_front
form_of Around = o.around

abbrev pub new_mark_of : NewMark → m.NewMark
new_mark_of new = record {
  objective = record { place = new.place; form = form_of new.form; predicate = expression_of new.predicate; tag = new.tag };
  id = new.id;
}

abbrev pub new_marks : List NewMark → List m.NewMark
new_marks marks = map new_mark_of marks
