-- The front of a mark, of the code.
use Rattle.lt_expr.specs.Boxes.{boxed}
use Rattle.lt_expr.specs.Reading as reading
use Rattle.lt_expr.specs.declared.label.Labelled.{Labelled}

abbrev pub labelled_of : Labelled → reading.Labelled
labelled_of l = record { predicate = boxed l.predicate; id = l.id; tag = l.tag }
