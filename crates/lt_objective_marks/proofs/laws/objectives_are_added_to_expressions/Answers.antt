use Rattle.lt_objective_marks.proofs.Unmarked.{kept_unmarked}
use Rattle.lt_objective_marks.proofs.All.{all_added}
use Rattle.lt_objective_marks.proofs.laws.objectives_are_added_to_expressions.Goals as goal

pub returns : goal.returns
returns c = all_added (record {
  numbered = c.nodes_are_numbered.ensures.parts;
  stand = c.pieces_stand.ensures;
  may_stand = c.objectives_stand_where_they_may.ensures;
  one_node = c.marks_are_of_one_node.ensures;
  predicates = c.marked_expressions_have_predicates.ensures;
  types = c.marked_expressions_keep_their_types.ensures;
  labels = c.labels_of_objectives_are_new.ensures;
  told = c.mutants_are_told_apart.ensures;
  truths = c.truths_are_typed_as_values.ensures;
  values = c.operands_have_their_types.ensures.values;
  operands = c.parts_are_come_to.ensures.operands;
  known = c.parts_are_come_to.ensures.known;
  constants = c.constants_stay.ensures;
  closed = c.constants_are_closed.ensures;
  copies = c.literals_are_typed_without_marks.ensures.copies;
  simple = c.copies_are_simple.ensures;
  tests = c.no_test_is_a_pointer_to_a_function.ensures;
  unmarked = kept_unmarked;
})
