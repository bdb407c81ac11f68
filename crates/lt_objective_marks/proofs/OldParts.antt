-- Where no mark of a unit has a new id, no label to which typing comes has one.
use Rattle.std.proofs.Common.{◌≡◌, ℕ, Bool, false, List, ◌++◌}
use Rattle.std.specs.List.{flat_map}
use Rattle.lt_model.specs.declared.scalar.DataModel.{DataModel}
use Rattle.lt_tree.specs.Tree as c
use Rattle.lt_tree.specs.Nodes.{Node, in_expression, in_expressions, in_marks, in_mark, in_specifiers, in_declarator, in_initialiser, in_initialisers, in_init_declarator, in_declaration, in_optional, in_start, in_label, in_statement, in_items, in_cases, in_external, nodes}
use Rattle.lt_tree.specs.Typing.Entities.{Known}
use Rattle.lt_tree.specs.Typing.MarkRules.{number_of_id}
use Rattle.lt_typed_nodes.specs.Reaching as place
use Rattle.lt_typed_nodes.specs.Reaching.{Piece, IsPart, IsReached, ComesToMark, first_mark, later_mark, IsLabelAt, the_unit, a_part, an_array, a_callee, a_left, a_first, a_test, a_target, a_whole, a_pointer, incremented_after, decremented_after, incremented, decremented, an_operand, in_comma, a_decision, in_after, an_index, a_right, if_true, a_second, an_assigned, arguments, a_cast, if_false, behind_marks, one_expression, more_expressions, start_value, start_braces, a_value, braces, one_initialiser, more_initialisers, its_declarators, its_start, more_declarators, in_compound, evaluated, if_test, if_body, if_else_test, if_else_body, else_body, while_test, while_body, do_body, do_test, for_first, for_declares, for_test, for_step, for_body, switch_operand, switch_cases, returned, an_item_declares, behind_declaration, an_item, behind_statement, behind_label, one_case, more_cases, a_body, declared, one_external, more_externals}
use Rattle.lt_mark_typing.specs.Placed.{AreOld}
use Rattle.lt_mark_typing.proofs.Nodes.{old_first, old_second}

-- the nodes of a part
abbrev in_piece : Piece → List Node
in_piece (place.externals them) = nodes them
in_piece (place.an_external it) = in_external it
in_piece (place.items around them) = in_items them
in_piece (place.a_statement around it) = in_statement it
in_piece (place.cases type seen around them) = in_cases them
in_piece (place.a_declaration effective it) = in_declaration it
in_piece (place.declarators it ds) = flat_map in_init_declarator ds
in_piece (place.a_start is_static t i) = in_initialiser i
in_piece (place.an_initialiser is_static filling i) = in_initialiser i
in_piece (place.initialisers is_static filling list) = in_initialisers list
in_piece (place.an_expression role e) = in_expression e
in_piece (place.expressions es) = in_expressions es

module _ (new : ℕ → Bool) where
  -- ---- from a part to its parts

  first_of_three : (xs ys zs : List Node) → AreOld new (xs ++ ys ++ zs) → AreOld new xs
  first_of_three xs ys zs h = old_first new xs ys (old_first new (xs ++ ys) zs h)

  second_of_three : (xs ys zs : List Node) → AreOld new (xs ++ ys ++ zs) → AreOld new ys
  second_of_three xs ys zs h = old_second new xs ys (old_first new (xs ++ ys) zs h)

  third_of_three : (xs ys zs : List Node) → AreOld new (xs ++ ys ++ zs) → AreOld new zs
  third_of_three xs ys zs h = old_second new (xs ++ ys) zs h

  old_part : {whole part : Piece} {known k : Known} → IsPart whole known part k → AreOld new (in_piece whole) → AreOld new (in_piece part)
  old_part (an_array {base = base} {index = index}) h = old_first new (in_expression base) (in_expression index) h.1
  old_part (an_index {base = base} {index = index} is) h = old_second new (in_expression base) (in_expression index) h.1
  old_part (a_callee {callee = callee} {arguments = them}) h = old_first new (in_expression callee) (in_expressions them) h.1
  old_part (arguments {callee = callee} {them = them} is) h = old_second new (in_expression callee) (in_expressions them) h.1
  old_part a_whole h = h.1
  old_part a_pointer h = h.1
  old_part incremented_after h = h.1
  old_part decremented_after h = h.1
  old_part incremented h = h.1
  old_part decremented h = h.1
  old_part an_operand h = h.1
  old_part (a_cast {s = s} {d = d} {operand = operand} is type) h = third_of_three (in_specifiers s) (in_declarator d) (in_expression operand) h.1
  old_part (a_left {left = left} {right = right}) h = old_first new (in_expression left) (in_expression right) h.1
  old_part (a_right {left = left} {right = right} is) h = old_second new (in_expression left) (in_expression right) h.1
  old_part (a_first {left = left} {right = right}) h = old_first new (in_expression left) (in_expression right) h.1
  old_part (a_second {left = left} {right = right} is) h = old_second new (in_expression left) (in_expression right) h.1
  old_part (a_test {test = test} {left = left} {right = right}) h = first_of_three (in_expression test) (in_expression left) (in_expression right) h.1
  old_part (if_true {test = test} {left = left} {right = right} is) h = second_of_three (in_expression test) (in_expression left) (in_expression right) h.1
  old_part (if_false {test = test} {left = left} {right = right} tested is) h = third_of_three (in_expression test) (in_expression left) (in_expression right) h.1
  old_part (a_target {target = target} {value = value}) h = old_first new (in_expression target) (in_expression value) h.1
  old_part (an_assigned {target = target} {value = value} is) h = old_second new (in_expression target) (in_expression value) h.1
  old_part in_comma h = h.1
  old_part (behind_marks {ms = ms} {value = value} is) h = old_second new (in_marks ms) (in_expression value) h.1
  old_part a_decision h = h.1
  old_part in_after h = h.1
  old_part (one_expression {first = first} {rest = rest}) h = old_first new (in_expression first) (in_expressions rest) h
  old_part (more_expressions {first = first} {rest = rest} is) h = old_second new (in_expression first) (in_expressions rest) h
  old_part (start_value none) h = h.1
  old_part start_braces h = h.1
  old_part (a_value none) h = h.1
  old_part braces h = h.1
  old_part (one_initialiser {first = first} {rest = rest}) h = old_first new (in_initialiser first) (in_initialisers rest) h
  old_part (more_initialisers {first = first} {rest = rest} is) h = old_second new (in_initialiser first) (in_initialisers rest) h
  old_part (its_declarators {d = d} is) h = old_second new (in_specifiers d.specifiers) (flat_map in_init_declarator d.declarators) h
  old_part (its_start {d = d} {i = i} {ds = ds} is name_is kind made) h =
      old_second new (in_declarator d) (in_initialiser i) (old_first new (in_declarator d ++ in_initialiser i) (flat_map in_init_declarator ds) h)
  old_part (more_declarators {d = d} {ds = ds} is) h = old_second new (in_init_declarator d) (flat_map in_init_declarator ds) h
  old_part in_compound h = h.1
  old_part evaluated h = h.1
  old_part (if_test {test = test} {body = body}) h = old_first new (in_expression test) (in_statement body) h.1
  old_part (if_body {test = test} {body = body} is) h = old_second new (in_expression test) (in_statement body) h.1
  old_part (if_else_test {test = test} {body = body} {other = other}) h = first_of_three (in_expression test) (in_statement body) (in_statement other) h.1
  old_part (if_else_body {test = test} {body = body} {other = other} is) h = second_of_three (in_expression test) (in_statement body) (in_statement other) h.1
  old_part (else_body {test = test} {body = body} {other = other} tested is) h = third_of_three (in_expression test) (in_statement body) (in_statement other) h.1
  old_part (while_test {test = test} {body = body}) h = old_first new (in_expression test) (in_statement body) h.1
  old_part (while_body {test = test} {body = body} is) h = old_second new (in_expression test) (in_statement body) h.1
  old_part (do_body {body = body} {test = test}) h = old_first new (in_statement body) (in_expression test) h.1
  old_part (do_test {body = body} {test = test} is) h = old_second new (in_statement body) (in_expression test) h.1
  old_part (for_first {e = e} {test = test} {step = step} {body = body}) h =
      first_of_three (in_expression e) (in_optional test) (in_optional step) (old_first new (in_expression e ++ in_optional test ++ in_optional step) (in_statement body) h.1)
  old_part (for_declares {d = d} {test = test} {step = step} {body = body}) h =
      first_of_three (in_declaration d) (in_optional test) (in_optional step) (old_first new (in_declaration d ++ in_optional test ++ in_optional step) (in_statement body) h.1)
  old_part (for_test {begin = begin} {test = test} {step = step} {body = body} is) h =
      second_of_three (in_start begin) (in_expression test) (in_optional step) (old_first new (in_start begin ++ in_expression test ++ in_optional step) (in_statement body) h.1)
  old_part (for_step {begin = begin} {test = test} {step = step} {body = body} is tested) h =
      third_of_three (in_start begin) (in_optional test) (in_expression step) (old_first new (in_start begin ++ in_optional test ++ in_expression step) (in_statement body) h.1)
  old_part (for_body {begin = begin} {test = test} {step = step} {body = body} is tested stepped) h = old_second new (in_start begin ++ in_optional test ++ in_optional step) (in_statement body) h.1
  old_part (switch_operand {operand = operand} {list = list}) h = old_first new (in_expression operand) (in_cases list) h.1
  old_part (switch_cases {operand = operand} {list = list} is) h = old_second new (in_expression operand) (in_cases list) h.1
  old_part returned h = h.1
  old_part (an_item_declares {first = first} {rest = rest}) h = old_first new (in_declaration first) (in_items rest) h.1
  old_part (behind_declaration {first = first} {rest = rest} is) h = old_second new (in_declaration first) (in_items rest) h.1
  old_part (an_item {first = first} {rest = rest}) h = old_first new (in_statement first) (in_items rest) h.1
  old_part (behind_statement {first = first} {rest = rest} is) h = old_second new (in_statement first) (in_items rest) h.1
  old_part (behind_label {first = first} {rest = rest} is) h = old_second new (in_mark first) (in_items rest) h.1
  old_part (one_case {list = list} {first = first} {rest = rest} is) h = second_of_three (flat_map in_label list) (in_statement first) (in_cases rest) h
  old_part (more_cases {list = list} {first = first} {rest = rest} is body) h = third_of_three (flat_map in_label list) (in_statement first) (in_cases rest) h
  old_part (a_body {s = s} {d = d} {body = body} is type) h = third_of_three (in_specifiers s) (in_declarator d) (in_items body) h.1
  old_part declared h = h.1
  old_part (one_external {x = x} {xs = xs}) h = old_first new (in_external x) (nodes xs) h
  old_part (more_externals {x = x} {xs = xs} is) h = old_second new (in_external x) (nodes xs) h

  -- ---- from a unit to a label

  old_where_reached : {greatest : ℕ} {model : DataModel} {unit : c.Unit} {it : Piece} {known : Known} → AreOld new (nodes unit) → IsReached greatest model unit it known → AreOld new (in_piece it)
  old_where_reached old the_unit = old
  old_where_reached old (a_part reached part) = old_part part (old_where_reached old reached)

  old_mark : {ms : c.Marks} {m : c.Mark} {known there : Known} → ComesToMark ms known m there → AreOld new (in_marks ms) → AreOld new (in_mark m)
  old_mark (first_mark {m = m} {rest = rest} is) h = old_first new (in_mark m) (in_marks rest) h
  old_mark (later_mark {first = first} {rest = rest} is later) h = old_mark later (old_second new (in_mark first) (in_marks rest) h)

  -- a label to which typing comes has no new id
  pub old_label : {greatest : ℕ} {model : DataModel} {unit : c.Unit} {predicate : c.Expression} {id tag : List ℕ} {bound : c.Bindings} {there : Known} → AreOld new (nodes unit)
      → IsLabelAt greatest model unit (c.mark predicate id tag bound) there → new (number_of_id id) ≡ false
  old_label old label = (old_mark label.comes (old_first new (in_marks label.marks_there) (in_expression label.it) (old_where_reached old label.reached).1)).0
