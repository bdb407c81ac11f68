-- Wherever typing comes to in a unit that has a program it goes on, and the program knows what is found there.
use Rattle.std.proofs.Common.{ℕ, List, ◌∷◌, Some}
use Rattle.lt_model.specs.declared.scalar.DataModel.{DataModel}
use Rattle.lt_tree.specs.Tree as c
use Rattle.lt_tree.specs.Typing.Entities.{Known, Fact}
use Rattle.lt_tree.specs.Typing.Programs.{Program}
use Rattle.lt_tree.specs.Typing.InitialiserTyping.{initialiser, initialisers, object_initialiser}
use Rattle.lt_tree.specs.Typing.Declaring.{length_faults}
use Rattle.lt_tree.specs.Typing.DeclarationTyping.{init_declarators, declaration_by}
use Rattle.lt_tree.specs.Typing.StatementTyping.{statement, items, cases}
use Rattle.lt_tree.specs.Typing.UnitTyping.{external, externals, IsProgramTo}
use Rattle.lt_typed_nodes.specs.Coming.{entered, ComesTo, ComesToIt, ComesToAll, in_new_block, OperandsAreComeTo}
use Rattle.lt_typed_nodes.specs.ComingItems.{UnitsAreComeTo, ExternalsAreComeTo, DeclarationsAreComeTo, InitialisersAreComeTo, StatementsAreComeTo}
use Rattle.lt_typed_nodes.specs.Reaching as place
use Rattle.lt_typed_nodes.specs.Reaching.{Piece, IsPart, IsReached, the_unit, a_part, an_array, a_callee, a_left, a_first, a_test, a_target, a_whole, a_pointer, incremented_after, decremented_after, incremented, decremented, an_operand, in_comma, a_decision, in_after, an_index, a_right, if_true, a_second, an_assigned, arguments, a_cast, if_false, behind_marks, one_expression, more_expressions, start_value, start_braces, a_value, braces, one_initialiser, more_initialisers, its_declarators, its_start, more_declarators, in_compound, evaluated, if_test, if_body, if_else_test, if_else_body, else_body, while_test, while_body, do_body, do_test, for_first, for_declares, for_test, for_step, for_body, switch_operand, switch_cases, returned, an_item_declares, behind_declaration, an_item, behind_statement, behind_label, one_case, more_cases, a_body, declared, one_external, more_externals}

-- ---- what is found

abbrev pub ComesToPiece : List Fact → Piece → Known → Type 0
ComesToPiece facts (place.externals them) known = ComesTo facts known (externals them known)
ComesToPiece facts (place.an_external it) known = ComesTo facts known (external it known)
ComesToPiece facts (place.items around them) known = ComesTo facts known (items them around known)
ComesToPiece facts (place.a_statement around it) known = ComesTo facts known (statement it around known)
ComesToPiece facts (place.cases type seen around them) known = ComesTo facts known (cases them type seen around known)
ComesToPiece facts (place.a_declaration effective it) known = ComesTo facts known (declaration_by effective it known)
ComesToPiece facts (place.declarators it ds) known = ComesTo facts known (init_declarators it ds known)
ComesToPiece facts (place.a_start is_static t i) known = ComesTo facts known (object_initialiser is_static t length_faults i known)
ComesToPiece facts (place.an_initialiser is_static filling i) known = ComesTo facts known (initialiser i is_static filling known)
ComesToPiece facts (place.initialisers is_static filling list) known = ComesTo facts known (initialisers list is_static filling known)
ComesToPiece facts (place.an_expression role e) known = ComesToIt facts known role e
ComesToPiece facts (place.expressions es) known = ComesToAll facts known es

module _ (units : UnitsAreComeTo) (externals_laws : ExternalsAreComeTo) (declarations : DeclarationsAreComeTo) (initialisers_laws : InitialisersAreComeTo) (statements : StatementsAreComeTo)
    (operands : OperandsAreComeTo) (facts : List Fact) where
  comes_part : {whole part : Piece} {known k : Known} → IsPart whole known part k → ComesToPiece facts whole known → ComesToPiece facts part k
  comes_part (an_array {role = role} {base = base} {index = index} {known = known}) h = (operands.0 facts known role (c.Index base index) h).0
  comes_part (an_index {role = role} {base = base} {index = index} {known = known} {k = k} {x = x} is) h = (operands.0 facts known role (c.Index base index) h).1 x k is
  comes_part (a_callee {role = role} {callee = callee} {arguments = them} {known = known}) h = (operands.0 facts known role (c.Call callee them) h).0
  comes_part (arguments {role = role} {callee = callee} {them = them} {known = known} {k = k} {f = f} is) h = (operands.0 facts known role (c.Call callee them) h).1 f k is
  comes_part (a_whole {role = role} {base = base} {name = name} {known = known}) h = operands.0 facts known role (c.Member base name) h
  comes_part (a_pointer {role = role} {pointer = pointer} {name = name} {known = known}) h = operands.0 facts known role (c.Arrow pointer name) h
  comes_part (incremented_after {role = role} {target = target} {known = known}) h = operands.0 facts known role (c.PostInc target) h
  comes_part (decremented_after {role = role} {target = target} {known = known}) h = operands.0 facts known role (c.PostDec target) h
  comes_part (incremented {role = role} {target = target} {known = known}) h = operands.0 facts known role (c.PreInc target) h
  comes_part (decremented {role = role} {target = target} {known = known}) h = operands.0 facts known role (c.PreDec target) h
  comes_part (an_operand {role = role} {op = op} {operand = operand} {known = known}) h = operands.0 facts known role (c.Unary op operand) h
  comes_part (a_cast {role = role} {s = s} {d = d} {operand = operand} {known = known} {k = k} {j = j} {it = it} {t = t} is type) h = operands.0 facts known role (c.Cast s d operand) h it k is t j type
  comes_part (a_left {role = role} {op = op} {left = left} {right = right} {known = known}) h = (operands.0 facts known role (c.Binary op left right) h).0
  comes_part (a_right {role = role} {op = op} {left = left} {right = right} {known = known} {k = k} {x = x} is) h = (operands.0 facts known role (c.Binary op left right) h).1 x k is
  comes_part (a_first {role = role} {op = op} {left = left} {right = right} {known = known}) h = (operands.0 facts known role (c.Logical op left right) h).0
  comes_part (a_second {role = role} {op = op} {left = left} {right = right} {known = known} {k = k} {x = x} is) h = (operands.0 facts known role (c.Logical op left right) h).1 x k is
  comes_part (a_test {role = role} {test = test} {left = left} {right = right} {known = known}) h = (operands.0 facts known role (c.Conditional test left right) h).0.0
  comes_part (if_true {role = role} {test = test} {left = left} {right = right} {known = known} {k = k} {p = p} is) h = (operands.0 facts known role (c.Conditional test left right) h).0.1 p k is
  comes_part (if_false {role = role} {test = test} {left = left} {right = right} {known = known} {k = k} {j = j} {p = p} {x = x} tested is) h = (operands.0 facts known role (c.Conditional test left right) h).1 p k tested x j is
  comes_part (a_target {role = role} {op = op} {target = target} {value = value} {known = known}) h = (operands.0 facts known role (c.Assign op target value) h).0
  comes_part (an_assigned {role = role} {op = op} {target = target} {value = value} {known = known} {k = k} {x = x} is) h = (operands.0 facts known role (c.Assign op target value) h).1 x k is
  comes_part (in_comma {role = role} {list = list} {known = known}) h = operands.0 facts known role (c.Comma list) h
  comes_part (behind_marks {role = role} {ms = ms} {value = value} {known = known} {k = k} {typed = typed} is) h = operands.0 facts known role (c.Marked ms value) h typed k is
  comes_part (a_decision {role = role} {operand = operand} {when_true = when_true} {when_false = when_false} {tag = tag} {known = known}) h = operands.0 facts known role (c.Decide operand when_true when_false tag) h
  comes_part (in_after {role = role} {operand = operand} {id = id} {tag = tag} {known = known}) h = operands.0 facts known role (c.After operand id tag) h
  comes_part (one_expression {first = first} {rest = rest} {known = known}) h = (operands.1 facts known (c.an_expression first rest) h).0
  comes_part (more_expressions {first = first} {rest = rest} {known = known} {k = k} {x = x} is) h = (operands.1 facts known (c.an_expression first rest) h).1 x k is
  comes_part (start_value {is_there = is_there} {t = t} {e = e} {known = known} none) h = initialisers_laws.0 facts known is_there t length_faults (c.Value e) h none
  comes_part (start_braces {is_there = is_there} {t = t} {list = list} {known = known}) h = initialisers_laws.0 facts known is_there t length_faults (c.Braces list) h
  comes_part (a_value {is_there = is_there} {filling = filling} {e = e} {known = known} none) h = initialisers_laws.1 facts known is_there filling (c.Value e) h none
  comes_part (braces {is_there = is_there} {filling = filling} {list = list} {known = known}) h = initialisers_laws.1 facts known is_there filling (c.Braces list) h
  comes_part (one_initialiser {is_there = is_there} {filling = filling} {first = first} {rest = rest} {known = known}) h = (initialisers_laws.2 facts known is_there filling (c.an_initialiser first rest) h).0
  comes_part (more_initialisers {is_there = is_there} {filling = filling} {filled = filled} {first = first} {rest = rest} {known = known} {k = k} is) h = (initialisers_laws.2 facts known is_there filling (c.an_initialiser first rest) h).1 filled k is
  comes_part (its_declarators {effective = effective} {d = d} {it = it} {known = known} {k = k} is) h = declarations.0 facts known effective d h it k is
  comes_part (its_start {it = it} {d = d} {i = i} {ds = ds} {declared = what} {name = name} {life = life} {is_register = is_register} {n = n} {known = known} {k = k} {j = j} is name_is kind made) h = declarations.3 facts k it what i (declarations.2 facts known it (record { declarator = d; initialiser = Some i }) (declarations.1 facts known it (record { declarator = d; initialiser = Some i } ∷ ds) h).0 what k is) name life is_register name_is kind n j made
  comes_part (more_declarators {it = it} {d = d} {ds = ds} {locals = locals} {known = known} {k = k} is) h = (declarations.1 facts known it (d ∷ ds) h).1 locals k is
  comes_part (in_compound {around = around} {list = list} {known = known}) h = statements.0 facts known around (c.Compound list) h
  comes_part (evaluated {around = around} {e = e} {known = known}) h = statements.0 facts known around (c.Evaluates e) h
  comes_part (if_test {around = around} {test = test} {body = body} {known = known}) h = (statements.0 facts known around (c.If test body) h).0
  comes_part (if_body {around = around} {test = test} {body = body} {known = known} {k = k} {x = x} is) h = (statements.0 facts known around (c.If test body) h).1 x k is
  comes_part (if_else_test {around = around} {test = test} {body = body} {other = other} {known = known}) h = (statements.0 facts known around (c.IfElse test body other) h).0.0
  comes_part (if_else_body {around = around} {test = test} {body = body} {other = other} {known = known} {k = k} {x = x} is) h = (statements.0 facts known around (c.IfElse test body other) h).0.1 x k is
  comes_part (else_body {around = around} {test = test} {body = body} {other = other} {known = known} {k = k} {j = j} {x = x} {s = s} is first) h = (statements.0 facts known around (c.IfElse test body other) h).1 x k is s j first
  comes_part (while_test {around = around} {test = test} {body = body} {known = known}) h = (statements.0 facts known around (c.While test body) h).0
  comes_part (while_body {around = around} {test = test} {body = body} {known = known} {k = k} {x = x} is) h = (statements.0 facts known around (c.While test body) h).1 x k is
  comes_part (do_body {around = around} {body = body} {test = test} {known = known}) h = (statements.0 facts known around (c.Do body test) h).0
  comes_part (do_test {around = around} {body = body} {test = test} {known = known} {k = k} {s = s} first) h = (statements.0 facts known around (c.Do body test) h).1 s k first
  comes_part (for_first {around = around} {e = e} {test = test} {step = step} {body = body} {known = known}) h = statements.3 facts (in_new_block (entered known)) (c.First e) (statements.0 facts known around (c.For (c.First e) test step body) h).0
  comes_part (for_declares {around = around} {d = d} {test = test} {step = step} {body = body} {known = known}) h = statements.3 facts (in_new_block (entered known)) (c.Declares d) (statements.0 facts known around (c.For (c.Declares d) test step body) h).0
  comes_part (for_test {around = around} {begin = begin} {test = test} {step = step} {body = body} {known = known} {k = k} {b = b} first) h = statements.4 facts k (Some test) ((statements.0 facts known around (c.For begin (Some test) step body) h).1 b k first).0
  comes_part (for_step {around = around} {begin = begin} {test = test} {step = step} {body = body} {known = known} {k = k} {j = j} {b = b} {x = x} first tested) h = statements.5 facts j (Some step) (((statements.0 facts known around (c.For begin test (Some step) body) h).1 b k first).1 x j tested).0
  comes_part (for_body {around = around} {begin = begin} {test = test} {step = step} {body = body} {known = known} {k = k} {j = j} {i = i} {b = b} {x = x} {y = y} first tested stepped) h = (((statements.0 facts known around (c.For begin test step body) h).1 b k first).1 x j tested).1 y i stepped
  comes_part (switch_operand {around = around} {operand = operand} {list = list} {known = known}) h = (statements.0 facts known around (c.Switch operand list) h).0
  comes_part (switch_cases {around = around} {operand = operand} {list = list} {known = known} {k = k} {x = x} is) h = (statements.0 facts known around (c.Switch operand list) h).1 x k is
  comes_part (returned {around = around} {e = e} {known = known}) h = statements.5 facts (entered known) (Some e) (statements.0 facts known around (c.Return (Some e)) h)
  comes_part (an_item_declares {around = around} {first = first} {rest = rest} {known = known}) h = (statements.1 facts known around (c.a_declaration first rest) h).0
  comes_part (behind_declaration {around = around} {first = first} {rest = rest} {known = known} {k = k} {it = it} is) h = (statements.1 facts known around (c.a_declaration first rest) h).1 it k is
  comes_part (an_item {around = around} {first = first} {rest = rest} {known = known}) h = (statements.1 facts known around (c.a_statement first rest) h).0
  comes_part (behind_statement {around = around} {first = first} {rest = rest} {known = known} {k = k} {s = s} is) h = (statements.1 facts known around (c.a_statement first rest) h).1 s k is
  comes_part (behind_label {around = around} {first = first} {rest = rest} {known = known} {k = k} {m = m} is) h = statements.1 facts known around (c.a_label first rest) h m k is
  comes_part (one_case {type = type} {seen = seen} {around = around} {list = list} {first = first} {rest = rest} {known = known} {k = k} {it = it} is) h = (statements.2 facts known type seen around (c.a_case list first rest) h it k is).0
  comes_part (more_cases {type = type} {seen = seen} {around = around} {list = list} {first = first} {rest = rest} {known = known} {k = k} {j = j} {it = it} {s = s} is body) h = (statements.2 facts known type seen around (c.a_case list first rest) h it k is).1 s j body
  comes_part (a_body {s = s} {d = d} {body = body} {it = it} {declared = what} {known = known} {k = k} {j = j} is type) h = externals_laws.1 facts known (c.Defines s d body) h it k is what j type
  comes_part (declared {d = d} {known = known}) h = externals_laws.1 facts known (c.Declared d) h
  comes_part (one_external {x = x} {xs = xs} {known = known}) h = (externals_laws.0 facts known (x ∷ xs) h).0
  comes_part (more_externals {x = x} {xs = xs} {known = known} {k = k} {u = u} is) h = (externals_laws.0 facts known (x ∷ xs) h).1 u k is

pub comes : UnitsAreComeTo → ExternalsAreComeTo → DeclarationsAreComeTo → InitialisersAreComeTo → StatementsAreComeTo → OperandsAreComeTo
    → (greatest : ℕ) (model : DataModel) (unit : c.Unit) (program : Program) → IsProgramTo greatest model unit program
    → {it : Piece} {known : Known} → IsReached greatest model unit it known → ComesToPiece program.facts it known
comes units externals_laws declarations initialisers_laws statements operands greatest model unit program is the_unit = units greatest model unit program is
comes units externals_laws declarations initialisers_laws statements operands greatest model unit program is (a_part reached part) =
    comes_part units externals_laws declarations initialisers_laws statements operands program.facts part
    (comes units externals_laws declarations initialisers_laws statements operands greatest model unit program is reached)
