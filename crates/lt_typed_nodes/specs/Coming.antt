-- Where typing comes to in a unit whose typing goes on to its end: from an expression to its parts.
use Rattle.std.specs.Prelude.{◌≡◌, ◌+◌, true, false, List, ◌∷◌, ◌++◌, Some}
use Rattle.lt_tree.specs.Tree as c
use Rattle.lt_tree.specs.Typing.Entities.{Known, Fact, no_names}
use Rattle.lt_tree.specs.Typing.Steps.{Outcome, Goes}
use Rattle.lt_tree.specs.Typing.Expressions.{Typed, Use, as_value, as_truth, as_place, as_callee, own_type, used, fact_of}
use Rattle.lt_tree.specs.Typing.MarkRules.{inside_mark, inside_after}
use Rattle.lt_tree.specs.Typing.Specifying.{elsewhere}
use Rattle.lt_tree.specs.Typing.Declarators.{type_name_faults}
use Rattle.lt_tree.specs.Typing.NodeEnds.{operand_of}
use Rattle.lt_tree.specs.Typing.ExpressionTyping.{expression, expressions, marks, specifiers, declarator}
use Rattle.lt_objectives.specs.Places.{value_part, fact_among}
use Rattle.lt_typed_nodes.specs.Laws.{NotesBegunNodes, StaysConstant, IsReadAs}

-- Typing comes to a part where this is known, and goes on behind it. Of these facts, which the program of the unit has in the end, the first are those
-- that are noted by then.
pub record ComesTo {A : Type 0} (facts : List Fact) (known : Known) (o : Outcome A) : Type 0 where
  pub begun : NotesBegunNodes known
  pub found : A
  pub behind : Known
  pub later : List Fact
  pub goes : o ≡ Goes found behind
  pub are : facts ≡ behind.facts ++ later

-- what holds behind a part, of what is found and what is known there
abbrev pub Behind : {A : Type 0} → Outcome A → (A → Known → Type 0) → Type 0
Behind {A} o holds = (found : A) (behind : Known) → o ≡ Goes found behind → holds found behind

-- where a node is known: here its parts begin
abbrev pub entered : Known → Known
entered known = record known { next = known.next + 1 }

-- where known is what stands in an expression without marks, or in a new block
abbrev pub unmarked_here : Known → Known
unmarked_here known = record known { is_unmarked = true }

abbrev pub in_new_block : Known → Known
in_new_block known = record known { frames = no_names ∷ known.frames }

-- typing comes to an expression that is used so, and to expressions
abbrev pub ComesToIt : List Fact → Known → Use → c.Expression → Type 0
ComesToIt facts known role it = ComesTo facts known (expression it role known)

abbrev pub ComesToAll : List Fact → Known → c.Expressions → Type 0
ComesToAll facts known them = ComesTo facts known (expressions them known)

-- one operand, and two
abbrev pub ComesToOne : List Fact → Known → Use → c.Expression → Type 0
ComesToOne facts known role it = ComesToIt facts (entered known) role it

abbrev pub ComesToTwo : List Fact → Known → Use → Use → c.Expression → c.Expression → Type 0
ComesToTwo facts known first second left right =
    ComesToIt facts (entered known) first left × Behind (expression left first (entered known)) (λ x k. ComesToIt facts k second right)

-- Typing comes to the operands of an expression that is used so; those of marks and in type names aside.
abbrev pub ComesToOperands : List Fact → Known → Use → c.Expression → Type 0
ComesToOperands facts known role (c.Index whole index) = ComesToTwo facts known as_value as_value whole index
ComesToOperands facts known role (c.Call callee arguments) =
    ComesToIt facts (entered known) as_callee callee × Behind (expression callee as_callee (entered known)) (λ f k. ComesToAll facts k arguments)
ComesToOperands facts known role (c.Member whole name) = ComesToOne facts known as_place whole
ComesToOperands facts known role (c.Arrow pointer name) = ComesToOne facts known as_value pointer
ComesToOperands facts known role (c.PostInc target) = ComesToOne facts known as_place target
ComesToOperands facts known role (c.PostDec target) = ComesToOne facts known as_place target
ComesToOperands facts known role (c.PreInc target) = ComesToOne facts known as_place target
ComesToOperands facts known role (c.PreDec target) = ComesToOne facts known as_place target
ComesToOperands facts known role (c.Unary op operand) = ComesToOne facts known (operand_of op) operand
ComesToOperands facts known role (c.SizeofExpr operand) = ComesToIt facts (unmarked_here (entered known)) as_place operand
ComesToOperands facts known role (c.Cast s d operand) =
    Behind (specifiers s elsewhere (entered known)) (λ it k. Behind (declarator d it false (λ name known b. type_name_faults b) k) (λ t k. ComesToIt facts k as_value operand))
ComesToOperands facts known role (c.Binary op left right) = ComesToTwo facts known as_value as_value left right
ComesToOperands facts known role (c.Logical op left right) = ComesToTwo facts known as_truth as_truth left right
ComesToOperands facts known role (c.Conditional test left right) =
    ComesToTwo facts known as_truth as_value test left
    × Behind (expression test as_truth (entered known)) (λ p k. Behind (expression left as_value k) (λ x k. ComesToIt facts k as_value right))
ComesToOperands facts known role (c.Assign op target value) = ComesToTwo facts known as_place as_value target value
ComesToOperands facts known role (c.Comma list) = ComesToAll facts (entered known) list
ComesToOperands facts known role (c.Marked ms value) = Behind (marks ms (entered known)) (λ typed k. ComesToIt facts k (inside_mark role) value)
ComesToOperands facts known role (c.Decide operand when_true when_false tag) = ComesToOne facts known (inside_mark role) operand
ComesToOperands facts known role (c.After operand id tag) = ComesToOne facts known (inside_after role) operand
ComesToOperands facts known role it = Unit {0}

-- to each of these expressions in turn
abbrev pub ComesToEach : List Fact → Known → c.Expressions → Type 0
ComesToEach facts known c.no_expressions = Unit {0}
ComesToEach facts known (c.an_expression first rest) = ComesToIt facts known as_value first × Behind (expression first as_value known) (λ x k. ComesToAll facts k rest)

-- Where typing comes to an expression it comes to its operands, and where it comes to several expressions to each.
abbrev pub OperandsAreComeTo : Type 0
OperandsAreComeTo =
    ((facts : List Fact) (known : Known) (role : Use) (it : c.Expression) → ComesToIt facts known role it → ComesToOperands facts known role it)
    × ((facts : List Fact) (known : Known) (them : c.Expressions) → ComesToAll facts known them → ComesToEach facts known them)

-- The program knows of an expression to which typing comes what was found there, and what constant it is, if it is one; and of an operand, by the number
-- of its value part, of which type its value is.
abbrev pub WhatIsComeToIsKnown : Type 0
WhatIsComeToIsKnown =
    ((facts : List Fact) (known : Known) (role : Use) (it : c.Expression) (there : ComesToIt facts known role it)
    → (y : Typed) × (there.found ≡ used role y) × (fact_among facts known.next ≡ Some (fact_of known.next y)) × StaysConstant there.found.constancy y.erased)
    × ((facts : List Fact) (known : Known) (it : c.Expression) (there : ComesToIt facts known as_value it)
    → (fact : Fact) × (fact_among facts (value_part known.next it).number ≡ Some fact) × IsReadAs fact.type (own_type there.found))
