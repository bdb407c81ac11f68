-- From expressions that stand beside expressions of the unit to their operands.
use Rattle.std.proofs.Common.{◌≡◌, ℕ, ◌+◌, Bool, true, false, List, refl, sym, ap, ◌∙◌, subst}
use Rattle.std.specs.Prelude.{◌++◌}
use Rattle.lt_model.specs.declared.scalar.DataModel.{DataModel}
use Rattle.lt_tree.specs.Tree as c
use Rattle.lt_tree.specs.Nodes.{in_expression, in_expressions, in_marks, in_specifiers, in_declarator}
use Rattle.lt_tree.specs.Typing.TypedTree.{Marks as TypedMarks}
use Rattle.lt_tree.specs.Typing.Entities.{Known, Fact}
use Rattle.lt_tree.specs.Typing.Steps.{Goes}
use Rattle.lt_tree.specs.Typing.Expressions.{Typed, Use, as_value, as_truth, as_place, as_callee}
use Rattle.lt_tree.specs.Typing.MarkRules.{inside_mark, inside_after}
use Rattle.lt_tree.specs.Typing.Specifying.{Specified, elsewhere}
use Rattle.lt_tree.specs.Typing.Declarators.{Declares}
use Rattle.lt_tree.specs.Typing.ExpressionTyping.{expression, marks, specifiers, declarator}
use Rattle.lt_typed_nodes.specs.Coming.{entered, ComesToIt}
use Rattle.lt_typed_nodes.specs.Reaching as place
use Rattle.lt_typed_nodes.specs.Reaching.{Piece, IsPart, IsReached, a_part, an_array, a_callee, a_left, a_first, a_test, a_target, a_whole, a_pointer, incremented_after, decremented_after, incremented, decremented, an_operand, in_comma, a_decision, in_after, an_index, a_right, if_true, a_second, an_assigned, arguments, a_cast, if_false, one_expression, more_expressions}
use Rattle.lt_object_laws.specs.Renamed.{renumbered}
use Rattle.lt_mark_typing.specs.Beside.{IsBeside, Position, in_use, in_test, use_of}
use Rattle.lt_mark_typing.specs.Placed as p
use Rattle.lt_mark_typing.specs.Placed.{AreOld, AreNewLabels, takes_labels, position_of, any_type_name, AddsTo, as_it_is, in_parts, in_front, around, AddsToAll}
use Rattle.lt_mark_typing.specs.Laws.{ExpressionsAreTypedAgain}
use Rattle.lt_mark_typing.proofs.Numbers.{agrees_so_far}
use Rattle.lt_mark_typing.proofs.Going.{entered_beside}
use Rattle.lt_mark_typing.proofs.Nodes.{old_first, old_second}
use Rattle.lt_mark_typing.proofs.NewMarks.{numbered_alone}
use Rattle.lt_mark_typing.proofs.Unchanged.{of_marks, of_specifiers, of_declarator}
use Rattle.lt_mark_typing.proofs.Placing.{use_same, use_behind}
use Rattle.lt_marked_places.proofs.Coming.{ComesToPiece}
use Rattle.lt_marked_places.proofs.Standing as stands
use Rattle.lt_marked_places.proofs.Standing.{Stands, StandsOn}
use Rattle.lt_marked_places.proofs.Both.{found_both, went_on}
use Rattle.lt_marked_places.proofs.MarksBeside.{joined_beside, new_beside}

-- behind labels an expression is used as it was, where labels may stand
used_behind : (position : Position) → takes_labels position ≡ true → use_of position ≡ inside_mark (use_of position)
used_behind in_test t = refl
used_behind (in_use as_value) t = refl
used_behind (in_use as_truth) t = refl
used_behind (in_use as_place) t = absurd cc
used_behind (in_use as_callee) t = absurd cc

-- and so it is in a `pc_after`
used_after : (position : Position) → takes_labels position ≡ true → use_of position ≡ inside_after (use_of position)
used_after in_test t = refl
used_after (in_use as_value) t = refl
used_after (in_use as_truth) t = refl
used_after (in_use as_place) t = absurd cc
used_after (in_use as_callee) t = absurd cc

takes_too : (position : Position) → takes_labels position ≡ true → takes_labels (in_use (use_of position)) ≡ true
takes_too in_test t = refl
takes_too (in_use role) t = t

module _ (new : ℕ → Bool) where
  all_old : {used : List ℕ} {known : Known} (them : c.Expressions) → AreOld new (in_expressions them) → AddsToAll new used used known them them
  all_old c.no_expressions h = p.no_expressions
  all_old (c.an_expression first rest) h =
      p.an_expression (as_it_is (old_first new (in_expression first) (in_expressions rest) h)) (λ x next is. all_old rest (old_second new (in_expression first) (in_expressions rest) h))

module _ (new : ℕ → Bool) (greatest : ℕ) (model : DataModel) (unit : c.Unit) (facts : List Fact)
    (come : (it : Piece) (known : Known) → IsReached greatest model unit it known → ComesToPiece facts it known) (again : ExpressionsAreTypedAgain) where
  -- ---- what stands behind an operand

  behind_it : {position : Position} {used after : List ℕ} {further : List Bool} {known there k : Known} {it marked : c.Expression} {x : Typed}
      → AddsTo new position used after known it marked → IsReached greatest model unit (place.an_expression (use_of position) it) known → expression marked (use_of position) there ≡ Goes x k → IsBeside new used further known there
      → (y : Typed) × (next : Known) × (expression it (use_of position) known ≡ Goes y next) × (behind : List Bool) × IsBeside new after behind next k
  behind_it {position} {used} {after} {further} {known} {there} {k} {it} {marked} d reached is b =
      let comes : ComesToIt facts known (use_of position) it = come (place.an_expression (use_of position) it) known reached in
      let found = found_both (again new position used after further known there it marked d b) comes.goes is in
      (comes.found, comes.behind, comes.goes, found.0, found.2)

  -- where no mark is added
  old_part : {role : Use} {used : List ℕ} {further : List Bool} {known there : Known} {it : c.Expression}
      → IsReached greatest model unit (place.an_expression role it) known → AreOld new (in_expression it) → IsBeside new used further known there → Stands new greatest model unit (place.an_expression role it) there
  old_part {role} reached h b = stands.an_expression {position = in_use role} reached refl (as_it_is h) b

  old_parts : {used : List ℕ} {further : List Bool} {known there : Known} {them : c.Expressions}
      → IsReached greatest model unit (place.expressions them) known → AreOld new (in_expressions them) → IsBeside new used further known there → Stands new greatest model unit (place.expressions them) there
  old_parts {them = them} reached h b = stands.expressions reached (all_old new them h) b

  behind_old : {role : Use} {used : List ℕ} {further : List Bool} {known there k : Known} {it : c.Expression} {x : Typed}
      → IsReached greatest model unit (place.an_expression role it) known → AreOld new (in_expression it) → expression it role there ≡ Goes x k → IsBeside new used further known there
      → (y : Typed) × (next : Known) × (expression it role known ≡ Goes y next) × (behind : List Bool) × IsBeside new used behind next k
  behind_old {role} reached h is b = behind_it {position = in_use role} (as_it_is h) reached is b

  -- behind a type name
  behind_type : {role : Use} {used : List ℕ} {further : List Bool} {known there k j : Known} {s : c.Specifiers} {t : c.Declarator} {operand : c.Expression} {it : Specified} {type : Declares}
      → IsReached greatest model unit (place.an_expression role (c.Cast s t operand)) known → AreOld new (in_specifiers s) → AreOld new (in_declarator t) → specifiers s elsewhere (entered there) ≡ Goes it k
      → declarator t it false any_type_name k ≡ Goes type j → IsBeside new used further known there
      → (own : Specified) × (next : Known) × (declared : Declares) × (last : Known) × (specifiers s elsewhere (entered known) ≡ Goes own next) × (declarator t own false any_type_name next ≡ Goes declared last)
      × (behind : List Bool) × IsBeside new used behind last j
  behind_type {role} {known = known} {k = k} {j} {s} {t} {operand} {it} {type} reached g h is declares b =
      let comes : ComesToIt facts known role (c.Cast s t operand) = come (place.an_expression role (c.Cast s t operand)) known reached in
      let one = went_on (specifiers s elsewhere (entered known)) _ comes.goes in
      let two = went_on (declarator t one.0 false any_type_name one.1) _ one.3 in
      let first = found_both (of_specifiers s elsewhere g (entered_beside b)) one.2 is in
      let second = found_both (of_declarator t one.0 false any_type_name (λ name further m n r g b it. refl) h first.2) two.2
      (subst (λ it. declarator t it false any_type_name k ≡ Goes type j) (first.1 (renumbered first.0) (agrees_so_far first.0)) declares) in
      (one.0, one.1, two.0, two.1, one.2, two.2, second.0, second.2)

  -- behind new labels in front of an expression
  behind_labels : {role : Use} {position : Position} {used between after : List ℕ} {further : List Bool} {known there k : Known} {it marked : c.Expression} {typed : TypedMarks} (labels : c.Marks)
      → IsReached greatest model unit (place.an_expression role it) known → use_of position ≡ role → known.is_unmarked ≡ false → takes_labels position ≡ true → AreNewLabels new used between known labels
      → AddsTo new position between after known it marked → IsBeside new used further known there → marks labels (entered there) ≡ Goes typed k → Stands new greatest model unit (place.an_expression (inside_mark role) marked) k
  behind_labels {position = position} {there = there} {k} {marked = marked} labels reached q u t are d b is =
      let found = new_beside labels u are (numbered_alone (there.next + 1) there.facts b) is in
      subst (λ role. Stands new greatest model unit (place.an_expression role marked) k) (sym q ∙ used_behind position t ∙ ap inside_mark q) (stands.an_expression reached q d found.1)

  -- ---- operands

  of_part : {role : Use} {position : Position} {used after : List ℕ} {further : List Bool} {known there k : Known} {it marked : c.Expression} {part : Piece}
      → IsPart (place.an_expression role marked) there part k → IsReached greatest model unit (place.an_expression role it) known → use_of position ≡ role → AddsTo new position used after known it marked
      → IsBeside new used further known there → Stands new greatest model unit part k
  of_part (an_array {base = base} {index = index}) reached q (as_it_is h) b = old_part (a_part reached an_array) (old_first new (in_expression base) (in_expression index) h.1) (entered_beside b)
  of_part an_array reached q (in_parts n (p.Index d f)) b = stands.an_expression (a_part reached an_array) refl d (entered_beside b)
  of_part (an_index {base = base} {index = index} is) reached q (as_it_is h) b =
      let found = behind_old (a_part reached an_array) (old_first new (in_expression base) (in_expression index) h.1) is (entered_beside b) in
      old_part (a_part reached (an_index found.2)) (old_second new (in_expression base) (in_expression index) h.1) found.4
  of_part (an_index is) reached q (in_parts n (p.Index d f)) b =
      let found = behind_it d (a_part reached an_array) is (entered_beside b) in stands.an_expression (a_part reached (an_index found.2)) refl (f found.0 found.1 found.2) found.4
  of_part (a_left {left = left} {right = right}) reached q (as_it_is h) b = old_part (a_part reached a_left) (old_first new (in_expression left) (in_expression right) h.1) (entered_beside b)
  of_part a_left reached q (in_parts n (p.Binary d f)) b = stands.an_expression (a_part reached a_left) refl d (entered_beside b)
  of_part (a_right {left = left} {right = right} is) reached q (as_it_is h) b =
      let found = behind_old (a_part reached a_left) (old_first new (in_expression left) (in_expression right) h.1) is (entered_beside b) in
      old_part (a_part reached (a_right found.2)) (old_second new (in_expression left) (in_expression right) h.1) found.4
  of_part (a_right is) reached q (in_parts n (p.Binary d f)) b =
      let found = behind_it d (a_part reached a_left) is (entered_beside b) in stands.an_expression (a_part reached (a_right found.2)) refl (f found.0 found.1 found.2) found.4
  of_part (a_first {left = left} {right = right}) reached q (as_it_is h) b = old_part (a_part reached a_first) (old_first new (in_expression left) (in_expression right) h.1) (entered_beside b)
  of_part a_first reached q (in_parts n (p.Logical d f)) b = stands.an_expression (a_part reached a_first) refl d (entered_beside b)
  of_part (a_second {left = left} {right = right} is) reached q (as_it_is h) b =
      let found = behind_old (a_part reached a_first) (old_first new (in_expression left) (in_expression right) h.1) is (entered_beside b) in
      old_part (a_part reached (a_second found.2)) (old_second new (in_expression left) (in_expression right) h.1) found.4
  of_part (a_second is) reached q (in_parts n (p.Logical d f)) b =
      let found = behind_it d (a_part reached a_first) is (entered_beside b) in stands.an_expression (a_part reached (a_second found.2)) refl (f found.0 found.1 found.2) found.4
  of_part (a_target {target = target} {value = value}) reached q (as_it_is h) b = old_part (a_part reached a_target) (old_first new (in_expression target) (in_expression value) h.1) (entered_beside b)
  of_part a_target reached q (in_parts n (p.Assign d f)) b = stands.an_expression (a_part reached a_target) refl d (entered_beside b)
  of_part (an_assigned {target = target} {value = value} is) reached q (as_it_is h) b =
      let found = behind_old (a_part reached a_target) (old_first new (in_expression target) (in_expression value) h.1) is (entered_beside b) in
      old_part (a_part reached (an_assigned found.2)) (old_second new (in_expression target) (in_expression value) h.1) found.4
  of_part (an_assigned is) reached q (in_parts n (p.Assign d f)) b =
      let found = behind_it d (a_part reached a_target) is (entered_beside b) in stands.an_expression (a_part reached (an_assigned found.2)) refl (f found.0 found.1 found.2) found.4
  of_part (a_callee {callee = callee} {arguments = them}) reached q (as_it_is h) b = old_part (a_part reached a_callee) (old_first new (in_expression callee) (in_expressions them) h.1) (entered_beside b)
  of_part a_callee reached q (in_parts n (p.Call d f)) b = stands.an_expression (a_part reached a_callee) refl d (entered_beside b)
  of_part (arguments {callee = callee} {them = them} is) reached q (as_it_is h) b =
      let found = behind_old (a_part reached a_callee) (old_first new (in_expression callee) (in_expressions them) h.1) is (entered_beside b) in
      old_parts (a_part reached (arguments found.2)) (old_second new (in_expression callee) (in_expressions them) h.1) found.4
  of_part (arguments is) reached q (in_parts n (p.Call d f)) b =
      let found = behind_it d (a_part reached a_callee) is (entered_beside b) in stands.expressions (a_part reached (arguments found.2)) (f found.0 found.1 found.2) found.4
  of_part a_whole reached q (as_it_is h) b = old_part (a_part reached a_whole) h.1 (entered_beside b)
  of_part a_whole reached q (in_parts n (p.Member d)) b = stands.an_expression (a_part reached a_whole) refl d (entered_beside b)
  of_part a_pointer reached q (as_it_is h) b = old_part (a_part reached a_pointer) h.1 (entered_beside b)
  of_part a_pointer reached q (in_parts n (p.Arrow d)) b = stands.an_expression (a_part reached a_pointer) refl d (entered_beside b)
  of_part incremented_after reached q (as_it_is h) b = old_part (a_part reached incremented_after) h.1 (entered_beside b)
  of_part incremented_after reached q (in_parts n (p.PostInc d)) b = stands.an_expression (a_part reached incremented_after) refl d (entered_beside b)
  of_part decremented_after reached q (as_it_is h) b = old_part (a_part reached decremented_after) h.1 (entered_beside b)
  of_part decremented_after reached q (in_parts n (p.PostDec d)) b = stands.an_expression (a_part reached decremented_after) refl d (entered_beside b)
  of_part incremented reached q (as_it_is h) b = old_part (a_part reached incremented) h.1 (entered_beside b)
  of_part incremented reached q (in_parts n (p.PreInc d)) b = stands.an_expression (a_part reached incremented) refl d (entered_beside b)
  of_part decremented reached q (as_it_is h) b = old_part (a_part reached decremented) h.1 (entered_beside b)
  of_part decremented reached q (in_parts n (p.PreDec d)) b = stands.an_expression (a_part reached decremented) refl d (entered_beside b)
  of_part an_operand reached q (as_it_is h) b = old_part (a_part reached an_operand) h.1 (entered_beside b)
  of_part an_operand reached q (in_parts n (p.Unary {op = op} d)) b = stands.an_expression (a_part reached an_operand) (use_same op) d (entered_beside b)
  of_part (a_cast {s = s} {d = t} {operand = operand} is declares) reached q (as_it_is h) b =
      let front = old_first new (in_specifiers s ++ in_declarator t) (in_expression operand) h.1 in
      let found = behind_type reached (old_first new (in_specifiers s) (in_declarator t) front) (old_second new (in_specifiers s) (in_declarator t) front) is declares b in
      old_part (a_part reached (a_cast found.4 found.5)) (old_second new (in_specifiers s ++ in_declarator t) (in_expression operand) h.1) found.7
  of_part (a_cast is declares) reached q (in_parts n (p.Cast g h f)) b =
      let found = behind_type reached g h is declares b in
      stands.an_expression (a_part reached (a_cast found.4 found.5)) refl (f found.0 found.1 found.2 found.3 found.4 found.5) found.7
  of_part (a_test {test = test} {left = left} {right = right}) reached q (as_it_is h) b =
      old_part (a_part reached a_test) (old_first new (in_expression test) (in_expression left) (old_first new (in_expression test ++ in_expression left) (in_expression right) h.1)) (entered_beside b)
  of_part a_test reached q (in_parts n (p.Conditional d f g)) b = stands.an_expression (a_part reached a_test) refl d (entered_beside b)
  of_part (if_true {test = test} {left = left} {right = right} is) reached q (as_it_is h) b =
      let front = old_first new (in_expression test ++ in_expression left) (in_expression right) h.1 in
      let found = behind_old (a_part reached a_test) (old_first new (in_expression test) (in_expression left) front) is (entered_beside b) in
      old_part (a_part reached (if_true found.2)) (old_second new (in_expression test) (in_expression left) front) found.4
  of_part (if_true is) reached q (in_parts n (p.Conditional d f g)) b =
      let found = behind_it d (a_part reached a_test) is (entered_beside b) in stands.an_expression (a_part reached (if_true found.2)) refl (f found.0 found.1 found.2) found.4
  of_part (if_false {test = test} {left = left} {right = right} tested is) reached q (as_it_is h) b =
      let front = old_first new (in_expression test ++ in_expression left) (in_expression right) h.1 in
      let first = behind_old (a_part reached a_test) (old_first new (in_expression test) (in_expression left) front) tested (entered_beside b) in
      let second = behind_old (a_part reached (if_true first.2)) (old_second new (in_expression test) (in_expression left) front) is first.4 in
      old_part (a_part reached (if_false first.2 second.2)) (old_second new (in_expression test ++ in_expression left) (in_expression right) h.1) second.4
  of_part (if_false tested is) reached q (in_parts n (p.Conditional d f g)) b =
      let first = behind_it d (a_part reached a_test) tested (entered_beside b) in
      let second = behind_it (f first.0 first.1 first.2) (a_part reached (if_true first.2)) is first.4 in
      stands.an_expression (a_part reached (if_false first.2 second.2)) refl (g first.0 second.0 first.1 second.1 first.2 second.2) second.4
  of_part in_comma reached q (as_it_is h) b = old_parts (a_part reached in_comma) h.1 (entered_beside b)
  of_part in_comma reached q (in_parts n (p.Comma ds)) b = stands.expressions (a_part reached in_comma) ds (entered_beside b)
  of_part {role} {known = known} (place.behind_marks {ms = ms} {value = value} is) reached q (as_it_is h) b =
      let comes : ComesToIt facts known role (c.Marked ms value) = come (place.an_expression role (c.Marked ms value)) known reached in
      let went = went_on (marks ms (entered known)) _ comes.goes in
      let found = found_both (of_marks ms (old_first new (in_marks ms) (in_expression value) h.1) (entered_beside b)) went.2 is in
      old_part (a_part reached (place.behind_marks went.2)) (old_second new (in_marks ms) (in_expression value) h.1) found.2
  of_part {role} {position} {known = known} (place.behind_marks is) reached q (in_parts n (p.Marked {ms = ms} {d = value} labels h g f)) b =
      let comes : ComesToIt facts known role (c.Marked ms value) = come (place.an_expression role (c.Marked ms value)) known reached in
      let went = went_on (marks ms (entered known)) _ comes.goes in
      let found = joined_beside labels ms h g (entered_beside b) went.2 is in
      stands.an_expression (a_part reached (place.behind_marks went.2)) (use_behind position ∙ ap inside_mark q) (f went.0 went.1 went.2) found.1
  of_part (place.behind_marks is) reached q (in_front {labels = labels} u t f are d) b = behind_labels labels reached q u t are d b is
  of_part a_decision reached q (as_it_is h) b = old_part (a_part reached a_decision) h.1 (entered_beside b)
  of_part a_decision reached q (in_parts n (p.Decide h g i d)) b = stands.an_expression (a_part reached a_decision) (ap inside_mark (sym h ∙ q)) d (entered_beside b)
  of_part {there = there} {marked = c.Decide marked when_true when_false tag} a_decision reached q (around f i j t d) b =
      subst (λ role. Stands new greatest model unit (place.an_expression role marked) (entered there)) (sym q ∙ ap inside_mark q) (stands.an_expression reached q d (numbered_alone (there.next + 1) there.facts b))
  of_part in_after reached q (as_it_is h) b = old_part (a_part reached in_after) h.1 (entered_beside b)
  of_part in_after reached q (in_parts n (p.After h d)) b = stands.an_expression (a_part reached in_after) (ap inside_after q) d (entered_beside b)
  of_part {position = position} in_after reached q (in_parts n (p.AfterLabels h t u f are d)) b =
      stands.labels_before {position = in_use (use_of position)} (a_part reached in_after) (used_after position t ∙ ap inside_after q) u (takes_too position t) are d (entered_beside b)

  of_list : {used after : List ℕ} {further : List Bool} {known there k : Known} {them marked : c.Expressions} {part : Piece}
      → IsPart (place.expressions marked) there part k → IsReached greatest model unit (place.expressions them) known → AddsToAll new used after known them marked → IsBeside new used further known there
      → Stands new greatest model unit part k
  of_list one_expression reached (p.an_expression d f) b = stands.an_expression (a_part reached one_expression) refl d b
  of_list (more_expressions is) reached (p.an_expression d f) b =
      let found = behind_it d (a_part reached one_expression) is b in stands.expressions (a_part reached (more_expressions found.2)) (f found.0 found.1 found.2) found.4

  -- ---- all of them

  pub expression_stands_on : (role : Use) (marked : c.Expression) (there : Known) → StandsOn new greatest model unit (place.an_expression role marked) there
  expression_stands_on role marked there part k (stands.an_expression reached q d b) is = of_part is reached q d b
  expression_stands_on role (c.Marked labels marked) there part k (stands.labels_before reached q u t are d b) (place.behind_marks is) = behind_labels labels reached q u t are d b is

  pub expressions_stand_on : (marked : c.Expressions) (there : Known) → StandsOn new greatest model unit (place.expressions marked) there
  expressions_stand_on marked there part k (stands.expressions reached d b) is = of_list is reached d b
