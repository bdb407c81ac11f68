-- From a statement with marks added to its parts, and from items and cases: they stand beside those of the unit.
use Rattle.std.proofs.Common.{◌≡◌, ℕ, ◌+◌, List, [], Option, Some, Bool, false, refl, sym, ap, ◌∙◌, subst}
use Rattle.std.specs.Prelude.{option_map}
use Rattle.std.specs.List.{flat_map}
use Rattle.lt_model.specs.declared.scalar.DataModel.{DataModel}
use Rattle.lt_model.specs.declared.scalar.Scalar.{Scalar}
use Rattle.lt_model.specs.Conversions.{promoted}
use Rattle.lt_tree.specs.Tree as c
use Rattle.lt_tree.specs.Nodes.{in_label}
use Rattle.lt_tree.specs.Typing.Types.{scalar_of}
use Rattle.lt_tree.specs.Typing.TypedTree as e
use Rattle.lt_tree.specs.Typing.TypedTree.{Statement}
use Rattle.lt_tree.specs.Typing.Entities.{Known}
use Rattle.lt_tree.specs.Typing.Steps.{Goes, goes_on, in_block}
use Rattle.lt_tree.specs.Typing.Expressions.{Typed, as_value, as_truth}
use Rattle.lt_tree.specs.Typing.ExpressionTyping.{expression, mark}
use Rattle.lt_tree.specs.Typing.StatementTyping.{Around, Seen, Labelled, in_a_loop, in_a_switch, optional_expression, optional_test, for_start, TypedStart, switch_type, labels, statement, items, cases}
use Rattle.lt_tree.specs.Typing.Programs.{Program}
use Rattle.lt_typed_nodes.specs.Coming.{entered, in_new_block}
use Rattle.lt_typed_nodes.specs.ComingItems.{StatementsAreComeTo, ComesInFor}
use Rattle.lt_typed_nodes.specs.Reaching as place
use Rattle.lt_typed_nodes.specs.Reaching.{Piece, IsPart, IsReached, a_part, in_compound, evaluated, if_test, if_body, if_else_test, if_else_body, else_body, while_test, while_body, do_body, do_test, for_first, for_declares, for_test, for_step, for_body, switch_operand, switch_cases, returned, an_item_declares, behind_declaration, an_item, behind_statement, behind_label, one_case, more_cases}
use Rattle.lt_mark_laws.specs.Added.{AddsStatement}
use Rattle.lt_object_laws.specs.Renamed.{renumbered, statement_with}
use Rattle.lt_mark_typing.specs.Beside.{IsBeside, Position, use_of, AddsWith}
use Rattle.lt_mark_typing.specs.Placed.{AreOld, AddsTo}
use Rattle.lt_mark_typing.specs.PlacedItems as p
use Rattle.lt_mark_typing.specs.PlacedItems.{AddsToTest, AddsToOptional, AddsToStart, AddsToStatement, AddsToItems, AddsToCases}
use Rattle.lt_mark_typing.specs.Laws.{ExpressionsAreTypedAgain, StatementsAreTypedAgain}
use Rattle.lt_mark_typing.proofs.Numbers.{agrees_so_far}
use Rattle.lt_mark_typing.proofs.Going.{entered_beside}
use Rattle.lt_mark_typing.proofs.Steps.{Same}
use Rattle.lt_mark_typing.proofs.Unchanged.{of_mark}
use Rattle.lt_mark_typing.proofs.NewMarks.{new_mark, numbered_alone}
use Rattle.lt_mark_typing.proofs.DeclaredAgain.{of_declaration_with}
use Rattle.lt_mark_typing.proofs.Statements.{operand_type}
use Rattle.lt_mark_typing.proofs.StatementParts.{AddsTests, AddsMaybe, AddsTypedStart, block_beside, in_blocks, model_same, of_labels, of_test, of_optional, of_start}
use Rattle.lt_marked_places.proofs.Coming.{ComesToPiece}
use Rattle.lt_marked_places.proofs.Standing as stands
use Rattle.lt_marked_places.proofs.Standing.{Stands}
use Rattle.lt_marked_places.proofs.Both.{gone, first_gone, block_gone, same_known, BothGo, both}

module _ (expressions_again : ExpressionsAreTypedAgain) (statements_again : StatementsAreTypedAgain) (statements_laws : StatementsAreComeTo)
    (new : ℕ → Bool) (greatest : ℕ) (model : DataModel) (unit : c.Unit) (program : Program)
    (all_come : (it : Piece) (known : Known) → IsReached greatest model unit it known → ComesToPiece program.facts it known) where
  come : {it : Piece} {known : Known} → IsReached greatest model unit it known → ComesToPiece program.facts it known
  come {it} {known} reached = all_come it known reached

  -- ---- parts over which both go on

  pub expression_goes : {position : Position} {used after : List ℕ} {further : List Bool} {known there j : Known} {it marked : c.Expression} {y : Typed}
      → IsReached greatest model unit (place.an_expression (use_of position) it) known → AddsTo new position used after known it marked → IsBeside new used further known there
      → expression marked (use_of position) there ≡ Goes y j → BothGo new after (AddsWith new position) (expression it (use_of position) known) y j
  expression_goes {position} {used} {after} {further} {known} {there} {it = it} {marked = marked} reached d b is =
      both (expressions_again new position used after further known there it marked d b) (gone (come reached)) is

  block_goes : {used after : List ℕ} {further : List Bool} {around : Around} {known there j : Known} {it marked : c.Statement} {y : Statement}
      → IsReached greatest model unit (place.a_statement around it) (in_new_block known) → AddsToStatement new used after around (in_new_block known) it marked → IsBeside new used further known there
      → in_block (statement marked around) there ≡ Goes y j → BothGo new after (λ r x z. AddsStatement new (statement_with r x) z) (in_block (statement it around) known) y j
  block_goes {used} {after} {further} {around} {known} {there} {it = it} {marked = marked} reached d b is =
      both (in_blocks b ((statements_again new used after further around (in_new_block known) (in_new_block there) (block_beside b)).0 it marked d))
      (block_gone known.frames (statement it around (in_new_block known)) (gone (come reached))) is

  -- ---- statements

  for_parts : {around : Around} {start : c.ForStart} {test step : Option c.Expression} {x : c.Statement} {known : Known}
      → IsReached greatest model unit (place.a_statement around (c.For start test step x)) known → ComesInFor program.facts (in_new_block (entered known)) (in_a_loop around) start test step x
  for_parts {around} {start} {test} {step} {x} {known} reached = statements_laws.0 program.facts known around (c.For start test step x) (come reached)

  started : {used after : List ℕ} {further : List Bool} {around : Around} {start begin : c.ForStart} {test step : Option c.Expression} {x : c.Statement} {known there j : Known} {v : TypedStart}
      → IsReached greatest model unit (place.a_statement around (c.For start test step x)) known → AddsToStart new used after (in_new_block (entered known)) start begin → IsBeside new used further known there
      → for_start begin (in_new_block (entered there)) ≡ Goes v j → BothGo new after (AddsTypedStart new) (for_start start (in_new_block (entered known))) v j
  started reached d b is = both (of_start d (block_beside (entered_beside b))) (gone (for_parts reached).0) is

  tested : {used after : List ℕ} {further : List Bool} {around : Around} {start : c.ForStart} {test other step : Option c.Expression} {x : c.Statement} {known k there j : Known} {v : TypedStart} {y : Option Typed}
      → IsReached greatest model unit (place.a_statement around (c.For start test step x)) known → for_start start (in_new_block (entered known)) ≡ Goes v k
      → AddsToTest new used after k test other → IsBeside new used further k there → optional_test other there ≡ Goes y j → BothGo new after (AddsTests new) (optional_test test k) y j
  tested {k = k} {v = v} reached first d b is = both (of_test d b) (gone ((for_parts reached).1 v k first).0) is

  stepped : {used after : List ℕ} {further : List Bool} {around : Around} {start : c.ForStart} {test step other : Option c.Expression} {x : c.Statement} {known k l there j : Known} {v : TypedStart} {t y : Option Typed}
      → IsReached greatest model unit (place.a_statement around (c.For start test step x)) known → for_start start (in_new_block (entered known)) ≡ Goes v k → optional_test test k ≡ Goes t l
      → AddsToOptional new used after l step other → IsBeside new used further l there → optional_expression other there ≡ Goes y j → BothGo new after (AddsMaybe new) (optional_expression step l) y j
  stepped {k = k} {l = l} {v = v} {t = t} reached first second d b is = both (of_optional d b) (gone (((for_parts reached).1 v k first).1 t l second).0) is

  test_stands : {used after : List ℕ} {further : List Bool} {around : Around} {start : c.ForStart} {test step : Option c.Expression} {other : c.Expression} {x : c.Statement} {known k there : Known} {v : TypedStart}
      → IsReached greatest model unit (place.a_statement around (c.For start test step x)) known → for_start start (in_new_block (entered known)) ≡ Goes v k
      → AddsToTest new used after k test (Some other) → IsBeside new used further k there → Stands new greatest model unit (place.an_expression as_truth other) there
  test_stands reached first (p.a_test d) b = stands.an_expression (a_part reached (for_test first)) refl d b

  step_stands : {used after : List ℕ} {further : List Bool} {around : Around} {start : c.ForStart} {test step : Option c.Expression} {other : c.Expression} {x : c.Statement} {known k l there : Known} {v : TypedStart} {t : Option Typed}
      → IsReached greatest model unit (place.a_statement around (c.For start test step x)) known → for_start start (in_new_block (entered known)) ≡ Goes v k → optional_test test k ≡ Goes t l
      → AddsToOptional new used after l step (Some other) → IsBeside new used further l there → Stands new greatest model unit (place.an_expression as_value other) there
  step_stands reached first second (p.a_value d) b = stands.an_expression (a_part reached (for_step first second)) refl d b

  pub statement_part : {around : Around} {marked : c.Statement} {there k : Known} {part : Piece}
      → Stands new greatest model unit (place.a_statement around marked) there → IsPart (place.a_statement around marked) there part k → Stands new greatest model unit part k
  statement_part (stands.a_statement reached (p.Compound d) b) in_compound = stands.items (a_part reached in_compound) d (block_beside (entered_beside b))
  statement_part (stands.a_statement reached (p.Evaluates d) b) evaluated = stands.an_expression (a_part reached evaluated) refl d (entered_beside b)
  statement_part (stands.a_statement reached (p.If d f) b) if_test = stands.an_expression (a_part reached if_test) refl d (block_beside (entered_beside b))
  statement_part (stands.a_statement reached (p.If d f) b) (if_body is) =
      let first = expression_goes (a_part reached if_test) d (block_beside (entered_beside b)) is in
      stands.a_statement (a_part reached (if_body first.goes)) (f first.found first.known first.goes) (block_beside first.beside)
  statement_part (stands.a_statement reached (p.IfElse d f h) b) if_else_test = stands.an_expression (a_part reached if_else_test) refl d (block_beside (entered_beside b))
  statement_part (stands.a_statement reached (p.IfElse d f h) b) (if_else_body is) =
      let first = expression_goes (a_part reached if_else_test) d (block_beside (entered_beside b)) is in
      stands.a_statement (a_part reached (if_else_body first.goes)) (f first.found first.known first.goes) (block_beside first.beside)
  statement_part (stands.a_statement reached (p.IfElse d f h) b) (else_body is body) =
      let first = expression_goes (a_part reached if_else_test) d (block_beside (entered_beside b)) is in
      let second = block_goes (a_part reached (if_else_body first.goes)) (f first.found first.known first.goes) first.beside body in
      stands.a_statement {further = second.behind} (a_part reached (else_body first.goes second.goes)) (h first.found first.known second.found second.known first.goes second.goes) (block_beside second.beside)
  statement_part (stands.a_statement reached (p.While d f) b) while_test = stands.an_expression (a_part reached while_test) refl d (block_beside (entered_beside b))
  statement_part (stands.a_statement reached (p.While d f) b) (while_body is) =
      let first = expression_goes (a_part reached while_test) d (block_beside (entered_beside b)) is in
      stands.a_statement (a_part reached (while_body first.goes)) (f first.found first.known first.goes) (block_beside first.beside)
  statement_part (stands.a_statement reached (p.Do d f) b) do_body = stands.a_statement (a_part reached do_body) d (block_beside (block_beside (entered_beside b)))
  statement_part (stands.a_statement reached (p.Do d f) b) (do_test is) =
      let first = block_goes (a_part reached do_body) d (block_beside (entered_beside b)) is in
      stands.an_expression (a_part reached (do_test first.goes)) refl (f first.found first.known first.goes) first.beside
  statement_part (stands.a_statement reached (p.For (p.First d) f h z) b) for_first = stands.an_expression (a_part reached for_first) refl d (block_beside (entered_beside b))
  statement_part (stands.a_statement reached (p.For (p.Declares d) f h z) b) for_declares = stands.a_declaration (a_part reached for_declares) d (block_beside (entered_beside b))
  statement_part (stands.a_statement reached (p.For d f h z) b) (for_test is) =
      let first = started reached d b is in
      test_stands reached first.goes (f first.found first.known first.goes) first.beside
  statement_part (stands.a_statement reached (p.For d f h z) b) (for_step is test) =
      let first = started reached d b is in
      let second = tested reached first.goes (f first.found first.known first.goes) first.beside test in
      step_stands {further = second.behind} reached first.goes second.goes (h first.found second.found first.known second.known first.goes second.goes) second.beside
  statement_part (stands.a_statement reached (p.For d f h z) b) (for_body is test step) =
      let first = started reached d b is in
      let second = tested reached first.goes (f first.found first.known first.goes) first.beside test in
      let third = stepped reached first.goes second.goes (h first.found second.found first.known second.known first.goes second.goes) second.beside step in
      stands.a_statement {further = third.behind} (a_part reached (for_body first.goes second.goes third.goes))
      (z first.found second.found third.found first.known second.known third.known first.goes second.goes third.goes) (block_beside {further = third.behind} {k = third.known} third.beside)
  statement_part (stands.a_statement reached (p.Switch d f) b) switch_operand = stands.an_expression (a_part reached switch_operand) refl d (block_beside (entered_beside b))
  statement_part (stands.a_statement reached (p.Switch {around = around} {ds = ds} d f) b) (switch_cases {k = k} {x = x} is) =
      let first = expression_goes (a_part reached switch_operand) d (block_beside (entered_beside b)) is in
      subst (λ type. Stands new greatest model unit (place.cases type (record { values = []; has_default = false }) (in_a_switch around) ds) k)
      (sym (ap (λ m. switch_type m x) (model_same first.beside) ∙ ap (λ t. option_map (promoted first.known.model) (scalar_of t)) (operand_type first.found x first.related)))
      (stands.cases (a_part reached (switch_cases first.goes)) (f first.found first.known first.goes) first.beside)
  statement_part (stands.a_statement reached (p.Return (p.a_value d)) b) returned = stands.an_expression (a_part reached returned) refl d (entered_beside b)
  statement_part (stands.a_statement reached p.Null b) part = elim part [ ]
  statement_part (stands.a_statement reached p.Break b) part = elim part [ ]
  statement_part (stands.a_statement reached p.Continue b) part = elim part [ ]
  statement_part (stands.a_statement reached (p.Return p.no_value) b) part = elim part [ ]

  -- ---- items

  pub items_part : {around : Around} {marked : c.Items} {there k : Known} {part : Piece}
      → Stands new greatest model unit (place.items around marked) there → IsPart (place.items around marked) there part k → Stands new greatest model unit part k
  items_part (stands.items reached (p.a_declaration d f) b) an_item_declares = stands.a_declaration (a_part reached an_item_declares) d (entered_beside b)
  items_part (stands.items reached (p.a_declaration d f) b) (behind_declaration is) =
      let first = both (of_declaration_with d (entered_beside b)) (gone (come (a_part reached an_item_declares))) is in
      stands.items (a_part reached (behind_declaration first.goes)) (f first.found first.known first.goes) first.beside
  items_part (stands.items reached (p.a_statement d f) b) an_item = stands.a_statement (a_part reached an_item) d (entered_beside b)
  items_part (stands.items {used = used} {further = further} {known = known} {there = there} reached (p.a_statement {between = between} {around = around} {x = x} {y = y} d f) b) (behind_statement is) =
      let first = both ((statements_again new used between further around (entered known) (entered there) (entered_beside b)).0 x y d) (gone (come (a_part reached an_item))) is in
      stands.items (a_part reached (behind_statement first.goes)) (f first.found first.known first.goes) first.beside
  items_part (stands.items {known = known} reached (p.a_label {around = around} {m = m} {is = them} h f) b) (behind_label is) =
      let first = both (of_mark m h (entered_beside b)) (first_gone (mark m (entered known)) (λ it k. goes_on (items them around k) (λ others k. Goes (e.a_label it others) k)) (gone (come reached))) is in
      stands.items (a_part reached (behind_label first.goes)) (f first.found first.known first.goes) first.beside
  items_part (stands.items {there = there} reached (p.an_added_label {around = around} {known = known} {m = c.mark predicate id tag c.no_bindings} {js = js} u h d) b) (behind_label is) =
      let found = new_mark predicate id tag u h.0 h.1 h.2 (numbered_alone (there.next + 1) there.facts b) in
      subst (λ k. Stands new greatest model unit (place.items around js) k) (same_known (sym found.4 ∙ is))
      (stands.items reached d (subst (λ used. IsBeside new used found.2 known found.1) (sym h.4) found.5))
  items_part (stands.items reached (p.an_added_label {m = c.mark predicate id tag (c.a_binding name value bound)} u h d) b) (behind_label is) = absurd h
  items_part (stands.items reached p.no_items b) part = elim part [ ]

  -- ---- cases

  labels_go : {used : List ℕ} {further : List Bool} {type : Option Scalar} {seen : Seen} {around : Around} {list : List c.Label} {x : c.Statement} {cs : c.Cases} {known there j : Known} {it : Labelled}
      → IsReached greatest model unit (place.cases type seen around (c.a_case list x cs)) known → AreOld new (flat_map in_label list) → IsBeside new used further known there
      → labels list type seen there ≡ Goes it j → BothGo new used (Same {A = Labelled}) (labels list type seen known) it j
  labels_go {type = type} {seen = seen} {around = around} {list = list} {x = x} {cs = cs} {known = known} reached h b is =
      both (of_labels list type seen h b) (first_gone (labels list type seen known)
      (λ it k. goes_on (in_block (statement x around) k) (λ body k. goes_on (cases cs type it.seen around k) (λ others k. Goes (e.a_case it.labels body others) k))) (gone (come reached))) is

  pub cases_part : {type : Option Scalar} {seen : Seen} {around : Around} {marked : c.Cases} {there k : Known} {part : Piece}
      → Stands new greatest model unit (place.cases type seen around marked) there → IsPart (place.cases type seen around marked) there part k → Stands new greatest model unit part k
  cases_part (stands.cases reached (p.a_case h f z) b) (one_case is) =
      let first = labels_go reached h b is in
      stands.a_statement (a_part reached (one_case first.goes)) (f first.found first.known first.goes) (block_beside first.beside)
  cases_part (stands.cases reached (p.a_case {type = type} {around = around} {ds = ds} h f z) b) (more_cases {j = j} is body) =
      let first = labels_go reached h b is in
      let second = block_goes (a_part reached (one_case first.goes)) (f first.found first.known first.goes) first.beside body in
      subst (λ it. Stands new greatest model unit (place.cases type it.seen around ds) j) (sym (first.related (renumbered first.behind) (agrees_so_far first.behind)))
      (stands.cases {further = second.behind} (a_part reached (more_cases first.goes second.goes)) (z first.found second.found first.known second.known first.goes second.goes) second.beside)
  cases_part (stands.cases reached p.no_cases b) part = elim part [ ]
