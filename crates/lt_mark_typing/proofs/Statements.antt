-- Statements with marks added are typed again.
use Rattle.std.proofs.Common.{◌≡◌, ℕ, ◌+◌, List, [], Option, Bool, false, refl, sym, ap, ◌∙◌, subst}
use Rattle.std.specs.Prelude.{◌++◌, ◌||◌, option_map}
use Rattle.lt_model.specs.declared.scalar.Scalar.{Scalar}
use Rattle.lt_model.specs.Conversions.{promoted}
use Rattle.lt_tree.specs.Tree as c
use Rattle.lt_tree.specs.Typing.Types.{scalar_of, is_scalar, is_integer}
use Rattle.lt_tree.specs.Typing.Rules.{unless, not_scalar, bad_case, stray_jump}
use Rattle.lt_tree.specs.Typing.TypedTree as e
use Rattle.lt_tree.specs.Typing.Entities.{Known}
use Rattle.lt_tree.specs.Typing.Steps.{Goes, goes_on, gives, ◌>>=◌}
use Rattle.lt_tree.specs.Typing.Expressions.{Typed, own_type, value_in}
use Rattle.lt_tree.specs.Typing.MarkRules.{number_of_id}
use Rattle.lt_tree.specs.Typing.StatementTyping.{Around, in_a_switch, test_faults, optional_test_faults, optional_value, switch_type, switch_value, Seen, return_faults, returned, locals_before, statement, items, cases}
use Rattle.lt_mark_laws.specs.Added as a
use Rattle.lt_mark_laws.specs.Added.{Adds, AddsStatement, AddsItems, AddsCases, Keeps}
use Rattle.lt_mark_laws.proofs.Itself as unmarked
use Rattle.lt_object_laws.specs.Renamed.{renumbered, value_with, mark_with, statement_with, items_with, cases_with}
use Rattle.lt_mark_typing.specs.Renumbered.{typed_with}
use Rattle.lt_mark_typing.specs.Further.{Agrees}
use Rattle.lt_mark_typing.specs.Beside.{IsBeside, AddsMade, Follows}
use Rattle.lt_mark_typing.specs.PlacedItems as p
use Rattle.lt_mark_typing.specs.PlacedItems.{AddsToStatement, AddsToItems, AddsToCases}
use Rattle.lt_mark_typing.specs.Laws.{StatementsAreTypedAgain}
use Rattle.lt_mark_typing.proofs.Numbers.{agrees_so_far, later}
use Rattle.lt_mark_typing.proofs.Going.{from_there, bind, bind_at, goes_here, entered_beside, settled}
use Rattle.lt_mark_typing.proofs.Operands.{type_same}
use Rattle.lt_mark_typing.proofs.Operators.{empty_both, left_empty, right_empty}
use Rattle.lt_mark_typing.proofs.Renumbering.{own_type_with}
use Rattle.lt_mark_typing.proofs.Steps.{bind_same_at}
use Rattle.lt_mark_typing.proofs.Unchanged.{of_mark}
use Rattle.lt_mark_typing.proofs.DeclaredAgain.{of_declaration_with}
use Rattle.lt_mark_typing.proofs.NewMarks.{new_mark, numbered_alone}
use Rattle.lt_mark_typing.proofs.Fronts.{then_alone}
use Rattle.lt_mark_typing.proofs.Again.{of_to}
use Rattle.lt_mark_typing.proofs.StatementParts.{tests_more, truth_there, value_there, switch_there, optional_tests_more, tests_adds, values_adds, return_more, returned_adds, locals_in_front, block_beside, in_blocks, model_same, of_labels, of_test, of_optional, of_start}

-- where objects have other numbers
abbrev pub AddsStatementWith : (ℕ → Bool) → (ℕ → ℕ) → e.Statement → e.Statement → Type 0
AddsStatementWith new r x y = AddsStatement new (statement_with r x) y

abbrev pub AddsItemsWith : (ℕ → Bool) → (ℕ → ℕ) → e.Items → e.Items → Type 0
AddsItemsWith new r x y = AddsItems new (items_with r x) y

abbrev pub AddsCasesWith : (ℕ → Bool) → (ℕ → ℕ) → e.Cases → e.Cases → Type 0
AddsCasesWith new r x y = AddsCases new (cases_with r x) y

module _ {new : ℕ → Bool} where
  -- the type of what is used as a truth whose value counts
  pub operand_type : {further : List Bool} (x y : Typed) → ((r : ℕ → ℕ) → Agrees r further → AddsMade new (typed_with r x) y) → own_type y ≡ own_type x
  operand_type {further} x y t = type_same (t (renumbered further) (agrees_so_far further)) ∙ own_type_with (renumbered further) x

  mutual
    of_statement : {used after : List ℕ} {further : List Bool} {around : Around} {k : Known} {it other : c.Statement} → AddsToStatement new used after around k it other → {j : Known} → IsBeside new used further k j
        → Follows new after further (AddsStatementWith new) (statement it around k) (statement other around j)
    of_statement (p.Compound d) b =
        let there = entered_beside b in
        bind (in_blocks there (of_items d (block_beside there))) (λ is js k j behind i t b. goes_here (λ r g. a.Compound (t r g)) b)
    of_statement (p.Evaluates d) b = bind (of_to d (entered_beside b)) (λ x y k j behind i t b. goes_here (λ r g. a.Evaluates (value_there r x y (t r g))) b)
    of_statement p.Null b = goes_here (λ r g. a.Null) (entered_beside b)
    of_statement (p.If {known = k} d f) {j} b =
        let there = entered_beside b in
        in_blocks there (bind_at (of_to d (block_beside there)) (λ x y m n first q i t b. bind (in_blocks b (of_statement (f x m q) (block_beside b))) (λ s s' m n last i u b.
        let tests = later i t in
        settled (λ _. gives (e.If (value_in x) s)) (λ _. gives (e.If (value_in y) s')) k.next j.next (test_faults x) (test_faults y) (tests_more (renumbered last) x y (tests (renumbered last) (agrees_so_far last)))
        (goes_here (λ r g. a.If (truth_there r x y (tests r g)) (u r g)) b))))
    of_statement (p.IfElse {known = k} d f h) {j} b =
        let there = entered_beside b in
        in_blocks there (bind_at (of_to d (block_beside there)) (λ x y m n first q i t b. bind_at (in_blocks b (of_statement (f x m q) (block_beside b))) (λ s s' m' n second q' i' u b.
        bind (in_blocks b (of_statement (h x m s m' q q') (block_beside b))) (λ v v' m n last l w b.
        let tests = later l (later i' t) in
        settled (λ _. gives (e.IfElse (value_in x) s v)) (λ _. gives (e.IfElse (value_in y) s' v')) k.next j.next (test_faults x) (test_faults y) (tests_more (renumbered last) x y (tests (renumbered last) (agrees_so_far last)))
        (goes_here (λ r g. a.IfElse (truth_there r x y (tests r g)) (later l u r g) (w r g)) b)))))
    of_statement (p.While {known = k} d f) {j} b =
        let there = entered_beside b in
        in_blocks there (bind_at (of_to d (block_beside there)) (λ x y m n first q i t b. bind (in_blocks b (of_statement (f x m q) (block_beside b))) (λ s s' m n last i u b.
        let tests = later i t in
        settled (λ _. gives (e.While (value_in x) s)) (λ _. gives (e.While (value_in y) s')) k.next j.next (test_faults x) (test_faults y) (tests_more (renumbered last) x y (tests (renumbered last) (agrees_so_far last)))
        (goes_here (λ r g. a.While (truth_there r x y (tests r g)) (u r g)) b))))
    of_statement (p.Do {known = k} d f) {j} b =
        let there = block_beside (entered_beside b) in
        in_blocks (entered_beside b) (bind_at (in_blocks there (of_statement d (block_beside there))) (λ s s' m n first q i u b. bind (of_to (f s m q) b) (λ x y m n last i t b.
        settled (λ _. gives (e.Do s (value_in x))) (λ _. gives (e.Do s' (value_in y))) k.next j.next (test_faults x) (test_faults y) (tests_more (renumbered last) x y (t (renumbered last) (agrees_so_far last)))
        (goes_here (λ r g. a.Do (later i u r g) (truth_there r x y (t r g))) b))))
    of_statement (p.For {known = k} d f h z) {j} b =
        let there = entered_beside b in
        in_blocks there (bind_at (of_start d (block_beside there)) (λ v v' m n first q i t b. bind_at (of_test (f v m q) b) (λ x y m1 n second q1 i1 t1 b. bind_at (of_optional (h v x m m1 q q1) b) (λ x2 y2 m2 n third q2 i2 t2 b.
        bind (in_blocks b (of_statement (z v x x2 m m1 m2 q q1 q2) (block_beside b))) (λ s s' m n last l u b.
        let start = later l (later i2 (later i1 t)) in
        let tests = later l (later i2 t1) in
        let now = start (renumbered last) (agrees_so_far last) in
        settled (λ _. gives (e.For v.start (optional_value x) (optional_value x2) s)) (λ _. gives (e.For v'.start (optional_value y) (optional_value y2) s')) k.next j.next (v.faults ++ optional_test_faults x) (v'.faults ++ optional_test_faults y)
        (λ h. empty_both v'.faults (optional_test_faults y) (now.faults ∙ left_empty v.faults (optional_test_faults x) h)
        (optional_tests_more new (renumbered last) x y (tests (renumbered last) (agrees_so_far last)) (right_empty v.faults (optional_test_faults x) h)))
        (goes_here (λ r g. a.For (start r g).start (tests_adds new r x y (tests r g)) (values_adds new r x2 y2 (later l t2 r g)) (u r g)) b))))))
    of_statement (p.Switch {after = after} {around = around} {known = k} {cs = cs} {ds = ds} d f) {j} b =
        let there = entered_beside b in
        in_blocks there (bind_at (of_to d (block_beside there)) (λ x y m n first q i t b.
        let same = operand_type x y t in
        bind (subst (λ type. Follows new after first (AddsCasesWith new) (cases cs (switch_type m.model x) (record { values = []; has_default = false }) (in_a_switch around) m) (cases ds type (record { values = []; has_default = false }) (in_a_switch around) n))
        (sym (ap (λ model. switch_type model y) (model_same b) ∙ ap (λ it. option_map (promoted m.model) (scalar_of it)) same)) (of_cases (f x m q) b))
        (λ them those m' n' last l u b'.
        settled (λ _. gives (e.Switch (switch_value m.model x) them)) (λ _. gives (e.Switch (switch_value n.model y) those)) k.next j.next
        (test_faults x ++ unless (is_integer (own_type x)) bad_case) (test_faults y ++ unless (is_integer (own_type y)) bad_case)
        (λ h. ap (λ it. unless (is_scalar it) not_scalar ++ unless (is_integer it) bad_case) same ∙ h)
        (goes_here (λ r g. a.Switch (subst (λ model. Adds new (value_with r (switch_value m.model x)) (switch_value model y)) (sym (model_same b)) (switch_there r x y m.model (later l t r g))) (u r g)) b'))))
    of_statement (p.Break {around = around} {known = k}) {j} b =
        settled (λ _. gives e.Break) (λ _. gives e.Break) k.next j.next (unless (around.in_loop || around.in_switch) stray_jump) (unless (around.in_loop || around.in_switch) stray_jump) (λ h. h) (goes_here (λ r g. a.Break) (entered_beside b))
    of_statement (p.Continue {around = around} {known = k}) {j} b =
        settled (λ _. gives e.Continue) (λ _. gives e.Continue) k.next j.next (unless around.in_loop stray_jump) (unless around.in_loop stray_jump) (λ h. h) (goes_here (λ r g. a.Continue) (entered_beside b))
    of_statement (p.Return {around = around} {known = k} d) {j} b = bind (of_optional d (entered_beside b)) (λ x y m n behind i t b.
        settled (λ _. gives (e.Return (returned around.result x))) (λ _. gives (e.Return (returned around.result y))) k.next j.next (return_faults around.result x) (return_faults around.result y)
        (return_more new (renumbered behind) around.result x y (t (renumbered behind) (agrees_so_far behind)))
        (goes_here (λ r g. a.Return (returned_adds new r around.result x y (t r g))) b))

    pub of_items : {used after : List ℕ} {further : List Bool} {around : Around} {k : Known} {them others : c.Items} → AddsToItems new used after around k them others → {j : Known} → IsBeside new used further k j
        → Follows new after further (AddsItemsWith new) (items them around k) (items others around j)
    of_items p.no_items b = goes_here (λ r g. a.no_items) b
    of_items (p.a_declaration {around = around} {known = k} {is = is} {js = js} d f) {j} b =
        bind_at (of_declaration_with d (entered_beside b)) (λ it other m n behind q i t b.
        settled (λ _. items is around >>= (λ others. gives (locals_before it.locals others))) (λ _. items js around >>= (λ others. gives (locals_before other.locals others))) k.next j.next it.faults other.faults
        (λ h. (t (renumbered behind) (agrees_so_far behind)).faults ∙ h)
        (bind (of_items (f it m q) b) (λ is js m n last l u b. goes_here (λ r g. locals_in_front new r it.locals other.locals is (later l t r g).locals (u r g)) b)))
    of_items (p.a_statement d f) b =
        bind_at (of_statement d (entered_beside b)) (λ s s' m n behind q i u b. bind (of_items (f s m q) b) (λ is js m n last l v b. goes_here (λ r g. a.a_statement (later l u r g) (v r g)) b))
    of_items (p.a_label {m = m} h f) b =
        bind_at (of_mark m h (entered_beside b)) (λ typed typed' m n behind q i t b. bind (of_items (f typed m q) b) (λ is js m n last l u b.
        goes_here (λ r g. subst (λ it. AddsItems new (e.a_label (mark_with r typed) (items_with r is)) (e.a_label it js)) (sym (later l t r g)) (a.a_label (unmarked.mark new (mark_with r typed)) (u r g))) b))
    of_items {further = further} (p.an_added_label {after = after} {around = around} {known = k} {m = c.mark predicate id tag c.no_bindings} {is = is} {js = js} u h d) {j} b =
        let found = new_mark predicate id tag u h.0 h.1 h.2 (numbered_alone (j.next + 1) j.facts b) in
        subst (λ it. Follows new after further (AddsItemsWith new) (items is around k) (goes_on it (λ typed k. goes_on (items js around k) (λ others k. Goes (e.a_label typed others) k)))) (sym found.4)
        (from_there found.3 (then_alone (of_items d (subst (λ used. IsBeside new used found.2 k found.1) (sym h.4) found.5))
        (λ is js k l behind q i t b. (e.a_label (e.mark found.0 (number_of_id id) e.no_bindings) js, l, refl, λ r g. a.an_added_label h.0.1 (t r g), b))))
    of_items (p.an_added_label {m = c.mark predicate id tag (c.a_binding name value bound)} u h d) b = absurd h

    of_cases : {used after : List ℕ} {further : List Bool} {type : Option Scalar} {seen : Seen} {around : Around} {k : Known} {them others : c.Cases} → AddsToCases new used after type seen around k them others → {j : Known} → IsBeside new used further k j
        → Follows new after further (AddsCasesWith new) (cases them type seen around k) (cases others type seen around j)
    of_cases p.no_cases b = goes_here (λ r g. a.no_cases) b
    of_cases (p.a_case {type = type} {seen = seen} {list = list} h f z) b =
        bind_same_at (of_labels list type seen h b) (λ it m n behind q i b. bind_at (in_blocks b (of_statement (f it m q) (block_beside b))) (λ s s' m' n between q' i' u b.
        bind (of_cases (z it s m m' q q') b) (λ cs ds m n last l v b. goes_here (λ r g. a.a_case (later l u r g) (v r g)) b)))

pub statements_again : StatementsAreTypedAgain
statements_again new used after further around known other b = ((λ it marked d. of_statement d b), (λ them marked d. of_items d b))
