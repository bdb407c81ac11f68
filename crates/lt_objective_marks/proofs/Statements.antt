-- The marks of objectives are added to statements.
use Rattle.std.proofs.Common.{◌≡◌, refl, sym, ap, ◌∙◌, subst, ℕ, suc, ◌+◌, Bool, true, false, List, [], ◌∷◌, ◌++◌, inl, inr, length, Option, Some, None}
use Rattle.std.specs.List.{flat_map, list_any}
use Rattle.lt_model.specs.declared.scalar.Scalar.{Scalar}
use Rattle.lt_tree.specs.Tree as c
use Rattle.lt_tree.specs.Nodes.{Node, in_expression, in_mark, in_declaration, in_optional, in_start, in_label, in_statement, in_items, in_cases}
use Rattle.lt_tree.specs.Typing.Types.{is_scalar}
use Rattle.lt_tree.specs.Typing.TypedTree.{Statement}
use Rattle.lt_tree.specs.Typing.Entities.{Known, Fact}
use Rattle.lt_tree.specs.Typing.Steps.{Outcome, Goes, goes_on, gives, left, in_block}
use Rattle.lt_tree.specs.Typing.Expressions.{Typed, as_value, as_truth, own_type}
use Rattle.lt_tree.specs.Typing.Programs.{Program}
use Rattle.lt_tree.specs.Typing.ExpressionTyping.{expression, mark}
use Rattle.lt_tree.specs.Typing.DeclarationTyping.{declaration, effective_in_for}
use Rattle.lt_tree.specs.Typing.StatementTyping.{Around, in_a_loop, in_a_switch, test_faults, optional_expression, optional_test, TypedStart, for_start, switch_type, Seen, Labelled, labels, statement, items, cases}
use Rattle.lt_tree_laws.specs.Typing.NodeNumbers.{PartsAreNumbered}
use Rattle.lt_objectives.specs.declared.criteria.Criterion.{Criterion}
use Rattle.lt_objectives.specs.Places.{makes_static, makes_static_in_for, storage_of}
use Rattle.lt_objectives.specs.Objectives.{objectives}
use Rattle.lt_objectives.specs.Marked.{with_marks, optional_with_marks, declaration_with_marks, for_start_with_marks, statement_with_marks, items_with_marks, cases_with_marks}
use Rattle.lt_decisions.proofs.Parts as closed
use Rattle.lt_objective_places.specs.Stands.{IsAmong, AreClosed}
use Rattle.lt_objective_places.specs.Stands as stands
use Rattle.lt_objective_places.specs.Pieces.{an_expression, a_declaration, a_statement, items as the_items, cases as the_cases, IsIn, a_piece}
use Rattle.lt_objective_places.specs.Pieces as pieces
use Rattle.lt_objective_places.proofs.Among.{in_first, in_second}
use Rattle.lt_objective_places.proofs.Going.{all_stand}
use Rattle.lt_objective_places.proofs.NotOpen.{static_closed, static_in_for_closed}
use Rattle.lt_objective_places.proofs.Standing.{none_in_run}
use Rattle.lt_objective_places.proofs.Unmarked.{has_none}
use Rattle.lt_objective_places.proofs.UnmarkedDeclarations.{declaration_unmarked}
use Rattle.lt_mark_typing.specs.Beside.{in_use, in_test}
use Rattle.lt_mark_typing.specs.Placed.{entered, AddsTo}
use Rattle.lt_mark_typing.specs.PlacedInitialisers.{AddsToDeclaration}
use Rattle.lt_mark_typing.specs.PlacedItems as adds
use Rattle.lt_mark_typing.specs.PlacedItems.{in_new_block, AddsToTest, AddsToOptional, AddsToStart, AddsToStatement, AddsToItems, AddsToCases}
use Rattle.lt_mark_typing.proofs.Nodes.{old_first}
use Rattle.lt_typed_nodes.specs.Coming.{ComesTo}
use Rattle.lt_typed_nodes.specs.ComingItems.{ComesToStatement, ComesToBody}
use Rattle.lt_typed_nodes.specs.Reaching as place
use Rattle.lt_typed_nodes.specs.Reaching.{IsReached, a_part}
use Rattle.lt_typed_nodes.proofs.ComingToItems.{statements_are_come_to}
use Rattle.lt_objective_marks.specs.Settings.{marks_of, Setting, AreUnused, IsAdded, IsTaken}
use Rattle.lt_objective_marks.specs.Laws.{ObjectivesAreAddedToExpressions}
use Rattle.lt_objective_marks.proofs.Keeping as kept
use Rattle.lt_objective_marks.proofs.Keeping.{Lies}
use Rattle.lt_objective_marks.proofs.KeepingUnits as keeping
use Rattle.lt_objective_marks.proofs.Numbering as numbering
use Rattle.lt_objective_marks.proofs.Together.{nothing, in_node, second_alone, two, from_there, behind_two}
use Rattle.lt_objective_marks.proofs.Ways.{only_way, went_on, found_only, lies_behind, Clears, clears_here, clears_behind, clears_given, clears_scoped, scalar, second_empty}
use Rattle.lt_objective_marks.proofs.Pieces.{a_test, a_value, a_switch, old_there, of_expression}
use Rattle.lt_objective_marks.proofs.Declarations.{class_in_block, class_in_for, closed_declaration, of_declaration}

-- ---- tests are scalars

-- a test of a statement that goes on
tested : {A : Type 0} {o : Outcome A} {a : A} {k : Known} (x : Typed) → Clears (test_faults x) o → o ≡ Goes a k → is_scalar (own_type x) ≡ true
tested {a = a} {k} x clears goes = scalar (is_scalar (own_type x)) (clears a k goes)

-- a statement that is a block of its own
block_goes : {facts : List Fact} (known : Known) (x : c.Statement) (around : Around) (it : ComesToStatement facts known around x)
    → in_block (statement x around) known ≡ Goes it.found (record (it.behind) { frames = known.frames })
block_goes known x around it = ap (λ o. goes_on (left known.frames o) (λ r. gives r.0)) it.goes

block_lies : {facts : List Fact} {deep : ℕ} (known : Known) (x : c.Statement) (around : Around) (it : ComesToStatement facts known around x) → Lies false deep known → Lies false deep (record (it.behind) { frames = known.frames })
block_lies known x around it lies = ((lies_behind (keeping.of_statement x around (in_new_block known) (lies.0, ap suc lies.1)) it.goes).0, lies.1)

if_taken : (known : Known) (test : c.Expression) (body : c.Statement) (around : Around) {s : Statement} {k : Known} → statement (c.If test body) around known ≡ Goes s k
    → IsTaken stands.in_test in_test (in_new_block (entered known)) test
if_taken known test body around goes x next is =
    tested x (clears_scoped known.frames _ _ (clears_given _ is (clears_behind (in_block (statement body around) next) _ (λ first j. clears_here known.next (test_faults x) j _)))) goes

while_taken : (known : Known) (test : c.Expression) (body : c.Statement) (around : Around) {s : Statement} {k : Known} → statement (c.While test body) around known ≡ Goes s k
    → IsTaken stands.in_test in_test (in_new_block (entered known)) test
while_taken known test body around goes x next is =
    tested x (clears_scoped known.frames _ _ (clears_given _ is (clears_behind (in_block (statement body (in_a_loop around)) next) _ (λ first j. clears_here known.next (test_faults x) j _)))) goes

if_else_taken : (known : Known) (test : c.Expression) (body other : c.Statement) (around : Around) {s : Statement} {k : Known} → statement (c.IfElse test body other) around known ≡ Goes s k
    → IsTaken stands.in_test in_test (in_new_block (entered known)) test
if_else_taken known test body other around goes x next is =
    tested x (clears_scoped known.frames _ _ (clears_given _ is (clears_behind (in_block (statement body around) next) _ (λ first j.
    clears_behind (in_block (statement other around) j) _ (λ second i. clears_here known.next (test_faults x) i _))))) goes

do_taken : (known : Known) (test : c.Expression) (body : c.Statement) (around : Around) {s : Statement} {k : Known} → statement (c.Do body test) around known ≡ Goes s k
    → (first : Statement) (start : Known) → in_block (statement body (in_a_loop around)) (in_new_block (entered known)) ≡ Goes first start → IsTaken stands.in_test in_test start test
do_taken known test body around goes first start there x next is =
    tested x (clears_scoped known.frames _ _ (clears_given _ there (clears_given _ is (clears_here known.next (test_faults x) next _)))) goes

for_taken : (known : Known) (begin : c.ForStart) (test : c.Expression) (step : Option c.Expression) (body : c.Statement) (around : Around) {s : Statement} {k : Known}
    → statement (c.For begin (Some test) step body) around known ≡ Goes s k
    → (first : TypedStart) (start : Known) → for_start begin (in_new_block (entered known)) ≡ Goes first start → IsTaken stands.in_test in_test start test
for_taken known begin test step body around goes first start there x next is =
    scalar (is_scalar (own_type x)) (second_empty first.faults (test_faults x) (all _ _ goes))
  where
    all : Clears (first.faults ++ test_faults x) (statement (c.For begin (Some test) step body) around known)
    all =
        clears_scoped known.frames _ _ (clears_given _ there (clears_given _ (ap (λ o. goes_on o (λ x. gives (Some x))) is) (clears_behind (optional_expression step next) _ (λ y j.
        clears_behind (in_block (statement body (in_a_loop around)) j) _ (λ s i. clears_here known.next (first.faults ++ test_faults x) i _)))))

-- ---- statements

module _ {new : ℕ → Bool} {unit : c.Unit} {program : Program} {criterion : Criterion} {id : ℕ} (setting : Setting new unit program criterion id)
    (numbered_parts : PartsAreNumbered) (added : ObjectivesAreAddedToExpressions) where
  abbrev Marked : List ℕ → ℕ → ℕ → (List ℕ → Type 0) → Type 0
  Marked used k size holds = IsAdded (marks_of unit program criterion id) used k size holds

  abbrev Unused : List ℕ → ℕ → ℕ → Type 0
  Unused used k size = AreUnused (marks_of unit program criterion id) used k size

  -- what is closed stays as it is
  pub same_declaration : (k : ℕ) (d : c.Declaration) → IsIn unit k (a_declaration d) → AreClosed unit program k (length (in_declaration d)) → declaration_with_marks (marks_of unit program criterion id) k d ≡ d
  same_declaration k d is are =
      declaration_unmarked (marks_of unit program criterion id) k d
      (has_none id k (length (in_declaration d)) (objectives unit program criterion) (λ o h w. none_in_run program criterion o (closed.declaration d) (all_stand unit k (a_declaration d) is) are h w))

  closed_one : (effective : _) (used : List ℕ) (known : Known) (d : c.Declaration) (k : ℕ) → IsIn unit k (a_declaration d) → AreClosed unit program k (length (in_declaration d))
      → Marked used k (length (in_declaration d)) (λ after. AddsToDeclaration new effective used after known d (declaration_with_marks (marks_of unit program criterion id) k d))
  closed_one effective used known d k is are =
      nothing id (objectives unit program criterion) used k (length (in_declaration d))
      (subst (λ e. AddsToDeclaration new effective used used known d e) (sym (same_declaration k d is are))
      (closed_declaration new effective used known d (old_there new (in_declaration d) setting.old (all_stand unit k (a_declaration d) is).there)))

  of_item : {deep : ℕ} (used : List ℕ) (known : Known) (d : c.Declaration) (list : c.Items) (k : ℕ) → known.next ≡ k + 1 → IsIn unit k (the_items (c.a_declaration d list)) → Lies false (suc (suc deep)) known
      → ComesTo program.facts known (declaration d known) → IsReached setting.greatest setting.model unit (place.a_declaration (λ class. class) d) known
      → Unused used (k + 1) (length (in_declaration d)) → (is_static : Bool) → list_any makes_static (storage_of d.specifiers) ≡ is_static
      → Marked used (k + 1) (length (in_declaration d)) (λ after. AddsToDeclaration new (λ class. class) used after known d (declaration_with_marks (marks_of unit program criterion id) (k + 1) d))
  of_item used known d list k at is lies comes reached unused true static =
      closed_one (λ class. class) used known d (k + 1) (a_piece is (inl refl)) (static_closed program d list static (all_stand unit k (the_items (c.a_declaration d list)) is).there)
  of_item used known d list k at is lies comes reached unused false not_static =
      of_declaration setting numbered_parts added (λ class. class) used known d (k + 1) at (a_piece is (inl refl)) lies (λ it next goes. class_in_block d.specifiers _ known it next not_static goes) comes reached unused

  of_first : {deep : ℕ} (used : List ℕ) (known : Known) (d : c.Declaration) (test step : Option c.Expression) (x : c.Statement) (k : ℕ) → known.next ≡ k + 1 → IsIn unit k (a_statement (c.For (c.Declares d) test step x))
      → Lies false (suc (suc deep)) known → ComesTo program.facts known (for_start (c.Declares d) known) → IsReached setting.greatest setting.model unit (place.a_declaration effective_in_for d) known
      → Unused used (k + 1) (length (in_declaration d)) → (is_static : Bool) → list_any makes_static_in_for (storage_of d.specifiers) ≡ is_static
      → Marked used (k + 1) (length (in_declaration d)) (λ after. AddsToDeclaration new effective_in_for used after known d (declaration_with_marks (marks_of unit program criterion id) (k + 1) d))
  of_first used known d test step x k at is lies comes reached unused true static =
      closed_one effective_in_for used known d (k + 1) (a_piece is (inl refl)) (static_in_for_closed program d test step x static (all_stand unit k (a_statement (c.For (c.Declares d) test step x)) is).there)
  of_first used known d test step x k at is lies comes reached unused false not_static =
      of_declaration setting numbered_parts added effective_in_for used known d (k + 1) at (a_piece is (inl refl)) lies (λ it next goes. class_in_for d.specifiers _ known it next not_static goes)
      (statements_are_come_to.3 program.facts known (c.Declares d) comes) reached unused

  of_start : {deep : ℕ} (used : List ℕ) (around : Around) (known : Known) (begin : c.ForStart) (test step : Option c.Expression) (x : c.Statement) (k : ℕ) → known.next ≡ k → IsIn unit k (a_statement (c.For begin test step x))
      → Lies false (suc (suc deep)) (in_new_block (entered known)) → ComesTo program.facts (in_new_block (entered known)) (for_start begin (in_new_block (entered known)))
      → IsReached setting.greatest setting.model unit (place.a_statement around (c.For begin test step x)) known → Unused used (k + 1) (length (in_start begin))
      → Marked used (k + 1) (length (in_start begin)) (λ after. AddsToStart new used after (in_new_block (entered known)) begin (for_start_with_marks (marks_of unit program criterion id) (k + 1) begin))
  of_start used around known c.Nothing test step x k at is lies comes reached unused = nothing id (objectives unit program criterion) used (k + 1) 0 adds.Nothing
  of_start used around known (c.First e) test step x k at is lies comes reached unused =
      let start : Known = in_new_block (entered known) in
      let it = of_expression setting added stands.as_value (in_use as_value) used start e (k + 1) (ap (λ n. n + 1) at) (a_piece is (inl refl)) a_value lies (statements_are_come_to.3 program.facts start (c.First e) comes)
      (a_part reached place.for_first) tt unused in
      record { after = it.after; added = adds.First it.added; ids = it.ids }
  of_start used around known (c.Declares d) test step x k at is lies comes reached unused =
      let it = of_first used (in_new_block (entered known)) d test step x k (ap (λ n. n + 1) at) is lies comes (a_part reached place.for_declares) unused (list_any makes_static_in_for (storage_of d.specifiers)) refl in
      record { after = it.after; added = adds.Declares it.added; ids = it.ids }

  of_test : {deep : ℕ} (used : List ℕ) (known : Known) (it : Option c.Expression) (k : ℕ) → known.next ≡ k → ((e : c.Expression) → it ≡ Some e → IsIn unit k (an_expression stands.in_test e))
      → ((e : c.Expression) → it ≡ Some e → IsTaken stands.in_test in_test known e) → Lies false deep known → ComesTo program.facts known (optional_test it known)
      → ((e : c.Expression) → it ≡ Some e → IsReached setting.greatest setting.model unit (place.an_expression as_truth e) known) → Unused used k (length (in_optional it))
      → Marked used k (length (in_optional it)) (λ after. AddsToTest new used after known it (optional_with_marks (marks_of unit program criterion id) k it))
  of_test used known None k at is taken lies comes reached unused = nothing id (objectives unit program criterion) used k 0 adds.no_test
  of_test used known (Some e) k at is taken lies comes reached unused =
      let it = of_expression setting added stands.in_test in_test used known e k at (is e refl) a_test lies (statements_are_come_to.4 program.facts known (Some e) comes) (reached e refl) (taken e refl) unused in
      record { after = it.after; added = adds.a_test it.added; ids = it.ids }

  of_optional : {deep : ℕ} (used : List ℕ) (known : Known) (it : Option c.Expression) (k : ℕ) → known.next ≡ k → ((e : c.Expression) → it ≡ Some e → IsIn unit k (an_expression stands.as_value e))
      → Lies false deep known → ComesTo program.facts known (optional_expression it known)
      → ((e : c.Expression) → it ≡ Some e → IsReached setting.greatest setting.model unit (place.an_expression as_value e) known) → Unused used k (length (in_optional it))
      → Marked used k (length (in_optional it)) (λ after. AddsToOptional new used after known it (optional_with_marks (marks_of unit program criterion id) k it))
  of_optional used known None k at is lies comes reached unused = nothing id (objectives unit program criterion) used k 0 adds.no_value
  of_optional used known (Some e) k at is lies comes reached unused =
      let it = of_expression setting added stands.as_value (in_use as_value) used known e k at (is e refl) a_value lies (statements_are_come_to.5 program.facts known (Some e) comes) (reached e refl) tt unused in
      record { after = it.after; added = adds.a_value it.added; ids = it.ids }

  -- a test and what it chooses
  record TestAndBody (used after : List ℕ) (around : Around) (start : Known) (test : c.Expression) (body : c.Statement) (k : ℕ) : Type 0 where
    between : List ℕ
    test_added : AddsTo new in_test used between start test (with_marks (marks_of unit program criterion id) k test)
    body_added : (p : Typed) (next : Known) → expression test as_truth start ≡ Goes p next
        → AddsToStatement new between after around (in_new_block next) body (statement_with_marks (marks_of unit program criterion id) (k + length (in_expression test)) body)

  -- the head of a `for`: its start with its test, and then its step
  record StartAndTest (used after : List ℕ) (start : Known) (begin : c.ForStart) (test : Option c.Expression) (k : ℕ) : Type 0 where
    between : List ℕ
    start_added : AddsToStart new used between start begin (for_start_with_marks (marks_of unit program criterion id) k begin)
    test_added : (i : TypedStart) (next : Known) → for_start begin start ≡ Goes i next
        → AddsToTest new between after next test (optional_with_marks (marks_of unit program criterion id) (k + length (in_start begin)) test)

  record HeadOfFor (used after : List ℕ) (start : Known) (begin : c.ForStart) (test step : Option c.Expression) (k : ℕ) : Type 0 where
    between : List ℕ
    first : StartAndTest used between start begin test k
    step_added : (i : TypedStart) (p : Option Typed) (next last : Known) → for_start begin start ≡ Goes i next → optional_test test next ≡ Goes p last
        → AddsToOptional new between after last step (optional_with_marks (marks_of unit program criterion id) (k + length (in_start begin) + length (in_optional test)) step)

  -- where typing comes to in a `for`, with numbers and scopes
  record Heads (deep : ℕ) (known : Known) (around : Around) (begin : c.ForStart) (test step : Option c.Expression) (x : c.Statement) (k : ℕ) : Type 0 where
    b : ComesTo program.facts (in_new_block (entered known)) (for_start begin (in_new_block (entered known)))
    p : ComesTo program.facts b.behind (optional_test test b.behind)
    q : ComesTo program.facts p.behind (optional_expression step p.behind)
    body : ComesToStatement program.facts q.behind (in_a_loop around) x
    b_at : b.behind.next ≡ k + 1 + length (in_start begin)
    p_at : p.behind.next ≡ k + 1 + length (in_start begin) + length (in_optional test)
    q_at : q.behind.next ≡ k + 1 + length (in_start begin) + length (in_optional test) + length (in_optional step)
    b_lies : Lies false (suc (suc (suc deep))) b.behind
    p_lies : Lies false (suc (suc (suc deep))) p.behind
    q_lies : Lies false (suc (suc (suc deep))) q.behind

  heads : {deep : ℕ} (known : Known) (around : Around) (begin : c.ForStart) (test step : Option c.Expression) (x : c.Statement) (k : ℕ) → known.next ≡ k → Lies false (suc (suc deep)) known
      → ComesTo program.facts known (statement (c.For begin test step x) around known) → Heads deep known around begin test step x k
  heads known around begin test step x k at lies comes =
      let start : Known = in_new_block (entered known) in
      let parts = statements_are_come_to.0 program.facts known around (c.For begin test step x) comes in
      let b = parts.0 in
      let at_test = parts.1 b.found b.behind b.goes in
      let p = at_test.0 in
      let at_step = at_test.1 p.found p.behind p.goes in
      let q = at_step.0 in
      let b_at = numbering.behind b.found b.behind (numbering.of_start numbered_parts begin start) b.goes ∙ ap (λ n. n + 1 + length (in_start begin)) at in
      let p_at = numbering.behind p.found p.behind (numbering.of_optional_test numbered_parts test b.behind) p.goes ∙ ap (λ n. n + length (in_optional test)) b_at in
      let b_lies = lies_behind (keeping.of_start begin start (lies.0, ap suc lies.1)) b.goes in
      let p_lies = lies_behind (keeping.of_optional_test test b.behind b_lies) p.goes in
      record {
        b = b;
        p = p;
        q = q;
        body = at_step.1 q.found q.behind q.goes;
        b_at = b_at;
        p_at = p_at;
        q_at = numbering.behind q.found q.behind (numbering.of_optional numbered_parts step p.behind) q.goes ∙ ap (λ n. n + length (in_optional step)) p_at;
        b_lies = b_lies;
        p_lies = p_lies;
        q_lies = lies_behind (keeping.of_optional step p.behind p_lies) q.goes;
      }

  behind_three : (k : ℕ) (xs ys zs : List Node) → k + 1 + length xs + length ys + length zs ≡ k + 1 + length (xs ++ ys ++ zs)
  behind_three k xs ys zs =
      ap (λ n. n + length zs) (behind_two id (objectives unit program criterion) (k + 1) xs ys) ∙ behind_two id (objectives unit program criterion) (k + 1) (xs ++ ys) zs

  of_start_and_test : {deep : ℕ} (used : List ℕ) (around : Around) (known : Known) (begin : c.ForStart) (test step : Option c.Expression) (x : c.Statement) (k : ℕ) → known.next ≡ k
      → IsIn unit k (a_statement (c.For begin test step x)) → Lies false (suc (suc deep)) known → ComesTo program.facts known (statement (c.For begin test step x) around known)
      → IsReached setting.greatest setting.model unit (place.a_statement around (c.For begin test step x)) known → Unused used (k + 1) (length (in_start begin ++ in_optional test))
      → Marked used (k + 1) (length (in_start begin ++ in_optional test)) (λ after. StartAndTest used after (in_new_block (entered known)) begin test (k + 1))
  of_start_and_test used around known begin test step x k at is lies comes reached unused =
      let head = heads known around begin test step x k at lies comes in
      let b = head.b in
      let i : ℕ = k + 1 + length (in_start begin) in
      two id (objectives unit program criterion) used (k + 1) (in_start begin) (in_optional test) unused
      (of_start used around known begin test step x k at is (lies.0, ap suc lies.1) b reached)
      (λ between d. of_test between b.behind test i head.b_at test_there test_taken head.b_lies head.p test_reached)
      (λ between after d e. record {
        between = between;
        start_added = d;
        test_added = found_only b (λ i next. AddsToTest new between after next test (optional_with_marks (marks_of unit program criterion id) (k + 1 + length (in_start begin)) test)) e;
      })
    where
      test_there : (e : c.Expression) → test ≡ Some e → IsIn unit (k + 1 + length (in_start begin)) (an_expression stands.in_test e)
      test_there e some =
          a_piece is (in_first _ _ _ (in_first _ _ _ (in_second _ (pieces.start (k + 1) begin) _
          (subst (λ test. IsAmong (pieces.test (k + 1 + length (in_start begin)) e) (pieces.optional_test (k + 1 + length (in_start begin)) test)) (sym some) (inl refl)))))

      test_taken : (e : c.Expression) → test ≡ Some e → IsTaken stands.in_test in_test (heads known around begin test step x k at lies comes).b.behind e
      test_taken e some =
          let b = (heads known around begin test step x k at lies comes).b in
          for_taken known begin e step x around (subst (λ test. statement (c.For begin test step x) around known ≡ Goes comes.found comes.behind) some comes.goes) b.found b.behind b.goes

      test_reached : (e : c.Expression) → test ≡ Some e → IsReached setting.greatest setting.model unit (place.an_expression as_truth e) (heads known around begin test step x k at lies comes).b.behind
      test_reached e some =
          a_part (subst (λ test. IsReached setting.greatest setting.model unit (place.a_statement around (c.For begin test step x)) known) some reached)
          (place.for_test (heads known around begin test step x k at lies comes).b.goes)

  of_head : {deep : ℕ} (used : List ℕ) (around : Around) (known : Known) (begin : c.ForStart) (test step : Option c.Expression) (x : c.Statement) (k : ℕ) → known.next ≡ k
      → IsIn unit k (a_statement (c.For begin test step x)) → Lies false (suc (suc deep)) known → ComesTo program.facts known (statement (c.For begin test step x) around known)
      → IsReached setting.greatest setting.model unit (place.a_statement around (c.For begin test step x)) known → Unused used (k + 1) (length (in_start begin ++ in_optional test ++ in_optional step))
      → Marked used (k + 1) (length (in_start begin ++ in_optional test ++ in_optional step)) (λ after. HeadOfFor used after (in_new_block (entered known)) begin test step (k + 1))
  of_head used around known begin test step x k at is lies comes reached unused =
      let head = heads known around begin test step x k at lies comes in
      let them = objectives unit program criterion in
      let j : ℕ = k + 1 + length (in_start begin) + length (in_optional test) in
      two id them used (k + 1) (in_start begin ++ in_optional test) (in_optional step) unused
      (of_start_and_test used around known begin test step x k at is lies comes reached)
      (λ between d. from_there id them between (length (in_optional step)) (behind_two id them (k + 1) (in_start begin) (in_optional test)) (of_optional between head.p.behind step j head.p_at step_there head.p_lies head.q step_reached))
      (λ between after d e. record {
        between = between;
        first = d;
        step_added = λ i p next last f g. found_only head.b
            (λ i next. (p : Option Typed) (last : Known) → optional_test test next ≡ Goes p last
            → AddsToOptional new between after last step (optional_with_marks (marks_of unit program criterion id) (k + 1 + length (in_start begin) + length (in_optional test)) step))
            (λ p last g. found_only head.p
            (λ p last. AddsToOptional new between after last step (optional_with_marks (marks_of unit program criterion id) (k + 1 + length (in_start begin) + length (in_optional test)) step)) e p last g)
            i next f p last g;
      })
    where
      step_there : (e : c.Expression) → step ≡ Some e → IsIn unit (k + 1 + length (in_start begin) + length (in_optional test)) (an_expression stands.as_value e)
      step_there e some =
          a_piece is (in_first _ _ _ (in_second _ (pieces.start (k + 1) begin ++ pieces.optional_test (k + 1 + length (in_start begin)) test) _
          (subst (λ step. IsAmong (pieces.value (k + 1 + length (in_start begin) + length (in_optional test)) e) (pieces.optional_value (k + 1 + length (in_start begin) + length (in_optional test)) step)) (sym some) (inl refl))))

      step_reached : (e : c.Expression) → step ≡ Some e → IsReached setting.greatest setting.model unit (place.an_expression as_value e) (heads known around begin test step x k at lies comes).p.behind
      step_reached e some =
          let head = heads known around begin test step x k at lies comes in
          a_part (subst (λ step. IsReached setting.greatest setting.model unit (place.a_statement around (c.For begin test step x)) known) some reached) (place.for_step head.b.goes head.p.goes)

  body_there : (k : ℕ) (begin : c.ForStart) (test step : Option c.Expression) (x : c.Statement)
      → IsAmong (pieces.at (k + 1 + length (in_start begin) + length (in_optional test) + length (in_optional step)) (a_statement x)) (pieces.in_it k (c.For begin test step x))
  body_there k begin test step x =
      let i : ℕ = k + 1 + length (in_start begin) in
      let j : ℕ = i + length (in_optional test) in
      let it : pieces.Placed = pieces.at (j + length (in_optional step)) (a_statement x) in
      in_second it (pieces.start (k + 1) begin ++ pieces.optional_test i test ++ pieces.optional_value j step) (it ∷ []) (inl refl)

  -- marks are added to a statement, wherever it stands in so many scopes
  abbrev StatementIsAdded : ℕ → Around → c.Statement → Type 0
  StatementIsAdded deep around x =
      (used : List ℕ) (known : Known) (k : ℕ) → known.next ≡ k → IsIn unit k (a_statement x) → Lies false (suc (suc deep)) known → ComesTo program.facts known (statement x around known)
      → IsReached setting.greatest setting.model unit (place.a_statement around x) known → Unused used k (length (in_statement x))
      → Marked used k (length (in_statement x)) (λ after. AddsToStatement new used after around known x (statement_with_marks (marks_of unit program criterion id) k x))

  of_body : {deep : ℕ} (used : List ℕ) (around : Around) (start : Known) (test : c.Expression) (x : c.Statement) (k : ℕ) → StatementIsAdded (suc deep) around x → start.next ≡ k → IsIn unit k (an_expression stands.in_test test)
      → IsIn unit (k + length (in_expression test)) (a_statement x) → Lies false (suc (suc deep)) start → IsTaken stands.in_test in_test start test → ComesToBody program.facts start around test x
      → IsReached setting.greatest setting.model unit (place.an_expression as_truth test) start
      → ((p : Typed) (next : Known) → expression test as_truth start ≡ Goes p next → IsReached setting.greatest setting.model unit (place.a_statement around x) (in_new_block next))
      → Unused used k (length (in_expression test ++ in_statement x)) → Marked used k (length (in_expression test ++ in_statement x)) (λ after. TestAndBody used after around start test x k)
  of_body used around start test x k of_x at is there lies taken comes reached body_reached unused =
      let first = comes.0 in
      let j : ℕ = k + length (in_expression test) in
      let l : Lies false _ first.behind = lies_behind (kept.of_expression test as_truth start lies) first.goes in
      two id (objectives unit program criterion) used k (in_expression test) (in_statement x) unused
      (of_expression setting added stands.in_test in_test used start test k at is a_test lies first reached taken)
      (λ between p. of_x between (in_new_block first.behind) j
      (numbering.behind first.found first.behind (numbering.of_expression numbered_parts test as_truth start) first.goes ∙ ap (λ n. n + length (in_expression test)) at) there (l.0, ap suc l.1)
      (comes.1 first.found first.behind first.goes) (body_reached first.found first.behind first.goes))
      (λ between after p q. record {
        between = between;
        test_added = p;
        body_added = found_only first (λ p next. AddsToStatement new between after around (in_new_block next) x (statement_with_marks (marks_of unit program criterion id) j x)) q;
      })

  of_for : {deep : ℕ} (used : List ℕ) (around : Around) (known : Known) (begin : c.ForStart) (test step : Option c.Expression) (x : c.Statement) (k : ℕ) → StatementIsAdded (suc (suc deep)) (in_a_loop around) x → known.next ≡ k
      → IsIn unit k (a_statement (c.For begin test step x)) → Lies false (suc (suc deep)) known → ComesTo program.facts known (statement (c.For begin test step x) around known)
      → IsReached setting.greatest setting.model unit (place.a_statement around (c.For begin test step x)) known → Unused used k (length (in_statement (c.For begin test step x)))
      → Marked used k (length (in_statement (c.For begin test step x))) (λ after. AddsToStatement new used after around known (c.For begin test step x) (statement_with_marks (marks_of unit program criterion id) k (c.For begin test step x)))
  of_for used around known begin test step x k of_x at is lies comes reached unused =
      let start : Known = in_new_block (entered known) in
      let head = heads known around begin test step x k at lies comes in
      let them = objectives unit program criterion in
      in_node id them used k (length (in_start begin ++ in_optional test ++ in_optional step ++ in_statement x)) unused
      (λ unused. two id them used (k + 1) (in_start begin ++ in_optional test ++ in_optional step) (in_statement x) unused
      (of_head used around known begin test step x k at is lies comes reached)
      (λ third d. from_there id them third (length (in_statement x)) (behind_three k (in_start begin) (in_optional test) (in_optional step))
      (of_x third (in_new_block head.q.behind) (k + 1 + length (in_start begin) + length (in_optional test) + length (in_optional step)) head.q_at
      (a_piece is (body_there k begin test step x)) (head.q_lies.0, ap suc head.q_lies.1) head.body
      (a_part reached (place.for_body head.b.goes head.p.goes head.q.goes))))
      (λ third after d e. adds.For d.first.start_added d.first.test_added d.step_added
      (λ i p q next last end f g h. found_only head.b
      (λ i next. (p : Option Typed) (last : Known) → optional_test test next ≡ Goes p last → (q : Option Typed) (end : Known) → optional_expression step last ≡ Goes q end
      → AddsToStatement new third after (in_a_loop around) (in_new_block end) x
      (statement_with_marks (marks_of unit program criterion id) (k + 1 + length (in_start begin) + length (in_optional test) + length (in_optional step)) x))
      (λ p last g. found_only head.p
      (λ p last. (q : Option Typed) (end : Known) → optional_expression step last ≡ Goes q end
      → AddsToStatement new third after (in_a_loop around) (in_new_block end) x
      (statement_with_marks (marks_of unit program criterion id) (k + 1 + length (in_start begin) + length (in_optional test) + length (in_optional step)) x))
      (λ q end h. found_only head.q
      (λ q end. AddsToStatement new third after (in_a_loop around) (in_new_block end) x
      (statement_with_marks (marks_of unit program criterion id) (k + 1 + length (in_start begin) + length (in_optional test) + length (in_optional step)) x)) e q end h) p last g)
      i next f p last g q end h)))
      (λ after it. it)

  mutual
    of_statement : {deep : ℕ} (used : List ℕ) (around : Around) (known : Known) (x : c.Statement) (k : ℕ) → known.next ≡ k → IsIn unit k (a_statement x) → Lies false (suc (suc deep)) known
        → ComesTo program.facts known (statement x around known) → IsReached setting.greatest setting.model unit (place.a_statement around x) known → Unused used k (length (in_statement x))
        → Marked used k (length (in_statement x)) (λ after. AddsToStatement new used after around known x (statement_with_marks (marks_of unit program criterion id) k x))
    of_statement used around known (c.Compound list) k at is lies comes reached unused =
        in_node id (objectives unit program criterion) used k (length (in_items list)) unused
        (of_items used around (in_new_block (entered known)) list (k + 1) (ap (λ n. n + 1) at) (a_piece is (inl refl)) (lies.0, ap suc lies.1) (statements_are_come_to.0 program.facts known around (c.Compound list) comes)
        (a_part reached place.in_compound))
        (λ after it. adds.Compound it)
    of_statement used around known (c.Evaluates e) k at is lies comes reached unused =
        in_node id (objectives unit program criterion) used k (length (in_expression e)) unused
        (of_expression setting added stands.as_value (in_use as_value) used (entered known) e (k + 1) (ap (λ n. n + 1) at) (a_piece is (inl refl)) a_value lies
        (statements_are_come_to.0 program.facts known around (c.Evaluates e) comes) (a_part reached place.evaluated) tt)
        (λ after it. adds.Evaluates it)
    of_statement used around known c.Null k at is lies comes reached unused = nothing id (objectives unit program criterion) used k 1 adds.Null
    of_statement used around known c.Break k at is lies comes reached unused = nothing id (objectives unit program criterion) used k 1 adds.Break
    of_statement used around known c.Continue k at is lies comes reached unused = nothing id (objectives unit program criterion) used k 1 adds.Continue
    of_statement used around known (c.Return e) k at is lies comes reached unused =
        in_node id (objectives unit program criterion) used k (length (in_optional e)) unused
        (of_optional used (entered known) e (k + 1) (ap (λ n. n + 1) at) (λ x some. a_piece is (subst (λ e. IsAmong (pieces.value (k + 1) x) (pieces.optional_value (k + 1) e)) (sym some) (inl refl))) lies
        (statements_are_come_to.0 program.facts known around (c.Return e) comes)
        (λ x some. a_part (subst (λ e. IsReached setting.greatest setting.model unit (place.a_statement around (c.Return e)) known) some reached) place.returned))
        (λ after it. adds.Return it)
    of_statement used around known (c.If test x) k at is lies comes reached unused =
        in_node id (objectives unit program criterion) used k (length (in_expression test ++ in_statement x)) unused
        (of_body used around (in_new_block (entered known)) test x (k + 1) (λ used known k at is lies comes reached unused. of_statement used around known x k at is lies comes reached unused) (ap (λ n. n + 1) at) (a_piece is (inl refl)) (a_piece is (inr (inl refl))) (lies.0, ap suc lies.1)
        (if_taken known test x around comes.goes) (statements_are_come_to.0 program.facts known around (c.If test x) comes)
        (a_part reached place.if_test) (λ p next goes. a_part reached (place.if_body goes)))
        (λ after it. adds.If it.test_added it.body_added)
    of_statement used around known (c.While test x) k at is lies comes reached unused =
        in_node id (objectives unit program criterion) used k (length (in_expression test ++ in_statement x)) unused
        (of_body used (in_a_loop around) (in_new_block (entered known)) test x (k + 1) (λ used known k at is lies comes reached unused. of_statement used (in_a_loop around) known x k at is lies comes reached unused) (ap (λ n. n + 1) at) (a_piece is (inl refl)) (a_piece is (inr (inl refl))) (lies.0, ap suc lies.1)
        (while_taken known test x around comes.goes) (statements_are_come_to.0 program.facts known around (c.While test x) comes)
        (a_part reached place.while_test) (λ p next goes. a_part reached (place.while_body goes)))
        (λ after it. adds.While it.test_added it.body_added)
    of_statement used around known (c.IfElse test x y) k at is lies comes reached unused =
        let start : Known = in_new_block (entered known) in
        let parts = statements_are_come_to.0 program.facts known around (c.IfElse test x y) comes in
        let first = parts.0.0 in
        let body = parts.0.1 first.found first.behind first.goes in
        let goes = block_goes first.behind x around body in
        let last : Known = record (body.behind) { frames = first.behind.frames } in
        let them = objectives unit program criterion in
        let j : ℕ = k + 1 + length (in_expression test) + length (in_statement x) in
        let first_lies : Lies false _ first.behind = lies_behind (kept.of_expression test as_truth start (lies.0, ap suc lies.1)) first.goes in
        let first_at = numbering.behind first.found first.behind (numbering.of_expression numbered_parts test as_truth start) first.goes ∙ ap (λ n. n + 1 + length (in_expression test)) at in
        in_node id them used k (length (in_expression test ++ in_statement x ++ in_statement y)) unused
        (λ unused. two id them used (k + 1) (in_expression test ++ in_statement x) (in_statement y) unused
        (of_body used around start test x (k + 1) (λ used known k at is lies comes reached unused. of_statement used around known x k at is lies comes reached unused) (ap (λ n. n + 1) at) (a_piece is (inl refl)) (a_piece is (inr (inl refl))) (lies.0, ap suc lies.1) (if_else_taken known test x y around comes.goes) parts.0
        (a_part reached place.if_else_test) (λ p next goes. a_part reached (place.if_else_body goes)))
        (λ between p. from_there id them between (length (in_statement y)) (behind_two id them (k + 1) (in_expression test) (in_statement x))
        (of_statement between around (in_new_block last) y j
        (numbering.behind body.found body.behind (numbering.of_statement numbered_parts x around (in_new_block first.behind)) body.goes ∙ ap (λ n. n + length (in_statement x)) first_at)
        (a_piece is (inr (inr (inl refl)))) (let l = block_lies first.behind x around body first_lies in (l.0, ap suc l.1))
        (parts.1 first.found first.behind first.goes body.found last goes) (a_part reached (place.else_body first.goes goes))))
        (λ between after p q. adds.IfElse p.test_added p.body_added
        (λ found next s end e f. found_only first
        (λ found next. (s : Statement) (end : Known) → in_block (statement x around) next ≡ Goes s end → AddsToStatement new between after around (in_new_block end) y (statement_with_marks (marks_of unit program criterion id) j y))
        (λ s end f. only_way (λ s end. AddsToStatement new between after around (in_new_block end) y (statement_with_marks (marks_of unit program criterion id) j y)) goes q s end f) found next e s end f)))
        (λ after it. it)
    of_statement used around known (c.Do x test) k at is lies comes reached unused =
        let start : Known = in_new_block (entered known) in
        let parts = statements_are_come_to.0 program.facts known around (c.Do x test) comes in
        let body = parts.0 in
        let goes = block_goes start x (in_a_loop around) body in
        let last : Known = record (body.behind) { frames = start.frames } in
        let them = objectives unit program criterion in
        let j : ℕ = k + 1 + length (in_statement x) in
        in_node id them used k (length (in_statement x ++ in_expression test)) unused
        (λ unused. two id them used (k + 1) (in_statement x) (in_expression test) unused
        (of_statement used (in_a_loop around) (in_new_block start) x (k + 1) (ap (λ n. n + 1) at) (a_piece is (inl refl)) (lies.0, ap suc (ap suc lies.1)) body (a_part reached place.do_body))
        (λ between p. of_expression setting added stands.in_test in_test between last test j
        (numbering.behind body.found body.behind (numbering.of_statement numbered_parts x (in_a_loop around) (in_new_block start)) body.goes ∙ ap (λ n. n + 1 + length (in_statement x)) at)
        (a_piece is (inr (inl refl))) a_test (block_lies start x (in_a_loop around) body (lies.0, ap suc lies.1)) (parts.1 body.found last goes)
        (a_part reached (place.do_test goes)) (do_taken known test x around comes.goes body.found last goes))
        (λ between after p q. adds.Do p (only_way (λ s next. AddsTo new in_test between after next test (with_marks (marks_of unit program criterion id) j test)) goes q)))
        (λ after it. it)
    of_statement used around known (c.For begin test step x) k at is lies comes reached unused =
        of_for used around known begin test step x k (λ used known k at is lies comes reached unused. of_statement used (in_a_loop around) known x k at is lies comes reached unused) at is lies comes
        reached unused
    of_statement used around known (c.Switch e list) k at is lies comes reached unused =
        let start : Known = in_new_block (entered known) in
        let parts = statements_are_come_to.0 program.facts known around (c.Switch e list) comes in
        let first = parts.0 in
        let them = objectives unit program criterion in
        let j : ℕ = k + 1 + length (in_expression e) in
        let seen : Seen = record { values = []; has_default = false } in
        in_node id them used k (length (in_expression e ++ in_cases list)) unused
        (λ unused. two id them used (k + 1) (in_expression e) (in_cases list) unused
        (of_expression setting added stands.as_value (in_use as_truth) used start e (k + 1) (ap (λ n. n + 1) at) (a_piece is (inl refl)) a_switch (lies.0, ap suc lies.1) first
        (a_part reached place.switch_operand) tt)
        (λ between p. of_cases between (switch_type first.behind.model first.found) seen (in_a_switch around) first.behind list j
        (numbering.behind first.found first.behind (numbering.of_expression numbered_parts e as_truth start) first.goes ∙ ap (λ n. n + 1 + length (in_expression e)) at) (a_piece is (inr (inl refl)))
        (lies_behind (kept.of_expression e as_truth start (lies.0, ap suc lies.1)) first.goes) (parts.1 first.found first.behind first.goes) (a_part reached (place.switch_cases first.goes)))
        (λ between after p q. adds.Switch p
        (found_only first (λ x next. AddsToCases new between after (switch_type next.model x) seen (in_a_switch around) next list (cases_with_marks (marks_of unit program criterion id) j list)) q)))
        (λ after it. it)

    pub of_items : {deep : ℕ} (used : List ℕ) (around : Around) (known : Known) (list : c.Items) (k : ℕ) → known.next ≡ k → IsIn unit k (the_items list) → Lies false (suc (suc deep)) known
        → ComesTo program.facts known (items list around known) → IsReached setting.greatest setting.model unit (place.items around list) known → Unused used k (length (in_items list))
        → Marked used k (length (in_items list)) (λ after. AddsToItems new used after around known list (items_with_marks (marks_of unit program criterion id) k list))
    of_items used around known c.no_items k at is lies comes reached unused = nothing id (objectives unit program criterion) used k 0 adds.no_items
    of_items used around known (c.a_declaration d list) k at is lies comes reached unused =
        let parts = statements_are_come_to.1 program.facts known around (c.a_declaration d list) comes in
        let first = parts.0 in
        let them = objectives unit program criterion in
        let j : ℕ = k + 1 + length (in_declaration d) in
        in_node id them used k (length (in_declaration d ++ in_items list)) unused
        (λ unused. two id them used (k + 1) (in_declaration d) (in_items list) unused
        (λ unused. of_item used (entered known) d list k (ap (λ n. n + 1) at) is lies first (a_part reached place.an_item_declares) unused (list_any makes_static (storage_of d.specifiers)) refl)
        (λ between p. of_items between around first.behind list j
        (numbering.behind first.found first.behind (numbering.of_declaration_by numbered_parts (λ class. class) d (entered known)) first.goes ∙ ap (λ n. n + 1 + length (in_declaration d)) at) (a_piece is (inr (inl refl)))
        (lies_behind (keeping.of_declaration_by (λ class. class) d (entered known) lies) first.goes) (parts.1 first.found first.behind first.goes) (a_part reached (place.behind_declaration first.goes)))
        (λ between after p q. adds.a_declaration p
        (found_only first (λ it next. AddsToItems new between after around next list (items_with_marks (marks_of unit program criterion id) j list)) q)))
        (λ after it. it)
    of_items used around known (c.a_statement x list) k at is lies comes reached unused =
        let parts = statements_are_come_to.1 program.facts known around (c.a_statement x list) comes in
        let first = parts.0 in
        let them = objectives unit program criterion in
        let j : ℕ = k + 1 + length (in_statement x) in
        in_node id them used k (length (in_statement x ++ in_items list)) unused
        (λ unused. two id them used (k + 1) (in_statement x) (in_items list) unused
        (of_statement used around (entered known) x (k + 1) (ap (λ n. n + 1) at) (a_piece is (inl refl)) lies first (a_part reached place.an_item))
        (λ between p. of_items between around first.behind list j
        (numbering.behind first.found first.behind (numbering.of_statement numbered_parts x around (entered known)) first.goes ∙ ap (λ n. n + 1 + length (in_statement x)) at) (a_piece is (inr (inl refl)))
        (lies_behind (keeping.of_statement x around (entered known) lies) first.goes) (parts.1 first.found first.behind first.goes) (a_part reached (place.behind_statement first.goes)))
        (λ between after p q. adds.a_statement p
        (found_only first (λ s next. AddsToItems new between after around next list (items_with_marks (marks_of unit program criterion id) j list)) q)))
        (λ after it. it)
    of_items used around known (c.a_label m list) k at is lies comes reached unused =
        let parts = statements_are_come_to.1 program.facts known around (c.a_label m list) comes in
        let goes = went_on (mark m (entered known)) _ comes.goes in
        let them = objectives unit program criterion in
        let j : ℕ = k + 1 + length (in_mark m) in
        let old = (old_there new (in_items (c.a_label m list)) setting.old (all_stand unit k (the_items (c.a_label m list)) is).there).1 in
        in_node id them used k (length (in_mark m ++ in_items list)) unused
        (λ unused. second_alone id them used (k + 1) (in_mark m) (in_items list) unused
        (of_items used around goes.1 list j
        (numbering.behind goes.0 goes.1 (numbering.of_mark numbered_parts m (entered known)) goes.2 ∙ ap (λ n. n + 1 + length (in_mark m)) at) (a_piece is (inl refl))
        (lies_behind (kept.of_mark m (entered known) lies) goes.2) (parts goes.0 goes.1 goes.2) (a_part reached (place.behind_label goes.2)))
        (λ after q. adds.a_label (old_first new (in_mark m) (in_items list) old)
        (only_way (λ typed next. AddsToItems new used after around next list (items_with_marks (marks_of unit program criterion id) j list)) goes.2 q)))
        (λ after it. it)

    of_cases : {deep : ℕ} (used : List ℕ) (type : Option Scalar) (seen : Seen) (around : Around) (known : Known) (list : c.Cases) (k : ℕ) → known.next ≡ k → IsIn unit k (the_cases list)
        → Lies false (suc (suc deep)) known → ComesTo program.facts known (cases list type seen around known) → IsReached setting.greatest setting.model unit (place.cases type seen around list) known
        → Unused used k (length (in_cases list))
        → Marked used k (length (in_cases list)) (λ after. AddsToCases new used after type seen around known list (cases_with_marks (marks_of unit program criterion id) k list))
    of_cases used type seen around known c.no_cases k at is lies comes reached unused = nothing id (objectives unit program criterion) used k 0 adds.no_cases
    of_cases used type seen around known (c.a_case list x rest) k at is lies comes reached unused =
        let goes = went_on (labels list type seen known) _ comes.goes in
        let parts = statements_are_come_to.2 program.facts known type seen around (c.a_case list x rest) comes goes.0 goes.1 goes.2 in
        let next : Known = goes.1 in
        let body = parts.0 in
        let there = block_goes next x around body in
        let last : Known = record (body.behind) { frames = next.frames } in
        let them = objectives unit program criterion in
        let i : ℕ = k + length (flat_map in_label list) in
        let j : ℕ = i + length (in_statement x) in
        let next_at = numbering.behind goes.0 next (numbering.of_labels numbered_parts list type seen known) goes.2 ∙ ap (λ n. n + length (flat_map in_label list)) at in
        let next_lies : Lies false _ next = lies_behind (keeping.of_labels list type seen known lies) goes.2 in
        let old = old_there new (in_cases (c.a_case list x rest)) setting.old (all_stand unit k (the_cases (c.a_case list x rest)) is).there in
        two id them used k (flat_map in_label list ++ in_statement x) (in_cases rest) unused
        (λ unused. second_alone id them used k (flat_map in_label list) (in_statement x) unused
        (of_statement used around (in_new_block next) x i next_at (a_piece is (inl refl)) (next_lies.0, ap suc next_lies.1) body (a_part reached (place.one_case goes.2))) (λ after it. it))
        (λ between p. from_there id them between (length (in_cases rest)) (behind_two id them k (flat_map in_label list) (in_statement x))
        (of_cases between type goes.0.seen around last rest j
        (numbering.behind body.found body.behind (numbering.of_statement numbered_parts x around (in_new_block next)) body.goes ∙ ap (λ n. n + length (in_statement x)) next_at) (a_piece is (inr (inl refl)))
        (block_lies next x around body next_lies) (parts.1 body.found last there) (a_part reached (place.more_cases goes.2 there))))
        (λ between after p q. adds.a_case (old_first new (flat_map in_label list) (in_statement x) (old_first new (flat_map in_label list ++ in_statement x) (in_cases rest) old))
        (only_way (λ it next. AddsToStatement new used between around (in_new_block next) x (statement_with_marks (marks_of unit program criterion id) i x)) goes.2 p)
        (λ it s next last e f. only_way
        (λ (it : Labelled) next. (s : Statement) (last : Known) → in_block (statement x around) next ≡ Goes s last → AddsToCases new between after type it.seen around last rest (cases_with_marks (marks_of unit program criterion id) j rest))
        goes.2 (λ s last f. only_way (λ s last. AddsToCases new between after type goes.0.seen around last rest (cases_with_marks (marks_of unit program criterion id) j rest)) there q s last f) it next e s last f))
