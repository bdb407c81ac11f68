-- The marks of objectives at an expression, where it stands in a statement or a declaration; and parts that have no new marks.
use Rattle.std.proofs.Common.{◌≡◌, inl, inr, refl, sym, ap, ◌∙◌, subst, ℕ, zero, suc, Bool, true, false, ◌&&◌, if◌then◌else◌, List, [], ◌∷◌, ◌++◌, length, drop, map, Option, Some, None}
use Rattle.std.specs.Fmt.{decimal}
use Rattle.lt_tree.specs.Tree as c
use Rattle.lt_tree.specs.Nodes.{Node, in_expression, nodes}
use Rattle.lt_tree.specs.Typing.Entities.{Known}
use Rattle.lt_tree.specs.Typing.Programs.{Program}
use Rattle.lt_tree.specs.Typing.Filling.{text_in}
use Rattle.lt_objectives.specs.declared.criteria.Criterion.{Criterion}
use Rattle.lt_objectives.specs.declared.criteria.Criterion.TheVariants as C
use Rattle.lt_objectives.specs.Decisions.{decisions, clauses, inequality}
use Rattle.lt_objectives.specs.Places.{is_open, is_value_position}
use Rattle.lt_objectives.specs.Copies.{can_be_copied}
use Rattle.lt_objectives.specs.Objectives.{Form, at_start, in_front, around, Objective, objectives, all_at, at_test, at_expression, decided_at, differences, mutants}
use Rattle.lt_objectives.specs.Marked.{NewMark, numbered, is_there, labels, decided, preceded_by, within, with_marks}
use Rattle.lt_objective_places.specs.Stands.{IsAmong, Role, GoOn, IsNoTest, MayStand}
use Rattle.lt_objective_places.specs.Stands as stands
use Rattle.lt_objective_places.specs.Pieces.{an_expression, IsIn}
use Rattle.lt_objective_places.proofs.Among.{in_either}
use Rattle.lt_objective_places.proofs.Found.{AtTest, in_front_of_test, around_test, of_test}
use Rattle.lt_objective_places.proofs.Going.{all_stand}
use Rattle.lt_objective_places.proofs.Standing.{may_stand}
use Rattle.lt_objective_places.proofs.MarksAtPlaces.{HasNoneAt, no_labels, not_decided}
use Rattle.lt_tree.specs.Typing.Expressions.{as_value, as_truth, as_callee}
use Rattle.lt_mark_typing.specs.Beside.{Position, in_use, in_test, use_of}
use Rattle.lt_mark_typing.specs.Placed.{AreOld, AddsTo}
use Rattle.lt_mark_typing.proofs.Nodes.{old_first}
use Rattle.lt_typed_nodes.specs.Coming.{ComesToIt}
use Rattle.lt_typed_nodes.specs.Reaching as place
use Rattle.lt_typed_nodes.specs.Reaching.{IsReached}
use Rattle.lt_objective_marks.specs.Settings.{marks_of, Setting, AreUnused, IsAdded, Fits, IsTaken}
use Rattle.lt_objective_marks.specs.Settings as settings
use Rattle.lt_objective_marks.specs.Laws.{ObjectivesAreAddedToExpressions}
use Rattle.lt_objective_marks.proofs.Keeping.{Lies}

-- ---- old marks

old_behind : (new : ℕ → Bool) (k : ℕ) (xs : List Node) → AreOld new xs → AreOld new (drop k xs)
old_behind new zero xs h = h
old_behind new (suc k) [] h = tt
old_behind new (suc k) (x ∷ xs) h = old_behind new k xs h.1

-- no mark of a unit is new, so none of a run of its nodes is
pub old_there : (new : ℕ → Bool) {unit : c.Unit} {k : ℕ} (xs : List Node) → AreOld new (nodes unit) → GoOn unit k xs → AreOld new xs
old_there new {unit} {k} xs old there = old_first new xs there.behind (subst (AreOld new) there.are (old_behind new k (nodes unit) old))

-- ---- string literals

text_decided : (marks : List NewMark) (k : ℕ) (e : c.Expression) → text_in e ≡ None → text_in (decided marks k e) ≡ None
text_decided [] k e is = is
text_decided (mark ∷ rest) k e is = by (is_there around k mark) (text_decided rest k e is)
  where
    by : (b : Bool) → text_in (decided rest k e) ≡ None
        → text_in (if b then c.Decide (decided rest k e) (decimal mark.id) (decimal (suc mark.id)) mark.objective.tag else decided rest k e) ≡ None
    by true is = refl
    by false is = is

text_preceded : (ms : c.Marks) (e : c.Expression) → text_in e ≡ None → text_in (preceded_by ms e) ≡ None
text_preceded c.no_marks e is = is
text_preceded (c.a_mark m ms) e is = refl

text_within : (marks : List NewMark) (k : ℕ) (e : c.Expression) → text_in e ≡ None → text_in (within marks k e) ≡ None
text_within marks k (c.Text bytes) is = absurd cc
text_within marks k _ is = refl

-- what is no string literal is none with marks
pub no_text : (marks : List NewMark) (k : ℕ) (e : c.Expression) → text_in e ≡ None → text_in (with_marks marks k e) ≡ None
no_text marks k e is = text_preceded (labels in_front marks k) (decided marks k (within marks k e)) (text_decided marks k (within marks k e) (text_within marks k e is))

no_mutants : (unit : c.Unit) (program : Program) (criterion : Criterion) (k : ℕ) (bytes : List ℕ) → mutants unit program criterion k (c.Text bytes) (c.Text bytes) ≡ []
no_mutants unit program C.AbsoluteValue k bytes = refl
no_mutants unit program C.ArithmeticOperator k bytes = refl
no_mutants unit program C.LogicalConnector k bytes = refl
no_mutants unit program C.RelationalOperator k bytes = refl
no_mutants unit program _ k bytes = refl

no_test_here : {k : ℕ} {o : Objective} → AtTest k None None o → ⊥
no_test_here (in_front_of_test d (inl e) place form) = cc
no_test_here (in_front_of_test d (inr e) place form) = cc
no_test_here (around_test (inl e) form) = cc
no_test_here (around_test (inr e) form) = cc

none_if : (o : Objective) (b : Bool) → IsAmong o (if b then [] else []) → ⊥
none_if o true h = h
none_if o false h = h

none_of_both : (o : Objective) (b : Bool) (xs ys : List Objective) → (IsAmong o xs → ⊥) → (IsAmong o ys → ⊥) → IsAmong o (if b then xs ++ ys else []) → ⊥
none_of_both o true xs ys f g h = elim (in_either o xs ys h) [ inl i ↦ f i | inr i ↦ g i ]
none_of_both o false xs ys f g h = h

-- a string literal that is no test has no objectives
none_at_text : (unit : c.Unit) (program : Program) (criterion : Criterion) (k : ℕ) (bytes : List ℕ) (o : Objective) → IsNoTest unit k → IsAmong o (at_expression unit program criterion k (c.Text bytes)) → ⊥
none_at_text unit program criterion k bytes o no_test h =
    none_of_both o (is_open unit program k) (at_test criterion (can_be_copied unit k (c.Text bytes)) (decided_at (decisions unit) k) (decided_at (clauses unit) k) k (c.Text bytes)) (differences unit program criterion k (c.Text bytes))
    (λ i. no_test_here (subst (λ d. AtTest k d None o) no_test.0 (subst (λ d. AtTest k (decided_at (decisions unit) k) d o) no_test.1 (of_test criterion (can_be_copied unit k (c.Text bytes)) (decided_at (decisions unit) k) (decided_at (clauses unit) k) k (c.Text bytes) o i))))
    (λ i. none_if o (can_be_copied unit k (c.Text bytes) && is_value_position unit k)
    (subst (λ list. IsAmong o (if can_be_copied unit k (c.Text bytes) && is_value_position unit k then all_at k in_front criterion (map (inequality (c.Text bytes)) list) else [])) (no_mutants unit program criterion k bytes) i))
    h

none_there : (unit : c.Unit) (program : Program) (criterion : Criterion) (k : ℕ) (bytes : List ℕ) (o : Objective) (form : Form) → (form ≡ at_start → ⊥) → o.form ≡ form
    → MayStand unit program criterion stands.as_value k (c.Text bytes) o o.form → ⊥
none_there unit program criterion k bytes o at_start not_start is may = not_start refl
none_there unit program criterion k bytes o in_front not_start is may =
    let it = subst (MayStand unit program criterion stands.as_value k (c.Text bytes) o) is may in none_at_text unit program criterion k bytes o it.2.1 it.3
none_there unit program criterion k bytes o around not_start is may =
    let it = subst (MayStand unit program criterion stands.as_value k (c.Text bytes) o) is may in not_in_test it.0
  where
    not_in_test : stands.as_value ≡ stands.in_test → ⊥
    not_in_test e = cc

-- a string literal that is a value gets no marks
pub text_alone : (unit : c.Unit) (program : Program) (criterion : Criterion) (id k : ℕ) (bytes : List ℕ) → IsIn unit k (an_expression stands.as_value (c.Text bytes))
    → with_marks (marks_of unit program criterion id) k (c.Text bytes) ≡ c.Text bytes
text_alone unit program criterion id k bytes is =
    let them : List Objective = objectives unit program criterion in
    let none : (form : Form) → (form ≡ at_start → ⊥) → HasNoneAt form k them =
    λ form not_start o among form_is place. none_there unit program criterion k bytes o form not_start form_is
    (may_stand unit program criterion stands.as_value k (c.Text bytes) o (all_stand unit k (an_expression stands.as_value (c.Text bytes)) is) among place) in
    ap (λ ms. preceded_by ms (decided (numbered id them) k (c.Text bytes))) (no_labels in_front k id them (none in_front (λ e. cc))) ∙ not_decided k id (c.Text bytes) them (none around (λ e. cc))

-- what is one stays it
pub same_text : (unit : c.Unit) (program : Program) (criterion : Criterion) (id k : ℕ) (e : c.Expression) → IsIn unit k (an_expression stands.as_value e)
    → text_in (with_marks (marks_of unit program criterion id) k e) ≡ text_in e
same_text unit program criterion id k e is = by (text_in e) refl
  where
    text_is : (it : c.Expression) (bytes : List ℕ) → text_in it ≡ Some bytes → it ≡ c.Text bytes
    text_is (c.Text text) bytes e = cc
    text_is _ bytes e = absurd cc

    by : (found : Option (List ℕ)) → text_in e ≡ found → text_in (with_marks (marks_of unit program criterion id) k e) ≡ text_in e
    by None none = no_text (marks_of unit program criterion id) k e none ∙ sym none
    by (Some bytes) some =
        subst (λ e. IsIn unit k (an_expression stands.as_value e) → text_in (with_marks (marks_of unit program criterion id) k e) ≡ text_in e) (sym (text_is e bytes some))
        (λ is. ap text_in (text_alone unit program criterion id k bytes is)) is

-- ---- expressions

-- how statements and declarations take expressions
pub data Plainly : Role → Position → Type 0 where
  a_test : Plainly stands.in_test in_test
  a_value : Plainly stands.as_value (in_use as_value)
  a_switch : Plainly stands.as_value (in_use as_truth)

fitting : {role : Role} {position : Position} → Plainly role position → Fits role position
fitting a_test = settings.a_test
fitting a_value = settings.a_value
fitting a_switch = settings.a_switch

no_truth : {role : Role} {position : Position} → Plainly role position → role ≡ stands.in_truth → ⊥
no_truth a_test is = cc
no_truth a_value is = cc
no_truth a_switch is = cc

no_callee : {role : Role} {position : Position} → Plainly role position → position ≡ in_use as_callee → ⊥
no_callee a_test is = cc
no_callee a_value is = cc
no_callee a_switch is = cc

module _ {new : ℕ → Bool} {unit : c.Unit} {program : Program} {criterion : Criterion} {id : ℕ} (setting : Setting new unit program criterion id) (added : ObjectivesAreAddedToExpressions) where
  pub of_expression : {deep : ℕ} (role : Role) (position : Position) (used : List ℕ) (known : Known) (e : c.Expression) (k : ℕ) → known.next ≡ k
      → IsIn unit k (an_expression role e) → Plainly role position → Lies false deep known → ComesToIt program.facts known (use_of position) e
      → IsReached setting.greatest setting.model unit (place.an_expression (use_of position) e) known → IsTaken role position known e
      → AreUnused (marks_of unit program criterion id) used k (length (in_expression e))
      → IsAdded (marks_of unit program criterion id) used k (length (in_expression e)) (λ after. AddsTo new position used after known e (with_marks (marks_of unit program criterion id) k e))
  of_expression role position used known e k at is fits lies comes reached taken unused =
      subst (λ k. IsIn unit k (an_expression role e) → AreUnused (marks_of unit program criterion id) used k (length (in_expression e))
      → IsAdded (marks_of unit program criterion id) used k (length (in_expression e)) (λ after. AddsTo new position used after known e (with_marks (marks_of unit program criterion id) k e))) at
      (λ is unused. added new unit program criterion id setting role position used known e is (fitting fits) lies.0 comes reached taken (no_truth fits) (no_callee fits) unused) is unused
