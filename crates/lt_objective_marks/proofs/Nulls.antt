-- Nothing is marked in a null pointer constant, where it is used as more than a truth.
use Rattle.std.proofs.Common.{◌≡◌, ◌⊎◌, inl, inr, refl, sym, ap, ◌∙◌, subst, ℕ, suc, ◌+◌, List, [], ◌∷◌, ◌++◌, length, length-append, Bool, true, false, ◌&&◌, ◌||◌, if◌then◌else◌, arith}
use Rattle.std.proofs.lemmas.Bool.{false≢true}
use Rattle.lt_tree.specs.Tree as c
use Rattle.lt_tree.specs.Erasure.{erased}
use Rattle.lt_tree.specs.Nodes.{an_expression as node, in_expression, in_marks, in_specifiers, in_declarator}
use Rattle.lt_tree.specs.Typing.Constants.{Constancy, varying, faulty, number, null_constant, null_address, address, is_number, is_zero, is_null_constant}
use Rattle.lt_tree.specs.Typing.TypedTree.{Value, Marks, type_at}
use Rattle.lt_tree.specs.Typing.Types.{is_array, unqualified}
use Rattle.lt_tree.specs.Typing.Entities.{Known}
use Rattle.lt_tree.specs.Typing.Steps.{Outcome, Goes, goes_on}
use Rattle.lt_tree.specs.Typing.Expressions.{Form, a_value, a_place, a_designator, Typed, Use, as_value, as_truth, as_place, as_callee, value_at, varies, as_it_is_read, used, fact_of, finish}
use Rattle.lt_tree.specs.Typing.Operations.{judge_cast, counts_as_null}
use Rattle.lt_tree.specs.Typing.BinaryOperations.{judge_comma}
use Rattle.lt_tree.specs.Typing.MarkRules.{is_truth, label_of, inside_mark, inside_after, judge_after, judge_marked}
use Rattle.lt_tree.specs.Typing.Specifying.{Specified, elsewhere}
use Rattle.lt_tree.specs.Typing.Declarators.{Declares, type_name_faults}
use Rattle.lt_tree.specs.Typing.NodeEnds.{also}
use Rattle.lt_tree.specs.Typing.ExpressionTyping.{expression, expressions, marks, specifiers, declarator}
use Rattle.lt_tree.specs.Typing.Programs.{Program}
use Rattle.lt_objectives.specs.declared.criteria.Criterion.{Criterion}
use Rattle.lt_objectives.specs.declared.criteria.Criterion.TheVariants as C
use Rattle.lt_objectives.specs.Copies.{is_core}
use Rattle.lt_objectives.specs.Places.{stays_without_marks}
use Rattle.lt_objectives.specs.Objectives.{in_front, Objective, objective, mutants, at_expression, objectives}
use Rattle.lt_objectives.specs.Marked.{NewMark, numbered, next_id, labels, decided, joined, preceded_by, within, with_marks}
use Rattle.lt_sites.proofs.Nodes.{expression_node}
use Rattle.lt_objective_places.specs.Stands.{IsAmong, Role, IsWithin, AreClosed, MayStand, behind_after}
use Rattle.lt_objective_places.specs.Stands as stands
use Rattle.lt_objective_places.specs.Pieces.{an_expression, IsIn, a_piece}
use Rattle.lt_objective_places.specs.Laws.{LabelsAreOf}
use Rattle.lt_objective_places.proofs.Standing.{none_in_expression}
use Rattle.lt_objective_places.proofs.Unmarked.{has_none, inside_unmarked, joined_none}
use Rattle.lt_typed_nodes.specs.Laws.{StaysConstant}
use Rattle.lt_typed_nodes.specs.Coming.{ComesToIt, entered}
use Rattle.lt_objective_marks.specs.Settings.{marks_of, Setting}
use Rattle.lt_objective_marks.proofs.Given.{Given}
use Rattle.lt_objective_marks.proofs.Ends.{ended, through, part_goes}
use Rattle.lt_objective_marks.proofs.Shapes as shapes
use Rattle.lt_objective_marks.proofs.Shapes.{Shape, shape}
use Rattle.lt_objective_marks.proofs.Made.{read_value}
use Rattle.lt_objective_marks.proofs.Noted.{program_of_unit, number_behind}
use Rattle.lt_objective_marks.proofs.Mutated.{mutants_there}
use Rattle.lt_objective_marks.proofs.Labels.{among_all, labels_of}
use Rattle.lt_objective_marks.proofs.Decided.{Around, undecided, decided_there, own_decision}
use Rattle.lt_objective_marks.proofs.Taken.{labels_behind, not_decided}
use Rattle.lt_objective_marks.proofs.Fitting.{held, past, ended as ends}
use Rattle.lt_objective_marks.proofs.NullCasts.{is_null, may_be_null, conversion_null, no_null_found}

-- ---- null pointer constants

null_or_number : (d : Constancy) → is_null_constant d ≡ true → (is_null d ≡ true) ⊎ (is_number d ≡ true)
null_or_number null_constant is = inl refl
null_or_number (number z) is = inr refl
null_or_number varying is = absurd (false≢true is)
null_or_number faulty is = absurd (false≢true is)
null_or_number null_address is = absurd (false≢true is)
null_or_number (address object offset) is = absurd (false≢true is)

zero_is_null : (d : Constancy) → is_zero d ≡ true → is_null_constant d ≡ true
zero_is_null (number z) is = is
zero_is_null varying is = absurd (false≢true is)
zero_is_null faulty is = absurd (false≢true is)
zero_is_null null_constant is = absurd (false≢true is)
zero_is_null null_address is = absurd (false≢true is)
zero_is_null (address object offset) is = absurd (false≢true is)

-- what passes a test that nothing passes which varies passes it before it is read
read_if : (test : Constancy → Bool) (keeps : Bool) (x : Typed) (form : Form) (v : Value) → test varying ≡ false → test (if keeps then record x { form = form } else varies v).erased ≡ true → test x.erased ≡ true
read_if test true x form v none is = is
read_if test false x form v none is = absurd (false≢true (sym none ∙ is))

read_by : (test : Constancy → Bool) (x : Typed) (form : Form) → test varying ≡ false → test (as_it_is_read (record x { form = form })).erased ≡ true → test x.erased ≡ true
read_by test x (a_value v) none is = is
read_by test x (a_place place) none is = read_if test (is_array (type_at place)) (record x { form = a_place place }) (a_value (value_at (type_at place) place)) _ none is
read_by test x (a_designator name t) none is = is

used_erased : (test : Constancy → Bool) (role : Use) (x : Typed) → test varying ≡ false → test (used role x).erased ≡ true → test x.erased ≡ true
used_erased test as_value x none is = read_by test x x.form none is
used_erased test as_truth x none is = read_by test x x.form none is
used_erased test as_callee x none is = read_by test x x.form none is
used_erased test as_place x none is = is

-- a value is used as it is
used_same : (role : Use) (x : Typed) (v : Value) → x.form ≡ a_value v → used role x ≡ x
used_same as_value x v is = read_value x v is
used_same as_truth x v is = read_value x v is
used_same as_callee x v is = read_value x v is
used_same as_place x v is = refl

-- a comma expression is no constant
comma_varies : (list : c.Expressions) (role : Use) (known behind : Known) (x : Typed) → expression (c.Comma list) role known ≡ Goes x behind → is_null_constant x.erased ≡ false
unfolding judge_comma
comma_varies list role known behind x goes = held {P = λ x. is_null_constant x.erased ≡ false} goes
    (past (expressions list (entered known)) (λ xs k. ends (λ x. is_null_constant x.erased ≡ false) known.next role (judge_comma xs) k (λ none.
    ap (λ (it : Typed). is_null_constant it.erased) (used_same role (judge_comma xs).typed _ refl))))

-- what counts as one is one without its marks
pub null_erased : (x : Typed) → StaysConstant x.constancy x.erased → counts_as_null x ≡ true → is_null_constant x.erased ≡ true
null_erased x stays is = by (is_null_constant x.constancy) refl is
  where
    last : (a b : Bool) → (a && b) ≡ true → b ≡ true
    last true b h = h
    last false b h = absurd (false≢true h)

    by : (b : Bool) → is_null_constant x.constancy ≡ b → (b || (x.is_after && is_null_constant x.erased)) ≡ true → is_null_constant x.erased ≡ true
    by true null h = elim stays [ inl none ↦ absurd (false≢true (ap is_null_constant (sym none) ∙ null)) | inr same ↦ ap is_null_constant (sym same) ∙ null ]
    by false other h = last x.is_after (is_null_constant x.erased) h

-- ---- forms of expressions

stays_or_comma : (e : c.Expression) → is_core e ≡ true → (stays_without_marks (node e) ≡ true) ⊎ ((list : c.Expressions) × (e ≡ c.Comma list))
stays_or_comma (c.Comma list) core = inr (list, refl)
stays_or_comma (c.Marked ms e) core = absurd (false≢true core)
stays_or_comma (c.Decide e when_true when_false tag) core = absurd (false≢true core)
stays_or_comma (c.After e id tag) core = absurd (false≢true core)
stays_or_comma e core = inl refl

cast_or_none : (e : c.Expression) → is_core e ≡ true → (may_be_null e ≡ false) ⊎ ((s : c.Specifiers) × (d : c.Declarator) × (v : c.Expression) × (e ≡ c.Cast s d v))
cast_or_none (c.Cast s d v) core = inr (s, d, v, refl)
cast_or_none (c.Marked ms e) core = absurd (false≢true core)
cast_or_none (c.Decide e when_true when_false tag) core = absurd (false≢true core)
cast_or_none (c.After e id tag) core = absurd (false≢true core)
cast_or_none e core = inl refl

-- a cast has no mutants
no_mutants : (unit : c.Unit) (program : Program) (criterion : Criterion) (k : ℕ) (s : c.Specifiers) (d : c.Declarator) (v : c.Expression) → mutants unit program criterion k (c.Cast s d v) (erased (c.Cast s d v)) ≡ []
no_mutants unit program C.AbsoluteValue k s d v = refl
no_mutants unit program C.ArithmeticOperator k s d v = refl
no_mutants unit program C.LogicalConnector k s d v = refl
no_mutants unit program C.RelationalOperator k s d v = refl
no_mutants unit program _ k s d v = refl

-- ---- roles

-- a value or a place
abbrev pub IsNoTruth : Role → Type 0
IsNoTruth stands.as_value = Unit {0}
IsNoTruth stands.as_place = Unit {0}
IsNoTruth stands.in_test = ⊥
IsNoTruth stands.in_truth = ⊥

no_test : (role : Role) → IsNoTruth role → role ≡ stands.in_test → ⊥
no_test stands.in_test plain is = plain
no_test stands.in_truth plain is = plain
no_test stands.as_value plain is = cc
no_test stands.as_place plain is = cc

behind_same : (role : Role) → IsNoTruth role → behind_after role ≡ role
behind_same stands.in_test plain = absurd plain
behind_same stands.in_truth plain = absurd plain
behind_same stands.as_value plain = refl
behind_same stands.as_place plain = refl

mark_value : (taken : Use) → is_truth taken ≡ false → is_truth (inside_mark taken) ≡ false
mark_value as_value is = refl
mark_value as_truth is = is
mark_value as_place is = refl
mark_value as_callee is = refl

after_value : (taken : Use) → is_truth taken ≡ false → is_truth (inside_after taken) ≡ false
after_value as_value is = refl
after_value as_truth is = is
after_value as_place is = refl
after_value as_callee is = refl

abbrev named : c.Declarator → Specified → Known → Outcome Declares
named d it known = declarator d it false (λ name known b. type_name_faults b) known

module _ (g : Given) {new : ℕ → Bool} {unit : c.Unit} {program : Program} {criterion : Criterion} {id : ℕ} (s : Setting new unit program criterion id) where
  abbrev all : List NewMark
  all = marks_of unit program criterion id

  -- an expression that gets no marks
  pub record IsBare (k : ℕ) (e : c.Expression) : Type 0 where
    pub labels : labels in_front all k ≡ c.no_marks
    pub decided : (x : c.Expression) → decided all k x ≡ x
    pub within : within all k e ≡ e

  bare_whole : {k : ℕ} {e : c.Expression} → IsBare k e → with_marks all k e ≡ e
  bare_whole {k} {e} b = ap (λ ms. preceded_by ms (decided all k (within all k e))) b.labels ∙ b.decided (within all k e) ∙ b.within

  closed_within : (role : Role) (k : ℕ) (e : c.Expression) → IsIn unit k (an_expression role e) → AreClosed unit program k (length (in_expression e)) → within all k e ≡ e
  closed_within role k e isin are = inside_unmarked all k e
      (has_none id k (length (in_expression e)) (objectives unit program criterion) (λ o h w. none_in_expression program criterion e o (g.stand.2 unit k (an_expression role e) isin) are h w))

  -- an integer constant expression is closed
  constant_closed : (role : Role) (taken : Use) (known : Known) (e : c.Expression) → stays_without_marks (node e) ≡ true → IsIn unit known.next (an_expression role e)
      → (comes : ComesToIt program.facts known taken e) → is_number comes.found.erased ≡ true → AreClosed unit program known.next (length (in_expression e))
  constant_closed role taken known e stays isin comes constant =
      let it = g.known.0 program.facts known taken e comes in
      g.closed unit program role known.next e (fact_of known.next it.0) (program_of_unit s.greatest s.model unit program s.typed) stays (g.stand.2 unit known.next (an_expression role e) isin) it.2
      (used_erased is_number taken it.0 refl (ap (λ (x : Typed). is_number x.erased) (sym it.1) ∙ constant))

  -- ---- in front of it and around it

  no_labels : (role : Role) (e : c.Expression) (known : Known) → IsIn unit known.next (an_expression role e) → ((it : Objective) → MayStand unit program criterion role known.next e it in_front → ⊥)
      → labels in_front all known.next ≡ c.no_marks
  no_labels role e known isin none = by (at_expression unit program criterion known.next e) (shape unit program criterion known.next e) refl
    where
      own : LabelsAreOf unit program criterion in_front known.next id (at_expression unit program criterion known.next e)
      own = labels_of g s role e known isin

      by : (list : List Objective) → Shape unit criterion known.next e list → at_expression unit program criterion known.next e ≡ list → labels in_front all known.next ≡ c.no_marks
      by list shapes.nothing are = own.labels_are ∙ ap (λ l. labels in_front (numbered (next_id id own.together.before) l) known.next) are
      by list (shapes.a_decision d) are = own.labels_are ∙ ap (λ l. labels in_front (numbered (next_id id own.together.before) l) known.next) are
      by list (shapes.labels p ps copied) are =
          let o = objective known.next in_front criterion p in
          let there = among_all g s (at_expression unit program criterion known.next e) own.together o (subst (IsAmong o) (sym are) (inl refl)) in
          absurd (none o ((g.may_stand unit program criterion known.next o there refl).0 role e isin))

  no_decision : (role : Role) (e : c.Expression) (k : ℕ) → IsIn unit k (an_expression role e) → IsNoTruth role → (x : c.Expression) → decided all k x ≡ x
  no_decision role e k isin plain = by (own_decision g s role e k isin)
    where
      by : Around g s k role e → (x : c.Expression) → decided all k x ≡ x
      by (undecided none) = none
      by (decided_there tested can bare j are first last at) = absurd (no_test role plain tested)

  -- no label stands in front of one
  none_may_stand : (role : Role) → IsNoTruth role → (taken : Use) (known : Known) (e : c.Expression) → IsIn unit known.next (an_expression role e) → (comes : ComesToIt program.facts known taken e)
      → is_null_constant comes.found.erased ≡ true → (it : Objective) → MayStand unit program criterion role known.next e it in_front → ⊥
  none_may_stand stands.in_test plain taken known e isin comes null it may = plain
  none_may_stand stands.in_truth plain taken known e isin comes null it may = plain
  none_may_stand stands.as_place plain taken known e isin comes null it may = may.2
  none_may_stand stands.as_value plain taken known e isin comes null it may = elim (null_or_number comes.found.erased null) [
    | inl is ↦ by_cast (cast_or_none e may.0) is
    | inr is ↦ by_constant (stays_or_comma e may.0) is
  ]
    where
      by_cast : (may_be_null e ≡ false) ⊎ ((s : c.Specifiers) × (d : c.Declarator) × (v : c.Expression) × (e ≡ c.Cast s d v)) → is_null comes.found.erased ≡ true → ⊥
      by_cast (inl other) is = false≢true (sym (no_null_found e taken known comes.behind comes.found comes.goes other) ∙ is)
      by_cast (inr cast) is =
          mutants_there unit program criterion known.next e it may
          (ap (λ e. mutants unit program criterion known.next e (erased e)) cast.3 ∙ no_mutants unit program criterion known.next cast.0 cast.1 cast.2)

      by_constant : (stays_without_marks (node e) ≡ true) ⊎ ((list : c.Expressions) × (e ≡ c.Comma list)) → is_number comes.found.erased ≡ true → ⊥
      by_constant (inl stays) is =
          false≢true (sym (constant_closed stands.as_value taken known e stays isin comes is known.next (omega arith, omega (arith, ap length (expression_node e)))) ∙ may.1)
      by_constant (inr comma) is =
          false≢true (sym (comma_varies comma.0 taken known comes.behind comes.found (ap (λ e. expression e taken known) (sym comma.1) ∙ comes.goes)) ∙ null)

  -- ---- in it

  cast_number : (types : c.Specifiers) (d : c.Declarator) (v : c.Expression) (known : Known) (n behind next size : ℕ) → next ≡ behind → behind ≡ n + length (in_expression v) → next ≡ known.next + size
      → size ≡ suc (length (in_specifiers types) + length (in_declarator d) + length (in_expression v)) → n ≡ known.next + 1 + length (in_specifiers types) + length (in_declarator d)
  cast_number types d v known n behind next size a b e f = omega (arith, a, b, e, f)

  bare_if : (e : c.Expression) (role : Role) → IsNoTruth role → (taken : Use) (known : Known) → IsIn unit known.next (an_expression role e) → (comes : ComesToIt program.facts known taken e)
      → is_null_constant comes.found.erased ≡ true → within all known.next e ≡ e → IsBare known.next e
  bare_if e role plain taken known isin comes null inside = record {
    labels = no_labels role e known isin (none_may_stand role plain taken known e isin comes null);
    decided = no_decision role e known.next isin plain;
    within = inside;
  }

  inside : (e : c.Expression) (role : Role) → IsNoTruth role → (taken : Use) → is_truth taken ≡ false → (known : Known) → IsIn unit known.next (an_expression role e) → (comes : ComesToIt program.facts known taken e)
      → is_null_constant comes.found.erased ≡ true → within all known.next e ≡ e
  unfolding judge_marked judge_after judge_cast
  inside (c.Marked ms v) role plain taken value known isin comes null =
      let e = c.Marked ms v in
      let second = λ (typed : Marks) (k : Known). goes_on (expression v (inside_mark taken) k) (λ (x : Typed) (j : Known). finish known.next taken (judge_marked typed x) j) in
      let a = part_goes (marks ms (entered known)) second comes.goes in
      let inner = g.operands.0 program.facts known taken e comes a.0 a.1 a.2 in
      let at = ended inner.behind known.next taken (judge_marked a.0 inner.found) comes.found comes.behind
      (through (λ (x : Typed) (j : Known). finish known.next taken (judge_marked a.0 x) j) inner.goes (through second a.2 comes.goes)) in
      let null_there : is_null_constant inner.found.erased ≡ true =
      sym (ap (λ (it : Typed). is_null_constant it.erased) (at.found ∙ used_same taken (judge_marked a.0 inner.found).typed _ refl)) ∙ null in
      let j = known.next + 1 + length (in_marks ms) in
      let size : length (in_expression e) ≡ suc (length (in_marks ms) + length (in_expression v)) = ap suc (length-append (in_marks ms) (in_expression v)) in
      let n : a.1.next ≡ j = omega (arith, ap (λ (it : Known). it.next) at.next, number_behind g s e taken known comes, number_behind g s v (inside_mark taken) a.1 inner, size) in
      let there : IsIn unit a.1.next (an_expression role v) = subst (λ k. IsIn unit k (an_expression role v)) (sym n) (a_piece isin (inl refl)) in
      let it = subst (λ k. IsBare k v) n
      (bare_if v role plain (inside_mark taken) a.1 there inner null_there (inside v role plain (inside_mark taken) (mark_value taken value) a.1 there inner null_there)) in
      ap (λ ls. c.Marked (joined ms ls) (decided all j (within all j v))) it.labels ∙ ap (λ ls. c.Marked ls (decided all j (within all j v))) (joined_none ms)
      ∙ ap (c.Marked ms) (it.decided (within all j v) ∙ it.within)
  inside (c.After v after tag) role plain taken value known isin comes null =
      let e = c.After v after tag in
      let inner = g.operands.0 program.facts known taken e comes in
      let rest = through (λ (x : Typed) (k : Known). goes_on (finish known.next taken (judge_after taken x after tag k) k) (λ (result : Typed) (j : Known). Goes result (record j { labels = j.labels ++ label_of after tag [] ∷ [] })))
      inner.goes comes.goes in
      let labelled = labels_behind (finish known.next taken (judge_after taken inner.found after tag inner.behind) inner.behind) (λ (j : Known). record j { labels = j.labels ++ label_of after tag [] ∷ [] }) rest in
      let at = ended inner.behind known.next taken (judge_after taken inner.found after tag inner.behind) comes.found labelled.0 labelled.1 in
      let null_there : is_null_constant inner.found.erased ≡ true = used_erased is_null_constant as_value inner.found refl
      (sym (ap (λ (it : Typed). is_null_constant it.erased) (at.found ∙ used_same taken (judge_after taken inner.found after tag inner.behind).typed _ refl)) ∙ null) in
      let there : IsIn unit (known.next + 1) (an_expression role v) = subst (λ role. IsIn unit (known.next + 1) (an_expression role v)) (behind_same role plain) (a_piece isin (inl refl)) in
      let it = bare_if v role plain (inside_after taken) (entered known) there inner null_there
      (inside v role plain (inside_after taken) (after_value taken value) (entered known) there inner null_there) in
      ap (λ x. c.After x after tag) (bare_whole it)
  inside (c.Decide v when_true when_false tag) role plain taken value known isin comes null = absurd (not_decided v when_true when_false tag taken known comes.behind comes.found value comes.goes)
  inside (c.Comma list) role plain taken value known isin comes null = absurd (false≢true (sym (comma_varies list taken known comes.behind comes.found comes.goes) ∙ null))
  inside (c.Cast types d v) role plain taken value known isin comes null =
      let e = c.Cast types d v in
      let last = λ (t : Declares) (x : Typed) (i : Known). finish known.next taken (also t.faults (judge_cast t.type x i)) i in
      let third = λ (t : Declares) (j : Known). goes_on (expression v as_value j) (last t) in
      let second = λ (it : Specified) (k : Known). goes_on (named d it k) third in
      let a = part_goes (specifiers types elsewhere (entered known)) second comes.goes in
      let behind_a = through second a.2 comes.goes in
      let b = part_goes (named d a.0 a.1) third behind_a in
      let behind_b = through third b.2 behind_a in
      let inner = g.operands.0 program.facts known taken e comes a.0 a.1 a.2 b.0 b.1 b.2 in
      let at = ended inner.behind known.next taken (also b.0.faults (judge_cast b.0.type inner.found inner.behind)) comes.found comes.behind (through (last b.0) inner.goes behind_b) in
      let same = ap (λ (it : Typed). it.erased) (at.found ∙ used_same taken (judge_cast b.0.type inner.found inner.behind).typed _ refl) in
      let size : length (in_expression e) ≡ suc (length (in_specifiers types) + length (in_declarator d) + length (in_expression v)) =
      ap suc (length-append (in_specifiers types ++ in_declarator d) (in_expression v) ∙ ap (λ n. n + length (in_expression v)) (length-append (in_specifiers types) (in_declarator d))) in
      let n = known.next + 1 + length (in_specifiers types) + length (in_declarator d) in
      let is : b.1.next ≡ n = cast_number types d v known b.1.next inner.behind.next comes.behind.next (length (in_expression e)) (ap (λ (it : Known). it.next) at.next) (number_behind g s v as_value b.1 inner)
      (number_behind g s e taken known comes) size in
      elim (null_or_number comes.found.erased null) [
        | inl is_it ↦
            let zero = conversion_null inner.behind.model (unqualified b.0.type) inner.found.erased (ap is_null (sym same) ∙ is_it) in
            let there : IsIn unit b.1.next (an_expression stands.as_value v) = subst (λ k. IsIn unit k (an_expression stands.as_value v)) (sym is) (a_piece isin (inl refl)) in
            let null_there = zero_is_null inner.found.erased zero.1 in
            let it = subst (λ k. IsBare k v) is (bare_if v stands.as_value tt as_value b.1 there inner null_there (inside v stands.as_value tt as_value refl b.1 there inner null_there)) in
            ap (c.Cast types d) (bare_whole it)
        | inr constant ↦ closed_within role known.next e isin (constant_closed role taken known e refl isin comes constant)
      ]
  inside e role plain taken value known isin comes null = elim (null_or_number comes.found.erased null) [
    | inl is ↦ absurd (false≢true (sym (no_null_found e taken known comes.behind comes.found comes.goes refl) ∙ is))
    | inr constant ↦ closed_within role known.next e isin (constant_closed role taken known e refl isin comes constant)
  ]

  -- nothing is marked in a null pointer constant, nor in front of it
  pub bare : (e : c.Expression) (role : Role) → IsNoTruth role → (taken : Use) → is_truth taken ≡ false → (known : Known) → IsIn unit known.next (an_expression role e) → (comes : ComesToIt program.facts known taken e)
      → is_null_constant comes.found.erased ≡ true → IsBare known.next e
  bare e role plain taken value known isin comes null = bare_if e role plain taken known isin comes null (inside e role plain taken value known isin comes null)
