-- Where the operands of an expression stand.
use Rattle.std.proofs.Common.{◌≡◌, ◌⊎◌, inl, inr, refl, sym, subst, ℕ, ◌+◌, ◌<◌, ◌≤◌, List, ◌++◌, length, Option, Some, None, unwrap_or, length-append, arith}
use Rattle.lt_model.specs.declared.operator.Op.{Op}
use Rattle.lt_tree.specs.declared.expression.UnaryOp.{UnaryOp}
use Rattle.lt_tree.specs.declared.expression.UnaryOp.TheVariants as unary
use Rattle.lt_tree.specs.declared.expression.LogicalOp.{LogicalOp}
use Rattle.lt_tree.specs.Tree as c
use Rattle.lt_tree.specs.Nodes.{an_expression, in_expression, in_expressions, in_marks, in_specifiers, in_declarator}
use Rattle.lt_objectives.specs.Decisions.{Test}
use Rattle.lt_decisions.specs.declared.turn.Tests.{Tests}
use Rattle.lt_decisions.specs.declared.turn.Tests.TheVariants as tests
use Rattle.lt_decisions.specs.Walk.{tests_of}
use Rattle.lt_decisions.proofs.Closed.{both}
use Rattle.lt_decisions.proofs.Parts as closed
use Rattle.lt_decisions.proofs.AllTests.{no_test, one_test}
use Rattle.lt_decisions.proofs.Steps.{in_marked, in_decide, inside_after}
use Rattle.lt_objective_places.specs.Stands.{IsAmong, IsAbout, RunStands, AreUntested, Role, in_test, in_truth, as_value, as_place, IsBefore, tests_as, Stands, behind_after}
use Rattle.lt_objective_places.specs.Pieces.{role_of}
use Rattle.lt_objective_places.proofs.Among.{in_either}
use Rattle.lt_objective_places.proofs.Numbers.{within}
use Rattle.lt_objective_places.proofs.Runs.{with_given, front, back, inside, of_test, behind_test}
use Rattle.lt_objective_places.proofs.Roles.{at_number, value, operand_place, any_test, IsWhole, not_behind, about_first, inside_whole, two, three, no_value}

-- ---- operands that are values

pub index : {unit : c.Unit} {role : Role} {k : ℕ} {array place : c.Expression} → Stands unit role k (c.Index array place)
    → Stands unit as_value (k + 1) array × Stands unit as_value (k + 1 + length (in_expression array)) place
index {unit} {role} {k} {array} {place} s =
    let them = inside_whole (c.Index array place) (in_expression array ++ in_expression place) refl (record { decision = λ after k. refl; clauses = λ after k. refl }) refl s in
    let it = two (in_expression array) (in_expression place) (closed.expression array) them in
    (value array it.0, value place it.1)

pub call : {unit : c.Unit} {role : Role} {k : ℕ} {callee : c.Expression} {arguments : c.Expressions} → Stands unit role k (c.Call callee arguments)
    → Stands unit as_value (k + 1) callee × AreUntested unit (k + 1 + length (in_expression callee)) (in_expressions arguments)
call {unit} {role} {k} {callee} {arguments} s =
    let them = inside_whole (c.Call callee arguments) (in_expression callee ++ in_expressions arguments) refl (record { decision = λ after k. refl; clauses = λ after k. refl }) refl s in
    let it = two (in_expression callee) (in_expressions arguments) (closed.expression callee) them in
    (value callee it.0, it.1)

-- the arguments of a call and the parts of a comma expression
pub next_part : {unit : c.Unit} {k : ℕ} (e : c.Expression) (es : c.Expressions) → AreUntested unit k (in_expressions (c.an_expression e es))
    → Stands unit as_value k e × AreUntested unit (k + length (in_expression e)) (in_expressions es)
next_part e es s = let it = two (in_expression e) (in_expressions es) (closed.expression e) s in (value e it.0, it.1)

pub comma : {unit : c.Unit} {role : Role} {k : ℕ} {parts : c.Expressions} → Stands unit role k (c.Comma parts) → AreUntested unit (k + 1) (in_expressions parts)
comma {unit} {role} {k} {parts} s = inside_whole (c.Comma parts) (in_expressions parts) refl (record { decision = λ after k. refl; clauses = λ after k. refl }) refl s

pub arrow : {unit : c.Unit} {role : Role} {k : ℕ} {e : c.Expression} {name : List ℕ} → Stands unit role k (c.Arrow e name) → Stands unit as_value (k + 1) e
arrow {unit} {role} {k} {e} {name} s = value e (inside_whole (c.Arrow e name) (in_expression e) refl (record { decision = λ after k. refl; clauses = λ after k. refl }) refl s)

pub cast : {unit : c.Unit} {role : Role} {k : ℕ} {type : c.Specifiers} {d : c.Declarator} {e : c.Expression} → Stands unit role k (c.Cast type d e)
    → Stands unit as_value (k + 1 + length (in_specifiers type) + length (in_declarator d)) e
cast {unit} {role} {k} {type} {d} {e} s =
    let them = inside_whole (c.Cast type d e) (in_specifiers type ++ in_declarator d ++ in_expression e) refl (record { decision = λ after k. refl; clauses = λ after k. refl }) refl s in
    value e (three (in_specifiers type) (in_declarator d) (in_expression e) (closed.specifiers type) (closed.declarator d) them).2

pub binary : {unit : c.Unit} {role : Role} {k : ℕ} {op : Op} {left right : c.Expression} → Stands unit role k (c.Binary op left right)
    → Stands unit as_value (k + 1) left × Stands unit as_value (k + 1 + length (in_expression left)) right
binary {unit} {role} {k} {op} {left} {right} s =
    let them = inside_whole (c.Binary op left right) (in_expression left ++ in_expression right) refl (record { decision = λ after k. refl; clauses = λ after k. refl }) refl s in
    let it = two (in_expression left) (in_expression right) (closed.expression left) them in
    (value left it.0, value right it.1)

-- ---- operands that are places

pub member : {unit : c.Unit} {role : Role} {k : ℕ} {e : c.Expression} {name : List ℕ} → Stands unit role k (c.Member e name) → Stands unit as_place (k + 1) e
member {unit} {role} {k} {e} {name} s =
    operand_place e (inside_whole (c.Member e name) (in_expression e) refl (record { decision = λ after k. refl; clauses = λ after k. refl }) refl s) (no_value (k + 1) e refl s.stand.there)

pub post_increment : {unit : c.Unit} {role : Role} {k : ℕ} {e : c.Expression} → Stands unit role k (c.PostInc e) → Stands unit as_place (k + 1) e
post_increment {unit} {role} {k} {e} s =
    operand_place e (inside_whole (c.PostInc e) (in_expression e) refl (record { decision = λ after k. refl; clauses = λ after k. refl }) refl s) (no_value (k + 1) e refl s.stand.there)

pub post_decrement : {unit : c.Unit} {role : Role} {k : ℕ} {e : c.Expression} → Stands unit role k (c.PostDec e) → Stands unit as_place (k + 1) e
post_decrement {unit} {role} {k} {e} s =
    operand_place e (inside_whole (c.PostDec e) (in_expression e) refl (record { decision = λ after k. refl; clauses = λ after k. refl }) refl s) (no_value (k + 1) e refl s.stand.there)

pub pre_increment : {unit : c.Unit} {role : Role} {k : ℕ} {e : c.Expression} → Stands unit role k (c.PreInc e) → Stands unit as_place (k + 1) e
pre_increment {unit} {role} {k} {e} s =
    operand_place e (inside_whole (c.PreInc e) (in_expression e) refl (record { decision = λ after k. refl; clauses = λ after k. refl }) refl s) (no_value (k + 1) e refl s.stand.there)

pub pre_decrement : {unit : c.Unit} {role : Role} {k : ℕ} {e : c.Expression} → Stands unit role k (c.PreDec e) → Stands unit as_place (k + 1) e
pre_decrement {unit} {role} {k} {e} s =
    operand_place e (inside_whole (c.PreDec e) (in_expression e) refl (record { decision = λ after k. refl; clauses = λ after k. refl }) refl s) (no_value (k + 1) e refl s.stand.there)

pub assignment : {unit : c.Unit} {role : Role} {k : ℕ} {op : Option Op} {target e : c.Expression} → Stands unit role k (c.Assign op target e)
    → Stands unit as_place (k + 1) target × Stands unit as_value (k + 1 + length (in_expression target)) e
assignment {unit} {role} {k} {op} {target} {e} s =
    let them = inside_whole (c.Assign op target e) (in_expression target ++ in_expression e) refl (record { decision = λ after k. refl; clauses = λ after k. refl }) refl s in
    let it = two (in_expression target) (in_expression e) (closed.expression target) them in
    (operand_place target it.0 (no_value (k + 1) target refl s.stand.there), value e it.1)

-- ---- unary operators

-- what is known of `!` at a number is known of its operand
not_tests : (role : Role) (k : ℕ) (e : c.Expression) (what : Tests) (it : Test) (n : ℕ) → tests_as role k (c.Unary unary.Not e) what it → IsAbout it n → k < n → of_test (k + 1) e what it
not_tests role k e what it n h about less = by_tests what (any_test role k (c.Unary unary.Not e) what it h)
  where
    by_tests : (what : Tests) → (after : Option ℕ) × IsBefore after k × IsAmong it (tests_of what after k (c.Unary unary.Not e)) → of_test (k + 1) e what it
    by_tests tests.Decisions (after, before, inl is) = let no_more : n ≤ k = about_first after k (c.Unary unary.Not e) it n before is about in absurd (omega arith)
    by_tests tests.Decisions (after, before, inr i) = absurd i
    by_tests tests.Clauses (after, before, i) = i

-- a controlling expression, or an operand of one, in the tests that it has
pub tested : {unit : c.Unit} {m : ℕ} (e : c.Expression) → RunStands unit m (in_expression e) (of_test m e) → Stands unit in_test m e
tested {unit} {m} e s = record { stand = with_given (tests_as in_test m e) s (λ what it n g about w. (None, tt, g)); place = λ is. absurd cc }

pub negation : {unit : c.Unit} {role : Role} {k : ℕ} {e : c.Expression} → Stands unit role k (c.Unary unary.Not e) → Stands unit in_test (k + 1) e
negation {unit} {role} {k} {e} s =
    tested e (with_given (of_test (k + 1) e) (inside s.stand) (λ what it n g about w.
    let low : k + 1 ≤ n = w.0 in
    elim g [ inl t ↦ not_tests role k e what it n t about (omega arith) | inr i ↦ absurd (subst (IsAmong it) (no_test what k (an_expression (c.Unary unary.Not e)) refl) i) ]))

pub unary_operator : {unit : c.Unit} {role : Role} {k : ℕ} (op : UnaryOp) {e : c.Expression} → Stands unit role k (c.Unary op e) → Stands unit (role_of op) (k + 1) e
unary_operator unary.Not s = negation s
unary_operator {unit} {role} {k} unary.AddressOf {e} s =
    operand_place e (inside_whole (c.Unary unary.AddressOf e) (in_expression e) refl (record { decision = λ after k. refl; clauses = λ after k. refl }) refl s) (no_value (k + 1) e refl s.stand.there)
unary_operator {unit} {role} {k} op {e} s =
    value e (inside_whole (c.Unary op e) (in_expression e) refl (record { decision = λ after k. refl; clauses = λ after k. refl }) refl s)

-- ---- `&&` and `||`

abbrev either_test : ℕ → c.Expression → ℕ → c.Expression → Tests → Test → Type 0
either_test k left j right what it = of_test k left what it ⊎ of_test j right what it

connective_tests : (role : Role) (k : ℕ) (op : LogicalOp) (left right : c.Expression) (what : Tests) (it : Test) (n : ℕ) → tests_as role k (c.Logical op left right) what it → IsAbout it n → k < n
    → either_test (k + 1) left (k + 1 + length (in_expression left)) right what it
connective_tests role k op left right what it n h about less = by_tests what (any_test role k (c.Logical op left right) what it h)
  where
    by_tests : (what : Tests) → (after : Option ℕ) × IsBefore after k × IsAmong it (tests_of what after k (c.Logical op left right)) → either_test (k + 1) left (k + 1 + length (in_expression left)) right what it
    by_tests tests.Decisions (after, before, inl is) = let no_more : n ≤ k = about_first after k (c.Logical op left right) it n before is about in absurd (omega arith)
    by_tests tests.Decisions (after, before, inr i) = absurd i
    by_tests tests.Clauses (after, before, i) = in_either it (tests_of tests.Clauses None (k + 1) left) (tests_of tests.Clauses None (k + 1 + length (in_expression left)) right) i

-- of two tests that stand one behind the other, each is about its own numbers
first_of : {unit : c.Unit} {k j : ℕ} {left right : c.Expression} → k + length (in_expression left) ≤ j → RunStands unit k (in_expression left) (either_test k left j right) → RunStands unit k (in_expression left) (of_test k left)
first_of {unit} {k} {j} {left} {right} apart s =
    with_given (of_test k left) s (λ what it n g about w.
    let high : n < k + length (in_expression left) = w.1 in
    elim g [ inl i ↦ i | inr i ↦ let low : j ≤ n = (within what j right it n i about).0 in absurd (omega arith) ])

second_of : {unit : c.Unit} {k j : ℕ} {left right : c.Expression} → k + length (in_expression left) ≤ j → RunStands unit j (in_expression right) (either_test k left j right) → RunStands unit j (in_expression right) (of_test j right)
second_of {unit} {k} {j} {left} {right} apart s =
    with_given (of_test j right) s (λ what it n g about w.
    let low : j ≤ n = w.0 in
    elim g [ inl i ↦ let high : n < k + length (in_expression left) = (within what k left it n i about).1 in absurd (omega arith) | inr i ↦ i ])

pub connective : {unit : c.Unit} {role : Role} {k : ℕ} {op : LogicalOp} {left right : c.Expression} → Stands unit role k (c.Logical op left right)
    → Stands unit in_test (k + 1) left × Stands unit in_test (k + 1 + length (in_expression left)) right
connective {unit} {role} {k} {op} {left} {right} s =
    let j = k + 1 + length (in_expression left) in
    let them : RunStands unit (k + 1) (in_expression left ++ in_expression right) (either_test (k + 1) left j right) =
    with_given (either_test (k + 1) left j right) (inside s.stand) (λ what it n g about w.
    let low : k + 1 ≤ n = w.0 in
    elim g [ inl t ↦ connective_tests role k op left right what it n t about (omega arith) | inr i ↦ absurd (subst (IsAmong it) (no_test what k (an_expression (c.Logical op left right)) refl) i) ]) in
    (tested left (first_of (omega arith) (front (in_expression left) (in_expression right) them)), tested right (second_of (omega arith) (back (in_expression right) (closed.expression left) them)))

-- ---- `?:`

pub conditional : {unit : c.Unit} {role : Role} {k : ℕ} {test left right : c.Expression} → Stands unit role k (c.Conditional test left right)
    → Stands unit in_test (k + 1) test × Stands unit as_value (k + 1 + length (in_expression test)) left
    × Stands unit as_value (k + 1 + length (in_expression test) + length (in_expression left)) right
conditional {unit} {role} {k} {test} {left} {right} s =
    let e = c.Conditional test left right in
    let whole : IsWhole e = record { decision = λ after k. refl; clauses = λ after k. refl } in
    let them : RunStands unit (k + 1) (in_expression test ++ in_expression left ++ in_expression right) (of_test (k + 1) test) =
    with_given (of_test (k + 1) test) (inside s.stand) (λ what it n g about w.
    let low : k + 1 ≤ n = w.0 in
    elim g [ inl t ↦ absurd (not_behind role k e what it n whole t about (omega arith)) | inr i ↦ subst (IsAmong it) (one_test what k (an_expression e) (k + 1) test refl) i ]) in
    let first = front (in_expression test ++ in_expression left) (in_expression right) them in
    let same : k + 1 + length (in_expression test ++ in_expression left) ≡ k + 1 + length (in_expression test) + length (in_expression left) = omega (arith, length-append (in_expression test) (in_expression left)) in
    let last = behind_test {e = test} (omega (arith, length-append (in_expression test) (in_expression left))) (back (in_expression right) (both (closed.expression test) (closed.expression left)) them) in (
      tested test (front (in_expression test) (in_expression left) first),
      value left (behind_test {e = test} (omega arith) (back (in_expression left) (closed.expression test) first)),
      value right (at_number same last),
    )

-- ---- marks

-- the roles that an expression behind marks has
passed_on : (role : Role) (k j : ℕ) (x e : c.Expression) (what : Tests) (it : Test) → k < j → ((what : Tests) (after : Option ℕ) → tests_of what after j e ≡ tests_of what after k x) → tests_as role k x what it
    → tests_as role j e what it
passed_on in_test k j x e what it less same h = (h.0, later h.0 h.1, subst (IsAmong it) (sym (same what h.0)) h.2)
  where
    later : (after : Option ℕ) → IsBefore after k → IsBefore after j
    later None before = tt
    later (Some a) before = let earlier : a < k = before in omega arith
passed_on in_truth k j x e what it less same h = let earlier : h.0 < k = h.1 in (h.0, omega arith, subst (IsAmong it) (sym (same what (Some h.0))) h.2)
passed_on as_value k j x e what it less same h = h
passed_on as_place k j x e what it less same h = h

pub marked : {unit : c.Unit} {role : Role} {k : ℕ} {ms : c.Marks} {e : c.Expression} → Stands unit role k (c.Marked ms e) → Stands unit role (k + 1 + length (in_marks ms)) e
marked {unit} {role} {k} {ms} {e} s =
    let j = k + 1 + length (in_marks ms) in
    let them = back (in_expression e) (closed.marks ms) (inside s.stand) in
    record {
      stand = with_given (tests_as role j e) them (λ what it n g about w. elim g [
        | inl t ↦ passed_on role k j (c.Marked ms e) e what it (omega arith) (λ what after. in_marked what after k ms e) t
        | inr i ↦ absurd (subst (IsAmong it) (no_test what k (an_expression (c.Marked ms e)) refl) i)
      ]);
      place = s.place;
    }

pub decide : {unit : c.Unit} {role : Role} {k : ℕ} {e : c.Expression} {when_true when_false tag : List ℕ} → Stands unit role k (c.Decide e when_true when_false tag) → Stands unit in_test (k + 1) e
decide {unit} {role} {k} {e} {when_true} {when_false} {tag} s =
    let x = c.Decide e when_true when_false tag in
    record {
      stand = with_given (tests_as in_test (k + 1) e) (inside s.stand) (λ what it n g about w. elim g [
        | inl t ↦ passed_on in_test k (k + 1) x e what it (omega arith) (λ what after. in_decide what after k e when_true when_false tag) (any_test role k x what it t)
        | inr i ↦ absurd (subst (IsAmong it) (no_test what k (an_expression x) refl) i)
      ]);
      place = λ is. absurd cc;
    }

after_tests : (role : Role) (k : ℕ) (e : c.Expression) (id tag : List ℕ) (what : Tests) (it : Test) → tests_as role k (c.After e id tag) what it → tests_as (behind_after role) (k + 1) e what it
after_tests in_test k e id tag what it h = (unwrap_or h.0 k, no_later h.0 h.1, subst (IsAmong it) (sym (inside_after what h.0 k e id tag)) h.2)
  where
    no_later : (after : Option ℕ) → IsBefore after k → unwrap_or after k < k + 1
    no_later None before = omega arith
    no_later (Some a) before = let earlier : a < k = before in omega arith
after_tests in_truth k e id tag what it h = let earlier : h.0 < k = h.1 in (h.0, omega arith, subst (IsAmong it) (sym (inside_after what (Some h.0) k e id tag)) h.2)
after_tests as_value k e id tag what it h = h
after_tests as_place k e id tag what it h = h

place_behind : (role : Role) → behind_after role ≡ as_place → role ≡ as_place
place_behind in_test is = absurd cc
place_behind in_truth is = is
place_behind as_value is = is
place_behind as_place is = refl

pub after : {unit : c.Unit} {role : Role} {k : ℕ} {e : c.Expression} {id tag : List ℕ} → Stands unit role k (c.After e id tag) → Stands unit (behind_after role) (k + 1) e
after {unit} {role} {k} {e} {id} {tag} s = record {
  stand = with_given (tests_as (behind_after role) (k + 1) e) (inside s.stand) (λ what it n g about w. elim g [
    | inl t ↦ after_tests role k e id tag what it t
    | inr i ↦ absurd (subst (IsAmong it) (no_test what k (an_expression (c.After e id tag)) refl) i)
  ]);
  place = λ is. s.place (place_behind role is);
}
