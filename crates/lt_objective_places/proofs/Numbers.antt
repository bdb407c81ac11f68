-- The numbers that the tests of an expression are about.
use Rattle.std.proofs.Common.{◌≡◌, ◌⊎◌, inl, inr, refl, sym, ap, ◌∙◌, subst, ℕ, suc, ◌+◌, ◌<◌, ◌≤◌, List, [], ◌∷◌, ◌++◌, length, Option, Some, None, unwrap_or, length-append, arith}
use Rattle.lt_tree.specs.declared.expression.UnaryOp.TheVariants as unary
use Rattle.lt_tree.specs.Tree as c
use Rattle.lt_tree.specs.Nodes.{Node, in_expression, in_marks}
use Rattle.lt_objectives.specs.Places.{part, core as core_of}
use Rattle.lt_objectives.specs.Decisions.{Test, test_at, in_after, decision_of, clauses_of}
use Rattle.lt_decisions.specs.declared.turn.Tests.{Tests}
use Rattle.lt_decisions.specs.declared.turn.Tests.TheVariants as tests
use Rattle.lt_sites.proofs.Nodes.{expression_node}
use Rattle.lt_decisions.specs.Walk.{tests_of}
use Rattle.lt_objective_places.specs.Stands.{IsAmong, IsWithin, IsAbout}
use Rattle.lt_objective_places.proofs.Among.{in_either}

-- a number is one of so many from the first, but not the first
abbrev pub IsInside : ℕ → ℕ → ℕ → Type 0
IsInside k size n = (k < n) × (n < k + size)

-- What a test of an expression at a number is about: the expression's core, decided at the outermost `pc_after`; or what is decided stands behind the first
-- node.
pub record IsOf (after : Option ℕ) (k : ℕ) (e : c.Expression) (it : Test) : Type 0 where
  pub core : IsWithin k (length (in_expression e)) it.core.number
  pub decided : ((it.decided ≡ unwrap_or after k) × (it.core ≡ core_of k e)) ⊎ IsInside k (length (in_expression e)) it.decided

-- in a larger expression
larger : (j k size more n : ℕ) → k ≤ j → j + size ≤ k + more → IsWithin j size n → IsWithin k more n
larger j k size more n first last h = let low : j ≤ n = h.0 in let high : n < j + size = h.1 in (omega arith, omega arith)

inside : (j k size more n : ℕ) → k ≤ j → j + size ≤ k + more → IsInside j size n → IsInside k more n
inside j k size more n first last h = let low : j < n = h.0 in let high : n < j + size = h.1 in (omega arith, omega arith)

at_first : (j k size more n m : ℕ) → k < j → j + size ≤ k + more → IsWithin j size m → n ≡ j → IsInside k more n
at_first j k size more n m first last h is = let low : j ≤ m = h.0 in let high : m < j + size = h.1 in (omega (arith, is), omega (arith, is))

-- a test of an expression that stands in a larger one
operand_decided : (j k more : ℕ) (e : c.Expression) (it : Test) → k < j → j + length (in_expression e) ≤ k + more → IsWithin j (length (in_expression e)) it.core.number
    → ((it.decided ≡ j) × (it.core ≡ core_of j e)) ⊎ IsInside j (length (in_expression e)) it.decided → IsInside k more it.decided
operand_decided j k more e it first last h (inl is) = at_first j k (length (in_expression e)) more it.decided it.core.number first last h is.0
operand_decided j k more e it first last h (inr i) = let before : k ≤ j = omega arith in inside j k (length (in_expression e)) more it.decided before last i

pub operand : (j k : ℕ) (after : Option ℕ) (x e : c.Expression) (it : Test) → k < j → j + length (in_expression e) ≤ k + length (in_expression x) → IsOf None j e it → IsOf after k x it
operand j k after x e it first last h =
    let before : k ≤ j = omega arith in
    record {
      core = larger j k (length (in_expression e)) (length (in_expression x)) it.core.number before last h.core;
      decided = inr (operand_decided j k (length (in_expression x)) e it first last h.core h.decided);
    }

-- an expression behind marks, with the same that is decided
same_decided : (j k a b : ℕ) (x e : c.Expression) (it : Test) → k < j → j + length (in_expression e) ≤ k + length (in_expression x) → core_of j e ≡ core_of k x → a ≡ b
    → ((it.decided ≡ a) × (it.core ≡ core_of j e)) ⊎ IsInside j (length (in_expression e)) it.decided
    → ((it.decided ≡ b) × (it.core ≡ core_of k x)) ⊎ IsInside k (length (in_expression x)) it.decided
same_decided j k a b x e it first last core same (inl is) = inl (is.0 ∙ same, is.1 ∙ core)
same_decided j k a b x e it first last core same (inr i) = let before : k ≤ j = omega arith in inr (inside j k (length (in_expression e)) (length (in_expression x)) it.decided before last i)

same : (j k : ℕ) (other after : Option ℕ) (x e : c.Expression) (it : Test) → k < j → j + length (in_expression e) ≤ k + length (in_expression x) → core_of j e ≡ core_of k x
    → unwrap_or other j ≡ unwrap_or after k → IsOf other j e it → IsOf after k x it
same j k other after x e it first last core decided h =
    let before : k ≤ j = omega arith in
    record {
      core = larger j k (length (in_expression e)) (length (in_expression x)) it.core.number before last h.core;
      decided = same_decided j k (unwrap_or other j) (unwrap_or after k) x e it first last core decided h.decided;
    }

behind : (j k : ℕ) (after : Option ℕ) (x e : c.Expression) (it : Test) → k < j → j + length (in_expression e) ≤ k + length (in_expression x) → core_of j e ≡ core_of k x → IsOf after j e it → IsOf after k x it
behind j k None x e it first last core h = operand j k None x e it first last h
behind j k (Some a) x e it first last core h = same j k (Some a) (Some a) x e it first last core refl h

-- the expression itself
itself : (after : Option ℕ) (k : ℕ) (e : c.Expression) → core_of k e ≡ part k e → IsOf after k e (test_at after k e)
itself after k e core = let some : k < k + length (in_expression e) = omega (arith, ap length (expression_node e)) in record { core = (omega arith, some); decided = inl (refl, sym core) }

alone : (after : Option ℕ) (k : ℕ) (e : c.Expression) (it : Test) → core_of k e ≡ part k e → IsAmong it (test_at after k e ∷ []) → IsOf after k e it
alone after k e it core (inl is) = subst (IsOf after k e) is (itself after k e core)
alone after k e it core (inr i) = absurd i

fits : (k : ℕ) (xs ys : List Node) → k + 1 + length xs + length ys ≤ k + suc (length (xs ++ ys))
fits k xs ys = omega (arith, length-append xs ys)

first_fits : (k : ℕ) (xs ys : List Node) → k + 1 + length xs ≤ k + suc (length (xs ++ ys))
first_fits k xs ys = omega (arith, length-append xs ys)

decision : (after : Option ℕ) (k : ℕ) (e : c.Expression) → IsOf after k e (decision_of after k e)
decision after k (c.Marked ms e) =
    let j = k + 1 + length (in_marks ms) in
    behind j k after (c.Marked ms e) e (decision_of after j e) (omega arith) (fits k (in_marks ms) (in_expression e)) refl (decision after j e)
decision after k (c.Decide e when_true when_false tag) =
    behind (k + 1) k after (c.Decide e when_true when_false tag) e (decision_of after (k + 1) e) (omega arith) (omega arith) refl (decision after (k + 1) e)
decision after k (c.After e id tag) =
    same (k + 1) k (in_after after k) after (c.After e id tag) e (decision_of (in_after after k) (k + 1) e) (omega arith) (omega arith) refl refl (decision (in_after after k) (k + 1) e)
decision after k e = itself after k e refl

clause : (after : Option ℕ) (k : ℕ) (e : c.Expression) (it : Test) → IsAmong it (clauses_of after k e) → IsOf after k e it
clause after k (c.Logical op left right) it h =
    let j = k + 1 + length (in_expression left) in
    elim (in_either it (clauses_of None (k + 1) left) (clauses_of None j right) h) [
      | inl i ↦ operand (k + 1) k after (c.Logical op left right) left it (omega arith) (first_fits k (in_expression left) (in_expression right)) (clause None (k + 1) left it i)
      | inr i ↦ operand j k after (c.Logical op left right) right it (omega arith) (fits k (in_expression left) (in_expression right)) (clause None j right it i)
    ]
clause after k (c.Unary unary.Not e) it h = operand (k + 1) k after (c.Unary unary.Not e) e it (omega arith) (omega arith) (clause None (k + 1) e it h)
clause after k (c.Marked ms e) it h =
    let j = k + 1 + length (in_marks ms) in behind j k after (c.Marked ms e) e it (omega arith) (fits k (in_marks ms) (in_expression e)) refl (clause after j e it h)
clause after k (c.Decide e when_true when_false tag) it h =
    behind (k + 1) k after (c.Decide e when_true when_false tag) e it (omega arith) (omega arith) refl (clause after (k + 1) e it h)
clause after k (c.After e id tag) it h = same (k + 1) k (in_after after k) after (c.After e id tag) e it (omega arith) (omega arith) refl refl (clause (in_after after k) (k + 1) e it h)
clause after k e it h = alone after k e it refl h

pub is_of : (what : Tests) (after : Option ℕ) (k : ℕ) (e : c.Expression) (it : Test) → IsAmong it (tests_of what after k e) → IsOf after k e it
is_of tests.Decisions after k e it (inl is) = subst (IsOf after k e) is (decision after k e)
is_of tests.Decisions after k e it (inr i) = absurd i
is_of tests.Clauses after k e it h = clause after k e it h

-- a test that stands in no `pc_after` from around is about the expression's own numbers
pub within : (what : Tests) (k : ℕ) (e : c.Expression) (it : Test) (n : ℕ) → IsAmong it (tests_of what None k e) → IsAbout it n → IsWithin k (length (in_expression e)) n
within what k e it n h about = by_number k (length (in_expression e)) it n (is_of what None k e it h).core (decided_within k e it (is_of what None k e it h)) about
  where
    decided_by : (k : ℕ) (e : c.Expression) (it : Test) → IsWithin k (length (in_expression e)) it.core.number → ((it.decided ≡ k) × (it.core ≡ core_of k e)) ⊎ IsInside k (length (in_expression e)) it.decided
        → IsWithin k (length (in_expression e)) it.decided
    decided_by k e it core (inl is) = let low : k ≤ it.core.number = core.0 in let high : it.core.number < k + length (in_expression e) = core.1 in (omega (arith, is.0), omega (arith, is.0))
    decided_by k e it core (inr i) = let low : k < it.decided = i.0 in (omega arith, i.1)

    decided_within : (k : ℕ) (e : c.Expression) (it : Test) → IsOf None k e it → IsWithin k (length (in_expression e)) it.decided
    decided_within k e it h = decided_by k e it h.core h.decided

    by_number : (k size : ℕ) (it : Test) (n : ℕ) → IsWithin k size it.core.number → IsWithin k size it.decided → IsAbout it n → IsWithin k size n
    by_number k size it n core decided (inl is) = subst (IsWithin k size) is core
    by_number k size it n core decided (inr is) = subst (IsWithin k size) is decided
