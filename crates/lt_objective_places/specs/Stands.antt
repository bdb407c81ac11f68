-- Where nodes stand in a unit, for one who goes from parent to child: what is known there of decisions and clauses, and of places.
use Rattle.std.specs.Prelude.{◌≡◌, ◌⊎◌, ℕ, ◌+◌, ◌<◌, ◌≤◌, Bool, true, false, List, [], ◌∷◌, ◌++◌, length, drop, Option, Some, None}
use Rattle.std.specs.List.{flat_map}
use Rattle.lt_tree.specs.Tree as c
use Rattle.lt_tree.specs.Nodes.{Node, in_expression, nodes}
use Rattle.lt_tree.specs.Typing.Programs.{Program}
use Rattle.lt_objectives.specs.declared.criteria.Criterion.{Criterion}
use Rattle.lt_objectives.specs.Places.{core, sites_from, is_open, is_value_position}
use Rattle.lt_objectives.specs.Decisions.{Test, decisions, clauses}
use Rattle.lt_objectives.specs.Copies.{is_core}
use Rattle.lt_objectives.specs.Objectives.{Form, at_start, in_front, around, Objective, decided_at, at_expression}
use Rattle.lt_decisions.specs.declared.turn.Tests.{Tests}
use Rattle.lt_decisions.specs.Walk.{tests_of, tests_at, tests_in}

-- it is one of these
abbrev pub IsAmong : {X : Type 0} → X → List X → Type 0
IsAmong x [] = ⊥
IsAmong x (y ∷ ys) = (y ≡ x) ⊎ IsAmong x ys

-- a number is one of so many from the first
abbrev pub IsWithin : ℕ → ℕ → ℕ → Type 0
IsWithin first size n = (first ≤ n) × (n < first + size)

-- ---- runs of nodes

-- from this number on the nodes of the unit are these, and others
pub record GoOn (unit : c.Unit) (k : ℕ) (xs : List Node) : Type 0 where
  pub behind : List Node
  pub are : drop k (nodes unit) ≡ xs ++ behind

-- a test is about the number of its core, and about that of what a new `pc_decide` stands around
abbrev pub IsAbout : Test → ℕ → Type 0
IsAbout it n = (it.core.number ≡ n) ⊎ (it.decided ≡ n)

-- the tests of controlling expressions of these nodes
abbrev pub tests_among : Tests → ℕ → List Node → List Test
tests_among what k xs = flat_map (tests_at what) (sites_from k xs)

-- These nodes stand in the unit from this number on; and of the tests of the unit only those that are given, and those of the nodes' own controlling
-- expressions, are about one of them.
pub record RunStands (unit : c.Unit) (k : ℕ) (xs : List Node) (given : Tests → Test → Type 0) : Type 0 where
  pub there : GoOn unit k xs
  pub tests : (what : Tests) (it : Test) (n : ℕ) → IsAmong it (tests_in what unit) → IsAbout it n → IsWithin k (length xs) n
      → given what it ⊎ IsAmong it (tests_among what k xs)

abbrev pub none : Tests → Test → Type 0
none what it = ⊥

-- no test from around is about these nodes
abbrev pub AreUntested : c.Unit → ℕ → List Node → Type 0
AreUntested unit k xs = RunStands unit k xs none

-- ---- expressions

-- What is taken of an expression: its truth, as of a controlling expression and of an operand of `&&`, `||` and `!`; its truth behind a `pc_after`, which
-- may be what is tested; its value; or the object that it stands for.
pub data Role : Type 0 where
  in_test : Role
  in_truth : Role
  as_value : Role
  as_place : Role

-- a `pc_after` begins before this number, if there is one
abbrev pub IsBefore : Option ℕ → ℕ → Type 0
IsBefore None k = Unit {0}
IsBefore (Some a) k = a < k

-- the tests that an expression at this number may be, or have as operands
abbrev pub tests_as : Role → ℕ → c.Expression → Tests → Test → Type 0
tests_as in_test k e what it = (after : Option ℕ) × IsBefore after k × IsAmong it (tests_of what after k e)
tests_as in_truth k e what it = (a : ℕ) × (a < k) × IsAmong it (tests_of what (Some a) k e)
tests_as as_value k e what it = ⊥
tests_as as_place k e what it = ⊥

-- An expression stands in the unit at this number, in this role.
pub record Stands (unit : c.Unit) (role : Role) (k : ℕ) (e : c.Expression) : Type 0 where
  pub stand : RunStands unit k (in_expression e) (tests_as role k e)
  pub place : role ≡ as_place → is_value_position unit (core k e).number ≡ false

-- what is taken of the operand of a `pc_after`
abbrev pub behind_after : Role → Role
behind_after in_test = in_truth
behind_after role = role

-- ---- objectives

-- no label stands at so many nodes from this number on
abbrev pub AreClosed : c.Unit → Program → ℕ → ℕ → Type 0
AreClosed unit program k size = (n : ℕ) → IsWithin k size n → is_open unit program n ≡ false

-- no test has its core at this number
abbrev pub IsNoTest : c.Unit → ℕ → Type 0
IsNoTest unit k = (decided_at (decisions unit) k ≡ None) × (decided_at (clauses unit) k ≡ None)

-- Labels may stand in front of an expression, without its marks, at this number in this role: of tests, and of values that are none.
abbrev pub CanBeMarked : c.Unit → ℕ → Role → Type 0
CanBeMarked unit k in_test = Unit {0}
CanBeMarked unit k in_truth = Unit {0}
CanBeMarked unit k as_value = (is_value_position unit k ≡ true) × IsNoTest unit k
CanBeMarked unit k as_place = ⊥

-- a new `pc_decide` stands around no other, and around no labels
abbrev pub can_be_decided : c.Expression → Bool
can_be_decided (c.Marked marks e) = false
can_be_decided (c.Decide e when_true when_false tag) = false
can_be_decided e = true

-- The objective is one at the expression that begins at this number, and this has a role in which it may: in front of the expression, which is no mark; or
-- around it, of the expression without the marks around it.
abbrev pub MayStand : c.Unit → Program → Criterion → Role → ℕ → c.Expression → Objective → Form → Type 0
MayStand unit program criterion role k e it at_start = ⊥
MayStand unit program criterion role k e it in_front =
    (is_core e ≡ true) × (is_open unit program k ≡ true) × CanBeMarked unit k role × IsAmong it (at_expression unit program criterion k e)
MayStand unit program criterion role k e it around =
    let inner = core k e in
    (role ≡ in_test) × (can_be_decided e ≡ true) × (is_core inner.expression ≡ true) × (is_open unit program inner.number ≡ true) × IsAmong it (at_expression unit program criterion inner.number inner.expression)
