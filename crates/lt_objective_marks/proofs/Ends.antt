-- How nodes end whose typing goes on.
use Rattle.std.proofs.Common.{◌≡◌, refl, sym, ap, ◌∙◌, ℕ, List, [], ◌∷◌, ◌++◌, Bool, true, false, not, ◌&&◌, ◌||◌, length}
use Rattle.std.specs.Prelude.{nat_lt}
use Rattle.lt_tree.specs.Typing.Types.{CType, Void, Num, Pointer, Array, Struct, Function, Floating, Qualified, is_scalar, is_integer, is_pointer, is_function, is_floating, is_pointer_to_function, element}
use Rattle.lt_tree.specs.Typing.Extents.{Structs, most_cells, type_cells, has_too_many_cells, struct_cells}
use Rattle.lt_tree.specs.Typing.Rules.{Rule, unless, least}
use Rattle.lt_tree.specs.Typing.Entities.{Known}
use Rattle.lt_tree.specs.Typing.Steps.{Outcome, Goes, Breaks, goes_on, unless_broken}
use Rattle.lt_tree.specs.Typing.Expressions.{Typed, Use, Judged, used, fact_of, faults_of_any, finish, has_floating, has_pointer_to_function}
use Rattle.lt_mark_typing.specs.Placed.{is_good_type}

-- ---- rules that aren't broken

pub left_empty : (xs ys : List Rule) → xs ++ ys ≡ [] → xs ≡ []
left_empty [] ys h = refl
left_empty (x ∷ xs) ys h = absurd cc

pub right_empty : (xs ys : List Rule) → xs ++ ys ≡ [] → ys ≡ []
right_empty [] ys h = h
right_empty (x ∷ xs) ys h = absurd cc

pub unless_true : (b : Bool) (rule : Rule) → unless b rule ≡ [] → b ≡ true
unless_true true rule h = refl
unless_true false rule h = absurd cc

pub and_left : (a b : Bool) → (a && b) ≡ true → a ≡ true
and_left true b h = refl
and_left false b h = absurd cc

pub and_right : (a b : Bool) → (a && b) ≡ true → b ≡ true
and_right true b h = h
and_right false b h = absurd cc

-- ---- the end of a node

-- what is found at its end
pub record Ended (k : Known) (node : ℕ) (role : Use) (it : Judged) (x : Typed) (behind : Known) : Type 0 where
  pub rules : it.faults ≡ []
  pub any : faults_of_any k.structs role it.typed ≡ []
  pub found : x ≡ used role it.typed
  pub next : behind ≡ record k { facts = k.facts ++ fact_of node it.typed ∷ [] }

ended_by : (k : Known) (node : ℕ) (role : Use) (it : Judged) (x : Typed) (behind : Known) (rules : List Rule) → it.faults ++ faults_of_any k.structs role it.typed ≡ rules
    → goes_on (unless_broken (least rules) node k) (λ u j. Goes (used role it.typed) (record j { facts = j.facts ++ fact_of node it.typed ∷ [] })) ≡ Goes x behind → Ended k node role it x behind
ended_by k node role it x behind [] none is = record {
  rules = left_empty it.faults (faults_of_any k.structs role it.typed) none;
  any = right_empty it.faults (faults_of_any k.structs role it.typed) none;
  found = cc;
  next = cc;
}
ended_by k node role it x behind (rule ∷ rules) none is = absurd cc

pub ended : (k : Known) (node : ℕ) (role : Use) (it : Judged) (x : Typed) (behind : Known) → finish node role it k ≡ Goes x behind → Ended k node role it x behind
unfolding finish
ended k node role it x behind is = ended_by k node role it x behind (it.faults ++ faults_of_any k.structs role it.typed) refl is

-- what goes on behind a part
pub through : {A B : Type 0} {o : Outcome A} (rest : A → Known → Outcome B) {a : A} {k : Known} {r : Outcome B} → o ≡ Goes a k → goes_on o rest ≡ r → rest a k ≡ r
through rest is h = sym (ap (λ o. goes_on o rest) is) ∙ h

-- a part goes on where what stands behind it does
pub part_goes : {A B : Type 0} (o : Outcome A) (rest : A → Known → Outcome B) {b : B} {end : Known} → goes_on o rest ≡ Goes b end → (a : A) × (k : Known) × (o ≡ Goes a k)
part_goes (Goes a k) rest is = (a, k, refl)
part_goes (Breaks rule node) rest is = absurd cc

pub same_found : {A : Type 0} {o : Outcome A} {a b : A} {k j : Known} → o ≡ Goes a k → o ≡ Goes b j → a ≡ b
same_found is there = cc

pub same_behind : {A : Type 0} {o : Outcome A} {a b : A} {k j : Known} → o ≡ Goes a k → o ≡ Goes b j → k ≡ j
same_behind is there = cc

-- ---- types

-- a scalar is no array
element_itself : (t : CType) → is_scalar t ≡ true → element t ≡ t
element_itself (Array t n) scalar = absurd cc
element_itself Void scalar = refl
element_itself (Num s) scalar = refl
element_itself (Pointer t) scalar = refl
element_itself (Struct n) scalar = refl
element_itself (Function t ts dots) scalar = refl
element_itself Floating scalar = refl
element_itself (Qualified q t) scalar = refl

no_floating : (t : CType) → is_scalar t ≡ true → is_floating t ≡ false
no_floating (Qualified q t) scalar = no_floating t scalar
no_floating Floating scalar = absurd cc
no_floating Void scalar = refl
no_floating (Num s) scalar = refl
no_floating (Pointer t) scalar = refl
no_floating (Array t n) scalar = refl
no_floating (Struct n) scalar = refl
no_floating (Function t ts dots) scalar = refl

one_cell : (f : ℕ → ℕ) (t : CType) → is_scalar t ≡ true → type_cells f t ≡ 1
one_cell f (Num s) scalar = refl
one_cell f (Pointer t) scalar = refl
one_cell f (Qualified q t) scalar = one_cell f t scalar
one_cell f Void scalar = absurd cc
one_cell f (Array t n) scalar = absurd cc
one_cell f (Struct n) scalar = absurd cc
one_cell f (Function t ts dots) scalar = absurd cc
one_cell f Floating scalar = absurd cc

good_by : (a b c : Bool) → a ≡ false → b ≡ false → c ≡ false → (not a && not b && not c) ≡ true
good_by a b c p q r = rw (p, q, r) refl

-- a scalar is good, if it is no pointer to a function
pub good_scalar : (structs : Structs) (t : CType) → is_scalar t ≡ true → has_pointer_to_function t ≡ false → is_good_type structs t ≡ true
good_scalar structs t scalar none =
    good_by (has_floating t) (has_too_many_cells structs t) (has_pointer_to_function t)
    (ap is_floating (element_itself t scalar) ∙ no_floating t scalar)
    (ap (nat_lt most_cells) (one_cell (struct_cells structs (length structs)) t scalar)) none

pub integer_is_scalar : (t : CType) → is_integer t ≡ true → is_scalar t ≡ true
integer_is_scalar t is = ap (λ b. b || is_pointer t) is

points_nowhere : (t : CType) → is_integer t ≡ true → is_pointer_to_function t ≡ false
points_nowhere (Num s) is = refl
points_nowhere (Qualified q t) is = points_nowhere t is
points_nowhere Void is = absurd cc
points_nowhere (Pointer t) is = absurd cc
points_nowhere (Array t n) is = absurd cc
points_nowhere (Struct n) is = absurd cc
points_nowhere (Function t ts dots) is = absurd cc
points_nowhere Floating is = absurd cc

pub integer_is_no_function : (t : CType) → is_integer t ≡ true → has_pointer_to_function t ≡ false
integer_is_no_function t is = ap is_pointer_to_function (element_itself t (integer_is_scalar t is)) ∙ points_nowhere t is

pub no_function_is_integer : (t : CType) → is_integer t ≡ true → is_function t ≡ true → ⊥
no_function_is_integer (Function t ts dots) is there = cc
no_function_is_integer (Num s) is there = cc
no_function_is_integer (Qualified q t) is there = cc
no_function_is_integer Void is there = cc
no_function_is_integer (Pointer t) is there = cc
no_function_is_integer (Array t n) is there = cc
no_function_is_integer (Struct n) is there = cc
no_function_is_integer Floating is there = cc
