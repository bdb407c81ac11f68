-- The types that are noted of an expression and of its operands are those that typing finds.
use Rattle.std.proofs.Common.{◌≡◌, refl, sym, ap, ◌∙◌, subst, ℕ, ◌+◌, List, [], ◌∷◌, length, Bool, true, false, ◌&&◌, if◌then◌else◌, eqb, Option, Some, None}
use Rattle.std.proofs.lemmas.Bool.{false≢true, eqb-true}
use Rattle.lt_model.specs.declared.scalar.DataModel.{DataModel}
use Rattle.lt_model.specs.declared.operator.Op.{Op}
use Rattle.lt_tree.specs.Tree as c
use Rattle.lt_tree.specs.Nodes.{in_expression}
use Rattle.lt_tree.specs.Typing.Types.{CType, Void, Num, Pointer, Array, Struct, Function, Floating, Qualified, is_integer}
use Rattle.lt_tree.specs.Typing.Entities.{Known, Fact}
use Rattle.lt_tree.specs.Typing.Steps.{Outcome, Goes, Breaks}
use Rattle.lt_tree.specs.Typing.Expressions.{Typed, Use, as_value, as_callee, own_type}
use Rattle.lt_tree.specs.Typing.ExpressionTyping.{expression}
use Rattle.lt_tree.specs.Typing.UnitTyping.{typing_to, answer, IsProgramTo}
use Rattle.lt_tree.specs.Typing.Programs.{Program, typed, program_of}
use Rattle.lt_tree_laws.specs.Typing.NodeNumbers.{PartsAreNumbered, GoesOver}
use Rattle.lt_objectives.specs.declared.criteria.Criterion.{Criterion}
use Rattle.lt_objectives.specs.Places.{unmarked_numbers, corresponding, corresponding_node, fact_among, type_at, value_part}
use Rattle.lt_objectives.specs.Mutants.{is_signed_integer}
use Rattle.lt_objectives.specs.Objectives.{left_type, right_type}
use Rattle.lt_objective_typing.specs.Laws.{TakesIntegers}
use Rattle.lt_typed_nodes.specs.Coming.{ComesToIt, entered, OperandsAreComeTo, WhatIsComeToIsKnown}
use Rattle.lt_objective_marks.specs.Settings.{Setting}
use Rattle.lt_objective_marks.proofs.Given.{Given}
use Rattle.lt_objective_marks.proofs.Ends.{and_left, and_right}

same_found : {A : Type 0} {a b : A} {k j : Known} → Goes a k ≡ Goes b j → (a ≡ b) × (k ≡ j)
same_found e = (cc, cc)

-- ---- numbers of nodes

corresponding_same : (k n : ℕ) (xs : List ℕ) → corresponding k xs xs ≡ Some n → n ≡ k
corresponding_same k n [] is = absurd cc
corresponding_same k n (x ∷ xs) is = by (eqb x k) refl is (corresponding_same k n xs)
  where
    by : (b : Bool) → eqb x k ≡ b → (if b then Some x else corresponding k xs xs) ≡ Some n → (corresponding k xs xs ≡ Some n → n ≡ k) → n ≡ k
    by true e is rest = let same : x ≡ n = cc in sym same ∙ eqb-true x k e
    by false e is rest = rest is

unit_of : (unit : c.Unit) (o : Outcome (Unit {0})) (program : Program) → answer unit o ≡ typed program → program.unit ≡ unit
unit_of unit (Goes a known) program is = let same : program_of unit known ≡ program = cc in ap (λ (it : Program). it.unit) (sym same)
unit_of unit (Breaks rule node) program is = absurd cc

pub program_of_unit : (greatest : ℕ) (model : DataModel) (unit : c.Unit) (program : Program) → IsProgramTo greatest model unit program → program.unit ≡ unit
unfolding typing_to
program_of_unit greatest model unit program is = unit_of unit _ program is

signed_is_integer : (m : DataModel) (t : CType) → is_signed_integer m t ≡ true → is_integer t ≡ true
signed_is_integer m (Num s) is = refl
signed_is_integer m (Qualified q t) is = signed_is_integer m t is
signed_is_integer m Void is = absurd cc
signed_is_integer m (Pointer t) is = absurd cc
signed_is_integer m (Array t n) is = absurd cc
signed_is_integer m (Struct n) is = absurd cc
signed_is_integer m (Function t ts dots) is = absurd cc
signed_is_integer m Floating is = absurd cc

some_same : (facts : List Fact) (n : ℕ) (a b : Fact) → fact_among facts n ≡ Some a → fact_among facts n ≡ Some b → a ≡ b
some_same facts n a b is there = cc

-- the operands of an operator, which are integers by the types that are noted of them
pub record Operands (facts : List Fact) (known : Known) (left right : c.Expression) : Type 0 where
  pub first : ComesToIt facts (entered known) as_value left
  pub second : ComesToIt facts first.behind as_value right
  pub left_integer : is_integer (own_type first.found) ≡ true
  pub right_integer : is_integer (own_type second.found) ≡ true

module _ (greatest : ℕ) (model : DataModel) (unit : c.Unit) (program : Program) (typed_so : IsProgramTo greatest model unit program) where
  -- a type that passes a test is that of a fact
  noted : (test : CType → Bool) → test Void ≡ false → (k : ℕ) → test (type_at unit program k) ≡ true → (fact : Fact) × (fact_among program.facts k ≡ Some fact) × (test fact.type ≡ true)
  noted test void k is = by (corresponding_node unit program k) own is
    where
      own : (n : ℕ) → corresponding_node unit program k ≡ Some n → n ≡ k
      own n there =
          corresponding_same k n (unmarked_numbers unit)
          (subst (λ (u : c.Unit). corresponding k (unmarked_numbers unit) (unmarked_numbers u) ≡ Some n) (program_of_unit greatest model unit program typed_so) there)

      by_fact : (n : ℕ) → n ≡ k → (found : Option Fact) → fact_among program.facts n ≡ found → test (elim (found) as (λ _. CType) [ None ↦ Void | Some fact ↦ fact.type ]) ≡ true
          → (fact : Fact) × (fact_among program.facts k ≡ Some fact) × (test fact.type ≡ true)
      by_fact n same None there is = absurd (false≢true (sym void ∙ is))
      by_fact n same (Some fact) there is = (fact, subst (λ n. fact_among program.facts n ≡ Some fact) same there, is)

      by : (found : Option ℕ) → ((n : ℕ) → found ≡ Some n → n ≡ k)
          → test (elim (elim (found) as (λ _. Option Fact) [ None ↦ None | Some n ↦ fact_among program.facts n ]) as (λ _. CType) [ None ↦ Void | Some fact ↦ fact.type ]) ≡ true
          → (fact : Fact) × (fact_among program.facts k ≡ Some fact) × (test fact.type ≡ true)
      by None own is = absurd (false≢true (sym void ∙ is))
      by (Some n) own is = by_fact n (own n refl) (fact_among program.facts n) refl is

  module _ (numbered : PartsAreNumbered) (operands : OperandsAreComeTo) (known_laws : WhatIsComeToIsKnown) where
    -- an integer, as the value of an operand
    operand_found : (known : Known) (e : c.Expression) (there : ComesToIt program.facts known as_value e) → is_integer (type_at unit program (value_part known.next e).number) ≡ true
        → is_integer (own_type there.found) ≡ true
    operand_found known e there is =
        let fact = noted is_integer refl (value_part known.next e).number is in
        let at = known_laws.1 program.facts known e there in
        let same = some_same program.facts (value_part known.next e).number fact.0 at.0 fact.1 at.1 in
        at.2.integer ∙ subst (λ (it : Fact). is_integer it.type ≡ true) same fact.2

    pub operands_of : (role : Use) (op : Op) (known : Known) (left right : c.Expression) → ComesToIt program.facts known role (c.Binary op left right)
        → is_integer (left_type unit program known.next (c.Binary op left right)) && is_integer (right_type unit program known.next (c.Binary op left right)) ≡ true → Operands program.facts known left right
    operands_of role op known left right there are =
        let both = operands.0 program.facts known role (c.Binary op left right) there in
        let first = both.0 in
        let second = both.1 first.found first.behind first.goes in
        let number : first.behind.next ≡ known.next + 1 + length (in_expression left) = subst (λ o. GoesOver (in_expression left) (entered known) o) first.goes (numbered.0 left as_value (entered known)) in
        record {
          first = first;
          second = second;
          left_integer = operand_found (entered known) left first (and_left _ _ are);
          right_integer = operand_found first.behind right second (subst (λ n. is_integer (type_at unit program (value_part n right).number) ≡ true) (sym number) (and_right _ _ are));
        }

module _ (g : Given) {new : ℕ → Bool} {unit : c.Unit} {program : Program} {criterion : Criterion} {id : ℕ} (s : Setting new unit program criterion id) where
  -- the number behind a first operand
  pub number_behind : (e : c.Expression) (taken : Use) (known : Known) (there : ComesToIt program.facts known taken e) → there.behind.next ≡ known.next + length (in_expression e)
  number_behind e taken known there = subst (λ o. GoesOver (in_expression e) known o) there.goes (g.numbered.0 e taken known)

  -- an integer, as what is read of the expression
  pub integer_found : (known : Known) (e : c.Expression) (there : ComesToIt program.facts known as_value e) → is_integer (type_at unit program known.next) ≡ true → is_integer (own_type there.found) ≡ true
  integer_found known e there is =
      let fact = noted s.greatest s.model unit program s.typed is_integer refl known.next is in
      let at = g.known.0 program.facts known as_value e there in
      let same = some_same program.facts known.next fact.0 _ fact.1 at.2 in
      let integer : is_integer (own_type at.0) ≡ true = subst (λ (it : Fact). is_integer it.type ≡ true) same fact.2 in
      subst (λ (x : Typed). is_integer (own_type x) ≡ true) (sym at.1) ((g.values at.0).integer ∙ integer)

  pub signed_found : (m : DataModel) (known : Known) (e : c.Expression) (there : ComesToIt program.facts known as_value e) → is_signed_integer m (type_at unit program known.next) ≡ true
      → is_integer (own_type there.found) ≡ true
  signed_found m known e there is = integer_found known e there (signed_is_integer m (type_at unit program known.next) is)

  -- so it is where it is called
  pub signed_called : (m : DataModel) (known : Known) (e : c.Expression) (there : ComesToIt program.facts known as_callee e) → is_signed_integer m (type_at unit program known.next) ≡ true
      → is_integer (own_type there.found) ≡ true
  signed_called m known e there is =
      let fact = noted s.greatest s.model unit program s.typed (is_signed_integer m) refl known.next is in
      let at = g.known.0 program.facts known as_callee e there in
      let same = some_same program.facts known.next fact.0 _ fact.1 at.2 in
      let signed : is_signed_integer m (own_type at.0) ≡ true = subst (λ (it : Fact). is_signed_integer m it.type ≡ true) same fact.2 in
      subst (λ (x : Typed). is_integer (own_type x) ≡ true) (sym at.1)
      ((g.values at.0).integer ∙ signed_is_integer m (own_type at.0) signed)

  -- so they are in a unit
  pub integer_operands : (role : Use) (op : Op) (known : Known) (left right : c.Expression) → ComesToIt program.facts known role (c.Binary op left right)
      → is_integer (left_type unit program known.next (c.Binary op left right)) && is_integer (right_type unit program known.next (c.Binary op left right)) ≡ true → Operands program.facts known left right
  integer_operands = operands_of s.greatest s.model unit program s.typed g.numbered g.operands g.known

  -- so are they as they stand
  pub takes_integers : (op : Op) (known : Known) (left right : c.Expression) → ComesToIt program.facts known as_value (c.Binary op left right)
      → is_integer (left_type unit program known.next (c.Binary op left right)) && is_integer (right_type unit program known.next (c.Binary op left right)) ≡ true
      → TakesIntegers known (c.Binary op left right)
  takes_integers op known left right there are x y k j first second =
      let them = integer_operands as_value op known left right there are in
      let left_is = same_found (sym them.first.goes ∙ first) in
      let right_is = same_found (sym them.second.goes ∙ subst (λ n. expression right as_value n ≡ Goes y j) (sym left_is.1) second) in
      both_are (is_integer (own_type x)) (is_integer (own_type y)) (ap (λ t. is_integer (own_type t)) (sym left_is.0) ∙ them.left_integer) (ap (λ t. is_integer (own_type t)) (sym right_is.0) ∙ them.right_integer)
    where
      both_are : (a b : Bool) → a ≡ true → b ≡ true → (a && b) ≡ true
      both_are a b first second = rw (first, second) refl
