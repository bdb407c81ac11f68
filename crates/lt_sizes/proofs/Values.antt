-- The costs of values and lvalues, where their text has so many nodes and these calls.
use Rattle.std.proofs.Common.{◌≡◌, refl, ℕ, pos, ◌+◌, ◌*◌, ◌≤◌, List, Bool, true, false, Option, Some, arith}
use Rattle.std.specs.Prelude.{if◌then◌else◌, ◌||◌}
use Rattle.lt_tree.specs.Typing.Types.{CType, Void, Array, is_struct, is_array, same, unqualified}
use Rattle.lt_tree.specs.Typing.Constants.{Constancy}
use Rattle.lt_tree.specs.Typing.TypedTree as e
use Rattle.lt_tree.specs.Typing.TypedTree.{Value, Place, type_of, type_at}
use Rattle.lt_tree.specs.Typing.Entities.{Function}
use Rattle.lt_tree.specs.Typing.Expressions.{Form, a_value, a_place, a_designator, Typed, Use, valued, varies, value_at, value_in, place_in, read, as_it_is_read, is_read, used, cast_to, converted_to}
use Rattle.lt_code.specs.Costs.{nodes_of, nodes_at, behind, behind_place, calls_in, calls_at}
use Rattle.lt_sizes.proofs.Among.{IsPartOf}

-- a value, as it is and as a test
pub record IsPaid (functions : List Function) (n : ℕ) (calls : List ℕ) (v : Value) : Type 0 where
  pub value : (nodes_of v).value + 6 ≤ 8 * n
  pub test : (nodes_of v).test + 5 ≤ 8 * n
  pub registers : behind v + 4 ≤ 4 * n
  pub among : IsPartOf (calls_in functions v) calls

-- a value that was converted
pub record IsOperand (functions : List Function) (n : ℕ) (calls : List ℕ) (v : Value) : Type 0 where
  pub value : (nodes_of v).value + 5 ≤ 8 * n
  pub registers : behind v + 4 ≤ 4 * n
  pub among : IsPartOf (calls_in functions v) calls

pub record IsPaidPlace (functions : List Function) (n : ℕ) (calls : List ℕ) (p : Place) : Type 0 where
  pub nodes : nodes_at p + 5 ≤ 8 * n
  pub registers : behind_place p + 4 ≤ 4 * n
  pub among : IsPartOf (calls_at functions p) calls

-- A typed expression: only the name of a function gives a function.
pub record IsPaidTyped (functions : List Function) (n : ℕ) (calls : List ℕ) (name : Option (List ℕ)) (x : Typed) : Type 0 where
  pub as_value : IsPaid functions n calls (value_in x)
  pub as_place : IsPaidPlace functions n calls (place_in x)
  pub named : (w : List ℕ) (t : CType) → x.form ≡ a_designator w t → name ≡ Some w

module _ {functions : List Function} {n : ℕ} {calls : List ℕ} where
  -- ---- conversions

  pub operand : {v : Value} → IsPaid functions n calls v → IsOperand functions n calls v
  operand {v} p = record { value = omega arith; registers = p.registers; among = p.among }

  pub converted : {v : Value} (t : CType) → IsPaid functions n calls v → IsOperand functions n calls (converted_to t v)
  converted {v} t p =
      elim (is_struct t || same t (type_of v)) as (λ c. IsOperand functions n calls (if c then v else cast_to t v))
      [ true ↦ operand p | false ↦ record { value = omega arith; registers = p.registers; among = p.among } ]

  -- ---- typed expressions

  pub valued_paid : {name : Option (List ℕ)} {v : Value} {a b : Constancy} → IsPaid functions n calls v → IsPaidTyped functions n calls name (valued v a b)
  valued_paid {name} {v} {a} {b} p = record {
    as_value = p;
    as_place = record { nodes = omega arith; registers = p.registers; among = p.among };
    named = λ w t h. absurd cc;
  }

  whole_or_loaded : (p : Place) (t : CType) → nodes_at p + 7 ≤ 8 * n → behind_place p + 4 ≤ 4 * n → IsPartOf (calls_at functions p) calls
      → IsPaid functions n calls (if is_struct t then e.Whole (unqualified t) p else e.Load (unqualified t) p)
  whole_or_loaded p t h r i =
      elim (is_struct t) as (λ v. IsPaid functions n calls (if v then e.Whole (unqualified t) p else e.Load (unqualified t) p)) [
        | true ↦ record { value = omega arith; test = omega arith; registers = r; among = i }
        | false ↦ record { value = omega arith; test = omega arith; registers = r; among = i }
      ]

  value_at_paid : (p : Place) (t : CType) → nodes_at p + 7 ≤ 8 * n → behind_place p + 4 ≤ 4 * n → IsPartOf (calls_at functions p) calls → IsPaid functions n calls (value_at t p)
  value_at_paid p (Array t k) h r i = record { value = omega arith; test = omega arith; registers = r; among = i }
  value_at_paid p t h r i = whole_or_loaded p t h r i

  pub placed_paid : {name : Option (List ℕ)} (p : Place) (c d : Constancy) (is_register is_after : Bool) → nodes_at p + 7 ≤ 8 * n → behind_place p + 4 ≤ 4 * n → IsPartOf (calls_at functions p) calls
      → IsPaidTyped functions n calls name (record { form = a_place p; is_register = is_register; is_after = is_after; constancy = c; erased = d })
  placed_paid {name} p c d is_register is_after h r i = record {
    as_value = value_at_paid p (type_at p) h r i;
    as_place = record { nodes = omega arith; registers = r; among = i };
    named = λ w t h. absurd cc;
  }

  -- what is read of a place
  read_paid : {name : Option (List ℕ)} (p : Place) (x : Typed) → IsPaid functions n calls (value_at (type_at p) p) → IsPaidTyped functions n calls name (read p x)
  read_paid {name} p x h =
      elim (is_array (type_at p)) as (λ v. IsPaidTyped functions n calls name (if v then record x { form = a_value (value_at (type_at p) p) } else varies (value_at (type_at p) p))) [
        | true ↦ record { as_value = h; as_place = record { nodes = omega (arith, h.value); registers = h.registers; among = h.among }; named = λ w t h. absurd cc }
        | false ↦ valued_paid h
      ]

  form_read : {name : Option (List ℕ)} (f : Form) (x : Typed) → x.form ≡ f → IsPaidTyped functions n calls name x
      → IsPaidTyped functions n calls name (elim f [ a_value v ↦ x | a_place place ↦ read place x | a_designator w t ↦ x ])
  form_read (a_value v) x is p = p
  form_read (a_place place) x is p =
      let as_value : IsPaid functions n calls (elim (x.form) [ a_value v ↦ v | a_place place ↦ value_at (type_at place) place | a_designator w t ↦ e.Constant Void (pos 0) ]) = p.as_value in
      read_paid place x (rw is at as_value)
  form_read (a_designator w t) x is p = p

  pub read_typed : {name : Option (List ℕ)} {x : Typed} → IsPaidTyped functions n calls name x → IsPaidTyped functions n calls name (as_it_is_read x)
  read_typed {name} {x} p = form_read x.form x refl p

  pub used_paid : {name : Option (List ℕ)} (role : Use) {x : Typed} → IsPaidTyped functions n calls name x → IsPaidTyped functions n calls name (used role x)
  used_paid {name} role {x} p = elim (is_read role) as (λ v. IsPaidTyped functions n calls name (if v then as_it_is_read x else x)) [ true ↦ read_typed p | false ↦ p ]
