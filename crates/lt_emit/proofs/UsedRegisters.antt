-- The code of an expression, whose value goes to a register, has that register.
use Rattle.std.proofs.Common.{ℕ, ◌<◌, arith}
use Rattle.lt_tree.specs.declared.expression.LogicalOp.TheVariants as logical
use Rattle.lt_tree.specs.Typing.TypedTree as e
use Rattle.lt_meaning.specs.Expressions.{Fate, of_last, wanted}
use Rattle.lt_code.specs.Code.{Site, value_code, test_code, place_of}

mutual
  pub value_uses : (s : Site) (fate : Fate) (v : e.Value) (r from to : ℕ) → value_code s fate v r from to → r < s.registers
  value_uses s fate (e.Constant t z) r from to code = code.0
  value_uses s fate (e.Load t p) r from to code = code.0
  value_uses s fate (e.Whole t p) r from to code = place_uses s p r from to code
  value_uses s fate (e.Decay t p) r from to code = place_uses s p r from to code
  value_uses s fate (e.AddressOf t p) r from to code = place_uses s p r from to code
  value_uses s fate (e.Convert e.to_integer t v) r from to code = code.0
  value_uses s fate (e.Convert e.to_truth t v) r from to code = code.0
  value_uses s fate (e.Convert e.to_null t v) r from to code = code.0
  value_uses s fate (e.Convert e.to_pointer t v) r from to code = code.0
  value_uses s fate (e.Convert e.to_void t v) r from to code = code.0
  value_uses s fate (e.Minus t v) r from to code = omega (arith, code.0)
  value_uses s fate (e.Complement t v) r from to code = omega (arith, code.0)
  value_uses s fate (e.Not t v) r from to code = code.0
  value_uses s fate (e.Arithmetic t op k a b) r from to code = omega (arith, code.0)
  value_uses s fate (e.Move t op size side a b) r from to code = omega (arith, code.0)
  value_uses s fate (e.Distance t size a b) r from to code = omega (arith, code.0)
  value_uses s fate (e.Compare t op a b) r from to code = omega (arith, code.0)
  value_uses s fate (e.Logical t op a b) r from to code = code.0
  value_uses s fate (e.Conditional t test a b) r from to code = omega (arith, code.0)
  value_uses s fate (e.Assign t p v) r from to code = omega (arith, code.0)
  value_uses s fate (e.Update t op k p v) r from to code = omega (arith, code.0)
  value_uses s fate (e.UpdatePointer t op size p v) r from to code = omega (arith, code.0)
  value_uses s fate (e.Step t when op k p) r from to code = omega (arith, code.0)
  value_uses s fate (e.StepPointer t when op size p) r from to code = omega (arith, code.0)
  value_uses s fate (e.Call t name vs) r from to code = code.0
  value_uses s fate (e.Comma t e.no_values) r from to code = code.0
  value_uses s fate (e.Comma t (e.a_value v vs)) r from to code = code.0
  value_uses s fate (e.Marked t ms v) r from to code = value_uses s (of_last fate) v r code.0 to code.2
  value_uses s fate (e.Decide t v when_true when_false) r from to code = code.0
  value_uses s fate (e.After t v id) r from to code = value_uses s (of_last fate) v r from code.0 code.1

  place_uses : (s : Site) (p : e.Place) (r from to : ℕ) → place_of s p r from to → r < s.registers
  place_uses s (e.Object t n) r from to code = code.0
  place_uses s (e.Pointed t v) r from to code = code.0
  place_uses s (e.Element t size side a b) r from to code = omega (arith, code.0)
  place_uses s (e.Part t offset p) r from to code = code.0
  place_uses s (e.Held t v) r from to code = code.0

pub test_uses : (s : Site) (v : e.Value) (r from on off : ℕ) → test_code s v r from on off → r < s.registers
test_uses s (e.Constant t z) r from on off code = value_uses s wanted (e.Constant t z) r from code.0 code.1
test_uses s (e.Load t p) r from on off code = value_uses s wanted (e.Load t p) r from code.0 code.1
test_uses s (e.Whole t p) r from on off code = value_uses s wanted (e.Whole t p) r from code.0 code.1
test_uses s (e.Decay t p) r from on off code = value_uses s wanted (e.Decay t p) r from code.0 code.1
test_uses s (e.AddressOf t p) r from on off code = value_uses s wanted (e.AddressOf t p) r from code.0 code.1
test_uses s (e.Convert e.to_integer t v) r from on off code = value_uses s wanted (e.Convert e.to_integer t v) r from code.0 code.1
test_uses s (e.Convert e.to_truth t v) r from on off code = value_uses s wanted (e.Convert e.to_truth t v) r from code.0 code.1
test_uses s (e.Convert e.to_null t v) r from on off code = value_uses s wanted (e.Convert e.to_null t v) r from code.0 code.1
test_uses s (e.Convert e.to_pointer t v) r from on off code = value_uses s wanted (e.Convert e.to_pointer t v) r from code.0 code.1
test_uses s (e.Convert e.to_void t v) r from on off code = value_uses s wanted (e.Convert e.to_void t v) r from code.0 code.1
test_uses s (e.Minus t v) r from on off code = value_uses s wanted (e.Minus t v) r from code.0 code.1
test_uses s (e.Complement t v) r from on off code = value_uses s wanted (e.Complement t v) r from code.0 code.1
test_uses s (e.Not t v) r from on off code = test_uses s v r from off on code
test_uses s (e.Arithmetic t op k a b) r from on off code = value_uses s wanted (e.Arithmetic t op k a b) r from code.0 code.1
test_uses s (e.Move t op size side a b) r from on off code = value_uses s wanted (e.Move t op size side a b) r from code.0 code.1
test_uses s (e.Distance t size a b) r from on off code = value_uses s wanted (e.Distance t size a b) r from code.0 code.1
test_uses s (e.Compare t op a b) r from on off code = value_uses s wanted (e.Compare t op a b) r from code.0 code.1
test_uses s (e.Logical t logical.And a b) r from on off code = omega (arith, code.0)
test_uses s (e.Logical t logical.Or a b) r from on off code = omega (arith, code.0)
test_uses s (e.Conditional t test a b) r from on off code = value_uses s wanted (e.Conditional t test a b) r from code.0 code.1
test_uses s (e.Assign t p v) r from on off code = value_uses s wanted (e.Assign t p v) r from code.0 code.1
test_uses s (e.Update t op k p v) r from on off code = value_uses s wanted (e.Update t op k p v) r from code.0 code.1
test_uses s (e.UpdatePointer t op size p v) r from on off code = value_uses s wanted (e.UpdatePointer t op size p v) r from code.0 code.1
test_uses s (e.Step t when op k p) r from on off code = value_uses s wanted (e.Step t when op k p) r from code.0 code.1
test_uses s (e.StepPointer t when op size p) r from on off code = value_uses s wanted (e.StepPointer t when op size p) r from code.0 code.1
test_uses s (e.Call t name vs) r from on off code = value_uses s wanted (e.Call t name vs) r from code.0 code.1
test_uses s (e.Comma t e.no_values) r from on off code = value_uses s wanted (e.Comma t e.no_values) r from code.0 code.1
test_uses s (e.Comma t (e.a_value v vs)) r from on off code = value_uses s wanted (e.Comma t (e.a_value v vs)) r from code.0 code.1
test_uses s (e.Marked t ms v) r from on off code = test_uses s v r code.0 on off code.2
test_uses s (e.Decide t v when_true when_false) r from on off code = test_uses s v r from code.0 code.1 code.2
test_uses s (e.After t v id) r from on off code = value_uses s wanted (e.After t v id) r from code.0 code.1
