-- The code of conversions by their fates.
use Rattle.std.proofs.Common.{◌≡◌, ◌≢◌, ℕ, ◌<◌, true, false, refl, arith}
use Rattle.lt_tree.specs.Typing.Types.{CType}
use Rattle.lt_tree.specs.declared.typed.tree.Conversion.{Conversion}
use Rattle.lt_tree.specs.declared.typed.tree.Conversion.TheVariants as how
use Rattle.lt_tree.specs.Typing.TypedTree as e
use Rattle.lt_tree.specs.Typing.ValueView.{conversion_of}
use Rattle.lt_meaning.specs.Expressions.{Fate, wanted, unconverted, dropped, dropped_branch, untaken, inside}
use Rattle.lt_code.specs.Code.{Site, value_code, place_of, conversion, conversion_here}
use Rattle.lt_emit.specs.Fate.{makes_conversion}

-- the register of a value is there
abbrev mutual
  pub value_there : (s : Site) (fate : Fate) (v : e.Value) (r from to : ℕ) → value_code s fate v r from to
      → r < s.registers
  value_there s fate (e.Constant t z) r from to c = c.0
  value_there s fate (e.Load t p) r from to c = c.0
  value_there s fate (e.Whole t p) r from to c = place_there s p r from to c
  value_there s fate (e.Decay t p) r from to c = place_there s p r from to c
  value_there s fate (e.AddressOf t p) r from to c = place_there s p r from to c
  value_there s fate (e.Convert e.to_integer t v) r from to c = c.0
  value_there s fate (e.Convert e.to_truth t v) r from to c = c.0
  value_there s fate (e.Convert e.to_null t v) r from to c = c.0
  value_there s fate (e.Convert e.to_pointer t v) r from to c = c.0
  value_there s fate (e.Convert e.to_void t v) r from to c = c.0
  value_there s fate (e.Minus t v) r from to c = omega (arith, c.0)
  value_there s fate (e.Complement t v) r from to c = omega (arith, c.0)
  value_there s fate (e.Not t v) r from to c = c.0
  value_there s fate (e.Arithmetic t op k a b) r from to c = omega (arith, c.0)
  value_there s fate (e.Move t op size side a b) r from to c = omega (arith, c.0)
  value_there s fate (e.Distance t size a b) r from to c = omega (arith, c.0)
  value_there s fate (e.Compare t op a b) r from to c = omega (arith, c.0)
  value_there s fate (e.Logical t op a b) r from to c = c.0
  value_there s fate (e.Conditional t test a b) r from to c = omega (arith, c.0)
  value_there s fate (e.Assign t p v) r from to c = omega (arith, c.0)
  value_there s fate (e.Update t op k p v) r from to c = omega (arith, c.0)
  value_there s fate (e.UpdatePointer t op size p v) r from to c = omega (arith, c.0)
  value_there s fate (e.Step t when op k p) r from to c = omega (arith, c.0)
  value_there s fate (e.StepPointer t when op size p) r from to c = omega (arith, c.0)
  value_there s fate (e.Call t name vs) r from to c = c.0
  value_there s fate (e.Comma t e.no_values) r from to c = c.0
  value_there s fate (e.Comma t (e.a_value v vs)) r from to c = c.0
  value_there s fate (e.Marked t ms v) r from to c = value_there s _ v r c.0 to c.2
  value_there s fate (e.Decide t v when_true when_false) r from to c = c.0
  value_there s fate (e.After t v id) r from to c = value_there s _ v r from c.0 c.1

  pub place_there : (s : Site) (p : e.Place) (r from to : ℕ) → place_of s p r from to → r < s.registers
  place_there s (e.Object t n) r from to c = c.0
  place_there s (e.Pointed t v) r from to c = c.0
  place_there s (e.Element t size side a b) r from to c = omega (arith, c.0)
  place_there s (e.Part t offset p) r from to c = c.0
  place_there s (e.Held t v) r from to c = c.0

-- a conversion that is made where it stands
pub made_here :
    (s : Site) (fate : Fate) (how : e.Conversion) (t : CType) (r from to : ℕ) → makes_conversion fate ≡ true
    → conversion s how t r from to → conversion_here s fate how t r from to
made_here s wanted how t r from to makes code = code
made_here s unconverted how t r from to makes code = absurd (cc)
made_here s dropped how t r from to makes code = code
made_here s dropped_branch how t r from to makes code = absurd (cc)
made_here s untaken how t r from to makes code = code

-- and one that is left
pub left_out :
    (s : Site) (fate : Fate) (how : e.Conversion) (t : CType) (r at : ℕ) → makes_conversion fate ≡ false
    → conversion_here s fate how t r at at
left_out s wanted how t r at makes = absurd (cc)
left_out s unconverted how t r at makes = refl
left_out s dropped how t r at makes = absurd (cc)
left_out s dropped_branch how t r at makes = refl
left_out s untaken how t r at makes = absurd (cc)

-- the operand's code, and that of the conversion behind it
pub converted_is :
    (s : Site) (fate : Fate) (how : e.Conversion) (t : CType) (v : e.Value) (r from m to : ℕ) → how ≢ e.to_void
    → value_code s (inside fate) v r from m → conversion_here s fate how t r m to
    → value_code s fate (e.Convert how t v) r from to
converted_is s fate e.to_integer t v r from m to other code here = (value_there s _ v r from m code, (_, code, here))
converted_is s fate e.to_truth t v r from m to other code here = (value_there s _ v r from m code, (_, code, here))
converted_is s fate e.to_null t v r from m to other code here = (value_there s _ v r from m code, (_, code, here))
converted_is s fate e.to_pointer t v r from m to other code here = (value_there s _ v r from m code, (_, code, here))
converted_is s fate e.to_void t v r from m to other code here = absurd (other refl)

-- a conversion that isn't to void
pub not_void : (it : Conversion) → it ≢ how.ToVoid → conversion_of it ≢ e.to_void
not_void how.ToInteger other is = absurd (cc)
not_void how.ToTruth other is = absurd (cc)
not_void how.ToPointer other is = absurd (cc)
not_void how.ToNull other is = absurd (cc)
not_void how.ToVoid other is = other refl
