-- In which expressions nothing can clash: unsequenced parts of theirs write nothing. They give the same where
-- footprints aren't tracked.
use Rattle.std.specs.Prelude.{◌≡◌, Bool, true, false, ◌&&◌}
use Rattle.lt_model.specs.State.{Valued, Gives, Ends}
use Rattle.lt_tree.specs.Typing.TypedTree as e
use Rattle.lt_tree.specs.Typing.TypedTree.{Value, Values, Place, no_values, a_value}
use Rattle.lt_ir.specs.Running.{At, Answer}
use Rattle.lt_meaning.specs.Expressions.{Around, Fate, tracking, eval}

-- what is known of an expression: that it writes nothing, but what called functions write, or that nothing in it can
-- clash
pub data Grade : Type 0 where
  writes_nothing : Grade
  cannot_clash : Grade

abbrev pub may_write : Grade → Bool
may_write writes_nothing = false
may_write cannot_clash = true

abbrev mutual
  pub is_of : Grade → Value → Bool
  is_of g (e.Constant t z) = true
  is_of g (e.Load t p) = is_place_of g p
  is_of g (e.Whole t p) = is_place_of g p
  is_of g (e.Decay t p) = is_place_of g p
  is_of g (e.AddressOf t p) = is_place_of g p
  is_of g (e.Convert how t v) = is_of g v
  is_of g (e.Minus t v) = is_of g v
  is_of g (e.Complement t v) = is_of g v
  is_of g (e.Not t v) = is_of g v
  is_of g (e.Arithmetic t op s a b) = is_of writes_nothing a && is_of writes_nothing b
  is_of g (e.Move t op size side a b) = is_of writes_nothing a && is_of writes_nothing b
  is_of g (e.Distance t size a b) = is_of writes_nothing a && is_of writes_nothing b
  is_of g (e.Compare t op a b) = is_of writes_nothing a && is_of writes_nothing b
  is_of g (e.Logical t op a b) = is_of g a && is_of g b
  is_of g (e.Conditional t test a b) = is_of g test && (is_of g a && is_of g b)
  is_of g (e.Assign t p v) = may_write g && (is_place_of writes_nothing p && is_of writes_nothing v)
  is_of g (e.Update t op s p v) = may_write g && (is_place_of writes_nothing p && is_of writes_nothing v)
  is_of g (e.UpdatePointer t op size p v) = may_write g && (is_place_of writes_nothing p && is_of writes_nothing v)
  is_of g (e.Step t when op s p) = may_write g && is_place_of writes_nothing p
  is_of g (e.StepPointer t when op size p) = may_write g && is_place_of writes_nothing p
  is_of g (e.Call t f vs) = are_of writes_nothing vs
  is_of g (e.Comma t vs) = are_of g vs
  is_of g (e.Marked t ms v) = is_of g v
  is_of g (e.Decide t v when_true when_false) = is_of g v
  is_of g (e.After t v id) = is_of g v

  pub is_place_of : Grade → Place → Bool
  is_place_of g (e.Object t n) = true
  is_place_of g (e.Pointed t v) = is_of g v
  is_place_of g (e.Element t size side a b) = is_of writes_nothing a && is_of writes_nothing b
  is_place_of g (e.Part t offset p) = is_place_of g p
  is_place_of g (e.Held t v) = is_of g v

  pub are_of : Grade → Values → Bool
  are_of g no_values = true
  are_of g (a_value v vs) = is_of g v && are_of g vs

-- an answer without the footprint
abbrev pub value_alone : {A : Type 0} → Answer (Valued A) → Answer A
value_alone (Gives x at) = Gives x.value at
value_alone (Ends end at) = Ends end at

-- Where nothing can clash, footprints needn't be tracked.
abbrev pub FootprintsAreNeededForClashesAlone : Type 0
FootprintsAreNeededForClashesAlone =
    (here : Around) (v : Value) (fate : Fate) (at : At) → is_of cannot_clash v ≡ true
    → value_alone (eval (tracking true here) fate v at) ≡ value_alone (eval (tracking false here) fate v at)
