-- The values of typed expressions and places that lie in memory, where types stand in a table.
use Rattle.std.specs.Prelude.{List, [], ◌∷◌}
use Rattle.lt_tree.specs.declared.typed.tree.Conversion.{Conversion}
use Rattle.lt_tree.specs.declared.typed.tree.Conversion.TheVariants as how
use Rattle.lt_tree.specs.declared.typed.tree.Side.{Side}
use Rattle.lt_tree.specs.declared.typed.tree.Side.TheVariants as side
use Rattle.lt_tree.specs.declared.typed.tree.When.{When}
use Rattle.lt_tree.specs.declared.typed.tree.When.TheVariants as moment
use Rattle.lt_tree.specs.declared.typed.tree.Value.{Value}
use Rattle.lt_tree.specs.declared.typed.tree.Place.{Place}
use Rattle.lt_tree.specs.declared.typed.tree.Mark.{Mark}
use Rattle.lt_tree.specs.declared.typed.tree.Binding.{Binding}
use Rattle.lt_tree.specs.declared.typed.tree.Place.TheBlock as at
use Rattle.lt_tree.specs.Typing.Types.{CType}
use Rattle.lt_tree.specs.Typing.TypeRows.{type_in}
use Rattle.lt_tree.specs.Typing.TypedTree as e

abbrev pub conversion_of : Conversion → e.Conversion
conversion_of how.ToInteger = e.to_integer
conversion_of how.ToTruth = e.to_truth
conversion_of how.ToNull = e.to_null
conversion_of how.ToPointer = e.to_pointer
conversion_of how.ToVoid = e.to_void

abbrev pub side_of : Side → e.Side
side_of side.OnLeft = e.on_left
side_of side.OnRight = e.on_right

abbrev pub when_of : When → e.When
when_of moment.Before = e.before
when_of moment.After = e.after

abbrev mutual
  pub value_of : List CType → Value → e.Value
  value_of types (at.Constant ty z) = e.Constant (type_in types ty) z
  value_of types (at.Load' ty p place) = e.Load (type_in types ty) (place_of types place)
  value_of types (at.Whole' ty p place) = e.Whole (type_in types ty) (place_of types place)
  value_of types (at.Decay' ty p place) = e.Decay (type_in types ty) (place_of types place)
  value_of types (at.AddressOf' ty p place) = e.AddressOf (type_in types ty) (place_of types place)
  value_of types (at.Convert' ty conversion p operand) = e.Convert (conversion_of conversion) (type_in types ty) (value_of types operand)
  value_of types (at.Minus' ty p operand) = e.Minus (type_in types ty) (value_of types operand)
  value_of types (at.Complement' ty p operand) = e.Complement (type_in types ty) (value_of types operand)
  value_of types (at.Not' ty p operand) = e.Not (type_in types ty) (value_of types operand)
  value_of types (at.Arithmetic' ty op operands p left q right) = e.Arithmetic (type_in types ty) op operands (value_of types left) (value_of types right)
  value_of types (at.Move' ty op size pointer p left q right) = e.Move (type_in types ty) op size (side_of pointer) (value_of types left) (value_of types right)
  value_of types (at.Distance' ty size p left q right) = e.Distance (type_in types ty) size (value_of types left) (value_of types right)
  value_of types (at.Compare' ty op p left q right) = e.Compare (type_in types ty) op (value_of types left) (value_of types right)
  value_of types (at.Logical' ty op p left q right) = e.Logical (type_in types ty) op (value_of types left) (value_of types right)
  value_of types (at.Conditional' ty p test q left r right) = e.Conditional (type_in types ty) (value_of types test) (value_of types left) (value_of types right)
  value_of types (at.Assign' ty p place q value) = e.Assign (type_in types ty) (place_of types place) (value_of types value)
  value_of types (at.Update' ty op operands p place q value) = e.Update (type_in types ty) op operands (place_of types place) (value_of types value)
  value_of types (at.UpdatePointer' ty op size p place q value) = e.UpdatePointer (type_in types ty) op size (place_of types place) (value_of types value)
  value_of types (at.Step' ty gives op operands p place) = e.Step (type_in types ty) (when_of gives) op operands (place_of types place)
  value_of types (at.StepPointer' ty gives op size p place) = e.StepPointer (type_in types ty) (when_of gives) op size (place_of types place)
  value_of types (at.Call' ty function shape arguments) = e.Call (type_in types ty) function (values_of types arguments)
  value_of types (at.Comma' ty shape parts) = e.Comma (type_in types ty) (values_of types parts)
  value_of types (at.Marked' ty shape marks p value) = e.Marked (type_in types ty) (marks_of types marks) (value_of types value)
  value_of types (at.Decide' ty p operand when_true when_false) = e.Decide (type_in types ty) (value_of types operand) when_true when_false
  value_of types (at.After' ty p operand id) = e.After (type_in types ty) (value_of types operand) id

  pub values_of : {m : _} → List CType → at.Row_of-Value m → e.Values
  values_of types at.end_of-Value = e.no_values
  values_of types (at.more_of-Value first rest) = e.a_value (value_of types first) (values_of types rest)

  pub place_of : List CType → Place → e.Place
  place_of types (at.Object ty number) = e.Object (type_in types ty) number
  place_of types (at.Pointed' ty p pointer) = e.Pointed (type_in types ty) (value_of types pointer)
  place_of types (at.Element' ty size pointer p left q right) = e.Element (type_in types ty) size (side_of pointer) (value_of types left) (value_of types right)
  place_of types (at.Part' ty offset p whole) = e.Part (type_in types ty) offset (place_of types whole)
  place_of types (at.Held' ty p value) = e.Held (type_in types ty) (value_of types value)

  pub marks_of : {m : _} → List CType → at.Row_of-Mark m → e.Marks
  marks_of types at.end_of-Mark = e.no_marks
  marks_of types (at.more_of-Mark first rest) = e.a_mark (mark_of types first) (marks_of types rest)

  pub mark_of : List CType → Mark → e.Mark
  mark_of types (at.struct-Mark p predicate id shape bound) = e.mark (value_of types predicate) id (bindings_of types bound)

  pub bindings_of : {m : _} → List CType → at.Row_of-Binding m → e.Bindings
  bindings_of types at.end_of-Binding = e.no_bindings
  bindings_of types (at.more_of-Binding name p value rest) = e.a_binding name (value_of types value) (bindings_of types rest)

-- ---- lists

abbrev pub values_in : List CType → List Value → e.Values
values_in types [] = e.no_values
values_in types (first ∷ rest) = e.a_value (value_of types first) (values_in types rest)

abbrev pub marks_in : List CType → List Mark → e.Marks
marks_in types [] = e.no_marks
marks_in types (first ∷ rest) = e.a_mark (mark_of types first) (marks_in types rest)

abbrev pub bindings_in : List CType → List Binding → e.Bindings
bindings_in types [] = e.no_bindings
bindings_in types (first ∷ rest) = e.a_binding first.name (value_of types first.value.value) (bindings_in types rest)
