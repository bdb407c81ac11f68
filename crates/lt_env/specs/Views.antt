-- Typed expressions that lie in memory, where types stand in a table.
use Rattle.std.specs.Prelude.{List, [], ◌∷◌, map}
use Rattle.std.specs.Global.{Box}
use Rattle.lt_tree.specs.View.{expression_of}
use Rattle.lt_tree.specs.declared.mark.Binding.{Binding}
use Rattle.lt_tree.specs.Typing.Types.{CType}
use Rattle.lt_tree.specs.Typing.TypeRows.{type_in}
use Rattle.lt_tree.specs.Typing.ConstancyView.{constancy_of}
use Rattle.lt_tree.specs.Typing.ValueView.{value_of, place_of}
use Rattle.lt_tree.specs.Typing.Expressions as x
use Rattle.lt_tree.specs.Typing.MarkRules as marks
use Rattle.lt_env.specs.declared.typed.Form.{Form}
use Rattle.lt_env.specs.declared.typed.Form.TheVariants as form
use Rattle.lt_env.specs.declared.typed.Typed.{Typed}
use Rattle.lt_env.specs.declared.typed.Use.{Use}
use Rattle.lt_env.specs.declared.typed.Use.TheVariants as held
use Rattle.lt_env.specs.declared.typed.Judged.{Judged}

abbrev pub use_of : Use → x.Use
use_of held.Value = x.as_value
use_of held.Truth = x.as_truth
use_of held.Place = x.as_place
use_of held.Callee = x.as_callee

abbrev pub form_of : List CType → Form → x.Form
form_of types (form.Value v) = x.a_value (value_of types v.value)
form_of types (form.Place p) = x.a_place (place_of types p.value)
form_of types (form.Designator name ty) = x.a_designator name (type_in types ty)

abbrev pub typed_of : List CType → Typed → x.Typed
typed_of types t = record { form = form_of types t.form; is_register = t.is_register; is_after = t.is_after; constancy = constancy_of t.constancy; erased = constancy_of t.erased }

-- one that lies in a box
abbrev pub typed_in : List CType → Box Typed → x.Typed
typed_in types t = typed_of types t.value

abbrev pub all_typed : List CType → List (Box Typed) → List x.Typed
all_typed types list = map (typed_in types) list

abbrev pub judged_in : List CType → Box Judged → x.Judged
judged_in types j = record { faults = j.value.faults; typed = typed_in types j.value.typed }

-- the names that a mark binds, with their expressions as written and as typed
abbrev pub bindings_with : List CType → List Binding → List (Box Typed) → List marks.TypedBinding
bindings_with types [] xs = []
bindings_with types (b ∷ bs) [] = []
bindings_with types (b ∷ bs) (x ∷ xs) = record { name = b.name; written = expression_of b.value; typed = typed_in types x } ∷ bindings_with types bs xs
