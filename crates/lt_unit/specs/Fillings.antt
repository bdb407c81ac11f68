-- What filling objects holds on the way, and its steps.
use Rattle.std.specs.Prelude.{ℕ, suc, Bool, true, false, List, [], ◌∷◌, ◌++◌, length, map, if◌then◌else◌}
use Rattle.lt_tree.specs.Tree as c
use Rattle.lt_tree.specs.Typing.Types.{CType, struct_of, is_array}
use Rattle.lt_tree.specs.Typing.Rules.{Rule, broken_if, bad_initialiser}
use Rattle.lt_tree.specs.Typing.TypedTree as e
use Rattle.lt_tree.specs.Typing.Entities.{Known}
use Rattle.lt_tree.specs.Typing.Expressions.{Typed, as_value, own_type}
use Rattle.lt_tree.specs.Typing.ExpressionTyping.{expression}
use Rattle.lt_tree.specs.Typing.Declaring.{length_faults}
use Rattle.lt_tree.specs.Typing.Steps.{Walk, ◌>>=◌, ◌>>◌, gives, here, settle}
use Rattle.lt_tree.specs.Typing.Filling.{Filling, opened, is_struct_of, filling_of, nothing_to_fill, list_faults, is_too_long_for, letters_of, value_faults, value_part}
use Rattle.lt_tree.specs.Typing.InitialiserTyping.{literal_alone, surplus_in, fill_value, initialisers, Started, started, with_length}
use Rattle.lt_tree.specs.Typing.StatementView.{start_part_of}
use Rattle.lt_unit.specs.declared.initialiser.filling.Filling as held
use Rattle.lt_unit.specs.LeftParts.{runs_of}

abbrev pub filling_in : List CType → held.Filling → Filling
filling_in types f = record { left = runs_of types f.left.items; parts = map (start_part_of types) f.parts.items; has_surplus = f.has_surplus }

-- one more part
abbrev pub with_part : e.StartPart → Filling → Filling
with_part part filling = record filling { parts = filling.parts ++ part ∷ [] }

-- these parts before those that were filled
abbrev pub behind_parts : List e.StartPart → Filling → Filling
behind_parts parts filling = record filling { parts = parts ++ filling.parts }

-- a value for an object of this type, which is left no more
abbrev pub value_filled : ℕ → Bool → Filling → ℕ → CType → Typed → Walk Filling
value_filled node is_static filling offset t x = do
  known ← here
  settle node (value_faults known is_static t x)
  gives (with_part (value_part known is_static offset t x) filling)

-- a string literal for an array of characters, which is left no more
abbrev pub text_filled : ℕ → Filling → ℕ → CType → List ℕ → Walk Filling
text_filled node filling offset t bytes = do
  literal_alone bytes
  settle node (broken_if bad_initialiser (is_too_long_for t bytes))
  gives (with_part (letters_of offset t bytes) filling)

-- a list in braces for an object of this type, which is left no more
abbrev pub list_filled : ℕ → Bool → Filling → ℕ → CType → c.Initialisers → Walk Filling
list_filled node is_static filling offset t list = do
  known ← here
  inner ← initialisers list is_static (behind_parts filling.parts (filling_of known offset t list))
  settle node (list_faults t list inner)
  gives (record filling { parts = inner.parts })

-- what is judged where an expression initialises a whole object
abbrev pub whole_faults : Known → Bool → CType → Typed → List Rule
whole_faults known is_static t x = (if is_array t then bad_initialiser ∷ [] else value_faults known is_static t x) ++ length_faults known t

-- a value for the part that it is for, if there is one
abbrev pub value_in_front : ℕ → Bool → Filling → Typed → Walk Filling
value_in_front node is_static filling x = do
  known ← here
  fill_value node is_static filling x known (opened known (is_struct_of (struct_of (own_type x))) filling.left)

-- a list for which nothing is left
abbrev pub surplus_filled : Bool → Filling → c.Initialisers → Walk Filling
surplus_filled is_static filling list = do
  inner ← initialisers list is_static nothing_to_fill
  gives (surplus_in filling)

-- ---- whole objects

abbrev pub whole_value_end : ℕ → Bool → CType → Typed → Walk Started
whole_value_end node is_static t x = do
  known ← here
  settle node (whole_faults known is_static t x)
  gives (started false (value_part known is_static 0 t x ∷ []) t)

abbrev pub whole_text_end : ℕ → CType → List ℕ → Walk Started
whole_text_end node t bytes = do
  known ← here
  settle node (broken_if bad_initialiser (is_too_long_for t bytes) ++ length_faults known (with_length t (suc (length bytes))))
  gives (started true (letters_of 0 t bytes ∷ []) (with_length t (suc (length bytes))))
