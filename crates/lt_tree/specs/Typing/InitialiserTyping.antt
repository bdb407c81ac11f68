-- The typing of initialisers, C11 6.7.9: each is spread over its object.
use Rattle.std.specs.Prelude.{ℕ, suc, ◌==◌, Bool, true, false, if◌then◌else◌, List, [], ◌∷◌, ◌++◌, length, Option, Some, None}
use Rattle.lt_tree.specs.Tree as c
use Rattle.lt_tree.specs.Typing.Types.{CType, Array, struct_of, is_array}
use Rattle.lt_tree.specs.Typing.Extents.{has_too_many_cells}
use Rattle.lt_tree.specs.Typing.Constants.{varying}
use Rattle.lt_tree.specs.Typing.Rules.{Rule, broken_if, bad_length, bad_initialiser}
use Rattle.lt_tree.specs.Typing.TypedTree.{StartPart, Start}
use Rattle.lt_tree.specs.Typing.Entities.{Known}
use Rattle.lt_tree.specs.Typing.Steps.{Walk, ◌>>=◌, ◌>>◌, gives, here, enter, settle, notes}
use Rattle.lt_tree.specs.Typing.Expressions.{Typed, as_value, own_type}
use Rattle.lt_tree.specs.Typing.Operations.{text_type}
use Rattle.lt_tree.specs.Typing.ExpressionTyping.{expression}
use Rattle.lt_tree.specs.Typing.Filling.{Run, behind_first, opened, is_character_array, is_struct_of, is_too_long_for, letters_of, value_faults, value_part, Filling, text_in, only_text, filling_of, nothing_to_fill, list_faults, elements_begun}

-- A string literal that initialises an array of characters: no object is made of it.
abbrev pub literal_alone : List ℕ → Walk (Unit {0})
literal_alone bytes = do
  node ← enter
  known ← here
  settle node (broken_if bad_length (has_too_many_cells known.structs (text_type bytes)))
  notes (record { node = node; type = text_type bytes; is_place = true; constancy = varying; object = None })

-- ---- one initialiser of a list that has no braces

-- the filling behind a part that is filled
abbrev pub filled_by : Filling → StartPart → List Run → Filling
filled_by filling part rest = record filling { left = rest; parts = filling.parts ++ part ∷ [] }

abbrev pub surplus_in : Filling → Filling
surplus_in filling = record filling { has_surplus = true }

-- a value for the part in front of those that are left
abbrev pub fill_value : ℕ → Bool → Filling → Typed → Known → List Run → Walk Filling
fill_value node is_static filling x known [] = gives (surplus_in filling)
fill_value node is_static filling x known (run ∷ rest) = do
  settle node (value_faults known is_static run.type x)
  gives (filled_by filling (value_part known is_static run.offset run.type x) rest)

abbrev pub value_initialiser : ℕ → Bool → Filling → c.Expression → Walk Filling
value_initialiser node is_static filling e = do
  x ← expression e as_value
  known ← here
  fill_value node is_static filling x known (opened known (is_struct_of (struct_of (own_type x))) filling.left)

-- a string literal, for an array of characters if one is in front
abbrev pub fill_text : ℕ → Bool → Filling → c.Expression → List ℕ → List Run → Walk Filling
fill_text node is_static filling e bytes [] = value_initialiser node is_static filling e
fill_text node is_static filling e bytes (run ∷ rest) =
    if is_character_array run.type then (do
      literal_alone bytes
      settle node (broken_if bad_initialiser (is_too_long_for run.type bytes))
      gives (filled_by filling (letters_of run.offset run.type bytes) rest))
    else value_initialiser node is_static filling e

abbrev pub initialiser_without_braces : ℕ → Bool → Filling → c.Expression → Option (List ℕ) → Walk Filling
initialiser_without_braces node is_static filling e None = value_initialiser node is_static filling e
initialiser_without_braces node is_static filling e (Some bytes) =
    here >>= (λ known. fill_text node is_static filling e bytes (opened known is_character_array filling.left))

-- ---- lists

-- the part for which a list in braces is, if there is one
abbrev pub filling_for : Known → c.Initialisers → List Run → Filling
filling_for known list [] = nothing_to_fill
filling_for known list (run ∷ runs) = filling_of known run.offset run.type list

abbrev pub faults_of_list : c.Initialisers → Filling → List Run → List Rule
faults_of_list list inner [] = []
faults_of_list list inner (run ∷ runs) = list_faults run.type list inner

abbrev pub behind_list : Known → Filling → Filling → List Run → Filling
behind_list known outer inner [] = surplus_in outer
behind_list known outer inner (run ∷ runs) = record outer { left = behind_first known run ++ runs; parts = outer.parts ++ inner.parts }

abbrev mutual
  pub initialiser : c.Initialiser → (is_static : Bool) → Filling → Walk Filling
  initialiser (c.Value e) is_static filling = do
    node ← enter
    initialiser_without_braces node is_static filling e (text_in e)
  initialiser (c.Braces list) is_static filling = do
    node ← enter
    known ← here
    inner ← initialisers list is_static (filling_for known list filling.left)
    settle node (faults_of_list list inner filling.left)
    gives (behind_list known filling inner filling.left)

  pub initialisers : c.Initialisers → (is_static : Bool) → Filling → Walk Filling
  initialisers c.no_initialisers is_static filling = gives filling
  initialisers (c.an_initialiser first rest) is_static filling = do
    next ← initialiser first is_static filling
    initialisers rest is_static next

-- ---- the initialiser of a whole object

-- how an object starts, and its type, whose length the initialiser may have given
pub record Started : Type 0 where
  pub start : Start
  pub type : CType

-- what else is judged where an initialiser ends, of the type that it gives
abbrev pub Judges : Type 0
Judges = Known → CType → List Rule

abbrev pub with_length : CType → ℕ → CType
with_length (Array t n) k = if n == 0 then Array t k else Array t n
with_length t k = t

abbrev pub started : Bool → List StartPart → CType → Started
started zeroed parts t = record { start = record { zeroed = zeroed; parts = parts }; type = t }

-- an expression: a scalar, or a struct as a whole; an array needs a string literal or braces
abbrev pub whole_value : ℕ → Bool → CType → Judges → c.Expression → Walk Started
whole_value node is_static t judge e = do
  x ← expression e as_value
  known ← here
  settle node ((if is_array t then bad_initialiser ∷ [] else value_faults known is_static t x) ++ judge known t)
  gives (started false (value_part known is_static 0 t x ∷ []) t)

abbrev pub whole_text : ℕ → CType → Judges → List ℕ → Walk Started
whole_text node t judge bytes = do
  literal_alone bytes
  known ← here
  settle node (broken_if bad_initialiser (is_too_long_for t bytes) ++ judge known (with_length t (suc (length bytes))))
  gives (started true (letters_of 0 t bytes ∷ []) (with_length t (suc (length bytes))))

abbrev pub whole_without_braces : ℕ → Bool → CType → Judges → c.Expression → Option (List ℕ) → Walk Started
whole_without_braces node is_static t judge e None = whole_value node is_static t judge e
whole_without_braces node is_static t judge e (Some bytes) =
    if is_character_array t then whole_text node t judge bytes else whole_value node is_static t judge e

-- the length that a list gives: that of its lone string literal with the zero behind it, or the number of elements that it begins
abbrev pub listed_length : Known → CType → c.Initialisers → Filling → ℕ
listed_length known t list filled =
    elim (only_text list) [ None ↦ elements_begun known filled.left | Some bytes ↦ (if is_character_array t then suc (length bytes) else elements_begun known filled.left) ]

abbrev pub end_of_list : ℕ → CType → Judges → c.Initialisers → Filling → Walk Started
end_of_list node t judge list filled = do
  known ← here
  settle node (list_faults t list filled ++ judge known (with_length t (listed_length known t list filled)))
  gives (started true filled.parts (with_length t (listed_length known t list filled)))

abbrev pub object_initialiser : Bool → CType → Judges → c.Initialiser → Walk Started
object_initialiser is_static t judge (c.Value e) = do
  node ← enter
  whole_without_braces node is_static t judge e (text_in e)
object_initialiser is_static t judge (c.Braces list) = do
  node ← enter
  known ← here
  filled ← initialisers list is_static (filling_of known 0 t list)
  end_of_list node t judge list filled

-- what is no object has no initialiser
abbrev pub initialiser_of_none : c.Initialiser → Walk (Unit {0})
initialiser_of_none (c.Value e) = do
  node ← enter
  x ← expression e as_value
  settle node (bad_initialiser ∷ [])
initialiser_of_none (c.Braces list) = do
  node ← enter
  filled ← initialisers list false nothing_to_fill
  settle node (bad_initialiser ∷ [])
