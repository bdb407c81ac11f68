-- Which part of an object each initialiser of a list is for, C11 6.7.9p17 to p21: the parts that are left to be filled stand in a list, and a part
-- that has parts itself gives way to these where the next initialiser is for one of them.
use Rattle.std.specs.Prelude.{ℕ, zero, suc, ◌+◌, ◌-◌, ◌/◌, ◌==◌, nat_lt, nat_le, Bool, true, false, not, ◌&&◌, ◌||◌, if◌then◌else◌, List, [], ◌∷◌, ◌++◌, length, map, take, Option, Some, None, unwrap_or}
use Rattle.lt_model.specs.declared.scalar.Scalar.{Scalar}
use Rattle.lt_model.specs.declared.scalar.Scalar.TheVariants as S
use Rattle.lt_tree.specs.Tree as c
use Rattle.lt_tree.specs.Typing.Types.{CType, Array, Struct, Qualified, scalar_of, struct_of, unqualified, is_scalar}
use Rattle.lt_tree.specs.Typing.Extents.{size_of, Placed, placed_members}
use Rattle.lt_tree.specs.Typing.Constants.{Constancy, varying, faulty, number, null_constant, null_address, address}
use Rattle.lt_tree.specs.Typing.Rules.{Rule, broken_if, unless, bad_assignment, bad_initialiser}
use Rattle.lt_tree.specs.Typing.TypedTree.{StartPart, stored, fixed, letters}
use Rattle.lt_tree.specs.Typing.Entities.{Known}
use Rattle.lt_tree.specs.Typing.Operands.{holds}
use Rattle.lt_tree.specs.Typing.Expressions.{Typed, value_in, converted_to, constancy_to}
use Rattle.lt_tree.specs.Typing.Operations.{fits}

-- objects of one type, one behind the other: so many, or without an end
pub record Run : Type 0 where
  pub offset : ℕ
  pub type : CType
  pub left : Option ℕ

abbrev pub one_object : ℕ → CType → Run
one_object offset t = record { offset = offset; type = t; left = Some 1 }

abbrev pub length_left : ℕ → Option ℕ
length_left n = if n == 0 then None else Some n

-- what is behind the first object of a run
abbrev pub behind_first : Known → Run → List Run
behind_first known run =
    elim (run.left) [ None ↦ next None ∷ [] | Some n ↦ (if nat_le n 1 then [] else next (Some (n - 1)) ∷ []) ]
  where
    next : Option ℕ → Run
    next left = record { offset = run.offset + size_of known.model known.structs run.type; type = run.type; left = left }

abbrev pub member_run : ℕ → Placed → Run
member_run offset member = one_object (offset + member.offset) member.type

-- the parts of an object: its elements, its members, or itself
abbrev pub parts_of : Known → ℕ → CType → List Run
parts_of known offset (Array t n) = record { offset = offset; type = t; left = length_left n } ∷ []
parts_of known offset (Struct k) = map (member_run offset) (placed_members known.model known.structs k)
parts_of known offset (Qualified q t) = parts_of known offset t
parts_of known offset t = one_object offset t ∷ []

-- An object of this type before others that are left to be filled: where it isn't taken whole, its first part that is, and then what is behind.
abbrev pub first_within : Known → (CType → Bool) → (ℕ → ℕ → List Run → List Run) → ℕ → CType → List Run → List Run
first_within known whole in_struct offset (Array t n) rest =
    if whole (Array t n) then one_object offset (Array t n) ∷ rest
    else first_within known whole in_struct offset t (behind_first known (record { offset = offset; type = t; left = length_left n }) ++ rest)
first_within known whole in_struct offset (Struct k) rest = if whole (Struct k) then one_object offset (Struct k) ∷ rest else in_struct offset k rest
first_within known whole in_struct offset (Qualified q t) rest = first_within known whole in_struct offset t rest
first_within known whole in_struct offset t rest = one_object offset t ∷ rest

-- the same for the members of a struct; the first number is how deep structs may nest
abbrev pub first_in_members : Known → (CType → Bool) → (ℕ → ℕ → List Run → List Run) → ℕ → List Placed → List Run → List Run
first_in_members known whole in_struct offset [] rest = rest
first_in_members known whole in_struct offset (member ∷ members) rest =
    first_within known whole in_struct (offset + member.offset) member.type (map (member_run offset) members ++ rest)

unfoldable pub first_in_struct : Known → (CType → Bool) → ℕ → ℕ → ℕ → List Run → List Run
first_in_struct known whole zero offset k rest = rest
first_in_struct known whole (suc depth) offset k rest =
    first_in_members known whole (first_in_struct known whole depth) offset (placed_members known.model known.structs k) rest

-- what is left to be filled, with the part in front that the next initialiser is for
abbrev pub opened : Known → (CType → Bool) → List Run → List Run
opened known whole [] = []
opened known whole (run ∷ runs) =
    first_within known whole (first_in_struct known whole (length known.structs)) run.offset run.type (behind_first known run ++ runs)

-- ---- what an initialiser is taken for

abbrev pub is_character : Scalar → Bool
is_character S.Char = true
is_character S.SChar = true
is_character S.UChar = true
is_character _ = false

-- a string literal is taken for a whole array of characters
abbrev pub is_character_array : CType → Bool
is_character_array (Array t n) = holds is_character (scalar_of t)
is_character_array _ = false

-- an expression is taken for a whole struct of its own type
abbrev pub is_struct_of : Option ℕ → CType → Bool
is_struct_of k t = holds (λ j. holds (λ i. i == j) k) (struct_of t)

abbrev pub character_in : CType → Scalar
character_in (Array t n) = unwrap_or (scalar_of t) S.Char
character_in _ = S.Char

-- the bytes of a string literal without the zero behind it, and those that an array has room for; one of unknown length has room for all
abbrev pub room_for : CType → List ℕ → List ℕ
room_for (Array t n) bytes = if n == 0 then bytes else take n bytes
room_for _ bytes = bytes

abbrev pub is_too_long_for : CType → List ℕ → Bool
is_too_long_for (Array t n) bytes = not (n == 0) && nat_lt n (length bytes)
is_too_long_for _ bytes = true

abbrev pub letters_of : ℕ → CType → List ℕ → StartPart
letters_of offset t bytes = letters offset (character_in t) (room_for t bytes)

-- ---- values

-- what an object may hold that is there from the start
abbrev pub is_constant_content : Constancy → Bool
is_constant_content varying = false
is_constant_content faulty = false
is_constant_content (number z) = true
is_constant_content null_constant = true
is_constant_content null_address = true
is_constant_content (address object offset) = true

abbrev pub content_of : Known → CType → Typed → Constancy
content_of known t x = constancy_to known.model (unqualified t) x.constancy

-- the value of a scalar or of a struct that is initialised whole
abbrev pub value_faults : Known → Bool → CType → Typed → List Rule
value_faults known is_static t x =
    unless (fits (unqualified t) x) bad_assignment ++ broken_if bad_initialiser (is_static && not (is_constant_content (content_of known t x)))

abbrev pub value_part : Known → Bool → ℕ → CType → Typed → StartPart
value_part known is_static offset t x =
    if is_static then fixed offset (unqualified t) (content_of known t x) else stored offset (converted_to (unqualified t) (value_in x))

-- ---- lists in braces

-- What is left to be filled, the parts that were filled, and whether an initialiser was left over.
pub record Filling : Type 0 where
  pub left : List Run
  pub parts : List StartPart
  pub has_surplus : Bool

abbrev pub text_in : c.Expression → Option (List ℕ)
text_in (c.Text bytes) = Some bytes
text_in _ = None

abbrev pub only_text : c.Initialisers → Option (List ℕ)
only_text (c.an_initialiser (c.Value e) c.no_initialisers) = text_in e
only_text _ = None

abbrev pub begins_with_braces : c.Initialisers → Bool
begins_with_braces (c.an_initialiser (c.Braces list) rest) = true
begins_with_braces _ = false

-- a list for an object of this type: a lone string literal in braces is for a whole array of characters
abbrev pub filling_of : Known → ℕ → CType → c.Initialisers → Filling
filling_of known offset t list = record {
  left = if is_character_array t && holds (λ bytes. true) (only_text list) then one_object offset t ∷ [] else parts_of known offset t;
  parts = [];
  has_surplus = false;
}

abbrev pub nothing_to_fill : Filling
nothing_to_fill = record { left = []; parts = []; has_surplus = false }

-- The list has more than its object, or a scalar has braces in its own.
abbrev pub list_faults : CType → c.Initialisers → Filling → List Rule
list_faults t list filled = broken_if bad_initialiser (filled.has_surplus || (is_scalar t && begins_with_braces list))

-- how many elements of an array of unknown length were begun
abbrev pub elements_begun : Known → List Run → ℕ
elements_begun known [] = 0
elements_begun known (run ∷ runs) =
    elim (run.left) [ None ↦ run.offset / size_of known.model known.structs run.type | Some n ↦ elements_begun known runs ]
