-- Memory as a list of objects, C11 6.2.4, 6.2.6 and 6.5, and what each thing that a program does to it gives. Where several kinds of undefined
-- behaviour apply, following null comes first, then the use of an ended object, and then the others in order of their numbers.
use Rattle.std.specs.Prelude.{ℕ, zero, ℤ, pos, ◌+◌, ◌+ℤ◌, ◌-ℤ◌, ◌*ℤ◌, ◌==◌, ◌&&◌, List, [], ◌∷◌, ◌++◌, Bool, true, false, not, Option, Some, None, Result, Ok, Err, if◌then◌else◌, length, map, sum_by, slice_get, slice_set, nat_lt, nat_le, int_le, int_div, int_rem, unsigned_abs}
use Rattle.std.specs.Ordering.{int_eq}
use Rattle.lt_model.specs.declared.scalar.DataModel.{DataModel}
use Rattle.lt_model.specs.declared.scalar.Scalar.{Scalar}
use Rattle.lt_model.specs.declared.scalar.Scalar.TheVariants as S
use Rattle.lt_model.specs.declared.operator.Ub.{Ub}
use Rattle.lt_model.specs.declared.operator.Ub.TheVariants as U
use Rattle.lt_model.specs.declared.operator.Op.{Op}
use Rattle.lt_model.specs.declared.operator.Op.TheVariants as O
use Rattle.lt_model.specs.declared.cell.Address.{Address}
use Rattle.lt_model.specs.declared.cell.CellType.{CellType}
use Rattle.lt_model.specs.declared.cell.CellType.TheVariants.{Num, Pointer}
use Rattle.lt_model.specs.declared.cell.Content.{Content}
use Rattle.lt_model.specs.declared.cell.Content.TheVariants as content
use Rattle.lt_model.specs.declared.cell.Shape.{Shape}
use Rattle.lt_model.specs.declared.cell.ShapeCell.{ShapeCell}
use Rattle.lt_model.specs.declared.cell.StoredCell.{StoredCell}
use Rattle.lt_model.specs.Scalar.{convert_of}

-- an object: whether its lifetime lasts, whether it may be written, its size in bytes, and its cells
pub record Block : Type 0 where
  pub alive : Bool
  pub writable : Bool
  pub size : ℕ
  pub cells : List StoredCell

-- the objects, in the order in which they were made
abbrev pub Memory : Type 0
Memory = List Block

-- An access meets a cell of its own type, or of the signed or unsigned type that corresponds to it (C11 6.5p7). The three
-- character types correspond to each other. One number names the types that do.
abbrev pub correspondence : Scalar → ℕ
correspondence S.Bool = 0
correspondence S.Char = 1
correspondence S.SChar = 1
correspondence S.UChar = 1
correspondence S.Short = 2
correspondence S.UShort = 2
correspondence S.Int = 3
correspondence S.UInt = 3
correspondence S.Long = 4
correspondence S.ULong = 4
correspondence S.LLong = 5
correspondence S.ULLong = 5

-- whether an access of one type meets a cell of another
abbrev pub corresponds : CellType → CellType → Bool
corresponds (Num a) (Num b) = correspondence a == correspondence b
corresponds (Num a) (Pointer b) = false
corresponds (Pointer a) (Num b) = false
corresponds (Pointer a) (Pointer b) = a == b

-- a content as a cell or an access of this type has it: a number is converted
abbrev pub as_type : DataModel → CellType → Content → Content
as_type model (Num s) (content.Number z) = content.Number (convert_of model s z)
as_type model ty held = held

abbrev pub if_alive : Option Block → Result Block Ub
if_alive None = Err U.Ended
if_alive (Some block) = if block.alive then Ok block else Err U.Ended

-- the living object of an address; one that was never made counts as ended
abbrev pub object_at : Memory → Option Address → Result Block Ub
object_at memory None = Err U.Null
object_at memory (Some at) = if_alive (slice_get memory at.block)

-- the offset of an address; null has none
abbrev pub offset_of : Option Address → ℕ
offset_of None = 0
offset_of (Some at) = at.offset

-- what the cell holds that an access of this type meets at this offset
abbrev pub held_at : List StoredCell → ℕ → CellType → Result Content Ub
held_at [] offset ty = Err U.NoCell
held_at (cell ∷ cells) offset ty = if cell.offset == offset && corresponds ty cell.ty then Ok cell.holds else held_at cells offset ty

-- a cell before others, where these are known
abbrev pub before_cells : StoredCell → Result (List StoredCell) Ub → Result (List StoredCell) Ub
before_cells first (Ok rest) = Ok (first ∷ rest)
before_cells first (Err kind) = Err kind

-- the cells with this content in the cell that an access of this type meets at this offset
abbrev pub with_held : DataModel → List StoredCell → ℕ → CellType → Content → Result (List StoredCell) Ub
with_held model [] offset ty value = Err U.NoCell
with_held model (cell ∷ cells) offset ty value =
    if cell.offset == offset && corresponds ty cell.ty then Ok (record { offset = cell.offset; ty = cell.ty; holds = as_type model cell.ty value } ∷ cells)
    else before_cells cell (with_held model cells offset ty value)

abbrev pub of_object : Option Address → Result Block Ub → Result Content Ub
of_object at (Ok block) = Ok (content.Address at)
of_object at (Err kind) = Err kind

-- a content that is used: an unset one can't be, nor the address of an ended object
abbrev pub usable : Memory → Content → Result Content Ub
usable memory content.Unset = Err U.Unset
usable memory (content.Number z) = Ok (content.Number z)
usable memory (content.Address None) = Ok (content.Address None)
usable memory (content.Address (Some at)) = of_object (Some at) (object_at memory (Some at))

abbrev pub then_result : {A B : Type 0} → Result A Ub → (A → Result B Ub) → Result B Ub
then_result (Ok a) go = go a
then_result (Err kind) go = Err kind

-- loading a cell
unfoldable pub load : DataModel → Memory → Option Address → CellType → Result Content Ub
load model memory at ty =
    then_result (object_at memory at) (λ block. then_result (held_at block.cells (offset_of at) ty) (λ held. then_result (usable memory held) (λ used. Ok (as_type model ty used))))

abbrev pub replaced : Memory → Option Address → Block → List StoredCell → Memory
replaced memory None block cells = memory
replaced memory (Some at) block cells = slice_set memory at.block (record block { cells = cells })

-- storing into a cell
unfoldable pub store : DataModel → Memory → Option Address → CellType → Content → Result Memory Ub
store model memory at ty value =
    then_result (object_at memory at) (λ block. then_result (with_held model block.cells (offset_of at) ty value) (λ cells.
    if block.writable then Ok (replaced memory at block cells) else Err U.Sealed))

-- one more object, whose lifetime begins
abbrev pub create : Memory → Block → Memory
create memory block = memory ++ block ∷ []

-- What an object leaves behind when its lifetime is over: nothing. Only a living object can be asked anything, so the room of an
-- ended one can be given back.
abbrev pub ended_block : Block
ended_block = record { alive = false; writable = false; size = 0; cells = [] }

-- the object's lifetime is over
abbrev pub end_block : Memory → ℕ → Memory
end_block memory place = slice_set memory place ended_block

-- ---- objects of a shape

-- what a cell holds before anything is stored into it: zero or null, or nothing that may be loaded
abbrev pub first_content : Bool → CellType → Content
first_content false ty = content.Unset
first_content true (Num s) = content.Number (pos 0)
first_content true (Pointer p) = content.Address None

abbrev pub new_cell : Bool → ShapeCell → StoredCell
new_cell zeroed cell = record { offset = cell.offset; ty = cell.ty; holds = first_content zeroed cell.ty }

-- a living object of this shape
abbrev pub new_block : Shape → Bool → Bool → Block
new_block shape zeroed writable = record { alive = true; writable = writable; size = shape.size; cells = map (new_cell zeroed) shape.cells }

-- the cells of an object that count as alive
abbrev pub living_cells : Block → ℕ
living_cells block = if block.alive then length block.cells else 0

-- the cells that are alive
abbrev pub cells_alive : Memory → ℕ
cells_alive memory = sum_by living_cells memory

-- the most cells that may be alive
abbrev pub most_cells : ℕ
most_cells = 4194304

-- one more object of this shape, unless too many cells would be alive; its number is the length of the list before
unfoldable pub create_shaped : Memory → Shape → Bool → Bool → Option Memory
create_shaped memory shape zeroed writable =
    if nat_le (cells_alive memory + length shape.cells) most_cells then Some (create memory (new_block shape zeroed writable)) else None

abbrev pub sealed : Memory → ℕ → Option Block → Memory
sealed memory place None = memory
sealed memory place (Some block) = slice_set memory place (record block { writable = false })

-- the object isn't writable from now on
abbrev pub seal_block : Memory → ℕ → Memory
seal_block memory place = sealed memory place (slice_get memory place)

-- ---- addresses

abbrev pub living : Result Block Ub → Result Bool Ub
living (Ok block) = Ok true
living (Err kind) = Err kind

-- an address is used: null may be, that of an ended object may not
abbrev pub checked_address : Memory → Option Address → Result Bool Ub
checked_address memory None = Ok true
checked_address memory (Some at) = living (object_at memory (Some at))

-- an address z bytes from the start of an object, or one past its end
abbrev pub within_object : Address → Block → ℤ → Result (Option Address) Ub
within_object at block z =
    if int_le (pos 0) z && int_le z (pos block.size) then Ok (Some (record { block = at.block; offset = unsigned_abs z })) else Err U.Move

-- an address moved by count elements of this size, C11 6.5.6
abbrev pub move_by : Memory → Option Address → ℤ → ℕ → Result (Option Address) Ub
move_by memory None count size = Err U.Move
move_by memory (Some at) count size =
    then_result (object_at memory (Some at)) (λ block. within_object at block (pos at.offset +ℤ (count *ℤ pos size)))

abbrev pub same_address : Option Address → Option Address → Bool
same_address None None = true
same_address None (Some b) = false
same_address (Some a) None = false
same_address (Some a) (Some b) = a.block == b.block && a.offset == b.offset

-- addresses of one object are ordered by their offsets
abbrev pub ordered : (ℕ → ℕ → Bool) → Option Address → Option Address → Result Bool Ub
ordered test (Some a) (Some b) = if a.block == b.block then Ok (test a.offset b.offset) else Err U.Unrelated
ordered test a b = Err U.Unrelated

-- a relation of two addresses that may be used; the other operators are no relations
abbrev pub related : Op → Option Address → Option Address → Result Bool Ub
related O.Eq a b = Ok (same_address a b)
related O.Ne a b = Ok (not (same_address a b))
related O.Lt a b = ordered nat_lt a b
related O.Le a b = ordered nat_le a b
related O.Gt a b = ordered (λ x y. nat_lt y x) a b
related O.Ge a b = ordered (λ x y. nat_le y x) a b
related o a b = Err U.Unrelated

-- addresses compared, C11 6.5.8 and 6.5.9
abbrev pub compare : Memory → Op → Option Address → Option Address → Result Bool Ub
compare memory op a b =
    then_result (checked_address memory a) (λ _. then_result (checked_address memory b) (λ _. related op a b))

-- a number of bytes as a number of elements; none is a multiple of size 0
abbrev pub in_elements : ℤ → ℕ → Result ℤ Ub
in_elements z zero = Err U.Unrelated
in_elements z size = if int_eq (int_rem z (pos size)) (pos 0) then Ok (int_div z (pos size)) else Err U.Unrelated

abbrev pub distance : Option Address → Option Address → ℕ → Result ℤ Ub
distance (Some a) (Some b) size = if a.block == b.block then in_elements (pos a.offset -ℤ pos b.offset) size else Err U.Unrelated
distance a b size = Err U.Unrelated

-- how many elements of this size the first address lies behind the second, C11 6.5.6
abbrev pub subtract : Memory → Option Address → Option Address → ℕ → Result ℤ Ub
subtract memory a b size =
    then_result (checked_address memory a) (λ _. then_result (checked_address memory b) (λ _. distance a b size))

-- ---- copies of structs

-- what the cells of a shape hold that begins at this offset, as they are
abbrev pub gathered : List StoredCell → ℕ → List ShapeCell → Result (List Content) Ub
gathered cells base [] = Ok []
gathered cells base (cell ∷ rest) =
    then_result (held_at cells (base + cell.offset) cell.ty) (λ held. then_result (gathered cells base rest) (λ others. Ok (held ∷ others)))

-- the cells, with these contents in those of a shape that begins at this offset
abbrev pub scattered : DataModel → List StoredCell → ℕ → List ShapeCell → List Content → Result (List StoredCell) Ub
scattered model cells base (cell ∷ rest) (held ∷ others) =
    then_result (with_held model cells (base + cell.offset) cell.ty held) (λ after. scattered model after base rest others)
scattered model cells base shape contents = Ok cells

abbrev pub not_null : Option Address → Result Bool Ub
not_null None = Err U.Null
not_null (Some at) = Ok true

-- a struct of this shape copied from the second address to the first: all its cells are read before one is written
unfoldable pub copy_struct : DataModel → Memory → Option Address → Option Address → Shape → Result Memory Ub
copy_struct model memory to from shape =
    then_result (not_null to) (λ _. then_result (not_null from) (λ _. then_result (object_at memory to) (λ target. then_result (object_at memory from) (λ source.
    then_result (gathered source.cells (offset_of from) shape.cells) (λ contents. then_result (scattered model target.cells (offset_of to) shape.cells contents) (λ cells.
    if target.writable then Ok (replaced memory to target cells) else Err U.Sealed))))))
