-- Values and footprints, C11 5.1.2.3 and 6.5: what the evaluation of an expression may meet. A number and an address
-- are a content; a struct is said by the address where it lies, and its cells are read where they are copied; where
-- there is no value, the content is unset.
use Rattle.std.specs.Prelude.{ℕ, suc, ℤ, pos, negsuc, ◌+◌, ◌-◌, ◌*ℤ◌, ◌^◌, List, [], ◌∷◌, ◌++◌, Bool, true, false, not}
use Rattle.std.specs.Prelude.{◌&&◌, int_le, Option}
use Rattle.std.specs.Prelude.{Some, None, Result, Ok, Err, if◌then◌else◌}
use Rattle.std.specs.Ordering.{int_eq}
use Rattle.lt_model.specs.declared.cell.Address.{Address}
use Rattle.lt_model.specs.declared.cell.CellType.{CellType}
use Rattle.lt_model.specs.declared.cell.CellType.TheVariants as celltype
use Rattle.lt_model.specs.declared.cell.Content.{Content}
use Rattle.lt_model.specs.declared.cell.Content.TheVariants as content
use Rattle.lt_model.specs.declared.cell.Shape.{Shape}
use Rattle.lt_model.specs.declared.cell.ShapeCell.{ShapeCell}
use Rattle.lt_model.specs.declared.scalar.DataModel.{DataModel}
use Rattle.lt_model.specs.declared.scalar.Scalar.{Scalar}
use Rattle.lt_model.specs.declared.operator.Op.{Op}
use Rattle.lt_model.specs.declared.operator.Op.TheVariants as O
use Rattle.lt_model.specs.declared.operator.Ub.{Ub}
use Rattle.lt_model.specs.declared.operator.Ub.TheVariants as U
use Rattle.lt_model.specs.Operators.{truth, value_of, is_value}
use Rattle.lt_model.specs.Memory.{Memory, object_at, held_at, offset_of, load, store, copy_struct, checked_address}
use Rattle.lt_model.specs.Memory.{then_result, move_by, compare, subtract, not_null}
use Rattle.lt_model.specs.State.{CellName, Footprint, Valued, clash, joined, settle, meets, untouched}
use Rattle.lt_ir.specs.declared.variable.Variable.TheVariants.{Parameter}
use Rattle.lt_ir.specs.Running.{place, Step, gives, defined, absurdity, asked, changed, ◌>>=◌, ◌>>◌}

abbrev pub valued : {A : Type 0} → A → Footprint → Valued A
valued a footprint = record { value = a; footprint = footprint }

-- ---- the use of a value: there has to be one

abbrev pub number_in : Content → Step ℤ
number_in content.Unset = defined (Err U.NoValue)
number_in (content.Number z) = gives z
number_in (content.Address a) = absurdity

abbrev pub address_in : Content → Step (Option Address)
address_in content.Unset = defined (Err U.NoValue)
address_in (content.Number z) = absurdity
address_in (content.Address a) = gives a

abbrev pub used : Content → Step Content
used content.Unset = defined (Err U.NoValue)
used c = gives c

abbrev pub is_some_address : Option Address → Bool
is_some_address None = false
is_some_address (Some a) = true

-- whether a scalar isn't 0 or null; the address of an ended object can't be tested
abbrev pub truth_in : Content → Step Bool
truth_in content.Unset = defined (Err U.NoValue)
truth_in (content.Number z) = gives (not (int_eq z (pos 0)))
truth_in (content.Address a) = asked (λ memory. checked_address memory a) >>= (λ _. gives (is_some_address a))

abbrev pub of_truth : Bool → Content
of_truth b = content.Number (truth b)

-- ---- footprints

-- Whether an evaluation tracks what it reads and writes. Where nothing can clash it needn't: then footprints stay as
-- they are.
abbrev pub grown : (tracks : Bool) → Footprint → Footprint → Footprint
grown true p q = joined p q
grown false p q = p

abbrev pub settled_in : (tracks : Bool) → Footprint → Footprint
settled_in true p = settle p
settled_in false p = p

-- two unsequenced parts
abbrev pub apart : (tracks : Bool) → Footprint → Footprint → Step Footprint
apart true p q = if clash p q then defined (Err U.Unsequenced) else gives (joined p q)
apart false p q = gives p

abbrev pub cell_at : Option Address → ℕ → List CellName
cell_at None offset = []
cell_at (Some a) offset = record { block = a.block; offset = a.offset + offset } ∷ []

abbrev pub reads : List CellName → Footprint
reads cells = record { reads = cells; settled = []; pending = [] }

abbrev pub writes : List CellName → Footprint
writes cells = record { reads = []; settled = []; pending = cells }

-- whether an access of this type meets a cell there
abbrev pub is_met : Memory → Option Address → CellType → Bool
is_met memory place ty =
    elim (then_result (object_at memory place) (λ block. held_at block.cells (offset_of place) ty)) [
      | Ok held ↦ true
      | Err kind ↦ false
    ]

-- an address so many bytes further on
abbrev pub further : ℕ → Option Address → Option Address
further offset None = None
further offset (Some a) = Some (record { block = a.block; offset = a.offset + offset })

-- the cells of an access that lies there, of those that it meets
abbrev pub cells_met : List ShapeCell → Option Address → Memory → List CellName
cells_met [] place memory = []
cells_met (c ∷ cs) place memory =
    if is_met memory (further c.offset place) c.ty then cell_at place c.offset ++ cells_met cs place memory
    else cells_met cs place memory

-- a scalar as what an access is to
abbrev pub one_cell : CellType → List ShapeCell
one_cell ty = record { offset = 0; ty = ty } ∷ []

-- The target of an assignment, `++` or `--` clashes with the pending writes of its operands; what meets no cell clashes
-- with nothing.
abbrev pub aimed : (tracks : Bool) → List ShapeCell → Option Address → Footprint → Step Footprint
aimed true cells place operands at =
    (if meets (cells_met cells place at.memory) operands.pending then defined (Err U.Unsequenced)
    else gives operands) at
aimed false cells place operands at = gives operands at

-- where a struct lies that is a value
abbrev pub lies_at : Content → Option Address
lies_at (content.Address a) = a
lies_at c = None

-- the cells of an object are read whose address is the value
abbrev pub with_reads : (tracks : Bool) → List ShapeCell → Valued Content → Step Footprint
with_reads tracks cells x at = gives (grown tracks x.footprint (reads (cells_met cells (lies_at x.value) at.memory))) at

-- ---- what is done to memory, with the footprint of it

-- a scalar is read; the footprint before is that of its place
abbrev pub loaded : (tracks : Bool) → DataModel → CellType → Valued (Option Address) → Step (Valued Content)
loaded tracks model ty p =
    asked (λ memory. load model memory p.value ty)
    >>= (λ c. gives (valued c (grown tracks p.footprint (reads (cell_at p.value 0)))))

-- memory is changed where an access lies that is to these cells; the footprint before is that of the operands
abbrev pub written : (tracks : Bool) → (Memory → Result Memory Ub) → List ShapeCell → Option Address →
    Footprint → Step Footprint
written tracks change cells place operands at =
    (changed change >> gives (grown tracks operands (writes (cells_met cells place at.memory)))) at

-- whether a content is one of a type: a number that the type has, or an address for a pointer
abbrev pub is_content_of : DataModel → CellType → Content → Bool
is_content_of model (celltype.Num s) (content.Number z) = is_value model s z
is_content_of model (celltype.Pointer p) (content.Address a) = true
is_content_of model ty c = false

-- a scalar is stored, a content of its type
abbrev pub stored : (tracks : Bool) → DataModel → CellType → Option Address → Content → Footprint → Step Footprint
stored tracks model ty place c operands =
    if is_content_of model ty c
    then written tracks (λ memory. store model memory place ty c) (one_cell ty) place operands
    else absurdity

-- a struct is copied
abbrev pub copied : (tracks : Bool) → DataModel → Shape → Option Address → Option Address → Footprint → Step Footprint
copied tracks model shape place from operands at =
    written tracks (λ memory. copy_struct model memory place from shape) shape.cells place operands at

-- ---- operators

abbrev pub signed_count : Op → ℤ → ℤ
signed_count O.Sub z = negsuc 0 *ℤ z
signed_count op z = z

-- whether some integer type has a number
abbrev pub is_integer : ℤ → Bool
is_integer z = int_le (negsuc (2 ^ 63 - 1)) z && int_le z (pos (2 ^ 64 - 1))

-- a pointer moved by a number of elements, C11 6.5.6
abbrev pub moved : Op → ℕ → Content → Content → Step (Option Address)
moved op size pointer count = do
  p ← address_in pointer
  n ← number_in count
  if is_integer n then asked (λ memory. move_by memory p (signed_count op n) size) else absurdity

-- the address of a member: null has none
abbrev pub member_at : ℕ → Option Address → Step (Option Address)
member_at offset place = asked (λ memory. then_result (not_null place) (λ _. move_by memory place (pos 1) offset))

-- The right operand has a value of the operation's type; that of a shift may have one of any type.
abbrev pub is_right_operand : DataModel → Op → Scalar → ℤ → Bool
is_right_operand model O.Shl s z = is_integer z
is_right_operand model O.Shr s z = is_integer z
is_right_operand model op s z = is_value model s z

-- an operator on two numbers that may be its operands
abbrev pub applied : DataModel → Op → Scalar → Content → Content → Step ℤ
applied model op s left right = do
  a ← number_in left
  b ← number_in right
  if is_value model s a && is_right_operand model op s b then defined (value_of model op s a b) else absurdity

abbrev pub counted : ℕ → Content → Content → Step ℤ
counted size left right = do
  a ← address_in left
  b ← address_in right
  asked (λ memory. subtract memory a b size)

abbrev pub compared : Op → Content → Content → Step Bool
compared op left right = do
  a ← address_in left
  b ← address_in right
  asked (λ memory. compare memory op a b)

-- ---- the values of parameters, C11 6.5.2.2

-- A parameter is a scalar: its one cell gets the value.
abbrev pub store_one : DataModel → ℕ → List ShapeCell → Content → Step (Unit {0})
store_one model k [] c = absurdity
store_one model k (cell ∷ cells) c = do
  it ← used c
  p ← place (Parameter k)
  stored false model cell.ty p it untouched
  gives tt

-- the values of arguments go to the parameters, from one on
abbrev pub store_parameters : DataModel → ℕ → List Shape → List Content → Step (Unit {0})
store_parameters model k (shape ∷ shapes) (c ∷ cs) =
    store_one model k shape.cells c >> store_parameters model (suc k) shapes cs
store_parameters model k shapes cs = gives tt
