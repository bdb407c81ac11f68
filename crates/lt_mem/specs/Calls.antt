-- What the calls that change a memory promise.
use Rattle.std.specs.Prelude.{◌≡◌, List, Result, Ok, Err}
use Rattle.lt_model.specs.declared.scalar.DataModel.{DataModel}
use Rattle.lt_model.specs.declared.operator.Ub.{Ub}
use Rattle.lt_model.specs.declared.cell.CellType.{CellType}
use Rattle.lt_model.specs.declared.cell.CellType.TheVariants.{Num, Pointer}
use Rattle.lt_model.specs.declared.cell.Content.{Content}
use Rattle.lt_model.specs.declared.cell.Content.TheVariants as content
use Rattle.lt_model.specs.Scalar.{IsValue}
use Rattle.lt_model.specs.Memory.{Block}
use Rattle.lt_mem.specs.Image.{Image}

-- a content that an access of this type may store: a number of the type, or an address for a pointer
abbrev pub IsOfType : DataModel → CellType → Content → Type 0
IsOfType model (Num s) (content.Number z) = IsValue model s z
IsOfType model (Pointer p) (content.Address at) = Unit {0}
IsOfType model ty held = ⊥

-- the memory with these objects, or the kind that refuses them
abbrev pub with_blocks : Image → Result (List Block) Ub → Result Image Ub
with_blocks memory (Ok blocks) = Ok (record memory { blocks = blocks })
with_blocks memory (Err kind) = Err kind

-- A call leaves what is given, or answers the kind that refuses it, and then nothing changed.
abbrev pub Becomes : {A : Type 0} → Result A Ub → A → Result (Unit {0}) Ub → A → Type 0
Becomes (Ok after) before result now = (result ≡ Ok tt) × (now ≡ after)
Becomes (Err kind) before result now = (result ≡ Err kind) × (now ≡ before)
