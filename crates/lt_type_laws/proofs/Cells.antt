-- What memory does to cells whose types are numbers or have numbers that pass a test: none of another type comes into it.
use Rattle.std.proofs.Common.{◌≡◌, ℕ, zero, suc, List, [], ◌∷◌, ◌++◌, Option, Some, None, Bool, true, false, refl, subst}
use Rattle.std.specs.Prelude.{◌==◌, ◌+◌, ◌&&◌, nat_le, if◌then◌else◌, Result, Ok, Err, map, slice_get, slice_set, length}
use Rattle.std.specs.List.{AllByRecursion}
use Rattle.lt_model.specs.declared.cell.Address.{Address}
use Rattle.lt_model.specs.declared.cell.CellType.{CellType}
use Rattle.lt_model.specs.declared.cell.Content.{Content}
use Rattle.lt_model.specs.declared.cell.Shape.{Shape}
use Rattle.lt_model.specs.declared.cell.ShapeCell.{ShapeCell}
use Rattle.lt_model.specs.declared.cell.StoredCell.{StoredCell}
use Rattle.lt_model.specs.declared.scalar.DataModel.{DataModel}
use Rattle.lt_model.specs.declared.operator.Ub.{Ub}
use Rattle.lt_model.specs.declared.operator.Ub.TheVariants as U
use Rattle.lt_model.specs.Memory.{Memory, Block, corresponds, as_type, if_alive, object_at, offset_of, before_cells, with_held, then_result, store, replaced, ended_block, end_block, new_cell, new_block, create, create_shaped, cells_alive, most_cells, sealed, seal_block, gathered, scattered, not_null, copy_struct}
use Rattle.lt_type_laws.specs.TypeLists.{is_of}

-- the cells of a block, of memory and of a shape have types of which this is so
abbrev pub CellsOf : (ℕ → Bool) → List StoredCell → Type 0
CellsOf test cells = AllByRecursion (λ (cell : StoredCell). is_of test cell.ty ≡ true) cells

abbrev pub MemoryOf : (ℕ → Bool) → Memory → Type 0
MemoryOf test memory = AllByRecursion (λ (block : Block). CellsOf test block.cells) memory

abbrev pub ShapeOf : (ℕ → Bool) → List ShapeCell → Type 0
ShapeOf test cells = AllByRecursion (λ (cell : ShapeCell). is_of test cell.ty ≡ true) cells

abbrev ok : {A : Type 0} → A → Result A Ub
ok a = Ok a

pub ok_is : {A : Type 0} {x y : A} → ok x ≡ ok y → x ≡ y
ok_is e = cc

pub some_is : {A : Type 0} {x y : A} → Some x ≡ Some y → x ≡ y
some_is e = cc

pub no_ok : {A : Type 0} {x : A} {kind : Ub} → Err kind ≡ ok x → ⊥
no_ok e = cc

pub no_some : {A : Type 0} {x : A} → None ≡ Some x → ⊥
no_some e = cc

-- what comes before comes too
pub then_ok : {A B : Type 0} (r : Result A Ub) (go : A → Result B Ub) (b : B) → then_result r go ≡ ok b → (a : A) × (r ≡ ok a) × (go a ≡ ok b)
then_ok (Ok a) go b e = (a, refl, e)
then_ok (Err kind) go b e = absurd (no_ok e)

module _ (test : ℕ → Bool) where
  -- ---- memory that has one

  set_of : (memory : Memory) (k : ℕ) (block : Block) → MemoryOf test memory → CellsOf test block.cells → MemoryOf test (slice_set memory k block)
  set_of [] k block h g = tt
  set_of (b ∷ bs) zero block h g = (g, h.1)
  set_of (b ∷ bs) (suc k) block h g = (h.0, set_of bs k block h.1 g)

  got_of : (memory : Memory) (k : ℕ) (block : Block) → slice_get memory k ≡ Some block → MemoryOf test memory → CellsOf test block.cells
  got_of [] k block e h = absurd (no_some e)
  got_of (b ∷ bs) zero block e h = subst (λ (it : Block). CellsOf test it.cells) (some_is e) h.0
  got_of (b ∷ bs) (suc k) block e h = got_of bs k block e h.1

  alive_by : (b : Bool) (it block : Block) → (if b then ok it else Err U.Ended) ≡ ok block → it ≡ block
  alive_by true it block e = ok_is e
  alive_by false it block e = absurd (no_ok e)

  alive_of : (memory : Memory) (found : Option Block) (k : ℕ) (block : Block) → slice_get memory k ≡ found → if_alive found ≡ ok block → MemoryOf test memory → CellsOf test block.cells
  alive_of memory None k block q e h = absurd (no_ok e)
  alive_of memory (Some it) k block q e h = subst (λ (it : Block). CellsOf test it.cells) (alive_by it.alive it block e) (got_of memory k it q h)

  pub object_of : (memory : Memory) (a : Option Address) (block : Block) → object_at memory a ≡ ok block → MemoryOf test memory → CellsOf test block.cells
  object_of memory None block e h = absurd (no_ok e)
  object_of memory (Some a) block e h = alive_of memory (slice_get memory a.block) a.block block refl e h

  -- ---- memory that is changed

  before_of : (c : StoredCell) (r : Result (List StoredCell) Ub) (after : List StoredCell) → is_of test c.ty ≡ true → ((rest : List StoredCell) → r ≡ ok rest → CellsOf test rest) → before_cells c r ≡ ok after → CellsOf test after
  before_of c (Ok rest) after h f e = subst (CellsOf test) (ok_is e) (h, f rest refl)
  before_of c (Err kind) after h f e = absurd (no_ok e)

  held_by : (b : Bool) (c : StoredCell) (cs after : List StoredCell) (x : Content) (r : Result (List StoredCell) Ub) → is_of test c.ty ≡ true → CellsOf test cs → ((rest : List StoredCell) → r ≡ ok rest → CellsOf test rest)
      → (if b then ok (record { offset = c.offset; ty = c.ty; holds = x } ∷ cs) else before_cells c r) ≡ ok after → CellsOf test after
  held_by true c cs after x r h g f e = subst (CellsOf test) (ok_is e) (h, g)
  held_by false c cs after x r h g f e = before_of c r after h f e

  pub with_held_of : (model : DataModel) (cells after : List StoredCell) (offset : ℕ) (ty : CellType) (x : Content) → with_held model cells offset ty x ≡ ok after → CellsOf test cells → CellsOf test after
  with_held_of model [] after offset ty x e h = absurd (no_ok e)
  with_held_of model (c ∷ cs) after offset ty x e h =
      held_by (c.offset == offset && corresponds ty c.ty) c cs after (as_type model c.ty x) (with_held model cs offset ty x) h.0 h.1 (λ rest q. with_held_of model cs rest offset ty x q h.1) e

  replaced_of : (memory : Memory) (a : Option Address) (block : Block) (cells : List StoredCell) → MemoryOf test memory → CellsOf test cells → MemoryOf test (replaced memory a block cells)
  replaced_of memory None block cells h g = h
  replaced_of memory (Some a) block cells h g = set_of memory a.block (record block { cells = cells }) h g

  written_by : (b : Bool) (memory after : Memory) → (if b then ok memory else Err U.Sealed) ≡ ok after → MemoryOf test memory → MemoryOf test after
  written_by true memory after e h = subst (MemoryOf test) (ok_is e) h
  written_by false memory after e h = absurd (no_ok e)

  pub store_of : (model : DataModel) (a : Option Address) (ty : CellType) (x : Content) (memory after : Memory) → MemoryOf test memory → store model memory a ty x ≡ ok after → MemoryOf test after
  unfolding store
  store_of model a ty x memory after h e =
      let one = then_ok (object_at memory a) (λ block. then_result (with_held model block.cells (offset_of a) ty x) (λ cells. if block.writable then ok (replaced memory a block cells) else Err U.Sealed)) after e in
      let block : Block = one.0 in
      let two = then_ok (with_held model block.cells (offset_of a) ty x) (λ cells. if block.writable then ok (replaced memory a block cells) else Err U.Sealed) after one.2 in
      written_by block.writable (replaced memory a block two.0) after two.2 (replaced_of memory a block two.0 h (with_held_of model block.cells two.0 (offset_of a) ty x two.1 (object_of memory a block one.1 h)))

  scattered_of : (model : DataModel) (cells : List StoredCell) (base : ℕ) (shape : List ShapeCell) (contents : List Content) (after : List StoredCell) → scattered model cells base shape contents ≡ ok after → CellsOf test cells → CellsOf test after
  scattered_of model cells base [] contents after e h = subst (CellsOf test) (ok_is e) h
  scattered_of model cells base (c ∷ rest) [] after e h = subst (CellsOf test) (ok_is e) h
  scattered_of model cells base (c ∷ rest) (x ∷ others) after e h =
      let one = then_ok (with_held model cells (base + c.offset) c.ty x) (λ it. scattered model it base rest others) after e in
      scattered_of model one.0 base rest others after one.2 (with_held_of model cells one.0 (base + c.offset) c.ty x one.1 h)

  pub copy_of : (model : DataModel) (to from : Option Address) (shape : Shape) (memory after : Memory) → MemoryOf test memory → copy_struct model memory to from shape ≡ ok after → MemoryOf test after
  unfolding copy_struct
  copy_of model to from shape memory after h e =
      let end : Block → List StoredCell → Result Memory Ub = λ target cells. if target.writable then ok (replaced memory to target cells) else Err U.Sealed in
      let one = then_ok (not_null to) (λ _. then_result (not_null from) (λ _. then_result (object_at memory to) (λ target. then_result (object_at memory from) (λ source. then_result (gathered source.cells (offset_of from) shape.cells) (λ contents. then_result (scattered model target.cells (offset_of to) shape.cells contents) (end target)))))) after e in
      let two = then_ok (not_null from) (λ _. then_result (object_at memory to) (λ target. then_result (object_at memory from) (λ source. then_result (gathered source.cells (offset_of from) shape.cells) (λ contents. then_result (scattered model target.cells (offset_of to) shape.cells contents) (end target))))) after one.2 in
      let three = then_ok (object_at memory to) (λ target. then_result (object_at memory from) (λ source. then_result (gathered source.cells (offset_of from) shape.cells) (λ contents. then_result (scattered model target.cells (offset_of to) shape.cells contents) (end target)))) after two.2 in
      let target : Block = three.0 in
      let four = then_ok (object_at memory from) (λ source. then_result (gathered source.cells (offset_of from) shape.cells) (λ contents. then_result (scattered model target.cells (offset_of to) shape.cells contents) (end target))) after three.2 in
      let source : Block = four.0 in
      let five = then_ok (gathered source.cells (offset_of from) shape.cells) (λ contents. then_result (scattered model target.cells (offset_of to) shape.cells contents) (end target)) after four.2 in
      let six = then_ok (scattered model target.cells (offset_of to) shape.cells five.0) (end target) after five.2 in
      written_by target.writable (replaced memory to target six.0) after six.2 (replaced_of memory to target six.0 h (scattered_of model target.cells (offset_of to) shape.cells five.0 six.0 six.1 (object_of memory to target three.1 h)))

  new_of : (zeroed : Bool) (cells : List ShapeCell) → ShapeOf test cells → CellsOf test (map (new_cell zeroed) cells)
  new_of zeroed [] h = tt
  new_of zeroed (c ∷ cs) h = (h.0, new_of zeroed cs h.1)

  more_of : (memory : Memory) (block : Block) → MemoryOf test memory → CellsOf test block.cells → MemoryOf test (memory ++ block ∷ [])
  more_of [] block h g = (g, tt)
  more_of (b ∷ bs) block h g = (h.0, more_of bs block h.1 g)

  created_by : (b : Bool) (memory after : Memory) → (if b then Some memory else None) ≡ Some after → MemoryOf test memory → MemoryOf test after
  created_by true memory after e h = subst (MemoryOf test) (some_is e) h
  created_by false memory after e h = absurd (no_some e)

  pub created_of : (shape : Shape) (zeroed writable : Bool) (memory after : Memory) → ShapeOf test shape.cells → MemoryOf test memory → create_shaped memory shape zeroed writable ≡ Some after → MemoryOf test after
  unfolding create_shaped
  created_of shape zeroed writable memory after g h e =
      created_by (nat_le (cells_alive memory + length shape.cells) most_cells) (create memory (new_block shape zeroed writable)) after e (more_of memory (new_block shape zeroed writable) h (new_of zeroed shape.cells g))

  pub ended_of : (memory : Memory) (k : ℕ) → MemoryOf test memory → MemoryOf test (end_block memory k)
  ended_of memory k h = set_of memory k ended_block h tt

  sealed_by : (memory : Memory) (k : ℕ) (found : Option Block) → slice_get memory k ≡ found → MemoryOf test memory → MemoryOf test (sealed memory k found)
  sealed_by memory k None q h = h
  sealed_by memory k (Some block) q h = set_of memory k (record block { writable = false }) h (got_of memory k block q h)

  pub sealed_of : (memory : Memory) (k : ℕ) → MemoryOf test memory → MemoryOf test (seal_block memory k)
  sealed_of memory k h = sealed_by memory k (slice_get memory k) refl h
