-- Memory in whose cells types have other numbers does the same.
use Rattle.std.proofs.Common.{◌≡◌, ℕ, ℤ, pos, zero, suc, List, [], ◌∷◌, ◌++◌, map, length, Option, Some, None, Bool, true, false, refl, sym, ap, ◌∙◌, eq-eqb, eqb-true}
use Rattle.std.proofs.lemmas.List.{length-map}
use Rattle.std.proofs.lemmas.List.Sums.{sum_by-cons}
use Rattle.std.specs.Prelude.{◌==◌, ◌+◌, ◌+ℤ◌, ◌*ℤ◌, ◌&&◌, nat_le, if◌then◌else◌, Result, Ok, Err, slice_get, slice_set}
use Rattle.std.specs.List.{AllByRecursion}
use Rattle.lt_model.specs.declared.cell.Address.{Address}
use Rattle.lt_model.specs.declared.cell.CellType.{CellType}
use Rattle.lt_model.specs.declared.cell.CellType.TheVariants.{Num, Pointer}
use Rattle.lt_model.specs.declared.cell.Content.{Content}
use Rattle.lt_model.specs.declared.cell.Content.TheVariants as content
use Rattle.lt_model.specs.declared.cell.Shape.{Shape}
use Rattle.lt_model.specs.declared.cell.ShapeCell.{ShapeCell}
use Rattle.lt_model.specs.declared.cell.StoredCell.{StoredCell}
use Rattle.lt_model.specs.declared.scalar.DataModel.{DataModel}
use Rattle.lt_model.specs.declared.scalar.Scalar.{Scalar}
use Rattle.lt_model.specs.declared.operator.Op.{Op}
use Rattle.lt_model.specs.declared.operator.Ub.{Ub}
use Rattle.lt_model.specs.declared.operator.Ub.TheVariants as U
use Rattle.lt_model.specs.Memory.{Memory, Block, corresponds, as_type, if_alive, object_at, offset_of, held_at, before_cells, with_held, usable, of_object, then_result, load, store, replaced, end_block, first_content, new_cell, new_block, create, create_shaped, living_cells, cells_alive, most_cells, sealed, seal_block, gathered, scattered, not_null, copy_struct, living, checked_address, within_object, move_by, related, compare, distance, subtract}
use Rattle.lt_ir.specs.Running.{is_alive}
use Rattle.lt_ir.specs.Evaluation.{is_met, further, cell_at, cells_met, is_content_of}
use Rattle.lt_type_laws.specs.Renumbered.{cell_type_with, cell_with, block_with, memory_with, shape_cell_with, shape_with}
use Rattle.lt_type_laws.specs.TypeLists.{is_of}
use Rattle.lt_type_laws.proofs.Cells.{CellsOf, MemoryOf, ShapeOf, object_of, with_held_of}

-- which numbers types have in the other memory, and which numbers cells may have in the first
pub record Comparison : Type 0 where
  pub numbers : ℕ → ℕ
  pub held : ℕ → Bool

abbrev pub result_with : {A B : Type 0} → (A → B) → Result A Ub → Result B Ub
result_with f (Ok a) = Ok (f a)
result_with f (Err kind) = Err kind

abbrev pub option_with : {A B : Type 0} → (A → B) → Option A → Option B
option_with f None = None
option_with f (Some a) = Some (f a)

abbrev ok : {A : Type 0} → A → Result A Ub
ok a = Ok a

-- what comes is renumbered, and what follows is too
pub then_with : {A B C D : Type 0} (x : Result A Ub) (other : Result C Ub) (go : A → Result B Ub) (on : C → Result D Ub) (f : A → C) (g : B → D)
    → other ≡ result_with f x → ((a : A) → x ≡ ok a → on (f a) ≡ result_with g (go a)) → then_result other on ≡ result_with g (then_result x go)
then_with (Ok a) other go on f g e h = ap (λ x. then_result x on) e ∙ h a refl
then_with (Err kind) other go on f g e h = ap (λ x. then_result x on) e

-- what comes is renumbered, and what follows is as it was
pub then_as : {A B C : Type 0} (x : Result A Ub) (other : Result C Ub) (go : A → Result B Ub) (on : C → Result B Ub) (f : A → C)
    → other ≡ result_with f x → ((a : A) → x ≡ ok a → on (f a) ≡ go a) → then_result other on ≡ then_result x go
then_as (Ok a) other go on f e h = ap (λ x. then_result x on) e ∙ h a refl
then_as (Err kind) other go on f e h = ap (λ x. then_result x on) e

module _ (seen : Comparison) where
  abbrev cells_other : List StoredCell → List StoredCell
  cells_other cells = map (cell_with seen.numbers) cells

  abbrev pub Fits : Memory → Type 0
  Fits memory = MemoryOf seen.held memory

  -- ---- accesses that meet alike

  -- an access of the second type meets the cells, renumbered, that one of the first meets
  pub data MeetAlike : CellType → CellType → Type 0 where
    numbers : {s : Scalar} → MeetAlike (Num s) (Num s)
    pointers : {p q : ℕ} → ((k : ℕ) → seen.held k ≡ true → (q == seen.numbers k) ≡ (p == k)) → MeetAlike (Pointer p) (Pointer q)

  pub meets : {ty other : CellType} → MeetAlike ty other → (c : CellType) → is_of seen.held c ≡ true → corresponds other (cell_type_with seen.numbers c) ≡ corresponds ty c
  meets numbers (Num s) h = refl
  meets numbers (Pointer k) h = refl
  meets (pointers f) (Num s) h = refl
  meets (pointers f) (Pointer k) h = f k h

  tests_by : (b c : Bool) (i j m k : ℕ) → (i == j) ≡ b → (m == k) ≡ c → (i ≡ j → m ≡ k) → (m ≡ k → i ≡ j) → b ≡ c
  tests_by true true i j m k p q f g = refl
  tests_by false false i j m k p q f g = refl
  tests_by true false i j m k p q f g = sym (eq-eqb m k (f (eqb-true i j p))) ∙ q
  tests_by false true i j m k p q f g = sym p ∙ eq-eqb i j (g (eqb-true m k q))

  -- an equation of numbers is that of others
  pub same_tests : (i j m k : ℕ) → (i ≡ j → m ≡ k) → (m ≡ k → i ≡ j) → (i == j) ≡ (m == k)
  same_tests i j m k f g = tests_by (i == j) (m == k) i j m k refl refl f g

  -- accesses by the types of these cells meet as they do renumbered
  abbrev pub ShapeMeets : List ShapeCell → Type 0
  ShapeMeets cells = AllByRecursion (λ (cell : ShapeCell). MeetAlike cell.ty (cell_type_with seen.numbers cell.ty)) cells

  -- so they do, and memory may have these cells
  abbrev pub ShapeFits : List ShapeCell → Type 0
  ShapeFits cells = ShapeOf seen.held cells × ShapeMeets cells

  pub as_type_alike : (model : DataModel) (c : Content) {ty other : CellType} → MeetAlike ty other → as_type model other c ≡ as_type model ty c
  as_type_alike model c numbers = refl
  as_type_alike model content.Unset (pointers f) = refl
  as_type_alike model (content.Number z) (pointers f) = refl
  as_type_alike model (content.Address a) (pointers f) = refl

  pub content_alike : (model : DataModel) (c : Content) {ty other : CellType} → MeetAlike ty other → is_content_of model other c ≡ is_content_of model ty c
  content_alike model c numbers = refl
  content_alike model content.Unset (pointers f) = refl
  content_alike model (content.Number z) (pointers f) = refl
  content_alike model (content.Address a) (pointers f) = refl

  pub as_type_with : (model : DataModel) (ty : CellType) (c : Content) → as_type model (cell_type_with seen.numbers ty) c ≡ as_type model ty c
  as_type_with model (Num s) c = refl
  as_type_with model (Pointer p) content.Unset = refl
  as_type_with model (Pointer p) (content.Number z) = refl
  as_type_with model (Pointer p) (content.Address a) = refl

  -- ---- cells

  pub held_with : (cells : List StoredCell) (offset : ℕ) {ty other : CellType} → MeetAlike ty other → CellsOf seen.held cells → held_at (cells_other cells) offset other ≡ held_at cells offset ty
  held_with [] offset d h = refl
  held_with (c ∷ cs) offset {ty} {other} d h =
      ap (λ b. if c.offset == offset && b then ok c.holds else held_at (cells_other cs) offset other) (meets d c.ty h.0)
      ∙ ap (λ rest. if c.offset == offset && corresponds ty c.ty then ok c.holds else rest) (held_with cs offset d h.1)

  pub before_with : (c : StoredCell) (x : Result (List StoredCell) Ub) → before_cells (cell_with seen.numbers c) (result_with cells_other x) ≡ result_with cells_other (before_cells c x)
  before_with c (Ok cells) = refl
  before_with c (Err kind) = refl

  pub with_held_with : (model : DataModel) (cells : List StoredCell) (offset : ℕ) {ty other : CellType} (x : Content) → MeetAlike ty other → CellsOf seen.held cells
      → with_held model (cells_other cells) offset other x ≡ result_with cells_other (with_held model cells offset ty x)
  with_held_with model [] offset x d h = refl
  with_held_with model (c ∷ cs) offset {ty} {other} x d h =
      ap (λ b. if c.offset == offset && b then ok (record { offset = c.offset; ty = cell_type_with seen.numbers c.ty; holds = as_type model (cell_type_with seen.numbers c.ty) x } ∷ cells_other cs) else before_cells (cell_with seen.numbers c) (with_held model (cells_other cs) offset other x)) (meets d c.ty h.0)
      ∙ by (c.offset == offset && corresponds ty c.ty) (with_held_with model cs offset x d h.1)
    where
      by : (b : Bool) → with_held model (cells_other cs) offset other x ≡ result_with cells_other (with_held model cs offset ty x)
          → (if b then ok (record { offset = c.offset; ty = cell_type_with seen.numbers c.ty; holds = as_type model (cell_type_with seen.numbers c.ty) x } ∷ cells_other cs) else before_cells (cell_with seen.numbers c) (with_held model (cells_other cs) offset other x))
          ≡ result_with cells_other (if b then ok (record { offset = c.offset; ty = c.ty; holds = as_type model c.ty x } ∷ cs) else before_cells c (with_held model cs offset ty x))
      by true g = ap (λ held. ok (record { offset = c.offset; ty = cell_type_with seen.numbers c.ty; holds = held } ∷ cells_other cs)) (as_type_with model c.ty x)
      by false g = ap (before_cells (cell_with seen.numbers c)) g ∙ before_with c (with_held model cs offset ty x)

  gathered_with : (cells : List StoredCell) (base : ℕ) (shape : List ShapeCell) → ShapeMeets shape → CellsOf seen.held cells
      → gathered (cells_other cells) base (map (shape_cell_with seen.numbers) shape) ≡ gathered cells base shape
  gathered_with cells base [] g h = refl
  gathered_with cells base (c ∷ rest) g h =
      ap (λ x. then_result x (λ held. then_result (gathered (cells_other cells) base (map (shape_cell_with seen.numbers) rest)) (λ others. ok (held ∷ others)))) (held_with cells (base + c.offset) g.0 h)
      ∙ ap (λ x. then_result (held_at cells (base + c.offset) c.ty) (λ held. then_result x (λ others. ok (held ∷ others)))) (gathered_with cells base rest g.1 h)

  scattered_with : (model : DataModel) (cells : List StoredCell) (base : ℕ) (shape : List ShapeCell) (contents : List Content) → ShapeMeets shape → CellsOf seen.held cells
      → scattered model (cells_other cells) base (map (shape_cell_with seen.numbers) shape) contents ≡ result_with cells_other (scattered model cells base shape contents)
  scattered_with model cells base [] contents g h = refl
  scattered_with model cells base (c ∷ rest) [] g h = refl
  scattered_with model cells base (c ∷ rest) (x ∷ others) g h =
      then_with (with_held model cells (base + c.offset) c.ty x) (with_held model (cells_other cells) (base + c.offset) (cell_type_with seen.numbers c.ty) x)
      (λ after. scattered model after base rest others) (λ after. scattered model after base (map (shape_cell_with seen.numbers) rest) others)
      cells_other cells_other (with_held_with model cells (base + c.offset) x g.0 h)
      (λ after e. scattered_with model after base rest others g.1 (with_held_of seen.held model cells after (base + c.offset) c.ty x e h))

  -- ---- blocks

  pub got_with : (memory : Memory) (k : ℕ) → slice_get (memory_with seen.numbers memory) k ≡ option_with (block_with seen.numbers) (slice_get memory k)
  got_with [] k = refl
  got_with (b ∷ bs) zero = refl
  got_with (b ∷ bs) (suc k) = got_with bs k

  set_with : (memory : Memory) (k : ℕ) (block : Block) → slice_set (memory_with seen.numbers memory) k (block_with seen.numbers block) ≡ memory_with seen.numbers (slice_set memory k block)
  set_with [] k block = refl
  set_with (b ∷ bs) zero block = refl
  set_with (b ∷ bs) (suc k) block = ap (λ them. block_with seen.numbers b ∷ them) (set_with bs k block)

  more_with : (memory : Memory) (block : Block) → memory_with seen.numbers memory ++ block_with seen.numbers block ∷ [] ≡ memory_with seen.numbers (memory ++ block ∷ [])
  more_with [] block = refl
  more_with (b ∷ bs) block = ap (λ them. block_with seen.numbers b ∷ them) (more_with bs block)

  alive_by : (found : Option Block) → if_alive (option_with (block_with seen.numbers) found) ≡ result_with (block_with seen.numbers) (if_alive found)
  alive_by None = refl
  alive_by (Some block) = by block.alive
    where
      by : (b : Bool) → (if b then ok (block_with seen.numbers block) else Err U.Ended) ≡ result_with (block_with seen.numbers) (if b then ok block else Err U.Ended)
      by true = refl
      by false = refl

  pub object_with : (memory : Memory) (a : Option Address) → object_at (memory_with seen.numbers memory) a ≡ result_with (block_with seen.numbers) (object_at memory a)
  object_with memory None = refl
  object_with memory (Some a) = ap if_alive (got_with memory a.block) ∙ alive_by (slice_get memory a.block)

  pub is_alive_with : (memory : Memory) (k : ℕ) → is_alive (memory_with seen.numbers memory) k ≡ is_alive memory k
  is_alive_with memory k = ap (λ (found : Option Block). elim (found) as (λ _. Bool) [ None ↦ false | Some it ↦ it.alive ]) (got_with memory k) ∙ by (slice_get memory k)
    where
      by : (found : Option Block) → elim (option_with (block_with seen.numbers) found) as (λ _. Bool) [ None ↦ false | Some it ↦ it.alive ] ≡ elim (found) as (λ _. Bool) [ None ↦ false | Some it ↦ it.alive ]
      by None = refl
      by (Some block) = refl

  of_object_with : (a : Option Address) (found : Result Block Ub) → of_object a (result_with (block_with seen.numbers) found) ≡ of_object a found
  of_object_with a (Ok block) = refl
  of_object_with a (Err kind) = refl

  usable_with : (memory : Memory) (c : Content) → usable (memory_with seen.numbers memory) c ≡ usable memory c
  usable_with memory content.Unset = refl
  usable_with memory (content.Number z) = refl
  usable_with memory (content.Address None) = refl
  usable_with memory (content.Address (Some a)) = ap (of_object (Some a)) (object_with memory (Some a)) ∙ of_object_with (Some a) (object_at memory (Some a))

  -- ---- what is asked of memory

  pub load_with : (model : DataModel) (memory : Memory) (a : Option Address) {ty other : CellType} → MeetAlike ty other → Fits memory → load model (memory_with seen.numbers memory) a other ≡ load model memory a ty
  unfolding load
  load_with model memory a {ty} {other} d h =
      then_as (object_at memory a) (object_at (memory_with seen.numbers memory) a)
      (λ block. then_result (held_at block.cells (offset_of a) ty) (λ held. then_result (usable memory held) (λ used. ok (as_type model ty used))))
      (λ block. then_result (held_at block.cells (offset_of a) other) (λ held. then_result (usable (memory_with seen.numbers memory) held) (λ used. ok (as_type model other used))))
      (block_with seen.numbers) (object_with memory a)
      (λ block e.
      ap (λ x. then_result x (λ held. then_result (usable (memory_with seen.numbers memory) held) (λ used. ok (as_type model other used)))) (held_with block.cells (offset_of a) d (object_of seen.held memory a block e h))
      ∙ used_by (held_at block.cells (offset_of a) ty))
    where
      as_used : (x : Result Content Ub) → then_result x (λ used. ok (as_type model other used)) ≡ then_result x (λ used. ok (as_type model ty used))
      as_used (Ok c) = ap ok (as_type_alike model c d)
      as_used (Err kind) = refl

      used_by : (x : Result Content Ub) → then_result x (λ held. then_result (usable (memory_with seen.numbers memory) held) (λ used. ok (as_type model other used))) ≡ then_result x (λ held. then_result (usable memory held) (λ used. ok (as_type model ty used)))
      used_by (Ok c) = ap (λ x. then_result x (λ used. ok (as_type model other used))) (usable_with memory c) ∙ as_used (usable memory c)
      used_by (Err kind) = refl

  living_with : (found : Result Block Ub) → living (result_with (block_with seen.numbers) found) ≡ living found
  living_with (Ok block) = refl
  living_with (Err kind) = refl

  pub checked_with : (memory : Memory) (a : Option Address) → checked_address (memory_with seen.numbers memory) a ≡ checked_address memory a
  checked_with memory None = refl
  checked_with memory (Some a) = ap living (object_with memory (Some a)) ∙ living_with (object_at memory (Some a))

  pub move_with : (memory : Memory) (a : Option Address) (z : ℤ) (size : ℕ) → move_by (memory_with seen.numbers memory) a z size ≡ move_by memory a z size
  move_with memory None z size = refl
  move_with memory (Some a) z size =
      then_as (object_at memory (Some a)) (object_at (memory_with seen.numbers memory) (Some a)) (λ block. within_object a block (pos a.offset +ℤ (z *ℤ pos size))) (λ block. within_object a block (pos a.offset +ℤ (z *ℤ pos size)))
      (block_with seen.numbers) (object_with memory (Some a)) (λ block e. refl)

  pub compare_with : (memory : Memory) (op : Op) (a b : Option Address) → compare (memory_with seen.numbers memory) op a b ≡ compare memory op a b
  compare_with memory op a b =
      ap (λ x. then_result x (λ _. then_result (checked_address (memory_with seen.numbers memory) b) (λ _. related op a b))) (checked_with memory a)
      ∙ ap (λ x. then_result (checked_address memory a) (λ _. then_result x (λ _. related op a b))) (checked_with memory b)

  pub subtract_with : (memory : Memory) (a b : Option Address) (size : ℕ) → subtract (memory_with seen.numbers memory) a b size ≡ subtract memory a b size
  subtract_with memory a b size =
      ap (λ x. then_result x (λ _. then_result (checked_address (memory_with seen.numbers memory) b) (λ _. distance a b size))) (checked_with memory a)
      ∙ ap (λ x. then_result (checked_address memory a) (λ _. then_result x (λ _. distance a b size))) (checked_with memory b)

  -- ---- what changes memory

  replaced_with : (memory : Memory) (a : Option Address) (block : Block) (cells : List StoredCell)
      → replaced (memory_with seen.numbers memory) a (block_with seen.numbers block) (cells_other cells) ≡ memory_with seen.numbers (replaced memory a block cells)
  replaced_with memory None block cells = refl
  replaced_with memory (Some a) block cells = set_with memory a.block (record block { cells = cells })

  written_with : (b : Bool) (memory other : Memory) → other ≡ memory_with seen.numbers memory → (if b then ok other else Err U.Sealed) ≡ result_with (memory_with seen.numbers) (if b then ok memory else Err U.Sealed)
  written_with true memory other e = ap ok e
  written_with false memory other e = refl

  -- what is stored in a living block is stored alike
  pub store_by : (model : DataModel) (memory : Memory) (a : Option Address) (ty other : CellType) (x : Content)
      → ((block : Block) → object_at memory a ≡ ok block → with_held model (cells_other block.cells) (offset_of a) other x ≡ result_with cells_other (with_held model block.cells (offset_of a) ty x))
      → store model (memory_with seen.numbers memory) a other x ≡ result_with (memory_with seen.numbers) (store model memory a ty x)
  unfolding store
  store_by model memory a ty other x h =
      then_with (object_at memory a) (object_at (memory_with seen.numbers memory) a)
      (λ block. then_result (with_held model block.cells (offset_of a) ty x) (λ cells. if block.writable then ok (replaced memory a block cells) else Err U.Sealed))
      (λ block. then_result (with_held model block.cells (offset_of a) other x) (λ cells. if block.writable then ok (replaced (memory_with seen.numbers memory) a block cells) else Err U.Sealed))
      (block_with seen.numbers) (memory_with seen.numbers) (object_with memory a)
      (λ block e.
      then_with (with_held model block.cells (offset_of a) ty x) (with_held model (cells_other block.cells) (offset_of a) other x)
      (λ cells. if block.writable then ok (replaced memory a block cells) else Err U.Sealed)
      (λ cells. if block.writable then ok (replaced (memory_with seen.numbers memory) a (block_with seen.numbers block) cells) else Err U.Sealed)
      cells_other (memory_with seen.numbers) (h block e)
      (λ cells e. written_with block.writable (replaced memory a block cells) (replaced (memory_with seen.numbers memory) a (block_with seen.numbers block) (cells_other cells)) (replaced_with memory a block cells)))

  pub store_with : (model : DataModel) (memory : Memory) (a : Option Address) {ty other : CellType} (x : Content) → MeetAlike ty other → Fits memory
      → store model (memory_with seen.numbers memory) a other x ≡ result_with (memory_with seen.numbers) (store model memory a ty x)
  store_with model memory a {ty} {other} x d h = store_by model memory a ty other x (λ block e. with_held_with model block.cells (offset_of a) x d (object_of seen.held memory a block e h))

  pub copy_with : (model : DataModel) (memory : Memory) (to from : Option Address) (shape : Shape) → ShapeMeets shape.cells → Fits memory
      → copy_struct model (memory_with seen.numbers memory) to from (shape_with seen.numbers shape) ≡ result_with (memory_with seen.numbers) (copy_struct model memory to from shape)
  unfolding copy_struct
  copy_with model memory to from shape g h =
      let end : Block → List StoredCell → Result Memory Ub = λ target cells. if target.writable then ok (replaced memory to target cells) else Err U.Sealed in
      let end' : Block → List StoredCell → Result Memory Ub = λ target cells. if target.writable then ok (replaced (memory_with seen.numbers memory) to target cells) else Err U.Sealed in
      let cells' : List ShapeCell = map (shape_cell_with seen.numbers) shape.cells in
      then_with (not_null to) (not_null to)
      (λ _. then_result (not_null from) (λ _. then_result (object_at memory to) (λ target. then_result (object_at memory from) (λ source. then_result (gathered source.cells (offset_of from) shape.cells) (λ contents. then_result (scattered model target.cells (offset_of to) shape.cells contents) (end target))))))
      (λ _. then_result (not_null from) (λ _. then_result (object_at (memory_with seen.numbers memory) to) (λ target. then_result (object_at (memory_with seen.numbers memory) from) (λ source. then_result (gathered source.cells (offset_of from) cells') (λ contents. then_result (scattered model target.cells (offset_of to) cells' contents) (end' target))))))
      (λ b. b) (memory_with seen.numbers) (as_it_was (not_null to))
      (λ _ e. then_with (not_null from) (not_null from)
      (λ _. then_result (object_at memory to) (λ target. then_result (object_at memory from) (λ source. then_result (gathered source.cells (offset_of from) shape.cells) (λ contents. then_result (scattered model target.cells (offset_of to) shape.cells contents) (end target)))))
      (λ _. then_result (object_at (memory_with seen.numbers memory) to) (λ target. then_result (object_at (memory_with seen.numbers memory) from) (λ source. then_result (gathered source.cells (offset_of from) cells') (λ contents. then_result (scattered model target.cells (offset_of to) cells' contents) (end' target)))))
      (λ b. b) (memory_with seen.numbers) (as_it_was (not_null from))
      (λ _ e. then_with (object_at memory to) (object_at (memory_with seen.numbers memory) to)
      (λ target. then_result (object_at memory from) (λ source. then_result (gathered source.cells (offset_of from) shape.cells) (λ contents. then_result (scattered model target.cells (offset_of to) shape.cells contents) (end target))))
      (λ target. then_result (object_at (memory_with seen.numbers memory) from) (λ source. then_result (gathered source.cells (offset_of from) cells') (λ contents. then_result (scattered model target.cells (offset_of to) cells' contents) (end' target))))
      (block_with seen.numbers) (memory_with seen.numbers) (object_with memory to)
      (λ target e1. then_with (object_at memory from) (object_at (memory_with seen.numbers memory) from)
      (λ source. then_result (gathered source.cells (offset_of from) shape.cells) (λ contents. then_result (scattered model target.cells (offset_of to) shape.cells contents) (end target)))
      (λ source. then_result (gathered source.cells (offset_of from) cells') (λ contents. then_result (scattered model (cells_other target.cells) (offset_of to) cells' contents) (end' (block_with seen.numbers target))))
      (block_with seen.numbers) (memory_with seen.numbers) (object_with memory from)
      (λ source e2. then_with (gathered source.cells (offset_of from) shape.cells) (gathered (cells_other source.cells) (offset_of from) cells')
      (λ contents. then_result (scattered model target.cells (offset_of to) shape.cells contents) (end target))
      (λ contents. then_result (scattered model (cells_other target.cells) (offset_of to) cells' contents) (end' (block_with seen.numbers target)))
      (λ contents. contents) (memory_with seen.numbers)
      (gathered_with source.cells (offset_of from) shape.cells g (object_of seen.held memory from source e2 h) ∙ as_it_was (gathered source.cells (offset_of from) shape.cells))
      (λ contents e3. then_with (scattered model target.cells (offset_of to) shape.cells contents) (scattered model (cells_other target.cells) (offset_of to) cells' contents) (end target) (end' (block_with seen.numbers target)) cells_other (memory_with seen.numbers)
      (scattered_with model target.cells (offset_of to) shape.cells contents g (object_of seen.held memory to target e1 h))
      (λ cells e4. written_with target.writable (replaced memory to target cells) (replaced (memory_with seen.numbers memory) to (block_with seen.numbers target) (cells_other cells)) (replaced_with memory to target cells)))))))
    where
      as_it_was : {A : Type 0} (x : Result A Ub) → x ≡ result_with (λ a. a) x
      as_it_was (Ok a) = refl
      as_it_was (Err kind) = refl

  -- ---- objects that are made and ended

  first_with : (zeroed : Bool) (ty : CellType) → first_content zeroed (cell_type_with seen.numbers ty) ≡ first_content zeroed ty
  first_with false ty = refl
  first_with true (Num s) = refl
  first_with true (Pointer p) = refl

  pub new_with : (zeroed : Bool) (cells : List ShapeCell) → map (new_cell zeroed) (map (shape_cell_with seen.numbers) cells) ≡ cells_other (map (new_cell zeroed) cells)
  new_with zeroed [] = refl
  new_with zeroed (c ∷ cs) =
      ap (λ x. record { offset = c.offset; ty = cell_type_with seen.numbers c.ty; holds = x } ∷ map (new_cell zeroed) (map (shape_cell_with seen.numbers) cs)) (first_with zeroed c.ty)
      ∙ ap (λ them. cell_with seen.numbers (new_cell zeroed c) ∷ them) (new_with zeroed cs)

  alive_one : (block : Block) → living_cells (block_with seen.numbers block) ≡ living_cells block
  alive_one block = ap (λ n. if block.alive then n else 0) (length-map block.cells (cell_with seen.numbers))

  alive_all : (memory : Memory) → cells_alive (memory_with seen.numbers memory) ≡ cells_alive memory
  alive_all [] = refl
  alive_all (b ∷ bs) =
      sum_by-cons living_cells (block_with seen.numbers b) (memory_with seen.numbers bs) ∙ ap (λ n. n + cells_alive (memory_with seen.numbers bs)) (alive_one b) ∙ ap (λ n. living_cells b + n) (alive_all bs)
      ∙ sym (sum_by-cons living_cells b bs)

  created_by : (b : Bool) (memory other : Memory) → other ≡ memory_with seen.numbers memory → (if b then Some other else None) ≡ option_with (memory_with seen.numbers) (if b then Some memory else None)
  created_by true memory other e = ap Some e
  created_by false memory other e = refl

  pub created_with : (memory : Memory) (shape : Shape) (zeroed writable : Bool)
      → create_shaped (memory_with seen.numbers memory) (shape_with seen.numbers shape) zeroed writable ≡ option_with (memory_with seen.numbers) (create_shaped memory shape zeroed writable)
  unfolding create_shaped
  created_with memory shape zeroed writable =
      let made : Memory = create (memory_with seen.numbers memory) (new_block (shape_with seen.numbers shape) zeroed writable) in
      ap (λ n. if nat_le (n + length (map (shape_cell_with seen.numbers) shape.cells)) most_cells then Some made else None) (alive_all memory)
      ∙ ap (λ n. if nat_le (cells_alive memory + n) most_cells then Some made else None) (length-map shape.cells (shape_cell_with seen.numbers))
      ∙ created_by (nat_le (cells_alive memory + length shape.cells) most_cells) (create memory (new_block shape zeroed writable)) made
      (ap (λ cells. memory_with seen.numbers memory ++ record { alive = true; writable = writable; size = shape.size; cells = cells } ∷ []) (new_with zeroed shape.cells) ∙ more_with memory (new_block shape zeroed writable))

  pub ended_with : (memory : Memory) (k : ℕ) → end_block (memory_with seen.numbers memory) k ≡ memory_with seen.numbers (end_block memory k)
  ended_with memory k = set_with memory k (record { alive = false; writable = false; size = 0; cells = [] })

  sealed_by : (memory : Memory) (k : ℕ) (found : Option Block) → sealed (memory_with seen.numbers memory) k (option_with (block_with seen.numbers) found) ≡ memory_with seen.numbers (sealed memory k found)
  sealed_by memory k None = refl
  sealed_by memory k (Some block) = set_with memory k (record block { writable = false })

  pub sealed_with : (memory : Memory) (k : ℕ) → seal_block (memory_with seen.numbers memory) k ≡ memory_with seen.numbers (seal_block memory k)
  sealed_with memory k = ap (sealed (memory_with seen.numbers memory) k) (got_with memory k) ∙ sealed_by memory k (slice_get memory k)

  -- ---- cells that accesses meet

  result_there : {A B : Type 0} (f : A → B) (x : Result A Ub) → elim (result_with f x) as (λ _. Bool) [ Ok a ↦ true | Err kind ↦ false ] ≡ elim (x) as (λ _. Bool) [ Ok a ↦ true | Err kind ↦ false ]
  result_there f (Ok a) = refl
  result_there f (Err kind) = refl

  is_met_with : (memory : Memory) (a : Option Address) {ty other : CellType} → MeetAlike ty other → Fits memory → is_met (memory_with seen.numbers memory) a other ≡ is_met memory a ty
  is_met_with memory a {ty} {other} d h =
      ap (λ (x : Result Content Ub). elim (x) as (λ _. Bool) [ Ok held ↦ true | Err kind ↦ false ])
      (then_as (object_at memory a) (object_at (memory_with seen.numbers memory) a) (λ block. held_at block.cells (offset_of a) ty) (λ block. held_at block.cells (offset_of a) other) (block_with seen.numbers) (object_with memory a)
      (λ block e. held_with block.cells (offset_of a) d (object_of seen.held memory a block e h)))

  -- the cells of two accesses, each of which meets alike
  pub data CellsMeetAlike : List ShapeCell → List ShapeCell → Type 0 where
    no_cells : CellsMeetAlike [] []
    a_cell : {offset : ℕ} {ty other : CellType} {cells others : List ShapeCell} → MeetAlike ty other → CellsMeetAlike cells others
        → CellsMeetAlike (record { offset = offset; ty = ty } ∷ cells) (record { offset = offset; ty = other } ∷ others)

  pub shape_meets : (cells : List ShapeCell) → ShapeMeets cells → CellsMeetAlike cells (map (shape_cell_with seen.numbers) cells)
  shape_meets [] h = no_cells
  shape_meets (c ∷ cs) h = a_cell h.0 (shape_meets cs h.1)

  pub met_with : (memory : Memory) (a : Option Address) {cells others : List ShapeCell} → CellsMeetAlike cells others → Fits memory → cells_met others a (memory_with seen.numbers memory) ≡ cells_met cells a memory
  met_with memory a no_cells h = refl
  met_with memory a (a_cell {offset} {ty} {other} {cells} {others} d ds) h =
      ap (λ b. if b then cell_at a offset ++ cells_met others a (memory_with seen.numbers memory) else cells_met others a (memory_with seen.numbers memory)) (is_met_with memory (further offset a) d h)
      ∙ ap (λ them. if is_met memory (further offset a) ty then cell_at a offset ++ them else them) (met_with memory a ds h)
