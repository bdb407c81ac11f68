-- Memory with further blocks does what it does without them.
use Rattle.std.proofs.Common.{◌≡◌, ℕ, ℤ, pos, zero, suc, List, [], ◌∷◌, ◌++◌, map, length, Option, Some, None, Bool, true, false, refl, sym, ap, ◌∙◌, subst, arith}
use Rattle.std.proofs.lemmas.Bool.{false≢true}
use Rattle.std.proofs.lemmas.List.Sums.{sum_by-cons}
use Rattle.std.specs.Prelude.{◌==◌, ◌+◌, ◌+ℤ◌, ◌-ℤ◌, ◌*ℤ◌, ◌&&◌, not, nat_le, nat_lt, int_le, unsigned_abs, if◌then◌else◌, Result, Ok, Err, slice_get, slice_set}
use Rattle.lt_model.specs.declared.cell.Address.{Address}
use Rattle.lt_model.specs.declared.cell.CellType.{CellType}
use Rattle.lt_model.specs.declared.cell.CellType.TheVariants.{Num, Pointer}
use Rattle.lt_model.specs.declared.cell.Content.{Content}
use Rattle.lt_model.specs.declared.cell.Content.TheVariants as content
use Rattle.lt_model.specs.declared.cell.Shape.{Shape}
use Rattle.lt_model.specs.declared.cell.ShapeCell.{ShapeCell}
use Rattle.lt_model.specs.declared.cell.StoredCell.{StoredCell}
use Rattle.lt_model.specs.declared.scalar.DataModel.{DataModel}
use Rattle.lt_model.specs.declared.operator.Op.{Op}
use Rattle.lt_model.specs.declared.operator.Op.TheVariants as O
use Rattle.lt_model.specs.declared.operator.Ub.{Ub}
use Rattle.lt_model.specs.declared.operator.Ub.TheVariants as U
use Rattle.lt_model.specs.Memory.{Memory, Block, corresponds, as_type, if_alive, object_at, offset_of, held_at, before_cells, with_held, usable, of_object, then_result, load, store, replaced, ended_block, end_block, first_content, new_cell, new_block, living_cells, cells_alive, sealed, seal_block, gathered, scattered, not_null, copy_struct, living, checked_address, move_by, same_address, ordered, related, compare, in_elements, distance, subtract}
use Rattle.lt_object_laws.specs.Renamed.{renumbered}
use Rattle.lt_object_laws.specs.Beside.{address_with, content_with, cell_with, block_with, HasFurtherBlocks, a_further_one, another, not_yet, no_further_ones}
use Rattle.lt_object_laws.proofs.Numbers.{tests_same, flag_at}

abbrev pub result_with : {A B : Type 0} → (A → B) → Result A Ub → Result B Ub
result_with f (Ok a) = Ok (f a)
result_with f (Err kind) = Err kind

abbrev pub option_with : {A B : Type 0} → (A → B) → Option A → Option B
option_with f None = None
option_with f (Some a) = Some (f a)

abbrev ok : {A : Type 0} → A → Result A Ub
ok a = Ok a

-- what comes is renamed, and what follows is too
pub then_with : {A B C D : Type 0} (r : Result A Ub) (other : Result C Ub) (go : A → Result B Ub) (on : C → Result D Ub) (f : A → C) (g : B → D)
    → other ≡ result_with f r → ((a : A) → on (f a) ≡ result_with g (go a)) → then_result other on ≡ result_with g (then_result r go)
then_with (Ok a) other go on f g e h = ap (λ x. then_result x on) e ∙ h a
then_with (Err kind) other go on f g e h = ap (λ x. then_result x on) e

-- ---- cells

module _ (r : ℕ → ℕ) where
  pub held_with : (cells : List StoredCell) (offset : ℕ) (ty : CellType) → held_at (map (cell_with r) cells) offset ty ≡ result_with (content_with r) (held_at cells offset ty)
  held_with [] offset ty = refl
  held_with (c ∷ cs) offset ty = by (c.offset == offset && corresponds ty c.ty) (held_with cs offset ty)
    where
      by : (b : Bool) → held_at (map (cell_with r) cs) offset ty ≡ result_with (content_with r) (held_at cs offset ty)
          → (if b then ok (content_with r c.holds) else held_at (map (cell_with r) cs) offset ty) ≡ result_with (content_with r) (if b then ok c.holds else held_at cs offset ty)
      by true h = refl
      by false h = h

  pub as_type_with : (model : DataModel) (ty : CellType) (c : Content) → as_type model ty (content_with r c) ≡ content_with r (as_type model ty c)
  as_type_with model (Num s) content.Unset = refl
  as_type_with model (Num s) (content.Number z) = refl
  as_type_with model (Num s) (content.Address a) = refl
  as_type_with model (Pointer p) content.Unset = refl
  as_type_with model (Pointer p) (content.Number z) = refl
  as_type_with model (Pointer p) (content.Address a) = refl

  before_with : (c : StoredCell) (x : Result (List StoredCell) Ub) → before_cells (cell_with r c) (result_with (map (cell_with r)) x) ≡ result_with (map (cell_with r)) (before_cells c x)
  before_with c (Ok cells) = refl
  before_with c (Err kind) = refl

  pub with_held_with : (model : DataModel) (cells : List StoredCell) (offset : ℕ) (ty : CellType) (x : Content)
      → with_held model (map (cell_with r) cells) offset ty (content_with r x) ≡ result_with (map (cell_with r)) (with_held model cells offset ty x)
  with_held_with model [] offset ty x = refl
  with_held_with model (c ∷ cs) offset ty x = by (c.offset == offset && corresponds ty c.ty) (with_held_with model cs offset ty x)
    where
      by : (b : Bool) → with_held model (map (cell_with r) cs) offset ty (content_with r x) ≡ result_with (map (cell_with r)) (with_held model cs offset ty x)
          → (if b then ok (record { offset = c.offset; ty = c.ty; holds = as_type model c.ty (content_with r x) } ∷ map (cell_with r) cs) else before_cells (cell_with r c) (with_held model (map (cell_with r) cs) offset ty (content_with r x)))
          ≡ result_with (map (cell_with r)) (if b then ok (record { offset = c.offset; ty = c.ty; holds = as_type model c.ty x } ∷ cs) else before_cells c (with_held model cs offset ty x))
      by true h = ap (λ held. ok (record { offset = c.offset; ty = c.ty; holds = held } ∷ map (cell_with r) cs)) (as_type_with model c.ty x)
      by false h = ap (before_cells (cell_with r c)) h ∙ before_with c (with_held model cs offset ty x)

  pub gathered_with : (cells : List StoredCell) (base : ℕ) (shape : List ShapeCell) → gathered (map (cell_with r) cells) base shape ≡ result_with (map (content_with r)) (gathered cells base shape)
  gathered_with cells base [] = refl
  gathered_with cells base (c ∷ rest) =
      then_with (held_at cells (base + c.offset) c.ty) (held_at (map (cell_with r) cells) (base + c.offset) c.ty)
      (λ held. then_result (gathered cells base rest) (λ others. ok (held ∷ others))) (λ held. then_result (gathered (map (cell_with r) cells) base rest) (λ others. ok (held ∷ others)))
      (content_with r) (map (content_with r)) (held_with cells (base + c.offset) c.ty)
      (λ held. then_with (gathered cells base rest) (gathered (map (cell_with r) cells) base rest) (λ others. ok (held ∷ others)) (λ others. ok (content_with r held ∷ others)) (map (content_with r)) (map (content_with r)) (gathered_with cells base rest) (λ others. refl))

  pub scattered_with : (model : DataModel) (cells : List StoredCell) (base : ℕ) (shape : List ShapeCell) (contents : List Content)
      → scattered model (map (cell_with r) cells) base shape (map (content_with r) contents) ≡ result_with (map (cell_with r)) (scattered model cells base shape contents)
  scattered_with model cells base [] contents = refl
  scattered_with model cells base (c ∷ rest) [] = refl
  scattered_with model cells base (c ∷ rest) (x ∷ others) =
      then_with (with_held model cells (base + c.offset) c.ty x) (with_held model (map (cell_with r) cells) (base + c.offset) c.ty (content_with r x))
      (λ after. scattered model after base rest others) (λ after. scattered model after base rest (map (content_with r) others))
      (map (cell_with r)) (map (cell_with r)) (with_held_with model cells (base + c.offset) c.ty x) (λ after. scattered_with model after base rest others)

  -- ---- blocks

  length_with : {A B : Type 0} (f : A → B) (xs : List A) → length (map f xs) ≡ length xs
  length_with f [] = refl
  length_with f (x ∷ xs) = ap suc (length_with f xs)

  pub living_with : (block : Block) → living_cells (block_with r block) ≡ living_cells block
  living_with block = ap (λ n. if block.alive then n else 0) (length_with (cell_with r) block.cells)

  got_all : (memory : Memory) (n : ℕ) → slice_get (map (block_with r) memory) n ≡ option_with (block_with r) (slice_get memory n)
  got_all [] n = refl
  got_all (b ∷ bs) zero = refl
  got_all (b ∷ bs) (suc n) = got_all bs n

  pub got_with : {further rest : List Bool} {cells : ℕ} {memory other : Memory} → HasFurtherBlocks r further rest cells memory other → (n : ℕ) → slice_get other (renumbered further n) ≡ option_with (block_with r) (slice_get memory n)
  got_with (a_further_one block alive d) n = got_with d n
  got_with (another block d) zero = refl
  got_with (another block d) (suc n) = got_with d n
  got_with not_yet n = refl
  got_with (no_further_ones {memory} {other} e) n = ap (λ them. slice_get them n) e ∙ got_all memory n

  set_all : (memory : Memory) (n : ℕ) (block : Block) → slice_set (map (block_with r) memory) n (block_with r block) ≡ map (block_with r) (slice_set memory n block)
  set_all [] n block = refl
  set_all (b ∷ bs) zero block = refl
  set_all (b ∷ bs) (suc n) block = ap (λ them. block_with r b ∷ them) (set_all bs n block)

  pub set_with : {further rest : List Bool} {cells : ℕ} {memory other : Memory} → HasFurtherBlocks r further rest cells memory other → (n : ℕ) (block : Block)
      → HasFurtherBlocks r further rest cells (slice_set memory n block) (slice_set other (renumbered further n) (block_with r block))
  set_with (a_further_one b alive d) n block = a_further_one b alive (set_with d n block)
  set_with (another b d) zero block = another block d
  set_with (another b d) (suc n) block = another b (set_with d n block)
  set_with not_yet n block = not_yet
  set_with (no_further_ones {memory} {other} e) n block = no_further_ones (ap (λ them. slice_set them n (block_with r block)) e ∙ set_all memory n block)

  more_all : (memory : Memory) (block : Block) → map (block_with r) memory ++ block_with r block ∷ [] ≡ map (block_with r) (memory ++ block ∷ [])
  more_all [] block = refl
  more_all (b ∷ bs) block = ap (λ them. block_with r b ∷ them) (more_all bs block)

  pub more_with : {further : List Bool} {cells : ℕ} {memory other : Memory} → HasFurtherBlocks r further [] cells memory other → (block : Block)
      → HasFurtherBlocks r further [] cells (memory ++ block ∷ []) (other ++ block_with r block ∷ [])
  more_with (a_further_one b alive d) block = a_further_one b alive (more_with d block)
  more_with (another b d) block = another b (more_with d block)
  more_with not_yet block = no_further_ones refl
  more_with (no_further_ones {memory} {other} e) block = no_further_ones (ap (λ them. them ++ block_with r block ∷ []) e ∙ more_all memory block)

  pub next_with : {further : List Bool} {cells : ℕ} {memory other : Memory} → HasFurtherBlocks r further [] cells memory other → length other ≡ renumbered further (length memory)
  next_with (a_further_one b alive d) = ap suc (next_with d)
  next_with (another b d) = ap suc (next_with d)
  next_with not_yet = refl
  next_with (no_further_ones {memory} {other} e) = ap length e ∙ length_with (block_with r) memory

  all_alive : (memory : Memory) → cells_alive (map (block_with r) memory) ≡ cells_alive memory
  all_alive [] = refl
  all_alive (b ∷ bs) =
      sum_by-cons living_cells (block_with r b) (map (block_with r) bs) ∙ ap (λ n. n + cells_alive (map (block_with r) bs)) (living_with b) ∙ ap (λ n. living_cells b + n) (all_alive bs)
      ∙ sym (sum_by-cons living_cells b bs)

  -- one more block in the other memory
  a_further_alive : (all rest memory b cells : ℕ) → all ≡ b + rest → rest ≡ memory + cells → all ≡ memory + (b + cells)
  a_further_alive all rest memory b cells h g = omega (arith, h, g)

  another_alive : (all rest here memory b c cells : ℕ) → all ≡ c + rest → here ≡ b + memory → c ≡ b → rest ≡ memory + cells → all ≡ here + cells
  another_alive all rest here memory b c cells h g e f = omega (arith, h, g, e, f)

  pub alive_with : {further rest : List Bool} {cells : ℕ} {memory other : Memory} → HasFurtherBlocks r further rest cells memory other → cells_alive other ≡ cells_alive memory + cells
  alive_with (a_further_one {cells} {memory} {other} b alive d) =
      a_further_alive (cells_alive (b ∷ other)) (cells_alive other) (cells_alive memory) (living_cells b) cells (sum_by-cons living_cells b other) (alive_with d)
  alive_with (another {cells} {memory} {other} b d) =
      another_alive (cells_alive (block_with r b ∷ other)) (cells_alive other) (cells_alive (b ∷ memory)) (cells_alive memory) (living_cells b) (living_cells (block_with r b)) cells
      (sum_by-cons living_cells (block_with r b) other) (sum_by-cons living_cells b memory) (living_with b) (alive_with d)
  alive_with not_yet = refl
  alive_with (no_further_ones {memory} {other} e) =
      let f : cells_alive memory ≡ cells_alive memory + 0 = omega arith in
      ap cells_alive e ∙ all_alive memory ∙ f

  -- ---- blocks that come

  none_more : (n : ℕ) → n + 0 ≡ 0 + n
  none_more n = omega arith

  -- the next one is no further one
  pub kept_next : {further rest : List Bool} {cells : ℕ} {memory other : Memory} → HasFurtherBlocks r further (false ∷ rest) cells memory other → (block : Block)
      → HasFurtherBlocks r further rest cells (memory ++ block ∷ []) (other ++ block_with r block ∷ [])
  kept_next (a_further_one b alive d) block = a_further_one b alive (kept_next d block)
  kept_next (another b d) block = another b (kept_next d block)
  kept_next not_yet block = another block not_yet

  pub number_next : {further rest : List Bool} {cells : ℕ} {memory other : Memory} → HasFurtherBlocks r further (false ∷ rest) cells memory other → length other ≡ renumbered further (length memory)
  number_next (a_further_one b alive d) = ap suc (number_next d)
  number_next (another b d) = ap suc (number_next d)
  number_next not_yet = refl

  regrouped : (a b c : ℕ) → a + (b + c) ≡ (a + b) + c
  regrouped a b c = omega arith

  -- the next one is a further one
  pub further_next : {further rest : List Bool} {cells : ℕ} {memory other : Memory} → HasFurtherBlocks r further (true ∷ rest) cells memory other → (block : Block) → block.alive ≡ true
      → HasFurtherBlocks r further rest (cells + living_cells block) memory (other ++ block ∷ [])
  further_next {rest = left} (a_further_one {further} {cells = cells} {memory} {other} b lives d) block alive =
      subst (λ n. HasFurtherBlocks r (true ∷ further) left n memory (b ∷ (other ++ block ∷ []))) (regrouped (living_cells b) cells (living_cells block)) (a_further_one b lives (further_next d block alive))
  further_next (another b d) block alive = another b (further_next d block alive)
  further_next {rest = left} not_yet block alive = subst (λ n. HasFurtherBlocks r (true ∷ left) left n [] (block ∷ [])) (none_more (living_cells block)) (a_further_one block alive not_yet)

  pub number_further : {further rest : List Bool} {cells : ℕ} {memory other : Memory} → HasFurtherBlocks r further (true ∷ rest) cells memory other → flag_at further (length other) ≡ true
  number_further (a_further_one b alive d) = number_further d
  number_further (another b d) = number_further d
  number_further not_yet = refl

  -- ---- further blocks by themselves

  pub further_alive : {further : List Bool} {cells : ℕ} {memory other : Memory} → HasFurtherBlocks r further [] cells memory other → (n : ℕ) → flag_at further n ≡ true
      → elim (slice_get other n) as (λ _. Bool) [ None ↦ false | Some it ↦ it.alive ] ≡ true
  further_alive (a_further_one b alive d) zero h = alive
  further_alive (a_further_one b alive d) (suc n) h = further_alive d n h
  further_alive (another b d) zero h = absurd (false≢true h)
  further_alive (another b d) (suc n) h = further_alive d n h
  further_alive not_yet n h = absurd (false≢true h)
  further_alive (no_further_ones e) n h = absurd (false≢true h)

  sealed_behind : (b : Block) (other : Memory) (n : ℕ) (found : Option Block) → sealed (b ∷ other) (suc n) found ≡ b ∷ sealed other n found
  sealed_behind b other n None = refl
  sealed_behind b other n (Some block) = refl

  pub further_sealed : {further : List Bool} {cells : ℕ} {memory other : Memory} → HasFurtherBlocks r further [] cells memory other → (n : ℕ) → flag_at further n ≡ true → HasFurtherBlocks r further [] cells memory (seal_block other n)
  further_sealed (a_further_one b alive d) zero h = a_further_one (record b { writable = false }) alive d
  further_sealed (a_further_one {further} {cells = cells} {memory} {other} b alive d) (suc n) h =
      subst (λ them. HasFurtherBlocks r (true ∷ further) [] (living_cells b + cells) memory them) (sym (sealed_behind b other n (slice_get other n))) (a_further_one b alive (further_sealed d n h))
  further_sealed (another b d) zero h = absurd (false≢true h)
  further_sealed (another {further} {cells = cells} {memory} {other} b d) (suc n) h =
      subst (λ them. HasFurtherBlocks r (false ∷ further) [] cells (b ∷ memory) them) (sym (sealed_behind (block_with r b) other n (slice_get other n))) (another b (further_sealed d n h))
  further_sealed not_yet n h = absurd (false≢true h)
  further_sealed (no_further_ones e) n h = absurd (false≢true h)

  -- ---- objects

  living_object : (found : Option Block) → if_alive (option_with (block_with r) found) ≡ result_with (block_with r) (if_alive found)
  living_object None = refl
  living_object (Some block) = by block.alive
    where
      by : (b : Bool) → (if b then ok (block_with r block) else Err U.Ended) ≡ result_with (block_with r) (if b then ok block else Err U.Ended)
      by true = refl
      by false = refl

  pub object_with : {further rest : List Bool} {cells : ℕ} {memory other : Memory} → HasFurtherBlocks r further rest cells memory other → (a : Option Address)
      → object_at other (address_with (renumbered further) a) ≡ result_with (block_with r) (object_at memory a)
  object_with d None = refl
  object_with {memory} d (Some a) = ap if_alive (got_with d a.block) ∙ living_object (slice_get memory a.block)

pub offset_with : (r : ℕ → ℕ) (a : Option Address) → offset_of (address_with r a) ≡ offset_of a
offset_with r None = refl
offset_with r (Some a) = refl

-- ---- changes

module _ (r : ℕ → ℕ) (further rest : List Bool) (cells : ℕ) where
  -- what becomes of both memories
  abbrev pub Changes : Result Memory Ub → Result Memory Ub → Type 0
  Changes (Ok memory) (Ok other) = HasFurtherBlocks r further rest cells memory other
  Changes (Err x) (Err y) = x ≡ y
  Changes x y = ⊥

  replaced_with : {memory other : Memory} → HasFurtherBlocks r further rest cells memory other → (a : Option Address) (block : Block) (held : List StoredCell)
      → HasFurtherBlocks r further rest cells (replaced memory a block held) (replaced other (address_with (renumbered further) a) (block_with r block) (map (cell_with r) held))
  replaced_with d None block held = d
  replaced_with d (Some a) block held = set_with r d a.block (record block { cells = held })

  written_with : {memory other : Memory} → HasFurtherBlocks r further rest cells memory other → (b : Bool) (a : Option Address) (block : Block) (held : List StoredCell)
      → Changes (if b then Ok (replaced memory a block held) else Err U.Sealed) (if b then Ok (replaced other (address_with (renumbered further) a) (block_with r block) (map (cell_with r) held)) else Err U.Sealed)
  written_with d true a block held = replaced_with d a block held
  written_with d false a block held = refl

  stored_in : {memory other : Memory} → HasFurtherBlocks r further rest cells memory other → (a : Option Address) (block : Block) (x y : Result (List StoredCell) Ub) → y ≡ result_with (map (cell_with r)) x
      → Changes (then_result x (λ held. if block.writable then Ok (replaced memory a block held) else Err U.Sealed)) (then_result y (λ held. if block.writable then Ok (replaced other (address_with (renumbered further) a) (block_with r block) held) else Err U.Sealed))
  stored_in {memory} {other} d a block x y e = subst (λ y. Changes (then_result x (λ held. if block.writable then Ok (replaced memory a block held) else Err U.Sealed)) (then_result y (λ held. if block.writable then Ok (replaced other (address_with (renumbered further) a) (block_with r block) held) else Err U.Sealed))) (sym e) (by x)
    where
      by : (x : Result (List StoredCell) Ub) → Changes (then_result x (λ held. if block.writable then Ok (replaced memory a block held) else Err U.Sealed)) (then_result (result_with (map (cell_with r)) x) (λ held. if block.writable then Ok (replaced other (address_with (renumbered further) a) (block_with r block) held) else Err U.Sealed))
      by (Ok held) = written_with d block.writable a block held
      by (Err kind) = refl

  -- where both objects are there, or none of them
  both_there : (x y : Result Block Ub) (f g : Block → Result Memory Ub) → y ≡ result_with (block_with r) x → ((block : Block) → Changes (f block) (g (block_with r block))) → Changes (then_result x f) (then_result y g)
  both_there (Ok block) y f g e h = subst (λ y. Changes (f block) (then_result y g)) (sym e) (h block)
  both_there (Err kind) y f g e h = subst (λ y. Changes (Err kind) (then_result y g)) (sym e) refl

  pub store_with : {memory other : Memory} → HasFurtherBlocks r further rest cells memory other → (model : DataModel) (a : Option Address) (ty : CellType) (x : Content)
      → Changes (store model memory a ty x) (store model other (address_with (renumbered further) a) ty (content_with r x))
  unfolding store
  store_with {memory} {other} d model a ty x =
      both_there (object_at memory a) (object_at other (address_with (renumbered further) a))
      (λ block. then_result (with_held model block.cells (offset_of a) ty x) (λ held. if block.writable then Ok (replaced memory a block held) else Err U.Sealed))
      (λ block. then_result (with_held model block.cells (offset_of (address_with (renumbered further) a)) ty (content_with r x)) (λ held. if block.writable then Ok (replaced other (address_with (renumbered further) a) block held) else Err U.Sealed))
      (object_with r d a)
      (λ block. stored_in d a block (with_held model block.cells (offset_of a) ty x) (with_held model (map (cell_with r) block.cells) (offset_of (address_with (renumbered further) a)) ty (content_with r x))
      (ap (λ n. with_held model (map (cell_with r) block.cells) n ty (content_with r x)) (offset_with (renumbered further) a) ∙ with_held_with r model block.cells (offset_of a) ty x))

  no_null : (a : Option Address) → not_null (address_with (renumbered further) a) ≡ not_null a
  no_null None = refl
  no_null (Some a) = refl

  first_there : (x y : Result Bool Ub) (f g : Bool → Result Memory Ub) → y ≡ x → ((b : Bool) → Changes (f b) (g b)) → Changes (then_result x f) (then_result y g)
  first_there (Ok b) y f g e h = subst (λ y. Changes (f b) (then_result y g)) (sym e) (h b)
  first_there (Err kind) y f g e h = subst (λ y. Changes (Err kind) (then_result y g)) (sym e) refl

  contents_there : (x y : Result (List Content) Ub) (f g : List Content → Result Memory Ub) → y ≡ result_with (map (content_with r)) x → ((held : List Content) → Changes (f held) (g (map (content_with r) held))) → Changes (then_result x f) (then_result y g)
  contents_there (Ok held) y f g e h = subst (λ y. Changes (f held) (then_result y g)) (sym e) (h held)
  contents_there (Err kind) y f g e h = subst (λ y. Changes (Err kind) (then_result y g)) (sym e) refl

  pub copy_with : {memory other : Memory} → HasFurtherBlocks r further rest cells memory other → (model : DataModel) (to from : Option Address) (shape : Shape)
      → Changes (copy_struct model memory to from shape) (copy_struct model other (address_with (renumbered further) to) (address_with (renumbered further) from) shape)
  unfolding copy_struct
  copy_with {memory} {other} d model to from shape =
      first_there (not_null to) (not_null (address_with (renumbered further) to)) _ _ (no_null to)
      (λ _. first_there (not_null from) (not_null (address_with (renumbered further) from)) _ _ (no_null from)
      (λ _. both_there (object_at memory to) (object_at other (address_with (renumbered further) to)) _ _ (object_with r d to)
      (λ target. both_there (object_at memory from) (object_at other (address_with (renumbered further) from)) _ _ (object_with r d from)
      (λ source. contents_there (gathered source.cells (offset_of from) shape.cells) (gathered (map (cell_with r) source.cells) (offset_of (address_with (renumbered further) from)) shape.cells) _ _
      (ap (λ n. gathered (map (cell_with r) source.cells) n shape.cells) (offset_with (renumbered further) from) ∙ gathered_with r source.cells (offset_of from) shape.cells)
      (λ contents. stored_in d to target (scattered model target.cells (offset_of to) shape.cells contents) (scattered model (map (cell_with r) target.cells) (offset_of (address_with (renumbered further) to)) shape.cells (map (content_with r) contents))
      (ap (λ n. scattered model (map (cell_with r) target.cells) n shape.cells (map (content_with r) contents)) (offset_with (renumbered further) to) ∙ scattered_with r model target.cells (offset_of to) shape.cells contents))))))

  -- ---- objects that begin, end and are sealed

  pub new_cells : (zeroed : Bool) (shape : List ShapeCell) → map (cell_with r) (map (new_cell zeroed) shape) ≡ map (new_cell zeroed) shape
  new_cells zeroed [] = refl
  new_cells zeroed (c ∷ cs) = ap (λ held. record { offset = c.offset; ty = c.ty; holds = held } ∷ map (cell_with r) (map (new_cell zeroed) cs)) (first zeroed c.ty) ∙ ap (λ them. new_cell zeroed c ∷ them) (new_cells zeroed cs)
    where
      first : (zeroed : Bool) (ty : CellType) → content_with r (first_content zeroed ty) ≡ first_content zeroed ty
      first false ty = refl
      first true (Num s) = refl
      first true (Pointer p) = refl

  pub new_with : (shape : Shape) (zeroed writable : Bool) → block_with r (new_block shape zeroed writable) ≡ new_block shape zeroed writable
  new_with shape zeroed writable = ap (λ held. record { alive = true; writable = writable; size = shape.size; cells = held }) (new_cells zeroed shape.cells)

  pub ended_with : {memory other : Memory} → HasFurtherBlocks r further rest cells memory other → (n : ℕ) → HasFurtherBlocks r further rest cells (end_block memory n) (end_block other (renumbered further n))
  ended_with d n = set_with r d n ended_block

  pub sealed_with : {memory other : Memory} → HasFurtherBlocks r further rest cells memory other → (n : ℕ) → HasFurtherBlocks r further rest cells (seal_block memory n) (seal_block other (renumbered further n))
  sealed_with {memory} {other} d n = subst (λ found. HasFurtherBlocks r further rest cells (seal_block memory n) (sealed other (renumbered further n) found)) (sym (got_with r d n)) (by (slice_get memory n))
    where
      by : (found : Option Block) → HasFurtherBlocks r further rest cells (sealed memory n found) (sealed other (renumbered further n) (option_with (block_with r) found))
      by None = d
      by (Some block) = set_with r d n (record block { writable = false })

-- ---- addresses

module _ (further : List Bool) where
  abbrev names : ℕ → ℕ
  names = renumbered further

  of_block : (a : Option Address) (x : Result Block Ub) → of_object (address_with names a) (result_with (block_with names) x) ≡ result_with (content_with names) (of_object a x)
  of_block a (Ok block) = refl
  of_block a (Err kind) = refl

  usable_with : {cells : ℕ} {memory other : Memory} → HasFurtherBlocks names further [] cells memory other → (c : Content) → usable other (content_with names c) ≡ result_with (content_with names) (usable memory c)
  usable_with d content.Unset = refl
  usable_with d (content.Number z) = refl
  usable_with d (content.Address None) = refl
  usable_with {memory} d (content.Address (Some a)) = ap (of_object (address_with names (Some a))) (object_with names d (Some a)) ∙ of_block (Some a) (object_at memory (Some a))

  pub load_with : {cells : ℕ} {memory other : Memory} → HasFurtherBlocks names further [] cells memory other → (model : DataModel) (a : Option Address) (ty : CellType)
      → load model other (address_with names a) ty ≡ result_with (content_with names) (load model memory a ty)
  unfolding load
  load_with {memory} {other} d model a ty =
      then_with (object_at memory a) (object_at other (address_with names a)) _ _ (block_with names) (content_with names) (object_with names d a)
      (λ block. then_with (held_at block.cells (offset_of a) ty) (held_at (map (cell_with names) block.cells) (offset_of (address_with names a)) ty) _ _ (content_with names) (content_with names)
      (ap (λ n. held_at (map (cell_with names) block.cells) n ty) (offset_with names a) ∙ held_with names block.cells (offset_of a) ty)
      (λ held. then_with (usable memory held) (usable other (content_with names held)) (λ used. ok (as_type model ty used)) (λ used. ok (as_type model ty used)) (content_with names) (content_with names) (usable_with d held) (λ used. ap ok (as_type_with names model ty used))))

  living_one : (x : Result Block Ub) → living (result_with (block_with names) x) ≡ living x
  living_one (Ok block) = refl
  living_one (Err kind) = refl

  pub checked_with : {cells : ℕ} {memory other : Memory} → HasFurtherBlocks names further [] cells memory other → (a : Option Address) → checked_address other (address_with names a) ≡ checked_address memory a
  checked_with d None = refl
  checked_with {memory} d (Some a) = ap living (object_with names d (Some a)) ∙ living_one (object_at memory (Some a))

  within_with : (b : Bool) (a : Address) (n : ℕ) → (if b then ok (address_with names (Some (record { block = a.block; offset = n }))) else Err U.Move) ≡ result_with (address_with names) (if b then ok (Some (record { block = a.block; offset = n })) else Err U.Move)
  within_with true a n = refl
  within_with false a n = refl

  pub move_with : {cells : ℕ} {memory other : Memory} → HasFurtherBlocks names further [] cells memory other → (a : Option Address) (count : ℤ) (size : ℕ)
      → move_by other (address_with names a) count size ≡ result_with (address_with names) (move_by memory a count size)
  move_with d None count size = refl
  move_with {memory} {other} d (Some a) count size =
      let z = pos a.offset +ℤ (count *ℤ pos size) in
      then_with (object_at memory (Some a)) (object_at other (address_with names (Some a))) _ _ (block_with names) (address_with names) (object_with names d (Some a))
      (λ block. within_with (int_le (pos 0) z && int_le z (pos block.size)) a (unsigned_abs z))

  same_with : (a b : Option Address) → same_address (address_with names a) (address_with names b) ≡ same_address a b
  same_with None None = refl
  same_with None (Some b) = refl
  same_with (Some a) None = refl
  same_with (Some a) (Some b) = ap (λ t. t && (a.offset == b.offset)) (tests_same further a.block b.block)

  ordered_with : (test : ℕ → ℕ → Bool) (a b : Option Address) → ordered test (address_with names a) (address_with names b) ≡ ordered test a b
  ordered_with test None b = refl
  ordered_with test (Some a) None = refl
  ordered_with test (Some a) (Some b) = ap (λ t. if t then ok (test a.offset b.offset) else Err U.Unrelated) (tests_same further a.block b.block)

  related_with : (op : Op) (a b : Option Address) → related op (address_with names a) (address_with names b) ≡ related op a b
  related_with O.Eq a b = ap ok (same_with a b)
  related_with O.Ne a b = ap (λ t. ok (not t)) (same_with a b)
  related_with O.Lt a b = ordered_with nat_lt a b
  related_with O.Le a b = ordered_with nat_le a b
  related_with O.Gt a b = ordered_with (λ x y. nat_lt y x) a b
  related_with O.Ge a b = ordered_with (λ x y. nat_le y x) a b
  related_with o a b = refl

  -- two addresses that may be used, and what is asked of them
  both_checked : {A : Type 0} {cells : ℕ} {memory other : Memory} → HasFurtherBlocks names further [] cells memory other → (a b : Option Address) (x y : Result A Ub) → y ≡ x
      → then_result (checked_address other (address_with names a)) (λ _. then_result (checked_address other (address_with names b)) (λ _. y)) ≡ then_result (checked_address memory a) (λ _. then_result (checked_address memory b) (λ _. x))
  both_checked {memory} {other} d a b x y e =
      ap (λ c. then_result c (λ _. then_result (checked_address other (address_with names b)) (λ _. y))) (checked_with d a)
      ∙ ap (λ c. then_result (checked_address memory a) (λ _. then_result c (λ _. y))) (checked_with d b)
      ∙ ap (λ z. then_result (checked_address memory a) (λ _. then_result (checked_address memory b) (λ _. z))) e

  pub compare_with : {cells : ℕ} {memory other : Memory} → HasFurtherBlocks names further [] cells memory other → (op : Op) (a b : Option Address)
      → compare other op (address_with names a) (address_with names b) ≡ compare memory op a b
  compare_with d op a b = both_checked d a b (related op a b) (related op (address_with names a) (address_with names b)) (related_with op a b)

  distance_with : (a b : Option Address) (size : ℕ) → distance (address_with names a) (address_with names b) size ≡ distance a b size
  distance_with None b size = refl
  distance_with (Some a) None size = refl
  distance_with (Some a) (Some b) size = ap (λ t. if t then in_elements (pos a.offset -ℤ pos b.offset) size else Err U.Unrelated) (tests_same further a.block b.block)

  pub subtract_with : {cells : ℕ} {memory other : Memory} → HasFurtherBlocks names further [] cells memory other → (a b : Option Address) (size : ℕ)
      → subtract other (address_with names a) (address_with names b) size ≡ subtract memory a b size
  subtract_with d a b size = both_checked d a b (distance a b size) (distance (address_with names a) (address_with names b) size) (distance_with a b size)
