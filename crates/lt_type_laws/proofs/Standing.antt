-- The cells that blocks have, whatever these hold: no store changes them, and a store by the type of the first cell at its offset is alike, whatever that type is.
use Rattle.std.proofs.Common.{◌≡◌, ℕ, zero, suc, List, [], ◌∷◌, ◌++◌, map, length, Option, Some, None, Bool, true, false, refl, sym, ap, ◌∙◌, eq-eqb}
use Rattle.std.proofs.lemmas.List.{map-append}
use Rattle.std.specs.Prelude.{◌==◌, ◌+◌, ◌&&◌, nat_le, if◌then◌else◌, Result, Ok, Err, slice_get, slice_set}
use Rattle.lt_model.specs.declared.cell.Address.{Address}
use Rattle.lt_model.specs.declared.cell.CellType.{CellType}
use Rattle.lt_model.specs.declared.cell.CellType.TheVariants.{Num, Pointer}
use Rattle.lt_model.specs.declared.cell.Content.{Content}
use Rattle.lt_model.specs.declared.cell.Shape.{Shape}
use Rattle.lt_model.specs.declared.cell.ShapeCell.{ShapeCell}
use Rattle.lt_model.specs.declared.cell.StoredCell.{StoredCell}
use Rattle.lt_model.specs.declared.scalar.DataModel.{DataModel}
use Rattle.lt_model.specs.declared.operator.Ub.{Ub}
use Rattle.lt_model.specs.declared.operator.Ub.TheVariants as U
use Rattle.lt_model.specs.Memory.{Memory, Block, correspondence, corresponds, as_type, if_alive, object_at, offset_of, before_cells, with_held, then_result, store, replaced, new_cell, new_block, create, create_shaped, cells_alive, most_cells}
use Rattle.lt_ir.specs.Starting.{type_at}
use Rattle.lt_type_laws.specs.Renumbered.{cell_type_with, cell_with, memory_with}
use Rattle.lt_type_laws.proofs.Cells.{ok_is, some_is, no_ok, no_some, then_ok}
use Rattle.lt_type_laws.proofs.Memory.{Comparison, result_with, as_type_with, before_with, store_by}

abbrev ok : {A : Type 0} → A → Result A Ub
ok a = Ok a

-- the cells of a block, and of each block of memory
abbrev pub cells_in : List StoredCell → List ShapeCell
cells_in cells = map (λ (cell : StoredCell). record { offset = cell.offset; ty = cell.ty }) cells

abbrev pub standing : Memory → List (List ShapeCell)
standing memory = map (λ (block : Block). cells_in block.cells) memory

-- ---- a store leaves them

first_kept : (c : StoredCell) (r : Result (List StoredCell) Ub) (cs after : List StoredCell) → ((rest : List StoredCell) → r ≡ ok rest → cells_in rest ≡ cells_in cs) → before_cells c r ≡ ok after → cells_in after ≡ cells_in (c ∷ cs)
first_kept c (Ok rest) cs after h e = ap cells_in (sym (ok_is e)) ∙ ap (λ them. record { offset = c.offset; ty = c.ty } ∷ them) (h rest refl)
first_kept c (Err kind) cs after h e = absurd (no_ok e)

held_kept : (model : DataModel) (cells after : List StoredCell) (offset : ℕ) (ty : CellType) (x : Content) → with_held model cells offset ty x ≡ ok after → cells_in after ≡ cells_in cells
held_kept model [] after offset ty x e = absurd (no_ok e)
held_kept model (c ∷ cs) after offset ty x e = by (c.offset == offset && corresponds ty c.ty) e (λ rest g. held_kept model cs rest offset ty x g)
  where
    by : (b : Bool) → (if b then ok (record { offset = c.offset; ty = c.ty; holds = as_type model c.ty x } ∷ cs) else before_cells c (with_held model cs offset ty x)) ≡ ok after
        → ((rest : List StoredCell) → with_held model cs offset ty x ≡ ok rest → cells_in rest ≡ cells_in cs) → cells_in after ≡ cells_in (c ∷ cs)
    by true f h = ap cells_in (sym (ok_is f))
    by false f h = first_kept c (with_held model cs offset ty x) cs after h f

set_kept : (memory : Memory) (k : ℕ) (old new : Block) → slice_get memory k ≡ Some old → cells_in new.cells ≡ cells_in old.cells → standing (slice_set memory k new) ≡ standing memory
set_kept [] k old new e h = refl
set_kept (b ∷ bs) zero old new e h = ap (λ cells. cells ∷ standing bs) (h ∙ ap (λ (it : Block). cells_in it.cells) (sym (some_is e)))
set_kept (b ∷ bs) (suc k) old new e h = ap (λ them. cells_in b.cells ∷ them) (set_kept bs k old new e h)

alive_by : (b : Bool) (it block : Block) → (if b then ok it else Err U.Ended) ≡ ok block → it ≡ block
alive_by true it block e = ok_is e
alive_by false it block e = absurd (no_ok e)

alive_found : (found : Option Block) (block : Block) → if_alive found ≡ ok block → found ≡ Some block
alive_found None block e = absurd (no_ok e)
alive_found (Some it) block e = ap Some (alive_by it.alive it block e)

replaced_kept : (memory : Memory) (a : Option Address) (block : Block) (cells : List StoredCell) → object_at memory a ≡ ok block → cells_in cells ≡ cells_in block.cells → standing (replaced memory a block cells) ≡ standing memory
replaced_kept memory None block cells e h = refl
replaced_kept memory (Some a) block cells e h = set_kept memory a.block block (record block { cells = cells }) (alive_found (slice_get memory a.block) block e) h

written_by : (b : Bool) (memory after : Memory) → (if b then ok memory else Err U.Sealed) ≡ ok after → memory ≡ after
written_by true memory after e = ok_is e
written_by false memory after e = absurd (no_ok e)

pub store_kept : (model : DataModel) (a : Option Address) (ty : CellType) (x : Content) (memory after : Memory) → store model memory a ty x ≡ ok after → standing after ≡ standing memory
unfolding store
store_kept model a ty x memory after e =
    let one = then_ok (object_at memory a) (λ block. then_result (with_held model block.cells (offset_of a) ty x) (λ cells. if block.writable then ok (replaced memory a block cells) else Err U.Sealed)) after e in
    let block : Block = one.0 in
    let two = then_ok (with_held model block.cells (offset_of a) ty x) (λ cells. if block.writable then ok (replaced memory a block cells) else Err U.Sealed) after one.2 in
    ap standing (sym (written_by block.writable (replaced memory a block two.0) after two.2)) ∙ replaced_kept memory a block two.0 one.1 (held_kept model block.cells two.0 (offset_of a) ty x two.1)

-- ---- one more block

new_cells : (zeroed : Bool) (cells : List ShapeCell) → cells_in (map (new_cell zeroed) cells) ≡ cells
new_cells zeroed [] = refl
new_cells zeroed (c ∷ cs) = ap (λ them. c ∷ them) (new_cells zeroed cs)

created_by : (b : Bool) (memory after : Memory) → (if b then Some memory else None) ≡ Some after → memory ≡ after
created_by true memory after e = some_is e
created_by false memory after e = absurd (no_some e)

pub created_behind : (memory after : Memory) (shape : Shape) (zeroed writable : Bool) → create_shaped memory shape zeroed writable ≡ Some after → standing after ≡ standing memory ++ shape.cells ∷ []
unfolding create_shaped
created_behind memory after shape zeroed writable e =
    ap standing (sym (created_by (nat_le (cells_alive memory + length shape.cells) most_cells) (create memory (new_block shape zeroed writable)) after e))
    ∙ map-append (λ (block : Block). cells_in block.cells) memory (new_block shape zeroed writable ∷ [])
    ∙ ap (λ cells. standing memory ++ cells ∷ []) (new_cells zeroed shape.cells)

-- ---- the first cell at an offset

corresponds_itself : (ty : CellType) → corresponds ty ty ≡ true
corresponds_itself (Num s) = eq-eqb (correspondence s) (correspondence s) refl
corresponds_itself (Pointer k) = eq-eqb k k refl

module _ (seen : Comparison) where
  abbrev others : List StoredCell → List StoredCell
  others cells = map (cell_with seen.numbers) cells

  -- the content of the first cell
  changed : (model : DataModel) (c : StoredCell) (cs : List StoredCell) (x : Content) (b d : Bool) (r s : Result (List StoredCell) Ub) → b ≡ true → d ≡ true
      → (if b then ok (record { offset = c.offset; ty = cell_type_with seen.numbers c.ty; holds = as_type model (cell_type_with seen.numbers c.ty) x } ∷ others cs) else r)
      ≡ result_with others (if d then ok (record { offset = c.offset; ty = c.ty; holds = as_type model c.ty x } ∷ cs) else s)
  changed model c cs x true true r s h g = ap (λ held. ok (record { offset = c.offset; ty = cell_type_with seen.numbers c.ty; holds = held } ∷ others cs)) (as_type_with seen model c.ty x)
  changed model c cs x false d r s h g = cc
  changed model c cs x true false r s h g = cc

  first_held : (model : DataModel) (cells : List StoredCell) (offset : ℕ) (ty : CellType) (x : Content) → type_at offset (cells_in cells) ≡ Some ty
      → with_held model (others cells) offset (cell_type_with seen.numbers ty) x ≡ result_with others (with_held model cells offset ty x)
  first_held model [] offset ty x h = absurd (no_some h)
  first_held model (c ∷ cs) offset ty x h = by (c.offset == offset) h (first_held model cs offset ty x)
    where
      it_meets : (other : CellType) → other ≡ c.ty → corresponds other c.ty ≡ true
      it_meets other e = ap (λ it. corresponds it c.ty) e ∙ corresponds_itself c.ty

      by : (b : Bool) → (if b then Some c.ty else type_at offset (cells_in cs)) ≡ Some ty
          → (type_at offset (cells_in cs) ≡ Some ty → with_held model (others cs) offset (cell_type_with seen.numbers ty) x ≡ result_with others (with_held model cs offset ty x))
          → (if b && corresponds (cell_type_with seen.numbers ty) (cell_type_with seen.numbers c.ty) then ok (record { offset = c.offset; ty = cell_type_with seen.numbers c.ty; holds = as_type model (cell_type_with seen.numbers c.ty) x } ∷ others cs) else before_cells (cell_with seen.numbers c) (with_held model (others cs) offset (cell_type_with seen.numbers ty) x))
          ≡ result_with others (if b && corresponds ty c.ty then ok (record { offset = c.offset; ty = c.ty; holds = as_type model c.ty x } ∷ cs) else before_cells c (with_held model cs offset ty x))
      by true g f =
          changed model c cs x (corresponds (cell_type_with seen.numbers ty) (cell_type_with seen.numbers c.ty)) (corresponds ty c.ty) (before_cells (cell_with seen.numbers c) (with_held model (others cs) offset (cell_type_with seen.numbers ty) x)) (before_cells c (with_held model cs offset ty x))
          (ap (λ it. corresponds (cell_type_with seen.numbers it) (cell_type_with seen.numbers c.ty)) (sym (some_is g)) ∙ corresponds_itself (cell_type_with seen.numbers c.ty)) (it_meets ty (sym (some_is g)))
      by false g f = ap (before_cells (cell_with seen.numbers c)) (f g) ∙ before_with seen c (with_held model cs offset ty x)

  standing_at : (memory : Memory) (k : ℕ) (block : Block) (cells : List ShapeCell) → slice_get memory k ≡ Some block → slice_get (standing memory) k ≡ Some cells → cells_in block.cells ≡ cells
  standing_at [] k block cells e h = absurd (no_some e)
  standing_at (b ∷ bs) zero block cells e h = ap (λ (it : Block). cells_in it.cells) (sym (some_is e)) ∙ some_is h
  standing_at (b ∷ bs) (suc k) block cells e h = standing_at bs k block cells e h

  pub first_stored : (model : DataModel) (memory : Memory) (a : Address) (cells : List ShapeCell) (ty : CellType) (x : Content) → slice_get (standing memory) a.block ≡ Some cells → type_at a.offset cells ≡ Some ty
      → store model (memory_with seen.numbers memory) (Some a) (cell_type_with seen.numbers ty) x ≡ result_with (memory_with seen.numbers) (store model memory (Some a) ty x)
  first_stored model memory a cells ty x h g =
      store_by seen model memory (Some a) ty (cell_type_with seen.numbers ty) x
      (λ block e. first_held model block.cells a.offset ty x (ap (type_at a.offset) (standing_at memory a.block block cells (alive_found (slice_get memory a.block) block e) h) ∙ g))
