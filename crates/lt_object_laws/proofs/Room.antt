-- Objects that are there from the start leave as many cells alive as they have, and so many alone are made as there is room for.
use Rattle.std.proofs.Common.{◌≡◌, ◌≤◌, ℕ, zero, suc, List, [], ◌∷◌, ◌++◌, length, take, Option, Some, None, Bool, true, false, refl, sym, ap, ◌∙◌, subst, arith, leb-true}
use Rattle.std.proofs.lemmas.List.{length-map}
use Rattle.std.proofs.lemmas.List.Sums.{sum_by-cons, sum_by-append}
use Rattle.std.specs.Prelude.{◌==◌, ◌+◌, ◌&&◌, nat_le, if◌then◌else◌, Result, Ok, Err, slice_get, slice_set}
use Rattle.lt_model.specs.declared.cell.Address.{Address}
use Rattle.lt_model.specs.declared.cell.CellType.{CellType}
use Rattle.lt_model.specs.declared.cell.Content.{Content}
use Rattle.lt_model.specs.declared.cell.Shape.{Shape}
use Rattle.lt_model.specs.declared.cell.ShapeCell.{ShapeCell}
use Rattle.lt_model.specs.declared.cell.StoredCell.{StoredCell}
use Rattle.lt_model.specs.declared.scalar.DataModel.{DataModel}
use Rattle.lt_model.specs.declared.operator.Ub.{Ub}
use Rattle.lt_model.specs.declared.operator.Ub.TheVariants as U
use Rattle.lt_model.specs.declared.run.End.TheVariants.{Undefined, Cells}
use Rattle.lt_model.specs.Memory.{Memory, Block, corresponds, as_type, if_alive, object_at, offset_of, with_held, before_cells, then_result, replaced, store, create, create_shaped, new_block, new_cell, cells_alive, living_cells, most_cells}
use Rattle.lt_model.specs.State.{untouched, Gives, Ends}
use Rattle.lt_ir.specs.declared.variable.Variable.TheVariants.{Static as StaticObject}
use Rattle.lt_ir.specs.declared.code.Static.{Static}
use Rattle.lt_ir.specs.Running.{At, Answer, Step, ◌>>◌, gives, absurdity, bound_to}
use Rattle.lt_ir.specs.Evaluation.{written, is_content_of, one_cell}
use Rattle.lt_ir.specs.Starting.{put, fill, start_static, start_statics}
use Rattle.lt_object_laws.specs.Further.{cells_in}
use Rattle.lt_object_laws.proofs.Blocks.{ok, ok_is, no_ok, then_ok}

some_is : {A : Type 0} {x y : A} → Some x ≡ Some y → x ≡ y
some_is e = cc

no_some : {A : Type 0} {x : A} → None ≡ Some x → ⊥
no_some e = cc

-- ---- what is stored leaves the number of living cells

before_length : (c : StoredCell) (cs after : List StoredCell) (r : Result (List StoredCell) Ub) → ((rest : List StoredCell) → r ≡ ok rest → length rest ≡ length cs) → before_cells c r ≡ ok after → length after ≡ suc (length cs)
before_length c cs after (Ok rest) h e = ap length (sym (ok_is e)) ∙ ap suc (h rest refl)
before_length c cs after (Err kind) h e = absurd (no_ok e)

with_held_length : (model : DataModel) (cells after : List StoredCell) (offset : ℕ) (ty : CellType) (x : Content) → with_held model cells offset ty x ≡ ok after → length after ≡ length cells
with_held_length model [] after offset ty x e = absurd (no_ok e)
with_held_length model (c ∷ cs) after offset ty x e = by (c.offset == offset && corresponds ty c.ty) (λ rest q. with_held_length model cs rest offset ty x q) e
  where
    by : (b : Bool) → ((rest : List StoredCell) → with_held model cs offset ty x ≡ ok rest → length rest ≡ length cs)
        → (if b then ok (record { offset = c.offset; ty = c.ty; holds = as_type model c.ty x } ∷ cs) else before_cells c (with_held model cs offset ty x)) ≡ ok after → length after ≡ suc (length cs)
    by true h e = ap length (sym (ok_is e))
    by false h e = before_length c cs after (with_held model cs offset ty x) h e

set_alive : (memory : Memory) (n : ℕ) (old new : Block) → slice_get memory n ≡ Some old → living_cells new ≡ living_cells old → cells_alive (slice_set memory n new) ≡ cells_alive memory
set_alive [] n old new e h = absurd (no_some e)
set_alive (b ∷ bs) zero old new e h = sum_by-cons living_cells new bs ∙ ap (λ k. k + cells_alive bs) (h ∙ ap living_cells (sym (some_is e))) ∙ sym (sum_by-cons living_cells b bs)
set_alive (b ∷ bs) (suc n) old new e h = sum_by-cons living_cells b (slice_set bs n new) ∙ ap (λ k. living_cells b + k) (set_alive bs n old new e h) ∙ sym (sum_by-cons living_cells b bs)

found_alive : (found : Option Block) (block : Block) → if_alive found ≡ ok block → found ≡ Some block
found_alive None block e = absurd (no_ok e)
found_alive (Some it) block e = by it.alive e
  where
    by : (b : Bool) → (if b then ok it else Err U.Ended) ≡ ok block → Some it ≡ Some block
    by true e = ap Some (ok_is e)
    by false e = absurd (no_ok e)

replaced_alive : (memory : Memory) (a : Option Address) (block : Block) (cells : List StoredCell) → object_at memory a ≡ ok block → length cells ≡ length block.cells → cells_alive (replaced memory a block cells) ≡ cells_alive memory
replaced_alive memory None block cells e h = refl
replaced_alive memory (Some a) block cells e h = set_alive memory a.block block (record block { cells = cells }) (found_alive (slice_get memory a.block) block e) (ap (λ n. if block.alive then n else 0) h)

store_alive : (model : DataModel) (memory after : Memory) (a : Option Address) (ty : CellType) (x : Content) → store model memory a ty x ≡ ok after → cells_alive after ≡ cells_alive memory
unfolding store
store_alive model memory after a ty x e =
    let one = then_ok (object_at memory a) (λ block. then_result (with_held model block.cells (offset_of a) ty x) (λ cells. if block.writable then ok (replaced memory a block cells) else Err U.Sealed)) after e in
    let block : Block = one.0 in
    let two = then_ok (with_held model block.cells (offset_of a) ty x) (λ cells. if block.writable then ok (replaced memory a block cells) else Err U.Sealed) after one.2 in
    by block.writable (replaced memory a block two.0) two.2 (replaced_alive memory a block two.0 one.1 (with_held_length model block.cells two.0 (offset_of a) ty x two.1))
  where
    by : (b : Bool) (made : Memory) → (if b then ok made else Err U.Sealed) ≡ ok after → cells_alive made ≡ cells_alive memory → cells_alive after ≡ cells_alive memory
    by true made e h = ap cells_alive (sym (ok_is e)) ∙ h
    by false made e h = absurd (no_ok e)

-- ---- answers that leave so many cells alive, which are no more than may be, where they go on

abbrev pub Leaves : ℕ → Answer (Unit {0}) → Type 0
Leaves n (Gives a at) = (cells_alive at.memory ≡ n) × (n ≤ most_cells)
Leaves n (Ends end at) = Unit {0}

then_leaves : (n k : ℕ) (m : Answer (Unit {0})) (f : Step (Unit {0})) → Leaves n m → ((at : At) → cells_alive at.memory ≡ n → n ≤ most_cells → Leaves k (f at)) → Leaves k (elim (m) as (λ _. Answer (Unit {0})) [ Gives a at ↦ f at | Ends end at ↦ Ends end at ])
then_leaves n k (Gives a at) f h g = g at h.0 h.1
then_leaves n k (Ends end at) f h g = tt

put_leaves : (model : DataModel) (block offset : ℕ) (ty : CellType) (c : Content) (at : At) → cells_alive at.memory ≤ most_cells → Leaves (cells_alive at.memory) (put model block offset ty c at)
put_leaves model block offset ty c at fit = by (is_content_of model ty c)
  where
    given : (x : Result Memory Ub) → ((after : Memory) → x ≡ ok after → cells_alive after ≡ cells_alive at.memory)
        → Leaves (cells_alive at.memory) (((λ (at : At). elim (x) as (λ _. Answer (Unit {0})) [ Ok memory ↦ Gives tt (record at { memory = memory }) | Err kind ↦ Ends (Undefined kind) at ]) >> gives untouched >> gives (tt {0})) at)
    given (Ok after) h = (h after refl, fit)
    given (Err kind) h = tt

    by : (b : Bool) → Leaves (cells_alive at.memory) (((if b then written false (λ memory. store model memory (Some (record { block = block; offset = offset })) ty c) (one_cell ty) (Some (record { block = block; offset = offset })) untouched else absurdity) >> gives (tt {0})) at)
    by true = given (store model at.memory (Some (record { block = block; offset = offset })) ty c) (λ after e. store_alive model at.memory after (Some (record { block = block; offset = offset })) ty c e)
    by false = tt

fill_leaves : (model : DataModel) (block n : ℕ) (shape : List ShapeCell) (cs : List Content) (at : At) → cells_alive at.memory ≡ n → n ≤ most_cells → Leaves n (fill model block shape cs at)
fill_leaves model block n [] cs at h fit = (h, fit)
fill_leaves model block n (c ∷ shape) [] at h fit = (h, fit)
fill_leaves model block n (c ∷ shape) (x ∷ cs) at h fit =
    then_leaves n n (put model block c.offset c.ty x at) (fill model block shape cs) (subst (λ k. Leaves k (put model block c.offset c.ty x at)) h (put_leaves model block c.offset c.ty x at (subst (λ k. k ≤ most_cells) (sym h) fit)))
    (λ at1 g fit1. fill_leaves model block n shape cs at1 g fit1)

one_more_alive : (memory : Memory) (block : Block) → cells_alive (memory ++ block ∷ []) ≡ cells_alive memory + living_cells block
one_more_alive memory block =
    let one : living_cells block + 0 ≡ living_cells block = omega arith in
    sum_by-append living_cells memory (block ∷ []) ∙ ap (λ n. cells_alive memory + n) (sum_by-cons living_cells block [] ∙ one)

new_alive : (shape : Shape) → living_cells (new_block shape true true) ≡ length shape.cells
new_alive shape = length-map shape.cells (new_cell true)

pub static_leaves : (model : DataModel) (k n : ℕ) (it : Static) (at : At) → cells_alive at.memory ≡ n → Leaves (n + length it.block.shape.cells) (start_static model k it at)
unfolding create_shaped
static_leaves model k n it at h = by (nat_le (n + length it.block.shape.cells) most_cells) refl
  where
    made : Bool → Answer (Unit {0})
    made b =
        elim (elim (if b then Some (create at.memory (new_block it.block.shape true true)) else None) as (λ _. Answer ℕ) [ None ↦ Ends Cells at | Some memory ↦ Gives (length at.memory) (record at { memory = memory }) ]) as (λ _. Answer (Unit {0}))
        [ Gives m at1 ↦ (fill model m it.block.shape.cells it.cells >> bound_to (StaticObject k) m) at1 | Ends end at1 ↦ Ends end at1 ]

    by : (b : Bool) → nat_le (n + length it.block.shape.cells) most_cells ≡ b → Leaves (n + length it.block.shape.cells) (made (nat_le (cells_alive at.memory + length it.block.shape.cells) most_cells))
    by false e = subst (λ b. Leaves (n + length it.block.shape.cells) (made b)) (sym (ap (λ alive. nat_le (alive + length it.block.shape.cells) most_cells) h ∙ e)) tt
    by true e =
        subst (λ b. Leaves (n + length it.block.shape.cells) (made b)) (sym (ap (λ alive. nat_le (alive + length it.block.shape.cells) most_cells) h ∙ e))
        (then_leaves (n + length it.block.shape.cells) (n + length it.block.shape.cells) (fill model (length at.memory) it.block.shape.cells it.cells (record at { memory = at.memory ++ new_block it.block.shape true true ∷ [] })) (bound_to (StaticObject k) (length at.memory))
        (fill_leaves model (length at.memory) (n + length it.block.shape.cells) it.block.shape.cells it.cells (record at { memory = at.memory ++ new_block it.block.shape true true ∷ [] })
        (one_more_alive at.memory (new_block it.block.shape true true) ∙ ap (λ a. a + living_cells (new_block it.block.shape true true)) h ∙ ap (λ a. n + a) (new_alive it.block.shape)) (leb-true (n + length it.block.shape.cells) most_cells e))
        (λ at1 g fit. (g, fit)))

grouped : (n a b : ℕ) → (n + a) + b ≡ n + (a + b)
grouped n a b = omega arith

none_left : (n : ℕ) → n ≡ n + 0
none_left n = omega arith

pub statics_leave : (model : DataModel) (k n : ℕ) (its : List Static) (at : At) → cells_alive at.memory ≡ n → n ≤ most_cells → Leaves (n + cells_in its) (start_statics model k its at)
statics_leave model k n [] at h fit = (h ∙ none_left n, subst (λ m. m ≤ most_cells) (none_left n) fit)
statics_leave model k n (it ∷ its) at h fit =
    subst (λ m. Leaves m (start_statics model k (it ∷ its) at)) (grouped n (length it.block.shape.cells) (cells_in its))
    (then_leaves (n + length it.block.shape.cells) ((n + length it.block.shape.cells) + cells_in its) (start_static model k it at) (start_statics model (suc k) its)
    (static_leaves model k n it at h)
    (λ at1 e fit1. statics_leave model (suc k) (n + length it.block.shape.cells) its at1 e fit1))

-- ---- room for so many cells more beside as many of the objects as fit

abbrev pub HasRoomBeside : ℕ → List Static → ℕ → Type 0
HasRoomBeside alive its k = (n : ℕ) → alive + cells_in (take n its) ≤ most_cells → (alive + cells_in (take n its)) + k ≤ most_cells

pub room_behind : (alive k : ℕ) (it : Static) (its : List Static) → HasRoomBeside alive (it ∷ its) k → HasRoomBeside (alive + length it.block.shape.cells) its k
room_behind alive k it its room n fit =
    let same = grouped alive (length it.block.shape.cells) (cells_in (take n its)) in
    subst (λ m. m + k ≤ most_cells) (sym same) (room (suc n) (subst (λ m. m ≤ most_cells) same fit))

pub room_now : (alive k : ℕ) (its : List Static) → alive ≤ most_cells → HasRoomBeside alive its k → alive + k ≤ most_cells
room_now alive k its fit room = subst (λ m. m + k ≤ most_cells) (sym (none_left alive)) (room 0 (subst (λ m. m ≤ most_cells) (none_left alive) fit))

pub room_for_one : (alive k : ℕ) (it : Static) (its : List Static) → HasRoomBeside alive (it ∷ its) k → alive + length it.block.shape.cells ≤ most_cells → (alive + length it.block.shape.cells) + k ≤ most_cells
room_for_one alive k it its room fit = room_now (alive + length it.block.shape.cells) k its fit (room_behind alive k it its room)
