-- Steps lose no block: memory's list of blocks only grows.
use Rattle.std.proofs.Common.{◌≡◌, ◌≤◌, ◌<◌, ℕ, ℤ, zero, suc, List, [], ◌∷◌, length, Option, Some, None, Bool, true, false, refl, sym, ap, ◌∙◌, arith}
use Rattle.std.proofs.Math.Nat.{le_refl, le_trans, le_of_lt}
use Rattle.std.proofs.lemmas.List.{length-append, length-set}
use Rattle.std.specs.Prelude.{◌+◌, nat_le, nat_lt, if◌then◌else◌, Result, Ok, Err, slice_get}
use Rattle.lt_model.specs.declared.cell.Address.{Address}
use Rattle.lt_model.specs.declared.cell.CellType.{CellType}
use Rattle.lt_model.specs.declared.cell.Content.{Content}
use Rattle.lt_model.specs.declared.cell.Shape.{Shape}
use Rattle.lt_model.specs.declared.cell.StoredCell.{StoredCell}
use Rattle.lt_model.specs.declared.scalar.DataModel.{DataModel}
use Rattle.lt_model.specs.declared.operator.Ub.{Ub}
use Rattle.lt_model.specs.declared.operator.Ub.TheVariants as U
use Rattle.lt_model.specs.declared.run.End.{End}
use Rattle.lt_model.specs.declared.run.End.TheVariants.{Undefined, Deep, Cells}
use Rattle.lt_model.specs.Memory.{Memory, Block, end_block, ended_block, object_at, offset_of, with_held, then_result, replaced, store, copy_struct, gathered, scattered, not_null, create, create_shaped, new_block, cells_alive, most_cells, seal_block, sealed}
use Rattle.lt_model.specs.State.{Binding, Left, Gives, Ends}
use Rattle.lt_ir.specs.declared.variable.Variable.{Variable}
use Rattle.lt_ir.specs.Running.{At, Answer, Step, ◌>>=◌, gives, over, defined, absurdity, asked, changed, spent, tick, one_deeper, most_calls, with_block, living_block, created, begins, is_begun, bound_to, without, marked_with, took}

-- ---- results

abbrev pub ok : {A : Type 0} → A → Result A Ub
ok a = Ok a

pub ok_is : {A : Type 0} {x y : A} → ok x ≡ ok y → x ≡ y
ok_is e = cc

pub no_ok : {A : Type 0} {x : A} {kind : Ub} → Err kind ≡ ok x → ⊥
no_ok e = cc

pub then_ok : {A B : Type 0} (r : Result A Ub) (go : A → Result B Ub) (b : B) → then_result r go ≡ ok b → (a : A) × (r ≡ ok a) × (go a ≡ ok b)
then_ok (Ok a) go b e = (a, refl, e)
then_ok (Err kind) go b e = absurd (no_ok e)

-- ---- how many blocks memory has

-- where a run stands that goes on or is over
abbrev pub state_of : {A : Type 0} → Answer A → At
state_of (Gives a at) = at
state_of (Ends end at) = at

abbrev pub blocks_in : {A : Type 0} → Answer A → ℕ
blocks_in m = length (state_of m).memory

-- a step that loses none
abbrev pub Grows : {A : Type 0} → Step A → Type 0
Grows s = (at : At) → length at.memory ≤ blocks_in (s at)

-- as many are there still where the run goes on
behind : {A B : Type 0} (m : Answer A) (f : A → Step B) → ((a : A) → Grows (f a)) → blocks_in m ≤ blocks_in (elim (m) [ Gives x at ↦ f x at | Ends end at ↦ Ends end at ])
behind (Gives a at) f h = h a at
behind (Ends end at) f h = le_refl (length at.memory)

pub more_behind : {A B : Type 0} (m : Answer A) (f : A → Step B) (n : ℕ) → n < blocks_in m → ((a : A) → Grows (f a)) → n < blocks_in (elim (m) [ Gives x at ↦ f x at | Ends end at ↦ Ends end at ])
more_behind m f n lt h = le_trans lt (behind m f h)

pub then_grows : {A B : Type 0} (s : Step A) (f : A → Step B) → Grows s → ((a : A) → Grows (f a)) → Grows (s >>= f)
then_grows s f h k at = le_trans (h at) (behind (s at) f k)

pub gives_grows : {A : Type 0} (a : A) → Grows (gives a)
gives_grows a at = le_refl (length at.memory)

pub over_grows : (A : Type 0) (x : End) → Grows {A = A} (over x)
over_grows A x at = le_refl (length at.memory)

pub if_grows : {A : Type 0} (b : Bool) (s t : Step A) → Grows s → Grows t → Grows (if b then s else t)
if_grows true s t h k = h
if_grows false s t h k = k

pub defined_grows : {A : Type 0} (x : Result A Ub) → Grows (defined x)
defined_grows (Ok a) = gives_grows a
defined_grows {A} (Err kind) = over_grows A (Undefined kind)

pub asked_grows : {A : Type 0} (question : Memory → Result A Ub) → Grows (asked question)
asked_grows question at = defined_grows (question at.memory) at

-- ---- what is changed

-- a change leaves as many blocks
abbrev pub AsMany : (Memory → Result Memory Ub) → Type 0
AsMany change = (before after : Memory) → change before ≡ ok after → length after ≡ length before

as_many : (a b : ℕ) → b ≡ a → a ≤ b
as_many a b h = omega (arith, h)

pub changed_grows : (change : Memory → Result Memory Ub) → AsMany change → Grows (changed change)
changed_grows change h at = by (change at.memory) refl
  where
    by : (x : Result Memory Ub) → change at.memory ≡ x → length at.memory ≤ blocks_in {A = Unit {0}} (elim (x) as (λ _. Answer (Unit {0})) [ Ok memory ↦ Gives tt (record at { memory = memory }) | Err kind ↦ Ends (Undefined kind) at ])
    by (Ok after) e = as_many (length at.memory) (length after) (h at.memory after e)
    by (Err kind) e = le_refl (length at.memory)

-- what a result gives that came of another
of_result : {A B : Type 0} (C : B → Type 0) (x : Result A Ub) (go : A → Result B Ub) → ((a : A) (b : B) → go a ≡ ok b → C b) → (b : B) → then_result x go ≡ ok b → C b
of_result C x go h b e =
    let it = then_ok x go b e in
    h it.0 b it.2

replaced_long : (memory : Memory) (a : Option Address) (block : Block) (cells : List StoredCell) → length (replaced memory a block cells) ≡ length memory
replaced_long memory None block cells = refl
replaced_long memory (Some a) block cells = length-set memory a.block (record block { cells = cells })

if_writable : (b : Bool) (memory made after : Memory) → length made ≡ length memory → (if b then ok made else Err U.Sealed) ≡ ok after → length after ≡ length memory
if_writable true memory made after h e = ap length (sym (ok_is e)) ∙ h
if_writable false memory made after h e = absurd (no_ok e)

pub stored_as_many : (model : DataModel) (a : Option Address) (ty : CellType) (x : Content) → AsMany (λ memory. store model memory a ty x)
unfolding store
stored_as_many model a ty x memory =
    of_result (λ after. length after ≡ length memory) (object_at memory a) _
    (λ block. of_result (λ after. length after ≡ length memory) (with_held model block.cells (offset_of a) ty x) _
    (λ cells after. if_writable block.writable memory (replaced memory a block cells) after (replaced_long memory a block cells)))

pub copied_as_many : (model : DataModel) (to from : Option Address) (shape : Shape) → AsMany (λ memory. copy_struct model memory to from shape)
unfolding copy_struct
copied_as_many model to from shape memory =
    let C : Memory → Type 0 = λ after. length after ≡ length memory in
    of_result C (not_null to) _ (λ _. of_result C (not_null from) _ (λ _. of_result C (object_at memory to) _ (λ target. of_result C (object_at memory from) _ (λ source.
    of_result C (gathered source.cells (offset_of from) shape.cells) _ (λ contents. of_result C (scattered model target.cells (offset_of to) shape.cells contents) _
    (λ cells after. if_writable target.writable memory (replaced memory to target cells) after (replaced_long memory to target cells)))))))

sealed_long : (memory : Memory) (n : ℕ) → length (seal_block memory n) ≡ length memory
sealed_long memory n = by (slice_get memory n)
  where
    by : (found : Option Block) → length (sealed memory n found) ≡ length memory
    by None = refl
    by (Some block) = length-set memory n (record block { writable = false })

-- ---- steps of a machine

spent_grows : (n : ℕ) (at : At) → length at.memory ≤ blocks_in (spent n at)
spent_grows zero at = le_refl (length at.memory)
spent_grows (suc n) at = le_refl (length at.memory)

pub tick_grows : Grows tick
tick_grows at = spent_grows at.ticks at

pub deeper_grows : Grows one_deeper
deeper_grows at = by (nat_lt at.depth most_calls)
  where
    by : (b : Bool) → length at.memory ≤ blocks_in {A = Unit {0}} (if b then Gives tt (record at { depth = at.depth + 1 }) else Ends Deep at)
    by true = le_refl (length at.memory)
    by false = le_refl (length at.memory)

pub block_grows : {A : Type 0} (v : Variable) (f : ℕ → Step A) → ((n : ℕ) → Grows (f n)) → Grows (with_block v f)
block_grows {A} v f h at = by (living_block v at)
  where
    by : (found : Option ℕ) → length at.memory ≤ blocks_in (elim (found) as (λ _. Answer A) [ None ↦ absurdity at | Some block ↦ f block at ])
    by None = le_refl (length at.memory)
    by (Some n) = h n at

-- memory with one more block
pub one_longer : (memory : Memory) (block : Block) → length memory < length (create memory block)
one_longer memory block = by (length memory) (length (create memory block)) (length-append memory (block ∷ []))
  where
    by : (a b : ℕ) → b ≡ a + 1 → a < b
    by a b h = omega (arith, h)

pub created_grows : (shape : Shape) (zeroed : Bool) → Grows (created shape zeroed)
unfolding create_shaped
created_grows shape zeroed at = by (nat_le (cells_alive at.memory + length shape.cells) most_cells)
  where
    by : (b : Bool) → length at.memory ≤ blocks_in (elim (if b then Some (create at.memory (new_block shape zeroed true)) else None) as (λ _. Answer ℕ) [ None ↦ Ends Cells at | Some memory ↦ Gives (length at.memory) (record at { memory = memory }) ])
    by true = le_of_lt (one_longer at.memory (new_block shape zeroed true))
    by false = le_refl (length at.memory)

pub begins_grows : (v : Variable) (shape : Shape) (zeroed : Bool) → Grows (begins v shape zeroed)
begins_grows v shape zeroed at = by (is_begun v at)
  where
    by : (b : Bool) → length at.memory ≤ blocks_in (if b then absurdity at else (created shape zeroed >>= bound_to v) at)
    by true = le_refl (length at.memory)
    by false = then_grows (created shape zeroed) (bound_to v) (created_grows shape zeroed) (λ n at1. le_refl (length at1.memory)) at

pub ended_grows : (v : Variable) (n : ℕ) → Grows {A = Unit {0}} (λ at. Gives tt (record at { scope = without at.scope v; memory = end_block at.memory n }))
ended_grows v n at = as_many (length at.memory) (length (end_block at.memory n)) (length-set at.memory n ended_block)

pub sealed_grows : (n : ℕ) → Grows {A = Unit {0}} (λ at. Gives tt (record at { memory = seal_block at.memory n }))
sealed_grows n at = as_many (length at.memory) (length (seal_block at.memory n)) (sealed_long at.memory n)

pub took_grows : (name : List ℕ) (r : Option (ℤ × List Left)) (at : At) → length at.memory ≤ blocks_in (took name at r)
took_grows name None at = le_refl (length at.memory)
took_grows name (Some (z, lefts)) at = le_refl (length at.memory)

-- a mark leaves memory
pub marked_as_long : (id : ℕ) (b : Option Bool) (bs : Option (List Binding)) (at : At) → length (marked_with id b bs at).memory ≡ length at.memory
marked_as_long id (Some b) (Some bs) at = refl
marked_as_long id None bs at = refl
marked_as_long id (Some b) None at = refl
