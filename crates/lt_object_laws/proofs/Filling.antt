-- A block that has just been made is filled: the cells of a string have characters, and each is met.
use Rattle.std.proofs.Common.{◌≡◌, ℕ, ℤ, pos, zero, suc, List, [], ◌∷◌, ◌++◌, map, length, Some, Bool, true, false, refl, sym, ap, ◌∙◌, subst, arith, eq-eqb}
use Rattle.std.proofs.lemmas.Int.{ints}
use Rattle.std.proofs.lemmas.Bool.{false≢true}
use Rattle.std.specs.Prelude.{◌==◌, ◌+◌, ◌&&◌, if◌then◌else◌, Result, Ok, Err, slice_get, slice_set}
use Rattle.std.specs.List.{AllByRecursion}
use Rattle.lt_model.specs.declared.cell.CellType.{CellType}
use Rattle.lt_model.specs.declared.cell.CellType.TheVariants.{Num, Pointer}
use Rattle.lt_model.specs.declared.cell.Content.{Content}
use Rattle.lt_model.specs.declared.cell.Content.TheVariants as content
use Rattle.lt_model.specs.declared.cell.ShapeCell.{ShapeCell}
use Rattle.lt_model.specs.declared.cell.StoredCell.{StoredCell}
use Rattle.lt_model.specs.declared.scalar.DataModel.{DataModel}
use Rattle.lt_model.specs.declared.scalar.Scalar.TheVariants as S
use Rattle.lt_model.specs.declared.operator.Ub.{Ub}
use Rattle.lt_model.specs.declared.operator.Ub.TheVariants as U
use Rattle.lt_model.specs.declared.run.End.TheVariants.{Undefined}
use Rattle.lt_model.specs.Scalar.{convert_of, wrapped, least_of, greatest_of, IsValue}
use Rattle.lt_model.specs.Operators.{is_value}
use Rattle.lt_model.proofs.Ranges.{Bounds, bounds_of, IsValue-wrapped}
use Rattle.lt_model.proofs.Values.{test_from_between}
use Rattle.lt_model.specs.Memory.{Memory, Block, correspondence, corresponds, as_type, with_held, before_cells, store, if_alive, then_result, first_content, new_cell}
use Rattle.lt_model.specs.State.{untouched, Gives, Ends}
use Rattle.lt_tree.specs.Typing.Types.{CType, Num as NumType}
use Rattle.lt_tree.specs.Typing.Shapes.{repeated, cells_at}
use Rattle.lt_tree.specs.Typing.Extents.{Structs}
use Rattle.lt_tree.specs.Typing.TypedTree as e
use Rattle.lt_tree.specs.Typing.TypedTree.{StartPart}
use Rattle.lt_tree.specs.Typing.Programs.{Program}
use Rattle.lt_ir.specs.Running.{At, Answer, ◌>>◌, gives, absurdity}
use Rattle.lt_ir.specs.Evaluation.{written, is_content_of, one_cell}
use Rattle.lt_ir.specs.Starting.{put, fill}
use Rattle.lt_meaning.specs.Runs.{fixed_in, letters_in, all_parts_in}
use Rattle.lt_object_laws.specs.Further.{AreLetters}

-- ---- cells by their offsets and types

abbrev pub kind : StoredCell → ShapeCell
kind cell = record { offset = cell.offset; ty = cell.ty }

abbrev pub meets_one : List ShapeCell → ℕ → CellType → Bool
meets_one [] offset ty = false
meets_one (c ∷ cs) offset ty = if c.offset == offset && corresponds ty c.ty then true else meets_one cs offset ty

-- accesses to all of these cells meet one of those
abbrev pub AllMet : List ShapeCell → List ShapeCell → Type 0
AllMet all cells = AllByRecursion (λ (c : ShapeCell). meets_one all c.offset c.ty ≡ true) cells

corresponds_self : (ty : CellType) → corresponds ty ty ≡ true
corresponds_self (Num s) = eq-eqb (correspondence s) (correspondence s) refl
corresponds_self (Pointer p) = eq-eqb p p refl

met_first : (c : ShapeCell) (cs : List ShapeCell) → meets_one (c ∷ cs) c.offset c.ty ≡ true
met_first c cs =
    ap (λ b. if b && corresponds c.ty c.ty then true else meets_one cs c.offset c.ty) (eq-eqb c.offset c.offset refl)
    ∙ ap (λ b. if b then true else meets_one cs c.offset c.ty) (corresponds_self c.ty)

one_more_met : (b c : Bool) → c ≡ true → (if b then true else c) ≡ true
one_more_met true c h = refl
one_more_met false c h = h

met_among_more : (x : ShapeCell) (all cells : List ShapeCell) → AllMet all cells → AllMet (x ∷ all) cells
met_among_more x all [] h = tt
met_among_more x all (c ∷ cs) h = (one_more_met (x.offset == c.offset && corresponds c.ty x.ty) (meets_one all c.offset c.ty) h.0, met_among_more x all cs h.1)

pub all_met : (cells : List ShapeCell) → AllMet cells cells
all_met [] = tt
all_met (c ∷ cs) = (met_first c cs, met_among_more c cs cs (all_met cs))

abbrev ok : {A : Type 0} → A → Result A Ub
ok a = Ok a

-- what an access that meets a cell leaves
held_there : (model : DataModel) (cells : List StoredCell) (offset : ℕ) (ty : CellType) (x : Content) → meets_one (map kind cells) offset ty ≡ true
    → (after : List StoredCell) × (with_held model cells offset ty x ≡ ok after) × (map kind after ≡ map kind cells)
held_there model [] offset ty x h = absurd (false≢true h)
held_there model (c ∷ cs) offset ty x h = by (c.offset == offset && corresponds ty c.ty) h (λ g. held_there model cs offset ty x g)
  where
    by : (b : Bool) → (if b then true else meets_one (map kind cs) offset ty) ≡ true
        → (meets_one (map kind cs) offset ty ≡ true → (after : List StoredCell) × (with_held model cs offset ty x ≡ ok after) × (map kind after ≡ map kind cs))
        → (after : List StoredCell) × ((if b then ok (record { offset = c.offset; ty = c.ty; holds = as_type model c.ty x } ∷ cs) else before_cells c (with_held model cs offset ty x)) ≡ ok after) × (map kind after ≡ kind c ∷ map kind cs)
    by true h g = (record { offset = c.offset; ty = c.ty; holds = as_type model c.ty x } ∷ cs, refl, refl)
    by false h g =
        let it = g h in
        (c ∷ it.0, ap (before_cells c) it.1, ap (λ them. kind c ∷ them) it.2)

-- ---- the block that was made last

got_last : (memory : Memory) (block : Block) → slice_get (memory ++ block ∷ []) (length memory) ≡ Some block
got_last [] block = refl
got_last (b ∷ bs) block = got_last bs block

set_last : (memory : Memory) (block other : Block) → slice_set (memory ++ block ∷ []) (length memory) other ≡ memory ++ other ∷ []
set_last [] block other = refl
set_last (b ∷ bs) block other = ap (λ them. b ∷ them) (set_last bs block other)

abbrev pub living_block : ℕ → List StoredCell → Block
living_block size cells = record { alive = true; writable = true; size = size; cells = cells }

store_last : (model : DataModel) (memory : Memory) (size : ℕ) (cells after : List StoredCell) (offset : ℕ) (ty : CellType) (x : Content) → with_held model cells offset ty x ≡ ok after
    → store model (memory ++ living_block size cells ∷ []) (Some (record { block = length memory; offset = offset })) ty x ≡ ok (memory ++ living_block size after ∷ [])
unfolding store
store_last model memory size cells after offset ty x h =
    let end : Block → List StoredCell → Result Memory Ub = λ block held. if block.writable then ok (slice_set (memory ++ living_block size cells ∷ []) (length memory) (record block { cells = held })) else Err U.Sealed in
    ap (λ found. then_result (if_alive found) (λ block. then_result (with_held model block.cells offset ty x) (end block))) (got_last memory (living_block size cells))
    ∙ ap (λ held. then_result held (end (living_block size cells))) h
    ∙ ap ok (set_last memory (living_block size cells) (living_block size after))

-- contents of the types of these cells
abbrev pub AreSuited : DataModel → List ShapeCell → List Content → Type 0
AreSuited model (cell ∷ cells) (c ∷ cs) = (is_content_of model cell.ty c ≡ true) × AreSuited model cells cs
AreSuited model cells cs = Unit {0}

abbrev pub with_last : At → Memory → Block → At
with_last at memory block = record at { memory = memory ++ block ∷ [] }

put_last : (model : DataModel) (memory : Memory) (size : ℕ) (cells after : List StoredCell) (offset : ℕ) (ty : CellType) (x : Content) (at : At)
    → is_content_of model ty x ≡ true → with_held model cells offset ty x ≡ ok after
    → put model (length memory) offset ty x (with_last at memory (living_block size cells)) ≡ Gives tt (with_last at memory (living_block size after))
put_last model memory size cells after offset ty x at suits h =
    ap (λ b. ((if b then written false (λ memory'. store model memory' (Some (record { block = length memory; offset = offset })) ty x) (one_cell ty) (Some (record { block = length memory; offset = offset })) untouched else absurdity) >> gives (tt {0})) (with_last at memory (living_block size cells))) suits
    ∙ ap (λ r. ((λ (at : At). elim (r) as (λ _. Answer (Unit {0})) [ Ok memory' ↦ Gives tt (record at { memory = memory' }) | Err kind ↦ Ends (Undefined kind) at ]) >> gives untouched >> gives (tt {0})) (with_last at memory (living_block size cells))) (store_last model memory size cells after offset ty x h)

-- all its cells are filled
pub fill_last : (model : DataModel) (memory : Memory) (size : ℕ) (shape : List ShapeCell) (cs : List Content) (cells : List StoredCell) (at : At) → AllMet (map kind cells) shape → AreSuited model shape cs
    → (after : List StoredCell) × (fill model (length memory) shape cs (with_last at memory (living_block size cells)) ≡ Gives tt (with_last at memory (living_block size after))) × (map kind after ≡ map kind cells)
fill_last model memory size [] cs cells at h g = (cells, refl, refl)
fill_last model memory size (c ∷ shape) [] cells at h g = (cells, refl, refl)
fill_last model memory size (c ∷ shape) (x ∷ cs) cells at h g =
    let it = held_there model cells c.offset c.ty x h.0 in
    let rest = fill_last model memory size shape cs it.0 at (subst (λ all. AllMet all shape) (sym it.2) h.1) g.1 in (
      rest.0,
      ap (λ (first : Answer (Unit {0})). elim (first) as (λ _. Answer (Unit {0})) [ Gives a at1 ↦ fill model (length memory) shape cs at1 | Ends end at1 ↦ Ends end at1 ]) (put_last model memory size cells it.0 c.offset c.ty x at g.0 it.1) ∙ rest.1,
      rest.2 ∙ it.2,
    )

-- ---- characters

-- a cell of a character holds one
abbrev HasChar : DataModel → CellType → Content → Type 0
HasChar model (Num S.Char) (content.Number z) = is_value model S.Char z ≡ true
HasChar model ty c = ⊥

abbrev HaveChars : DataModel → List StoredCell → Type 0
HaveChars model cells = AllByRecursion (λ (c : StoredCell). HasChar model c.ty c.holds) cells

converted_char : (model : DataModel) (z : ℤ) → is_value model S.Char (convert_of model S.Char z) ≡ true
converted_char model z =
    let h : IsValue model S.Char (wrapped model S.Char z) = IsValue-wrapped model S.Char z in
    test_from_between (least_of model S.Char) (greatest_of model S.Char) (wrapped model S.Char z) h.above h.below

zero_char : (model : DataModel) → is_value model S.Char (pos 0) ≡ true
zero_char model =
    let b : Bounds model S.Char = bounds_of model S.Char in
    let low = b.not_above in
    let one = b.one in
    test_from_between (least_of model S.Char) (greatest_of model S.Char) (pos 0) low (omega (arith, ints, one))

char_fixed : (model : DataModel) (ty : CellType) (c : Content) (z : ℤ) → HasChar model ty c → HasChar model ty (as_type model ty (content.Number z))
char_fixed model (Num S.Char) (content.Number y) z h = converted_char model z
char_fixed model ty c z h = absurd h

fixed_chars : (model : DataModel) (offset : ℕ) (z : ℤ) (cells : List StoredCell) → HaveChars model cells → HaveChars model (fixed_in model offset (content.Number z) cells)
fixed_chars model offset z [] h = tt
fixed_chars model offset z (c ∷ cs) h = by (c.offset == offset) (fixed_chars model offset z cs h.1)
  where
    by : (b : Bool) → HaveChars model (fixed_in model offset (content.Number z) cs) → HaveChars model (if b then record c { holds = as_type model c.ty (content.Number z) } ∷ cs else c ∷ fixed_in model offset (content.Number z) cs)
    by true g = (char_fixed model c.ty c.holds z h.0, h.1)
    by false g = (h.0, g)

letters_chars : (model : DataModel) (offset : ℕ) (bytes : List ℕ) (cells : List StoredCell) → HaveChars model cells → HaveChars model (letters_in model offset bytes cells)
letters_chars model offset [] cells h = h
letters_chars model offset (b ∷ bytes) cells h = letters_chars model (offset + 1) bytes (fixed_in model offset (content.Number (pos b)) cells) (fixed_chars model offset (pos b) cells h)

pub parts_chars : (program : Program) (parts : List StartPart) (cells : List StoredCell) → AreLetters parts → HaveChars program.model cells → HaveChars program.model (all_parts_in program parts cells)
parts_chars program [] cells h g = g
parts_chars program (e.letters offset s bytes ∷ parts) cells h g = parts_chars program parts (letters_in program.model offset bytes cells) h (letters_chars program.model offset bytes cells g)
parts_chars program (e.stored offset v ∷ parts) cells h g = absurd h
parts_chars program (e.fixed offset t c ∷ parts) cells h g = absurd h

fixed_kinds : (model : DataModel) (offset : ℕ) (x : Content) (cells : List StoredCell) → map kind (fixed_in model offset x cells) ≡ map kind cells
fixed_kinds model offset x [] = refl
fixed_kinds model offset x (c ∷ cs) = by (c.offset == offset) (fixed_kinds model offset x cs)
  where
    by : (b : Bool) → map kind (fixed_in model offset x cs) ≡ map kind cs → map kind (if b then record c { holds = as_type model c.ty x } ∷ cs else c ∷ fixed_in model offset x cs) ≡ kind c ∷ map kind cs
    by true h = refl
    by false h = ap (λ them. kind c ∷ them) h

letters_kinds : (model : DataModel) (offset : ℕ) (bytes : List ℕ) (cells : List StoredCell) → map kind (letters_in model offset bytes cells) ≡ map kind cells
letters_kinds model offset [] cells = refl
letters_kinds model offset (b ∷ bytes) cells = letters_kinds model (offset + 1) bytes (fixed_in model offset (content.Number (pos b)) cells) ∙ fixed_kinds model offset (content.Number (pos b)) cells

pub parts_kinds : (program : Program) (parts : List StartPart) (cells : List StoredCell) → AreLetters parts → map kind (all_parts_in program parts cells) ≡ map kind cells
parts_kinds program [] cells h = refl
parts_kinds program (e.letters offset s bytes ∷ parts) cells h = parts_kinds program parts (letters_in program.model offset bytes cells) h ∙ letters_kinds program.model offset bytes cells
parts_kinds program (e.stored offset v ∷ parts) cells h = absurd h
parts_kinds program (e.fixed offset t c ∷ parts) cells h = absurd h

pub new_kinds : (zeroed : Bool) (shape : List ShapeCell) → map kind (map (new_cell zeroed) shape) ≡ shape
new_kinds zeroed [] = refl
new_kinds zeroed (c ∷ cs) = ap (λ them. c ∷ them) (new_kinds zeroed cs)

abbrev AreChars : List ShapeCell → Type 0
AreChars cells = AllByRecursion (λ (c : ShapeCell). c.ty ≡ Num S.Char) cells

new_chars : (model : DataModel) (shape : List ShapeCell) → AreChars shape → HaveChars model (map (new_cell true) shape)
new_chars model [] h = tt
new_chars model (c ∷ cs) h = (subst (λ ty. HasChar model ty (first_content true ty)) (sym h.0) (zero_char model), new_chars model cs h.1)

repeated_chars : (m : DataModel) (structs : Structs) (types : List CType) (known : ℕ → ℕ → List ShapeCell) (n size offset : ℕ) → AreChars (repeated n size (cells_at m structs types known (NumType S.Char)) offset)
repeated_chars m structs types known zero size offset = tt
repeated_chars m structs types known (suc n) size offset = (refl, repeated_chars m structs types known n size (offset + size))

suited_char : (model : DataModel) (ty : CellType) (c : Content) → HasChar model ty c → is_content_of model ty c ≡ true
suited_char model (Num S.Char) (content.Number z) h = h
suited_char model ty c h = absurd h

suited_chars : (model : DataModel) (cells : List StoredCell) → HaveChars model cells → AreSuited model (map kind cells) (map (λ cell. cell.holds) cells)
suited_chars model [] h = tt
suited_chars model (c ∷ cs) h = (suited_char model c.ty c.holds h.0, suited_chars model cs h.1)

-- the cells of a string and what they hold first
pub string_suited : (program : Program) (parts : List StartPart) (known : ℕ → ℕ → List ShapeCell) (n size : ℕ) → AreLetters parts
    → let shape = repeated n size (cells_at program.model program.structs program.types known (NumType S.Char)) 0 in AreSuited program.model shape (map (λ (cell : StoredCell). cell.holds) (all_parts_in program parts (map (new_cell true) shape)))
string_suited program parts known n size h =
    let shape = repeated n size (cells_at program.model program.structs program.types known (NumType S.Char)) 0 in
    let cells = map (new_cell true) shape in
    subst (λ them. AreSuited program.model them (map (λ (cell : StoredCell). cell.holds) (all_parts_in program parts cells))) (parts_kinds program parts cells h ∙ new_kinds true shape)
    (suited_chars program.model (all_parts_in program parts cells) (parts_chars program parts cells h (new_chars program.model shape (repeated_chars program.model program.structs program.types known n size 0))))
