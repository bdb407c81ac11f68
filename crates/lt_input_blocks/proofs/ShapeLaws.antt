-- The cells and the sizes of arrays of scalars.
use Rattle.std.proofs.Common.{◌≡◌, ◌<◌, ◌≤◌, ◌+◌, ◌-◌, ◌*◌, ◌^◌, ℕ, zero, suc, cond, List, [], ◌∷◌, ◌++◌, Some, None, refl, sym, ap, ◌∙◌, arith, append_assoc, append-nil}
use Rattle.std.proofs.Math.Nat.{mul-le-mul_right}
use Rattle.std.specs.Prelude.{unwrap_or, Result, Ok, Err, IfOk}
use Rattle.lt_input_names.specs.Blocks.{pointers}
use Rattle.std.proofs.lemmas.Bool.{lt-ltb}
use Rattle.lt_model.specs.declared.scalar.DataModel.{DataModel}
use Rattle.lt_model.specs.declared.scalar.DataModel.TheVariants as model
use Rattle.lt_model.specs.declared.scalar.Scalar.{Scalar}
use Rattle.lt_model.specs.declared.scalar.Scalar.TheVariants as S
use Rattle.lt_model.specs.declared.sizes.Extent.{Extent}
use Rattle.lt_model.specs.declared.cell.Shape.{Shape}
use Rattle.lt_model.specs.declared.cell.ShapeCell.{ShapeCell}
use Rattle.lt_model.specs.declared.cell.CellType.{CellType}
use Rattle.lt_model.specs.declared.cell.CellType.TheVariants as cell
use Rattle.lt_model.specs.Layout.{then_some, within, resized, scalar_extent, pointer_extent, size_of}
use Rattle.lt_tree.specs.Typing.Types.{CType, Void, Num, Pointer, Array, Floating}
use Rattle.lt_tree.specs.Typing.Programs.{Program}
use Rattle.lt_tree.specs.Typing.Shapes.{repeated}
use Rattle.lt_meaning.specs.Expressions.{shape}
use Rattle.lt_tables.specs.Interned.{Keeps, number_among}
use Rattle.lt_tables.specs.declared.bare_types.BareTypes.{BareTypes}

abbrev pub part : CellType → ℕ → List ShapeCell
part ty offset = record { offset = offset; ty = ty } ∷ []

pub plain_step : (count place size : ℕ) (ty : CellType) (cells new whole : List ShapeCell) → place < count → new ≡ cells ++ record { offset = size * place; ty = ty } ∷ []
    → cells ++ repeated (count - place) size (part ty) (size * place) ≡ whole → new ++ repeated (count - (place + 1)) size (part ty) (size * (place + 1)) ≡ whole
plain_step count place size ty cells new whole less put before =
    let n = count - (place + 1) in
    let left : count - place ≡ suc n = omega (arith, less) in
    let offset : size * (place + 1) ≡ size * place + size = omega arith in
    ap (λ l. l ++ repeated n size (part ty) (size * (place + 1))) put ∙ append_assoc cells (part ty (size * place)) (repeated n size (part ty) (size * (place + 1)))
    ∙ ap (λ z. cells ++ (part ty (size * place) ++ repeated n size (part ty) z)) offset ∙ ap (λ k. cells ++ repeated k size (part ty) (size * place)) (sym left) ∙ before

pub plain_end : (count place size : ℕ) (ty : CellType) (cells whole : List ShapeCell) → count ≤ place → cells ++ repeated (count - place) size (part ty) (size * place) ≡ whole → cells ≡ whole
plain_end count place size ty cells whole past before =
    let none : count - place ≡ 0 = omega (arith, past) in
    sym (append-nil cells) ∙ ap (λ k. cells ++ repeated k size (part ty) (size * place)) (sym none) ∙ before

pub plain_start : (count size : ℕ) (ty : CellType) → [] ++ repeated (count - 0) size (part ty) (size * 0) ≡ repeated count size (part ty) 0
plain_start count size ty =
    let all : count - 0 ≡ count = omega arith in
    let none : size * 0 ≡ 0 = omega arith in
    ap (λ k. repeated k size (part ty) (size * 0)) all ∙ ap (repeated count size (part ty)) none

-- ---- sizes

sized : (e : Extent) (k : ℕ) → e.size * k < 2 ^ 64 → unwrap_or (then_some (resized e (within (e.size * k))) (λ x. Some x.size)) 0 ≡ e.size * k
sized e k small = ap (λ b. unwrap_or (then_some (resized e (cond b (Some (e.size * k)) None)) (λ x. Some x.size)) 0) (lt-ltb (e.size * k) (2 ^ 64) small)

pub scalar_narrow : (m : DataModel) (s : Scalar) → (scalar_extent m s).size ≤ 8
scalar_narrow m S.Bool = omega arith
scalar_narrow m S.Char = omega arith
scalar_narrow m S.SChar = omega arith
scalar_narrow m S.UChar = omega arith
scalar_narrow m S.Short = omega arith
scalar_narrow m S.UShort = omega arith
scalar_narrow m S.Int = omega arith
scalar_narrow m S.UInt = omega arith
scalar_narrow m S.LLong = omega arith
scalar_narrow m S.ULLong = omega arith
scalar_narrow model.Ilp32 S.Long = omega arith
scalar_narrow model.Lp64 S.Long = omega arith
scalar_narrow model.Llp64 S.Long = omega arith
scalar_narrow model.Ilp32U S.Long = omega arith
scalar_narrow model.Lp64U S.Long = omega arith
scalar_narrow model.Llp64U S.Long = omega arith
scalar_narrow model.Ilp32 S.ULong = omega arith
scalar_narrow model.Lp64 S.ULong = omega arith
scalar_narrow model.Llp64 S.ULong = omega arith
scalar_narrow model.Ilp32U S.ULong = omega arith
scalar_narrow model.Lp64U S.ULong = omega arith
scalar_narrow model.Llp64U S.ULong = omega arith

pub pointer_narrow : (m : DataModel) → (pointer_extent m).size ≤ 8
pointer_narrow model.Ilp32 = omega arith
pointer_narrow model.Lp64 = omega arith
pointer_narrow model.Llp64 = omega arith
pointer_narrow model.Ilp32U = omega arith
pointer_narrow model.Lp64U = omega arith
pointer_narrow model.Llp64U = omega arith

whole_size : (e : Extent) (k size count : ℕ) → size ≡ e.size → e.size ≤ 8 → count < 2 ^ 32 → k ≡ count * 1 → unwrap_or (then_some (resized e (within (e.size * k))) (λ x. Some x.size)) 0 ≡ size * count
whole_size e k size count is narrow less times =
    let one : k ≡ count = omega (arith, times) in
    let product : e.size * count ≤ 8 * count = mul-le-mul_right count narrow in
    let small : e.size * count < 2 ^ 64 = omega (arith, product, less) in
    ap (λ n. unwrap_or (then_some (resized e (within (e.size * n))) (λ x. Some x.size)) 0) one ∙ sized e count small ∙ ap (λ n. n * count) (sym is)

same_shape : (count size unit all : ℕ) (ty : CellType) → unit ≡ size → all ≡ size * count → record { cells = repeated count size (part ty) 0; size = size * count } ≡ (let it : Shape = record { cells = repeated count unit (part ty) 0; size = all } in it)
same_shape count size unit all ty a b =
    ap (λ (n : ℕ). (let it : Shape = record { cells = repeated count n (part ty) 0; size = size * count } in it)) (sym a)
    ∙ ap (λ (n : ℕ). (let it : Shape = record { cells = repeated count unit (part ty) 0; size = n } in it)) (sym b)

module _ (program : Program) (count size : ℕ) (less : count < 2 ^ 32) where
  unit_size : (e : Extent) → size ≡ e.size → e.size ≤ 8 → unwrap_or (then_some (resized e (within (e.size * 1))) (λ x. Some x.size)) 0 ≡ size
  unit_size e is narrow = whole_size e 1 size 1 is narrow (omega arith) refl ∙ (let one : size * 1 ≡ size = omega arith in one)

  pub num_law : (s : Scalar) → size ≡ (scalar_extent program.model s).size → record { cells = repeated count size (part (cell.Num s)) 0; size = size * count } ≡ shape program (Array (Num s) count)
  num_law s is =
      same_shape count size (size_of program.model program.structs (Num s)) (size_of program.model program.structs (Array (Num s) count)) (cell.Num s)
      (unit_size (scalar_extent program.model s) is (scalar_narrow program.model s))
      (whole_size (scalar_extent program.model s) (count * 1) size count is (scalar_narrow program.model s) less refl)

  pub pointer_law : (t : CType) (number : ℕ) → size ≡ (pointer_extent program.model).size → number ≡ number_among program.types (Pointer t)
      → record { cells = repeated count size (part (cell.Pointer number)) 0; size = size * count } ≡ shape program (Array (Pointer t) count)
  pointer_law t number is named =
      ap (λ (n : ℕ). (let it : Shape = record { cells = repeated count size (part (cell.Pointer n)) 0; size = size * count } in it)) named
      ∙ same_shape count size (size_of program.model program.structs (Pointer t)) (size_of program.model program.structs (Array (Pointer t) count)) (cell.Pointer (number_among program.types (Pointer t)))
      (unit_size (pointer_extent program.model) is (pointer_narrow program.model))
      (whole_size (pointer_extent program.model) (count * 1) size count is (pointer_narrow program.model) less refl)

  pub pointers_law : (n : ℕ) (t : CType) (number : ℕ) → (n ≡ 0 → ⊥) → size ≡ (pointer_extent program.model).size → number ≡ number_among program.types (pointers n t)
      → record { cells = repeated count size (part (cell.Pointer number)) 0; size = size * count } ≡ shape program (Array (pointers n t) count)
  pointers_law zero t number some is named = absurd (some refl)
  pointers_law (suc n) t number some is named = pointer_law (pointers n t) number is named

-- what holds of a result where it is one
pub ok_map : {A E : Type 0} (P Q : A → Type 0) (r : Result A E) → ((a : A) → P a → Q a) → IfOk r P → IfOk r Q
ok_map P Q (Ok a) f h = f a h
ok_map P Q (Err e) f h = tt

no_cells : (n size offset : ℕ) → repeated n size (λ offset. []) offset ≡ []
no_cells zero size offset = refl
no_cells (suc n) size offset = no_cells n size (offset + size)

pub void_law : (program : Program) (count : ℕ) → (let it : Shape = record { cells = []; size = 0 } in it) ≡ shape program (Array Void count)
void_law program count = ap (λ (l : List ShapeCell). (let it : Shape = record { cells = l; size = 0 } in it)) (sym (no_cells count 0 0))

pub floating_law : (program : Program) (count : ℕ) → (let it : Shape = record { cells = []; size = 0 } in it) ≡ shape program (Array Floating count)
floating_law program count = ap (λ (l : List ShapeCell). (let it : Shape = record { cells = l; size = 0 } in it)) (sym (no_cells count 0 0))

pub keeps_through : (a b c : BareTypes) → Keeps a b → Keeps b c → Keeps a c
keeps_through a b c p q = record { program = q.program ∙ p.program; ids = λ t id h. q.ids t id (p.ids t id h) }

pub keeps_same : (a : BareTypes) → Keeps a a
keeps_same a = record { program = refl; ids = λ t id h. h }
