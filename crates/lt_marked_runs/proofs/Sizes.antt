-- How many cells the objects have that are there from the start depends on their types alone.
use Rattle.std.proofs.Common.{◌≡◌, ℕ, zero, suc, ◌+◌, List, [], ◌∷◌, ◌++◌, length, take, Bool, true, false, refl, sym, ap, ◌∙◌, subst}
use Rattle.std.proofs.lemmas.List.{length-append}
use Rattle.std.specs.Prelude.{if◌then◌else◌}
use Rattle.std.specs.List.{flat_map}
use Rattle.lt_model.specs.declared.scalar.DataModel.{DataModel}
use Rattle.lt_model.specs.declared.cell.ShapeCell.{ShapeCell}
use Rattle.lt_tree.specs.Typing.Types.{CType, Void, Num, Pointer, Array, Struct, Function, Floating, Qualified}
use Rattle.lt_tree.specs.Typing.Extents.{Structs, Placed, placed_members, size_of}
use Rattle.lt_tree.specs.Typing.Shapes.{repeated, cells_at, struct_cells_at, shape_of}
use Rattle.lt_tree.specs.Typing.Entities.{Object, is_static}
use Rattle.lt_tree.specs.Typing.Programs.{Program}
use Rattle.lt_ir.specs.declared.code.Static.{Static}
use Rattle.lt_meaning.specs.Expressions.{shape}
use Rattle.lt_meaning.specs.Runs.{initial, initials}
use Rattle.lt_mark_laws.specs.Added.{AreSameObjects}
use Rattle.lt_object_laws.specs.Further.{further_statics, cells_in, further_cells_in}

-- ---- objects of a type, whatever the numbers of types are

both_long : (a b c d : List ShapeCell) → length a ≡ length c → length b ≡ length d → length (a ++ b) ≡ length (c ++ d)
both_long a b c d h g = length-append a b ∙ ap (λ n. n + length b) h ∙ ap (λ n. length c + n) g ∙ sym (length-append c d)

repeated_long : (times size : ℕ) (part other : ℕ → List ShapeCell) → ((offset : ℕ) → length (part offset) ≡ length (other offset)) → (offset : ℕ) → length (repeated times size part offset) ≡ length (repeated times size other offset)
repeated_long zero size part other h offset = refl
repeated_long (suc times) size part other h offset =
    both_long (part offset) (repeated times size part (offset + size)) (other offset) (repeated times size other (offset + size)) (h offset) (repeated_long times size part other h (offset + size))

module _ (m : DataModel) (structs : Structs) (types others : List CType) where
  cells_long : (known other : ℕ → ℕ → List ShapeCell) → ((k offset : ℕ) → length (known k offset) ≡ length (other k offset)) → (t : CType) (offset : ℕ)
      → length (cells_at m structs types known t offset) ≡ length (cells_at m structs others other t offset)
  cells_long known other h (Num s) offset = refl
  cells_long known other h (Pointer t) offset = refl
  cells_long known other h (Array t n) offset = repeated_long n (size_of m structs t) (cells_at m structs types known t) (cells_at m structs others other t) (cells_long known other h t) offset
  cells_long known other h (Struct k) offset = h k offset
  cells_long known other h (Qualified q t) offset = cells_long known other h t offset
  cells_long known other h Void offset = refl
  cells_long known other h (Function t us dots) offset = refl
  cells_long known other h Floating offset = refl

  gathered_long : (known other : ℕ → ℕ → List ShapeCell) → ((k offset : ℕ) → length (known k offset) ≡ length (other k offset)) → (offset : ℕ) (placed : List Placed)
      → length (flat_map (λ (it : Placed). cells_at m structs types known it.type (offset + it.offset)) placed) ≡ length (flat_map (λ (it : Placed). cells_at m structs others other it.type (offset + it.offset)) placed)
  gathered_long known other h offset [] = refl
  gathered_long known other h offset (x ∷ xs) =
      both_long (cells_at m structs types known x.type (offset + x.offset)) (flat_map (λ (it : Placed). cells_at m structs types known it.type (offset + it.offset)) xs)
      (cells_at m structs others other x.type (offset + x.offset)) (flat_map (λ (it : Placed). cells_at m structs others other it.type (offset + it.offset)) xs)
      (cells_long known other h x.type (offset + x.offset)) (gathered_long known other h offset xs)

  struct_long : (depth k offset : ℕ) → length (struct_cells_at m structs types depth k offset) ≡ length (struct_cells_at m structs others depth k offset)
  unfolding struct_cells_at
  struct_long zero k offset = refl
  struct_long (suc depth) k offset = gathered_long (struct_cells_at m structs types depth) (struct_cells_at m structs others depth) (struct_long depth) offset (placed_members m structs k)

  pub shape_long : (t : CType) → length (shape_of m structs types t).cells ≡ length (shape_of m structs others t).cells
  shape_long t = cells_long (struct_cells_at m structs types (length structs)) (struct_cells_at m structs others (length structs)) (struct_long (length structs)) t 0

-- ---- the objects that are there from the start

-- one by one they have as many cells
abbrev pub AreAsLarge : List Static → List Static → Type 0
AreAsLarge [] [] = Unit {0}
AreAsLarge (x ∷ xs) (y ∷ ys) = (length x.block.shape.cells ≡ length y.block.shape.cells) × AreAsLarge xs ys
AreAsLarge xs ys = ⊥

pub cells_same : (xs ys : List Static) → AreAsLarge xs ys → cells_in xs ≡ cells_in ys
cells_same [] [] h = refl
cells_same (x ∷ xs) (y ∷ ys) h = ap (λ n. n + cells_in xs) h.0 ∙ ap (λ n. length y.block.shape.cells + n) (cells_same xs ys h.1)
cells_same [] (y ∷ ys) h = absurd h
cells_same (x ∷ xs) [] h = absurd h

-- so have the first so many
pub first_as_large : (n : ℕ) (xs ys : List Static) → AreAsLarge xs ys → AreAsLarge (take n xs) (take n ys)
first_as_large zero xs ys h = tt
first_as_large (suc n) [] [] h = tt
first_as_large (suc n) (x ∷ xs) (y ∷ ys) h = (h.0, first_as_large n xs ys h.1)
first_as_large (suc n) [] (y ∷ ys) h = absurd h
first_as_large (suc n) (x ∷ xs) [] h = absurd h

pub further_cells_same : (further : List Bool) (xs ys : List Static) → AreAsLarge xs ys → further_cells_in further xs ≡ further_cells_in further ys
further_cells_same [] xs ys h = refl
further_cells_same (b ∷ further) [] [] h = refl
further_cells_same (true ∷ further) (x ∷ xs) (y ∷ ys) h = ap (λ n. n + further_cells_in further xs) h.0 ∙ ap (λ n. length y.block.shape.cells + n) (further_cells_same further xs ys h.1)
further_cells_same (false ∷ further) (x ∷ xs) (y ∷ ys) h = further_cells_same further xs ys h.1
further_cells_same (b ∷ further) [] (y ∷ ys) h = absurd h
further_cells_same (b ∷ further) (x ∷ xs) [] h = absurd h

pub statics_same : (further : List Bool) (xs ys : List Object) → AreSameObjects xs ys → further_statics further xs ≡ further_statics further ys
statics_same [] xs ys h = refl
statics_same (b ∷ further) [] [] h = refl
statics_same (b ∷ further) (x ∷ xs) (y ∷ ys) h =
    ap (λ l. if is_static x.life then b ∷ l else l) (statics_same further xs ys h.1) ∙ ap (λ (o : Object). if is_static o.life then b ∷ further_statics further ys else further_statics further ys) h.0
statics_same (b ∷ further) [] (y ∷ ys) h = absurd h
statics_same (b ∷ further) (x ∷ xs) [] h = absurd h

module _ (P Q : Program) (alike : (t : CType) → length (shape P t).cells ≡ length (shape Q t).cells) where
  pub as_large : (xs ys : List Object) → AreSameObjects xs ys → AreAsLarge (initials P xs) (initials Q ys)
  as_large [] [] h = tt
  as_large (x ∷ xs) (y ∷ ys) h =
      subst (λ (o : Object). AreAsLarge (initials P (x ∷ xs)) (if is_static o.life then initial Q y ∷ initials Q ys else initials Q ys)) h.0
      (by (is_static x.life) (alike x.type ∙ ap (λ (o : Object). length (shape Q o.type).cells) h.0) (as_large xs ys h.1))
    where
      by : (b : Bool) → length (shape P x.type).cells ≡ length (shape Q y.type).cells → AreAsLarge (initials P xs) (initials Q ys)
          → AreAsLarge (if b then initial P x ∷ initials P xs else initials P xs) (if b then initial Q y ∷ initials Q ys else initials Q ys)
      by true e g = (e, g)
      by false e g = g
  as_large [] (y ∷ ys) h = absurd h
  as_large (x ∷ xs) [] h = absurd h
