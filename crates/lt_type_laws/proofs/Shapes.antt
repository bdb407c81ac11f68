-- Where types have other numbers, objects have the same cells.
use Rattle.std.proofs.Common.{◌≡◌, ℕ, zero, suc, ◌+◌, List, [], ◌∷◌, ◌++◌, map, length, Option, Some, None, true, refl, sym, ap, ◌∙◌, subst}
use Rattle.std.proofs.lemmas.Bool.{false≢true}
use Rattle.std.proofs.lemmas.List.{map-append}
use Rattle.std.specs.Prelude.{unwrap_or}
use Rattle.std.specs.List.{AllByRecursion, flat_map}
use Rattle.lt_model.specs.Layout.{then_some, member_offset, with_member, no_members}
use Rattle.lt_model.specs.declared.scalar.DataModel.{DataModel}
use Rattle.lt_model.specs.declared.sizes.Extent.{Extent}
use Rattle.lt_model.specs.declared.cell.CellType.TheVariants as cell
use Rattle.lt_model.specs.declared.cell.Shape.{Shape}
use Rattle.lt_model.specs.declared.cell.ShapeCell.{ShapeCell}
use Rattle.lt_tree.specs.Typing.Types.{CType, Void, Num, Pointer, Array, Struct, Function, Floating, Qualified, bare, is_struct}
use Rattle.lt_tree.specs.Typing.Extents.{Structs, StructType, Member, Placed, members_in, extent_of, placed_at, placed_behind, placed_members, size_of}
use Rattle.lt_tree.specs.Typing.Shapes.{place_among, pointer_type, repeated, cells_at, struct_cells_at, shape_of}
use Rattle.lt_tree.specs.Typing.Entities.{Object}
use Rattle.lt_tree.specs.Typing.Programs.{made_of, types_of_struct}
use Rattle.lt_type_laws.specs.Renumbered.{shape_cell_with, shape_with}
use Rattle.lt_type_laws.proofs.Memory.{Comparison, MeetAlike, numbers, ShapeFits}
use Rattle.lt_type_laws.proofs.Lists.{all_first, all_second, all_both}

-- A type has the other number in the second list. Cells of memory may have it, and accesses by it meet alike.
pub record IsNumbered (seen : Comparison) (types others : List CType) (t : CType) : Type 0 where
  pub there : place_among 0 (bare t) others ≡ seen.numbers (place_among 0 (bare t) types)
  pub held : seen.held (place_among 0 (bare t) types) ≡ true
  pub meets : MeetAlike seen (pointer_type types t) (pointer_type others t)

module _ (seen : Comparison) (types others : List CType) (Listed : CType → Type 0) (numbered : (t : CType) → Listed (bare t) → IsNumbered seen types others t) where
  -- all of these types are such
  abbrev pub AreListed : List CType → Type 0
  AreListed them = AllByRecursion Listed them

  -- ---- the cells of objects

  -- these are the same cells, whose types have the other numbers
  abbrev CellsAlike : List ShapeCell → List ShapeCell → Type 0
  CellsAlike cells them = (them ≡ map (shape_cell_with seen.numbers) cells) × ShapeFits seen cells

  both_alike : (a b c d : List ShapeCell) → CellsAlike a c → CellsAlike b d → CellsAlike (a ++ b) (c ++ d)
  both_alike a b c d h g = (
    ap (λ l. l ++ d) h.0 ∙ ap (λ l. map (shape_cell_with seen.numbers) a ++ l) g.0 ∙ sym (map-append (shape_cell_with seen.numbers) a b),
    (all_both _ a b h.1.0 g.1.0, all_both _ a b h.1.1 g.1.1),
  )

  repeated_alike : (times size : ℕ) (part other : ℕ → List ShapeCell) → ((offset : ℕ) → CellsAlike (part offset) (other offset)) → (offset : ℕ) → CellsAlike (repeated times size part offset) (repeated times size other offset)
  repeated_alike zero size part other h offset = (refl, (tt, tt))
  repeated_alike (suc times) size part other h offset =
      both_alike (part offset) (repeated times size part (offset + size)) (other offset) (repeated times size other (offset + size)) (h offset) (repeated_alike times size part other h (offset + size))

  pointer_alike : (t : CType) (offset : ℕ) → Listed (bare t) → CellsAlike (record { offset = offset; ty = pointer_type types t } ∷ []) (record { offset = offset; ty = pointer_type others t } ∷ [])
  pointer_alike t offset h =
      let it = numbered t h in (
        ap (λ n. record { offset = offset; ty = cell.Pointer n } ∷ []) it.there,
        ((it.held, tt), (subst (λ n. MeetAlike seen (pointer_type types t) (cell.Pointer n)) it.there it.meets, tt)),
      )

  module _ (m : DataModel) (structs : Structs) where
    cells_alike : (known other : ℕ → ℕ → List ShapeCell) → ((k offset : ℕ) → CellsAlike (known k offset) (other k offset)) → (t : CType) → AreListed (made_of t) → (offset : ℕ)
        → CellsAlike (cells_at m structs types known t offset) (cells_at m structs others other t offset)
    cells_alike known other f (Num s) h offset = (refl, ((refl, tt), (numbers, tt)))
    cells_alike known other f (Pointer t) h offset = pointer_alike (Pointer t) offset (all_second Listed (made_of t) (Pointer (bare t) ∷ []) h).0
    cells_alike known other f (Array t n) h offset =
        repeated_alike n (size_of m structs t) (cells_at m structs types known t) (cells_at m structs others other t)
        (cells_alike known other f t (all_first Listed (made_of t) (Array (bare t) n ∷ []) h)) offset
    cells_alike known other f (Struct k) h offset = f k offset
    cells_alike known other f (Qualified q t) h offset = cells_alike known other f t h offset
    cells_alike known other f Void h offset = (refl, (tt, tt))
    cells_alike known other f (Function t us dots) h offset = (refl, (tt, tt))
    cells_alike known other f Floating h offset = (refl, (tt, tt))

    -- ---- members

    listed_members : (members : List Member) → AreListed (flat_map (λ (it : Member). made_of it.type) members) → AllByRecursion (λ (it : Member). AreListed (made_of it.type)) members
    listed_members [] h = tt
    listed_members (x ∷ xs) h = (
      all_first Listed (made_of x.type) (flat_map (λ (it : Member). made_of it.type) xs) h,
      listed_members xs (all_second Listed (made_of x.type) (flat_map (λ (it : Member). made_of it.type) xs) h),
    )

    members_of_one : (members : Option (List Member)) → AreListed (types_of_struct (record { members = members })) → AllByRecursion (λ (it : Member). AreListed (made_of it.type)) (unwrap_or members [])
    members_of_one None h = tt
    members_of_one (Some them) h = listed_members them h

    members_made : (list : Structs) → AllByRecursion (λ (it : StructType). AreListed (types_of_struct it)) list → (k : ℕ) → AllByRecursion (λ (it : Member). AreListed (made_of it.type)) (members_in list k)
    members_made [] h k = tt
    members_made (x ∷ xs) h zero = members_of_one x.members h.0
    members_made (x ∷ xs) h (suc k) = members_made xs h.1 k

    placed_by : (of : CType → Option Extent) (x : Member) (xs : List Member) (before : Extent) → AreListed (made_of x.type) → ((after : Extent) → AllByRecursion (λ (it : Placed). AreListed (made_of it.type)) (placed_behind of after xs))
        → (extent : Option Extent)
        → AllByRecursion (λ (it : Placed). AreListed (made_of it.type)) (unwrap_or (then_some extent (λ e. then_some (member_offset before e) (λ offset. then_some (with_member before e) (λ after. Some (placed_at x offset ∷ placed_behind of after xs))))) [])
    placed_by of x xs before h f None = tt
    placed_by of x xs before h f (Some e) = at (member_offset before e)
      where
        ended : (offset : ℕ) (after : Option Extent) → AllByRecursion (λ (it : Placed). AreListed (made_of it.type)) (unwrap_or (then_some after (λ after. Some (placed_at x offset ∷ placed_behind of after xs))) [])
        ended offset None = tt
        ended offset (Some after) = (h, f after)

        at : (offset : Option ℕ) → AllByRecursion (λ (it : Placed). AreListed (made_of it.type)) (unwrap_or (then_some offset (λ offset. then_some (with_member before e) (λ after. Some (placed_at x offset ∷ placed_behind of after xs)))) [])
        at None = tt
        at (Some offset) = ended offset (with_member before e)

    placed_made : (of : CType → Option Extent) (members : List Member) → AllByRecursion (λ (it : Member). AreListed (made_of it.type)) members → (before : Extent) → AllByRecursion (λ (it : Placed). AreListed (made_of it.type)) (placed_behind of before members)
    placed_made of [] h before = tt
    placed_made of (x ∷ xs) h before = placed_by of x xs before h.0 (λ after. placed_made of xs h.1 after) (of x.type)

    gathered_alike : (known other : ℕ → ℕ → List ShapeCell) → ((k offset : ℕ) → CellsAlike (known k offset) (other k offset)) → (offset : ℕ) (placed : List Placed) → AllByRecursion (λ (it : Placed). AreListed (made_of it.type)) placed
        → CellsAlike (flat_map (λ (it : Placed). cells_at m structs types known it.type (offset + it.offset)) placed) (flat_map (λ (it : Placed). cells_at m structs others other it.type (offset + it.offset)) placed)
    gathered_alike known other f offset [] h = (refl, (tt, tt))
    gathered_alike known other f offset (x ∷ xs) h =
        both_alike (cells_at m structs types known x.type (offset + x.offset)) (flat_map (λ (it : Placed). cells_at m structs types known it.type (offset + it.offset)) xs)
        (cells_at m structs others other x.type (offset + x.offset)) (flat_map (λ (it : Placed). cells_at m structs others other it.type (offset + it.offset)) xs)
        (cells_alike known other f x.type h.0 (offset + x.offset)) (gathered_alike known other f offset xs h.1)

    -- ---- structs and objects

    module _ (members : AllByRecursion (λ (it : StructType). AreListed (types_of_struct it)) structs) where
      struct_alike : (depth k offset : ℕ) → CellsAlike (struct_cells_at m structs types depth k offset) (struct_cells_at m structs others depth k offset)
      unfolding struct_cells_at
      struct_alike zero k offset = (refl, (tt, tt))
      struct_alike (suc depth) k offset =
          gathered_alike (struct_cells_at m structs types depth) (struct_cells_at m structs others depth) (struct_alike depth) offset (placed_members m structs k)
          (placed_made (extent_of m structs) (members_in structs k) (members_made structs members k) no_members)

      -- an object of the type has the same cells
      abbrev ShapeAlike : CType → Type 0
      ShapeAlike t = (shape_of m structs others t ≡ shape_with seen.numbers (shape_of m structs types t)) × ShapeFits seen (shape_of m structs types t).cells

      made_alike : (t : CType) → AreListed (made_of t) → ShapeAlike t
      made_alike t h =
          let it = cells_alike (struct_cells_at m structs types (length structs)) (struct_cells_at m structs others (length structs)) (struct_alike (length structs)) t h 0 in
          (ap (λ cells. record { cells = cells; size = size_of m structs t }) it.0, it.1)

      pub structs_alike : (t : CType) → is_struct t ≡ true → ShapeAlike t
      structs_alike (Struct k) h =
          let it = struct_alike (length structs) k 0 in
          (ap (λ cells. record { cells = cells; size = size_of m structs (Struct k) }) it.0, it.1)
      structs_alike (Qualified q t) h =
          let it = structs_alike t h in
          (ap (λ (them : Shape). record { cells = them.cells; size = size_of m structs (Qualified q t) }) it.0, it.1)
      structs_alike Void h = absurd (false≢true h)
      structs_alike (Num s) h = absurd (false≢true h)
      structs_alike (Pointer t) h = absurd (false≢true h)
      structs_alike (Array t n) h = absurd (false≢true h)
      structs_alike (Function t us dots) h = absurd (false≢true h)
      structs_alike Floating h = absurd (false≢true h)

      pub objects_alike : (objects : List Object) → AllByRecursion (λ (object : Object). AreListed (made_of object.type)) objects → AllByRecursion (λ (object : Object). ShapeAlike object.type) objects
      objects_alike [] h = tt
      objects_alike (x ∷ xs) h = (made_alike x.type h.0, objects_alike xs h.1)
