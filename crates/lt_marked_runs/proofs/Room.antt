-- A run has room for as many more cells where the program gets another list of types.
use Rattle.std.proofs.Common.{◌≡◌, ◌≤◌, ℕ, zero, suc, ◌+◌, List, [], ◌∷◌, map, length, take, true, refl, sym, ap, ◌∙◌, subst}
use Rattle.std.proofs.lemmas.List.{length-map}
use Rattle.lt_model.specs.declared.cell.CellType.TheVariants as cell
use Rattle.lt_model.specs.declared.cell.ShapeCell.{ShapeCell}
use Rattle.lt_model.specs.declared.scalar.Scalar.TheVariants as S
use Rattle.lt_model.specs.declared.input.Input.{Input}
use Rattle.lt_model.specs.Memory.{most_cells}
use Rattle.lt_tree.specs.Typing.Entities.{Function}
use Rattle.lt_tree.specs.Typing.Programs.{Program}
use Rattle.lt_ir.specs.Running.{Over}
use Rattle.lt_meaning.specs.Runs.{run, initials}
use Rattle.lt_mark_laws.proofs.Itself.{themselves}
use Rattle.lt_object_laws.specs.Further.{cells_in}
use Rattle.lt_object_laws.specs.Laws.{bytes_from, with_spare, HasRoomFor}
use Rattle.lt_type_laws.specs.Renumbered.{block_with, shape_cell_with, input_with, over_with}
use Rattle.lt_marked_runs.proofs.Sizes.{shape_long, AreAsLarge, cells_same, first_as_large, as_large}

-- ---- a spare block has no pointers

bytes_same : (r : ℕ → ℕ) (k offset : ℕ) → map (shape_cell_with r) (bytes_from k offset) ≡ bytes_from k offset
bytes_same r zero offset = refl
bytes_same r (suc k) offset = ap (λ (cells : List ShapeCell). record { offset = offset; ty = cell.Num S.UChar } ∷ cells) (bytes_same r k (offset + 1))

spare_same : (r : ℕ → ℕ) (k : ℕ) (input : Input) → input_with r (with_spare k input) ≡ with_spare k (input_with r input)
spare_same r k input = ap (λ cells. record (input_with r input) { blocks = record { name = []; shape = record { cells = cells; size = k } } ∷ (input_with r input).blocks }) (bytes_same r k 0)

-- ---- room

module _ (r : ℕ → ℕ) (p q : Program) (f : Function) (ticks : ℕ) (same : (input : Input) → run (record p { types = q.types }) f (input_with r input) ticks ≡ over_with r (run p f input ticks)) (input : Input) where
  abbrev p' : Program
  p' = record p { types = q.types }

  objects_as_large : AreAsLarge (initials p p.objects) (initials p' p'.objects)
  objects_as_large = as_large p p' (shape_long p.model p.structs p.types q.types) p.objects p.objects ((themselves (λ n. true)).0 p).objects

  first_same : (n : ℕ) → cells_in (take n (initials p p.objects)) ≡ cells_in (take n (initials p' p'.objects))
  first_same n = cells_same (take n (initials p p.objects)) (take n (initials p' p'.objects)) (first_as_large n (initials p p.objects) (initials p' p'.objects) objects_as_large)

  all_same : cells_in (initials p p.objects) ≡ cells_in (initials p' p'.objects)
  all_same = cells_same (initials p p.objects) (initials p' p'.objects) objects_as_large

  as_long : (it : Input) → length (run p' f (input_with r it) ticks).at.memory ≡ length (run p f it ticks).at.memory
  as_long it = ap (λ (it : Over). length it.at.memory) (same it) ∙ length-map (run p f it ticks).at.memory (block_with r)

  one_longer : (k : ℕ) → length (run p f (with_spare k input) ticks).at.memory ≡ suc (length (run p f input ticks).at.memory)
      → length (run p' f (with_spare k (input_with r input)) ticks).at.memory ≡ suc (length (run p' f (input_with r input) ticks).at.memory)
  one_longer k longer =
      ap (λ it. length (run p' f it ticks).at.memory) (sym (spare_same r k input)) ∙ as_long (with_spare k input) ∙ longer
      ∙ ap suc (sym (as_long input))

  pub room_kept : (k : ℕ) → HasRoomFor k p f input ticks → HasRoomFor k p' f (input_with r input) ticks
  room_kept zero room = tt
  room_kept (suc k) room = record {
    first = λ n fits. subst (λ many. many + suc k ≤ most_cells) (first_same n) (room.first n (subst (λ many. many ≤ most_cells) (sym (first_same n)) fits));
    throughout = λ fits. one_longer (suc k) (room.throughout (subst (λ many. many ≤ most_cells) (sym all_same) fits));
  }
