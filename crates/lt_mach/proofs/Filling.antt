-- Cells of an object that is there from the start, one after the other.
use Rattle.std.proofs.Common.{◌≡◌, ℕ, zero, suc, ◌+◌, ◌<◌, List, [], ◌∷◌, length, drop, get_or, true, Option, Some, None, Result, Err, refl, ap, ap₂, sym, ◌∙◌, add-one}
use Rattle.std.specs.Prelude.{slice_get}
use Rattle.std.proofs.Math.Seq.{drop-cons, drop-nil}
use Rattle.std.proofs.lemmas.Option.{slice_get_within, get_or_from_slice_get}
use Rattle.lt_model.specs.declared.cell.Content.{Content}
use Rattle.lt_model.specs.declared.cell.CellType.{CellType}
use Rattle.lt_model.specs.declared.cell.Shape.{Shape}
use Rattle.lt_model.specs.declared.run.End.TheVariants.{Cells}
use Rattle.lt_model.specs.Memory.{Memory, create_shaped}
use Rattle.lt_model.specs.declared.cell.ShapeCell.{ShapeCell}
use Rattle.lt_model.specs.declared.scalar.DataModel.{DataModel}
use Rattle.lt_model.specs.State.{Gives, Ends}
use Rattle.lt_ir.specs.Running.{At, Answer, Bound, Step, created, ◌>>◌}
use Rattle.lt_ir.specs.Starting.{fill, put}
use Rattle.lt_acts.specs.Ends.{end_of}
use Rattle.lt_acts.specs.Placing.{standing, Came}
use Rattle.lt_acts.specs.declared.flow.Stop.{Stop}
use Rattle.lt_acts.specs.declared.flow.Stop.TheVariants.{Over, NoMemory}
use Rattle.lt_mach.specs.Parameters.{Stores, put_at}
use Rattle.lt_mach.proofs.Passing.{first_ends}

-- the same of equal values
pub put_so : (model model1 : DataModel) (block offset : ℕ) (ty : CellType) (c : Content) (m m1 : Memory) (result : Result (Unit {0}) Stop) → model ≡ model1 → Stores (put_at model ty (Some (record { block = block; offset = offset })) c) m result m1 → Stores (put model1 block offset ty c) m result m1
put_so model model1 block offset ty c m m1 result e h = rw (← e) h

pub fill_so : (model model1 : DataModel) (block : ℕ) (cells cells1 : List ShapeCell) (cs cs1 : List Content) (m m1 : Memory) (result : Result (Unit {0}) Stop) → model ≡ model1 → cells ≡ cells1 → cs ≡ cs1 → Stores (fill model block cells cs) m result m1 → Stores (fill model1 block cells1 cs1) m result m1
fill_so model model1 block cells cells1 cs cs1 m m1 result e f g h = rw (← e, ← f, ← g) h

-- an object is made
pub made : (shape : Shape) (scope : List Bound) (m m1 : Memory) (block : ℕ) (at : At) → block ≡ length m → create_shaped m shape true true ≡ Some m1 → created shape true (standing scope m at) ≡ Gives block (standing scope m1 at)
made shape scope m m1 block at e h =
    ap (λ (o : Option Memory). elim o as (λ _. Answer ℕ) [ None ↦ Ends Cells (standing scope m at) | Some memory ↦ Gives (length m) (standing scope memory at) ]) h
    ∙ ap (λ n. Gives n (standing scope m1 at)) (sym e)

rest_of : (cs : List Content) (k : ℕ) (c : Content) → slice_get cs k ≡ Some c → drop k cs ≡ c ∷ drop (suc k) cs
rest_of cs k c e = drop-cons cs k c (slice_get_within cs k c e) ∙ ap (λ x. x ∷ drop (suc k) cs) (get_or_from_slice_get cs k c c e)

-- one cell more
pub fill_cell : (model : DataModel) (block : ℕ) (cells : List ShapeCell) (cs : List Content) (k : ℕ) (d : ShapeCell) (c : Content) (at : At) → k < length cells → slice_get cs k ≡ Some c
    → fill model block (drop k cells) (drop k cs) at ≡ (put model block (get_or cells k d).offset (get_or cells k d).ty c >> fill model block (drop (k + 1) cells) (drop (k + 1) cs)) at
fill_cell model block cells cs k d c at lt e =
    ap₂ (λ l r. fill model block l r at) (drop-cons cells k d lt) (rest_of cs k c e)
    ∙ ap (λ j. (put model block (get_or cells k d).offset (get_or cells k d).ty c >> fill model block (drop j cells) (drop j cs)) at) (sym (add-one k))

-- no content is left
none_left : (model : DataModel) (block : ℕ) (cells : List ShapeCell) (at : At) → fill model block cells [] at ≡ Gives tt at
none_left model block [] at = refl
none_left model block (cell ∷ cells) at = refl

none_at : (cs : List Content) (k : ℕ) → slice_get cs k ≡ None → drop k cs ≡ []
none_at [] k e = drop-nil k
none_at (c ∷ cs) zero e = absurd (cc)
none_at (c ∷ cs) (suc k) e = none_at cs k e

pub fill_none : (model : DataModel) (block : ℕ) (cells : List ShapeCell) (cs : List Content) (k : ℕ) (at : At) → slice_get cs k ≡ None → fill model block cells (drop k cs) at ≡ Gives tt at
fill_none model block cells cs k at e = ap (λ l. fill model block cells l at) (none_at cs k e) ∙ none_left model block cells at

-- the run is over in the first of two steps
pub first_over : (part rest : Step (Unit {0})) (at at1 : At) (stop : Stop) → Came (Err stop) at1 (part at) → Came (Err stop) at1 ((part >> rest) at)
first_over part rest at at1 (Over why) h = first_ends part (λ _. rest) at at1 (end_of why) h
first_over part rest at at1 NoMemory h = tt
