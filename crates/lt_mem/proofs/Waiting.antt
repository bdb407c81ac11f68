-- A struct copied by way of the places where its contents wait: what waits for a cell is the last that goes there.
use Rattle.std.proofs.Common.{arith, ◌≡◌, ◌≢◌, refl, sym, ◌∙◌, ap, subst, ℕ, zero, suc, ◌+◌, ◌<◌, ◌≤◌, inl, inr, List, [], ◌∷◌, length, get_or, set, drop, Option, Some, None, Result, Ok, Err}
use Rattle.std.specs.Prelude.{MatchResult}
use Rattle.std.specs.List.{position_or_len}
use Rattle.std.proofs.lemmas.Bool.Decides.{eqb_tells}
use Rattle.std.proofs.lemmas.List.{length-set, get_or-set_same, get_or-set_other, at_drop_more}
use Rattle.lt_model.specs.declared.scalar.DataModel.{DataModel}
use Rattle.lt_model.specs.declared.operator.Ub.{Ub}
use Rattle.lt_model.specs.declared.operator.Ub.TheVariants as U
use Rattle.lt_model.specs.declared.cell.CellType.{CellType}
use Rattle.lt_model.specs.declared.cell.Content.{Content}
use Rattle.lt_model.specs.declared.cell.Content.TheVariants as content
use Rattle.lt_model.specs.declared.cell.ShapeCell.{ShapeCell}
use Rattle.lt_model.specs.declared.cell.StoredCell.{StoredCell}
use Rattle.lt_model.specs.Memory.{then_result, held_at, with_held, gathered, scattered}
use Rattle.lt_mem.specs.Cells.{meets, place_of, cells_with}
use Rattle.lt_mem.specs.Steps.{placed, waiting, delivered, delivered_at}
use Rattle.lt_mem.proofs.Contents.{length-cells_with}
use Rattle.lt_mem.proofs.Meeting.{held_none, held_some, with_none, with_some, within_some}

-- ---- one cell written, then another
module _ (model : DataModel) where
  pub again : (cells : List StoredCell) (place : ℕ) (a b : Content) → cells_with model (cells_with model cells place a) place b ≡ cells_with model cells place b
  again [] place a b = refl
  again (cell ∷ cells) zero a b = refl
  again (cell ∷ cells) (suc place) a b = ap (λ cs. cell ∷ cs) (again cells place a b)

  pub apart : (cells : List StoredCell) (i j : ℕ) (a b : Content) → i ≢ j → cells_with model (cells_with model cells i a) j b ≡ cells_with model (cells_with model cells j b) i a
  apart [] i j a b differ = refl
  apart (cell ∷ cells) zero zero a b differ = absurd (differ refl)
  apart (cell ∷ cells) zero (suc j) a b differ = refl
  apart (cell ∷ cells) (suc i) zero a b differ = refl
  apart (cell ∷ cells) (suc i) (suc j) a b differ = ap (λ cs. cell ∷ cs) (apart cells i j a b (λ e. differ (ap suc e)))

  met_len : (offset : ℕ) (ty : CellType) (cells : List StoredCell) (place : ℕ) (held : Content) → position_or_len (meets offset ty) (cells_with model cells place held) ≡ position_or_len (meets offset ty) cells
  met_len offset ty [] place held = refl
  met_len offset ty (cell ∷ cells) zero held = refl
  met_len offset ty (cell ∷ cells) (suc place) held = simp (met_len offset ty cells place held)

  -- where cells are met stays
  pub place_with : (offset : ℕ) (ty : CellType) (cells : List StoredCell) (place : ℕ) (held : Content) → place_of (cells_with model cells place held) offset ty ≡ place_of cells offset ty
  place_with offset ty cells place held = simp (met_len offset ty cells place held, length-cells_with model held cells place)

-- what is asked of a result, and then asked further
after_one : {A B : Type 0} (first : A) (others : Result (List A) Ub) (go : List A → Result B Ub) → then_result (then_result others (λ o. Ok (first ∷ o))) go ≡ then_result others (λ o. go (first ∷ o))
after_one first (Ok others) go = refl
after_one first (Err kind) go = refl

module _ (model : DataModel) (source : List StoredCell) (from to : ℕ) where
  abbrev IsUnmoved : List ShapeCell → Type 0
  IsUnmoved shape = (target : List StoredCell) (place : ℕ) (held : Content) (waits : List Content) → waiting source from (cells_with model target place held) to waits shape ≡ waiting source from target to waits shape

  -- where contents wait stays
  waiting_same : (shape : List ShapeCell) → IsUnmoved shape
  waiting_same [] target place held waits = refl
  waiting_same (cell ∷ rest) target place held waits =
      rw (place_with model (to + cell.offset) cell.ty target place held) (by_cases (waiting_same rest) (held_at source (from + cell.offset) cell.ty) (place_of target (to + cell.offset) cell.ty))
    where
      by_cases : IsUnmoved rest → (r : Result Content Ub) (p : Option ℕ) → then_result r (λ h. then_result (placed p) (λ j. waiting source from (cells_with model target place held) to (set waits j h) rest))
          ≡ then_result r (λ h. then_result (placed p) (λ j. waiting source from target to (set waits j h) rest))
      by_cases same (Err kind) p = refl
      by_cases same (Ok h) None = refl
      by_cases same (Ok h) (Some j) = same target place held (set waits j h)

  -- what waits for a cell at the end may as well be there already
  abbrev pub IsAlike : ℕ → Content → List ShapeCell → Type 0
  IsAlike j h shape = (target : List StoredCell) (waits after : List Content) → length target ≤ length waits → get_or waits j content.Unset ≡ h → waiting source from target to waits shape ≡ Ok after
      → delivered model (cells_with model target j h) to after shape ≡ delivered model (cells_with model target j (get_or after j content.Unset)) to after shape

  pub in_the_end : (j : ℕ) (h : Content) (shape : List ShapeCell) → IsAlike j h shape
  in_the_end j h [] target waits after room here ends =
      let same : waits ≡ after = cc in
      ap (cells_with model target j) (sym here ∙ ap (λ w. get_or w j content.Unset) same)
  in_the_end j h (cell ∷ rest) target waits after room here ends =
      rw (place_with model (to + cell.offset) cell.ty target j h, place_with model (to + cell.offset) cell.ty target j (get_or after j content.Unset))
      (by_cases (in_the_end j h rest) (held_at source (from + cell.offset) cell.ty) (place_of target (to + cell.offset) cell.ty) ends)
    where
      by_cases : IsAlike j h rest → (r : Result Content Ub) (p : Option ℕ) → then_result r (λ k. then_result (placed p) (λ m. waiting source from target to (set waits m k) rest)) ≡ Ok after
          → delivered model (delivered_at model (cells_with model target j h) after p) to after rest ≡ delivered model (delivered_at model (cells_with model target j (get_or after j content.Unset)) after p) to after rest
      by_cases alike (Err kind) p ends = absurd (cc)
      by_cases alike (Ok k) None ends = absurd (cc)
      by_cases alike (Ok k) (Some m) ends =
          let x : Content = get_or after m content.Unset in
          let y : Content = get_or after j content.Unset in
          elim (eqb_tells m j) [
            | inl same ↦ ap (λ cs. delivered model cs to after rest) (subst (λ i. cells_with model (cells_with model target i h) m x ≡ cells_with model (cells_with model target i y) m x) same.1 (again model target m h x ∙ sym (again model target m y x)))
            | inr differ ↦
                let other : j ≢ m = λ e. differ.1 (sym e) in
                let still : get_or (set waits m k) j content.Unset ≡ h = get_or-set_other waits m j k content.Unset other ∙ here in
                let n : length (cells_with model target m x) ≡ length target = length-cells_with model x target m in
                let o : length (set waits m k) ≡ length waits = length-set waits m k in
                ap (λ cs. delivered model cs to after rest) (apart model target j m h x other)
                ∙ alike (cells_with model target m x) (set waits m k) after (omega arith) still (waiting_same rest target m x (set waits m k) ∙ ends)
                ∙ ap (λ cs. delivered model cs to after rest) (sym (apart model target j m y x other))
          ]

  -- the one kind by which contents can't be had
  pub only_no_cell : (shape : List ShapeCell) → MatchResult (gathered source from shape) (λ _. Unit {0}) (λ kind. kind ≡ U.NoCell)
  only_no_cell [] = tt
  only_no_cell (cell ∷ rest) = by_place (only_no_cell rest) (place_of source (from + cell.offset) cell.ty) refl
    where
      others : (r : Result (List Content) Ub) (h : Content) → MatchResult r (λ _. Unit {0}) (λ kind. kind ≡ U.NoCell) → MatchResult (then_result r (λ o. Ok (h ∷ o))) (λ _. Unit {0}) (λ kind. kind ≡ U.NoCell)
      others (Ok o) h fact = tt
      others (Err kind) h fact = fact

      by_place : MatchResult (gathered source from rest) (λ _. Unit {0}) (λ kind. kind ≡ U.NoCell) → (p : Option ℕ) → p ≡ place_of source (from + cell.offset) cell.ty → MatchResult (gathered source from (cell ∷ rest)) (λ _. Unit {0}) (λ kind. kind ≡ U.NoCell)
      by_place fact None at = rw (held_none (from + cell.offset) cell.ty source at) refl
      by_place fact (Some k) at = rw (held_some (from + cell.offset) cell.ty source k at) (others (gathered source from rest) _ fact)

  refused : {A : Type 0} (others : Result (List Content) Ub) → MatchResult others (λ _. Unit {0}) (λ kind. kind ≡ U.NoCell) → then_result {B = A} others (λ _. Err U.NoCell) ≡ Err U.NoCell
  refused (Ok o) fact = refl
  refused (Err kind) fact = ap Err fact

  -- a copy by way of the places is the copy
  abbrev pub IsCopied : List ShapeCell → Type 0
  IsCopied shape = (target : List StoredCell) (waits : List Content) → length target ≤ length waits
      → then_result (gathered source from shape) (λ contents. scattered model target to shape contents) ≡ then_result (waiting source from target to waits shape) (λ after. Ok (delivered model target to after shape))

  pub copied : (shape : List ShapeCell) → IsCopied shape
  copied [] target waits room = refl
  copied (cell ∷ rest) target waits room = by_source (copied rest) (place_of source (from + cell.offset) cell.ty) refl
    where
      at_end : (j : ℕ) (h : Content) → j < length target → (w : Result (List Content) Ub) → waiting source from target to (set waits j h) rest ≡ w → then_result w (λ after. Ok (delivered model (cells_with model target j h) to after rest)) ≡ then_result w (λ after. Ok (delivered model (cells_with model target j (get_or after j content.Unset)) to after rest))
      at_end j h within (Err kind) ends = refl
      at_end j h within (Ok after) ends =
          let o : length (set waits j h) ≡ length waits = length-set waits j h in
          ap Ok (in_the_end j h rest target (set waits j h) after (omega arith) (get_or-set_same waits j h content.Unset (omega arith)) ends)

      by_target : IsCopied rest → (h : Content) (p : Option ℕ) → p ≡ place_of target (to + cell.offset) cell.ty → then_result (gathered source from rest) (λ o. then_result (with_held model target (to + cell.offset) cell.ty h) (λ after. scattered model after to rest o))
          ≡ then_result (then_result (placed p) (λ j. waiting source from target to (set waits j h) rest)) (λ after. Ok (delivered model (delivered_at model target after p) to after rest))
      by_target step h None at = rw (with_none (to + cell.offset) cell.ty model h target at) (refused (gathered source from rest) (only_no_cell rest))
      by_target step h (Some j) at =
          let within : j < length target = within_some (to + cell.offset) cell.ty target j at in
          let n : length (cells_with model target j h) ≡ length target = length-cells_with model h target j in
          let o : length (set waits j h) ≡ length waits = length-set waits j h in
          rw (with_some (to + cell.offset) cell.ty model h target j at)
          (step (cells_with model target j h) (set waits j h) (omega arith)
          ∙ ap (λ w. then_result w (λ after. Ok (delivered model (cells_with model target j h) to after rest))) (waiting_same rest target j h (set waits j h))
          ∙ at_end j h within (waiting source from target to (set waits j h) rest) refl)

      by_source : IsCopied rest → (p : Option ℕ) → p ≡ place_of source (from + cell.offset) cell.ty
          → then_result (gathered source from (cell ∷ rest)) (λ contents. scattered model target to (cell ∷ rest) contents) ≡ then_result (waiting source from target to waits (cell ∷ rest)) (λ after. Ok (delivered model target to after (cell ∷ rest)))
      by_source step None at = rw (held_none (from + cell.offset) cell.ty source at) refl
      by_source step (Some k) at =
          rw (held_some (from + cell.offset) cell.ty source k at)
          (after_one _ (gathered source from rest) (λ contents. scattered model target to (cell ∷ rest) contents) ∙ by_target step _ (place_of target (to + cell.offset) cell.ty) refl)

-- ---- a shape walked from cell to cell
module _ (shape : List ShapeCell) (i : ℕ) (d : ShapeCell) (within : i < length shape) (source : List StoredCell) (from to : ℕ) where
  -- one more content waits
  pub waits_more : (target : List StoredCell) (waits : List Content) (held : Content) (place o p : ℕ) → o ≡ from + (get_or shape i d).offset → p ≡ to + (get_or shape i d).offset
      → Ok held ≡ held_at source o (get_or shape i d).ty → Some place ≡ place_of target p (get_or shape i d).ty
      → waiting source from target to (set waits place held) (drop (i + 1) shape) ≡ waiting source from target to waits (drop i shape)
  waits_more target waits held place o p e f is at =
      let held_is : held_at source (from + (get_or shape i d).offset) (get_or shape i d).ty ≡ Ok held = ap (λ n. held_at source n (get_or shape i d).ty) (sym e) ∙ sym is in
      let place_is : place_of target (to + (get_or shape i d).offset) (get_or shape i d).ty ≡ Some place = ap (λ n. place_of target n (get_or shape i d).ty) (sym f) ∙ sym at in
      sym (at_drop_more (waiting source from target to waits) shape i d within ∙ rw (held_is, place_is) refl)

  -- a cell that content is to go to isn't there
  pub waits_none : (target : List StoredCell) (waits : List Content) (held : Content) (o p : ℕ) → o ≡ from + (get_or shape i d).offset → p ≡ to + (get_or shape i d).offset
      → Ok held ≡ held_at source o (get_or shape i d).ty → None ≡ place_of target p (get_or shape i d).ty → waiting source from target to waits (drop i shape) ≡ Err U.NoCell
  waits_none target waits held o p e f is at =
      let held_is : held_at source (from + (get_or shape i d).offset) (get_or shape i d).ty ≡ Ok held = ap (λ n. held_at source n (get_or shape i d).ty) (sym e) ∙ sym is in
      let place_is : place_of target (to + (get_or shape i d).offset) (get_or shape i d).ty ≡ None = ap (λ n. place_of target n (get_or shape i d).ty) (sym f) ∙ sym at in
      at_drop_more (waiting source from target to waits) shape i d within ∙ rw (held_is, place_is) refl

module _ (shape : List ShapeCell) (i : ℕ) (d : ShapeCell) (within : i < length shape) (to : ℕ) where
  -- one more content is delivered
  pub delivered_more : (model : DataModel) (cells after : List StoredCell) (waits : List Content) (p : ℕ) (place : Option ℕ) → p ≡ to + (get_or shape i d).offset → place ≡ place_of cells p (get_or shape i d).ty → after ≡ delivered_at model cells waits place
      → delivered model after to waits (drop (i + 1) shape) ≡ delivered model cells to waits (drop i shape)
  delivered_more model cells after waits p place e at is =
      let place_is : place ≡ place_of cells (to + (get_or shape i d).offset) (get_or shape i d).ty = at ∙ ap (λ n. place_of cells n (get_or shape i d).ty) e in
      ap (λ cs. delivered model cs to waits (drop (i + 1) shape)) (is ∙ ap (delivered_at model cells waits) place_is) ∙ sym (at_drop_more (delivered model cells to waits) shape i d within)
