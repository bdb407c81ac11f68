-- A struct copied into an object of memory.
use Rattle.std.proofs.Common.{◌≡◌, refl, sym, ◌∙◌, ap, subst, ℕ, ◌<◌, ◌≤◌, inl, inr, length, List, true, false, Some, None, Result, Ok, Err}
use Rattle.std.specs.Prelude.{if◌then◌else◌}
use Rattle.std.specs.BTreeMap.{BTreeMap, get}
use Rattle.std.specs.Ordering.{nat_cmp}
use Rattle.std.proofs.lemmas.Bool.Decides.{eqb_tells}
use Rattle.lt_model.specs.declared.scalar.DataModel.{DataModel}
use Rattle.lt_model.specs.declared.operator.Ub.{Ub}
use Rattle.lt_model.specs.declared.operator.Ub.TheVariants as U
use Rattle.lt_model.specs.declared.cell.Address.{Address}
use Rattle.lt_model.specs.declared.cell.Content.{Content}
use Rattle.lt_model.specs.declared.cell.Shape.{Shape}
use Rattle.lt_model.specs.declared.cell.ShapeCell.{ShapeCell}
use Rattle.lt_model.specs.declared.cell.StoredCell.{StoredCell}
use Rattle.lt_model.specs.Memory.{then_result, object_at, replaced, gathered, scattered, copy_struct}
use Rattle.lt_mem.specs.Image.{Image, Body, living_block, blocks_of}
use Rattle.lt_mem.specs.Calls.{Becomes, with_blocks}
use Rattle.lt_mem.specs.Steps.{copied_in, waiting, delivered}
use Rattle.lt_mem.proofs.Blocks.{IsChange, used, if_living}
use Rattle.lt_mem.proofs.Becoming.{by_object, refused_by, done_by}
use Rattle.lt_mem.proofs.Waiting.{copied}

-- a result that is used twice, one use behind the other
regrouped : {A B C : Type 0} (first : Result A Ub) (second : A → Result B Ub) (go : B → Result C Ub) → then_result first (λ a. then_result (second a) go) ≡ then_result (then_result first second) go
regrouped (Ok a) second go = refl
regrouped (Err kind) second go = refl

-- the same object under a key is no change
pub no_change : (living : BTreeMap ℕ Body) (k : ℕ) (body : Body) → get nat_cmp living k ≡ Some body → IsChange living living k (Some body)
no_change living k body at q = elim (eqb_tells k q) [ inl same ↦ rw same.0 (ap (get nat_cmp living) (sym same.1) ∙ at) | inr apart ↦ rw apart.0 refl ]

module _ (model : DataModel) (source : List StoredCell) (from : ℕ) (target : Body) (to : ℕ) (shape : List ShapeCell) (waits : List Content) (room : length target.cells ≤ length waits) where
  -- every cell is there
  pub copied_by : (after : List Content) → waiting source from target.cells to waits shape ≡ Ok after → copied_in model source from target to shape ≡ (if target.writable then Ok (record target { cells = delivered model target.cells to after shape }) else Err U.Sealed)
  copied_by after ends =
      regrouped (gathered source from shape) (λ contents. scattered model target.cells to shape contents) (λ cells. if target.writable then Ok (record target { cells = cells }) else Err U.Sealed)
      ∙ ap (λ r. then_result r (λ cells. if target.writable then Ok (record target { cells = cells }) else Err U.Sealed)) (copied model source from to shape target.cells waits room ∙ ap (λ w. then_result w (λ a. Ok (delivered model target.cells to a shape))) ends)

  -- a cell isn't there
  pub not_copied_by : (kind : Ub) → waiting source from target.cells to waits shape ≡ Err kind → copied_in model source from target to shape ≡ Err kind
  not_copied_by kind ends =
      regrouped (gathered source from shape) (λ contents. scattered model target.cells to shape contents) (λ cells. if target.writable then Ok (record target { cells = cells }) else Err U.Sealed)
      ∙ ap (λ r. then_result r (λ cells. if target.writable then Ok (record target { cells = cells }) else Err U.Sealed)) (copied model source from to shape target.cells waits room ∙ ap (λ w. then_result w (λ a. Ok (delivered model target.cells to a shape))) ends)

-- a copy into an object is a copy in memory
module _ (model : DataModel) (living new : BTreeMap ℕ Body) (made : ℕ) (unmade : (k : ℕ) → made ≤ k → get nat_cmp living k ≡ None) (image : Image) (is : record { model = model; blocks = blocks_of living made } ≡ image) where
  pub copied_into : (to from : Address) (before after source : Body) (shape : Shape) (result : Result (Unit {0}) Ub) → to.block < made → get nat_cmp living to.block ≡ Some before → get nat_cmp living from.block ≡ Some source → IsChange living new to.block (Some after)
      → Becomes (copied_in model source.cells from.offset before to.offset shape.cells) before result after → Becomes (with_blocks image (copy_struct image.model image.blocks (Some to) (Some from) shape)) image result (record { model = model; blocks = blocks_of new made })
  unfolding copy_struct
  copied_into to from before after source shape result given there here change becomes =
      let to_is : object_at (blocks_of living made) (Some to) ≡ Ok (living_block before) = used living made unmade to.block ∙ ap if_living there in
      let from_is : object_at (blocks_of living made) (Some from) ≡ Ok (living_block source) = used living made unmade from.block ∙ ap if_living here in
      subst (λ i. Becomes (with_blocks i (copy_struct i.model i.blocks (Some to) (Some from) shape)) i result (record { model = model; blocks = blocks_of new made })) is
      (rw (to_is, from_is)
      (subst (λ r. Becomes (with_blocks (record { model = model; blocks = blocks_of living made }) r) (record { model = model; blocks = blocks_of living made }) result (record { model = model; blocks = blocks_of new made }))
      (sym (regrouped (gathered source.cells from.offset shape.cells) (λ contents. scattered model before.cells to.offset shape.cells contents) (λ cells. if before.writable then Ok (replaced (blocks_of living made) (Some to) (living_block before) cells) else Err U.Sealed)))
      (by_object model living new made to before after given there change before.writable (then_result (gathered source.cells from.offset shape.cells) (λ contents. scattered model before.cells to.offset shape.cells contents)) result
      (subst (λ r. Becomes r before result after) (regrouped (gathered source.cells from.offset shape.cells) (λ contents. scattered model before.cells to.offset shape.cells contents) (λ cells. if before.writable then Ok (record before { cells = cells }) else Err U.Sealed)) becomes))))

  -- an object of theirs has ended
  pub target_ended : (to from : Address) (shape : Shape) → get nat_cmp living to.block ≡ None → Becomes (with_blocks image (copy_struct image.model image.blocks (Some to) (Some from) shape)) image (Err U.Ended) image
  unfolding copy_struct
  target_ended to from shape none =
      let to_is : object_at (blocks_of living made) (Some to) ≡ Err U.Ended = used living made unmade to.block ∙ ap if_living none in
      subst (λ i. Becomes (with_blocks i (copy_struct i.model i.blocks (Some to) (Some from) shape)) i (Err U.Ended) i) is (rw to_is (refl, refl))

  pub source_ended : (to from : Address) (before : Body) (shape : Shape) → get nat_cmp living to.block ≡ Some before → get nat_cmp living from.block ≡ None → Becomes (with_blocks image (copy_struct image.model image.blocks (Some to) (Some from) shape)) image (Err U.Ended) image
  unfolding copy_struct
  source_ended to from before shape there none =
      let to_is : object_at (blocks_of living made) (Some to) ≡ Ok (living_block before) = used living made unmade to.block ∙ ap if_living there in
      let from_is : object_at (blocks_of living made) (Some from) ≡ Err U.Ended = used living made unmade from.block ∙ ap if_living none in
      subst (λ i. Becomes (with_blocks i (copy_struct i.model i.blocks (Some to) (Some from) shape)) i (Err U.Ended) i) is (rw (to_is, from_is) (refl, refl))

  module _ (to from : Address) (before source : Body) (shape : Shape) (cells : List ShapeCell) (waits : List Content) (same : cells ≡ shape.cells) (given : to.block < made) (there : get nat_cmp living to.block ≡ Some before) (here : get nat_cmp living from.block ≡ Some source) (room : length before.cells ≤ length waits) where
    -- a cell isn't there
    pub copy_failed : (kind : Ub) → waiting source.cells from.offset before.cells to.offset waits cells ≡ Err kind → IsChange living new to.block (Some before) → Becomes (with_blocks image (copy_struct image.model image.blocks (Some to) (Some from) shape)) image (Err kind) (record { model = model; blocks = blocks_of new made })
    copy_failed kind ends change =
        copied_into to from before before source shape (Err kind) given there here change
        (rw (not_copied_by model source.cells from.offset before to.offset shape.cells waits room kind (ap (waiting source.cells from.offset before.cells to.offset waits) (sym same) ∙ ends)) (refl, refl))

    -- the object isn't writable
    pub copy_sealed : (after : List Content) → waiting source.cells from.offset before.cells to.offset waits cells ≡ Ok after → before.writable ≡ false → IsChange living new to.block (Some before) → Becomes (with_blocks image (copy_struct image.model image.blocks (Some to) (Some from) shape)) image (Err U.Sealed) (record { model = model; blocks = blocks_of new made })
    copy_sealed after ends closed change =
        copied_into to from before before source shape (Err U.Sealed) given there here change
        (rw (copied_by model source.cells from.offset before to.offset shape.cells waits room after (ap (waiting source.cells from.offset before.cells to.offset waits) (sym same) ∙ ends))
        (refused_by U.Sealed before _ before.writable closed))

    -- the contents that waited are delivered
    pub copy_done : (after : List Content) (found now : Body) → waiting source.cells from.offset before.cells to.offset waits cells ≡ Ok after → before.writable ≡ true → get nat_cmp living to.block ≡ Some found → now ≡ record found { cells = delivered model found.cells to.offset after cells } → IsChange living new to.block (Some now)
        → Becomes (with_blocks image (copy_struct image.model image.blocks (Some to) (Some from) shape)) image (Ok tt) (record { model = model; blocks = blocks_of new made })
    copy_done after found now ends open_ at is change =
        let one : before ≡ found = cc in
        let e : now ≡ record before { cells = delivered model before.cells to.offset after shape.cells } = is ∙ ap (λ cs. record found { cells = delivered model found.cells to.offset after cs }) same ∙ ap (λ (b : Body). record b { cells = delivered model b.cells to.offset after shape.cells }) (sym one) in
        copied_into to from before now source shape (Ok tt) given there here change
        (rw (copied_by model source.cells from.offset before to.offset shape.cells waits room after (ap (waiting source.cells from.offset before.cells to.offset waits) (sym same) ∙ ends))
        (done_by U.Sealed before _ before.writable now open_ e))
