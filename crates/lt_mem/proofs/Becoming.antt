-- What a call leaves that may be refused, by the cases of what it is to do.
use Rattle.std.proofs.Common.{◌≡◌, refl, sym, ◌∙◌, ap, subst, ℕ, ◌<◌, ◌≤◌, set, List, Bool, true, false, Option, Some, None, Result, Ok, Err}
use Rattle.std.specs.Prelude.{if◌then◌else◌}
use Rattle.std.specs.BTreeMap.{BTreeMap, get}
use Rattle.std.specs.Ordering.{nat_cmp}
use Rattle.std.proofs.lemmas.List.{set-get_or}
use Rattle.lt_model.specs.declared.scalar.DataModel.{DataModel}
use Rattle.lt_model.specs.declared.operator.Ub.{Ub}
use Rattle.lt_model.specs.declared.operator.Ub.TheVariants as U
use Rattle.lt_model.specs.declared.cell.Address.{Address}
use Rattle.lt_model.specs.declared.cell.CellType.{CellType}
use Rattle.lt_model.specs.declared.cell.Content.{Content}
use Rattle.lt_model.specs.declared.cell.StoredCell.{StoredCell}
use Rattle.lt_model.specs.Memory.{Block, ended_block, then_result, with_held, replaced, object_at, store}
use Rattle.lt_mem.specs.Image.{Image, Body, living_block, block_of, blocks_of}
use Rattle.lt_mem.specs.Calls.{Becomes, with_blocks}
use Rattle.lt_mem.specs.Steps.{stored_in}
use Rattle.lt_mem.proofs.Blocks.{IsChange, changed, used, if_living, get_or-blocks_of}

module _ {A : Type 0} (kind : Ub) (before after : A) where
  pub refused_by : (b : Bool) → b ≡ false → Becomes (if b then Ok after else Err kind) before (Err kind) before
  refused_by true e = absurd (cc)
  refused_by false e = (refl, refl)

  pub done_by : (b : Bool) (now : A) → b ≡ true → now ≡ after → Becomes (if b then Ok after else Err kind) before (Ok tt) now
  done_by true now e is = (refl, is)
  done_by false now e is = absurd (cc)

-- a store into an object is a store into memory
module _ (model : DataModel) (living new : BTreeMap ℕ Body) (made : ℕ) (at : Address) (before after : Body) (given : at.block < made) (there : get nat_cmp living at.block ≡ Some before) (change : IsChange living new at.block (Some after)) where
  abbrev pub blocks : List Block
  blocks = blocks_of living made

  -- where the object is as it was, so is memory
  same : after ≡ before → blocks_of new made ≡ blocks
  same e =
      changed living new at.block (Some after) change made ∙ ap (λ b. set blocks at.block (living_block b)) e
      ∙ ap (set blocks at.block) (sym (get_or-blocks_of living made at.block ended_block given ∙ ap block_of there)) ∙ set-get_or blocks at.block ended_block

  abbrev pub image_of : List Block → Image
  image_of bs = record { model = model; blocks = bs }

  pub by_object : (writable : Bool) (cells : Result (List StoredCell) Ub) (result : Result (Unit {0}) Ub) → Becomes (then_result cells (λ cs. if writable then Ok (record before { cells = cs }) else Err U.Sealed)) before result after
      → Becomes (with_blocks (image_of blocks) (then_result cells (λ cs. if writable then Ok (replaced blocks (Some at) (living_block before) cs) else Err U.Sealed))) (image_of blocks) result (image_of (blocks_of new made))
  by_object writable (Err kind) result (r, e) = (r, ap image_of (same e))
  by_object false (Ok cs) result (r, e) = (r, ap image_of (same e))
  by_object true (Ok cs) result (r, e) = (r, ap image_of (changed living new at.block (Some after) change made ∙ ap (λ b. set blocks at.block (living_block b)) e))

  pub stored : (image : Image) (ty : CellType) (value : Content) (result : Result (Unit {0}) Ub) → ((k : ℕ) → made ≤ k → get nat_cmp living k ≡ None) → image_of blocks ≡ image → Becomes (stored_in model before at.offset ty value) before result after → Becomes (with_blocks image (store image.model image.blocks (Some at) ty value)) image result (image_of (blocks_of new made))
  unfolding store
  stored image ty value result unmade is becomes =
      let there_is : object_at blocks (Some at) ≡ Ok (living_block before) = used living made unmade at.block ∙ ap if_living there in
      subst (λ i. Becomes (with_blocks i (store i.model i.blocks (Some at) ty value)) i result (image_of (blocks_of new made))) is
      (rw there_is (by_object before.writable (with_held model before.cells at.offset ty value) result becomes))

-- a store where no object lives
pub not_stored : (image : Image) (at : Option Address) (kind : Ub) (ty : CellType) (value : Content) (now : Image) → object_at image.blocks at ≡ Err kind → now ≡ image → Becomes (with_blocks image (store image.model image.blocks at ty value)) image (Err kind) now
unfolding store
not_stored image at kind ty value now none is = rw none (refl, is)
