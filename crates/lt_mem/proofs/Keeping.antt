-- What always holds of what a memory keeps, after an object is made, ended or changed.
use Rattle.std.proofs.Common.{arith, ◌≡◌, sym, ◌∙◌, ap, ℕ, ◌+◌, ◌-◌, ◌<◌, ◌≤◌, ◌⊎◌, inl, inr, Bool, false, List, [], ◌∷◌, ◌++◌, length, set, Some, None}
use Rattle.std.specs.Prelude.{nat_le, slice_get}
use Rattle.std.specs.BTreeMap.{BTreeMap, get}
use Rattle.std.specs.Ordering.{nat_cmp}
use Rattle.std.proofs.lemmas.Bool.Decides.{nat_tests, eqb_tells}
use Rattle.std.proofs.lemmas.List.{set-get_or}
use Rattle.std.proofs.lemmas.Option.{slice_get_past}
use Rattle.std.proofs.lemmas.List.Sums.{get_or-le-sum_by}
use Rattle.lt_model.specs.declared.cell.Content.{Content}
use Rattle.lt_model.specs.declared.cell.Shape.{Shape}
use Rattle.lt_model.specs.Memory.{Block, ended_block, living_cells, cells_alive, most_cells, sealed, seal_block, create, new_block}
use Rattle.std.specs.List.{All}
use Rattle.lt_mem.specs.Cells.{IsFit}
use Rattle.lt_mem.specs.Image.{Body, new_body, living_block, block_of, block_at, blocks_of, IsKept}
use Rattle.lt_mem.proofs.Blocks.{IsChange, at_key, at_other, changed, appended, recounted, counted_more, length-blocks_of, get_or-blocks_of, slice_get-blocks_of}

module _ (living : BTreeMap ℕ Body) (made alive : ℕ) (scratch : List Content) (kept : IsKept living made alive scratch) where
  -- the test of room by the count
  pub room_test : (n : ℕ) (blocks : List Block) → blocks_of living made ≡ blocks → nat_le n (most_cells - alive) ≡ nat_le (cells_alive blocks + n) most_cells
  room_test n blocks e =
      let count : alive ≡ cells_alive blocks = kept.counted ∙ ap cells_alive e in
      let few = kept.few in
      grind (arith, nat_tests)

  -- an object has a number that was given
  pub given : (k : ℕ) (body : Body) → get nat_cmp living k ≡ Some body → k < made
  given k body at = elim (sides k) [ inl h ↦ h | inr h ↦ absurd (cc (kept.unmade k h)) ]
    where
      sides : (k : ℕ) → (k < made) ⊎ (made ≤ k)
      sides k = grind (arith, nat_tests)

  -- a living object's cells are counted
  pub cells_below : (k : ℕ) (body : Body) → get nat_cmp living k ≡ Some body → length body.cells ≤ alive
  cells_below k body at =
      let h : k < made = given k body at in
      let n : length (blocks_of living made) ≡ made = length-blocks_of living made in
      let below = get_or-le-sum_by living_cells (blocks_of living made) k ended_block (omega arith) in
      let is : living_cells (block_at living k) ≡ length body.cells = ap (λ o. living_cells (block_of o)) at in
      let here = ap living_cells (get_or-blocks_of living made k ended_block h) in
      omega (arith, below, is, here, kept.counted)

  -- the object under a key is ended
  pub kept_after_end : (new : BTreeMap ℕ Body) (k : ℕ) (body : Body) → get nat_cmp living k ≡ Some body → IsChange living new k None → IsKept new made (alive - length body.cells) scratch
  kept_after_end new k body at change =
      let h : k < made = given k body at in
      let is : living_cells (block_at living k) ≡ length body.cells = ap (λ o. living_cells (block_of o)) at in
      let count = recounted living new k None change made h in
      record {
        unmade = λ q l. at_other living new k None change q (omega arith) ∙ kept.unmade q l;
        counted = omega (arith, count, is, kept.counted);
        few = omega (arith, kept.few);
        fit = kept.fit;
        room = λ q b e. elim (eqb_tells q k) [ inl same ↦ absurd (cc (at_key living new k None change, same.1)) | inr apart ↦ kept.room q b (sym (at_other living new k None change q apart.1) ∙ e) ];
      }

  -- the object under a key is another with as many cells
  pub kept_after_change : (new : BTreeMap ℕ Body) (k : ℕ) (old after : Body) → get nat_cmp living k ≡ Some old → IsChange living new k (Some after) → length after.cells ≡ length old.cells → IsKept new made alive scratch
  kept_after_change new k old after at change same_length =
      let h : k < made = given k old at in
      let is : living_cells (block_at living k) ≡ length old.cells = ap (λ o. living_cells (block_of o)) at in
      let count = recounted living new k (Some after) change made h in
      record {
        unmade = λ q l. at_other living new k (Some after) change q (omega arith) ∙ kept.unmade q l;
        counted = omega (arith, count, is, kept.counted, same_length);
        few = kept.few;
        fit = kept.fit;
        room = λ q b e. elim (eqb_tells q k) [ inl same ↦ here q b e same.1 | inr apart ↦ kept.room q b (sym (at_other living new k (Some after) change q apart.1) ∙ e) ];
      }
    where
      here : (q : ℕ) (b : Body) → get nat_cmp new q ≡ Some b → q ≡ k → length b.cells ≤ length scratch
      here q b e same =
          let one : after ≡ b = cc (at_key living new k (Some after) change) in
          omega (arith, kept.room k old at, same_length, ap (λ c. length c.cells) one)

  -- other contents wait
  pub kept_with : (waits : List Content) → length waits ≡ length scratch → All IsFit waits → IsKept living made alive waits
  kept_with waits same fit = record {
    unmade = kept.unmade;
    counted = kept.counted;
    few = kept.few;
    fit = fit;
    room = λ k body at. omega (arith, kept.room k body at);
  }

  -- an object more
  pub kept_after_add : (new : BTreeMap ℕ Body) (body : Body) (longer : List Content) → IsChange living new made (Some body) → (next cells : ℕ) → next ≡ made + 1 → cells ≡ length body.cells → alive + cells ≤ most_cells → All IsFit longer → length scratch ≤ length longer → cells ≤ length longer → IsKept new next (alive + cells) longer
  kept_after_add new body longer change next cells is_next is_cells few fit grows enough = rw (is_next) record {
    unmade = λ q l. at_other living new made (Some body) change q (omega arith) ∙ kept.unmade q (omega arith);
    counted = omega (arith, counted_more living new made (Some body) change, kept.counted, is_cells);
    few = few;
    fit = fit;
    room = λ q b e. elim (eqb_tells q made) [ inl same ↦ here q b e same.1 | inr apart ↦ omega (arith, grows, kept.room q b (sym (at_other living new made (Some body) change q apart.1) ∙ e)) ];
  }
    where
      here : (q : ℕ) (b : Body) → get nat_cmp new q ≡ Some b → q ≡ made → length b.cells ≤ length longer
      here q b e same =
          let one : body ≡ b = cc (at_key living new made (Some body) change) in
          omega (arith, enough, is_cells, ap (λ c. length c.cells) one)

-- the objects with one more
pub made_is : (living new : BTreeMap ℕ Body) (made next : ℕ) (body : Body) (shape : Shape) (zeroed writable : Bool) → IsChange living new made (Some body) → next ≡ made + 1 → body ≡ new_body shape zeroed writable → blocks_of new next ≡ create (blocks_of living made) (new_block shape zeroed writable)
made_is living new made next body shape zeroed writable change is_next is = ap (blocks_of new) is_next ∙ appended living new made (Some body) change ∙ ap (λ b. blocks_of living made ++ living_block b ∷ []) is

-- the object of a number isn't writable from now on
pub sealed_is : (living new : BTreeMap ℕ Body) (made k : ℕ) (body after : Body) → k < made → get nat_cmp living k ≡ Some body → IsChange living new k (Some after) → after ≡ record body { writable = false } → blocks_of new made ≡ seal_block (blocks_of living made) k
sealed_is living new made k body after h at change is =
    changed living new k (Some after) change made ∙ ap (λ b. set (blocks_of living made) k (living_block b)) is ∙ sym (ap (sealed (blocks_of living made) k) (slice_get-blocks_of living made k h ∙ ap (λ o. Some (block_of o)) at))

-- to seal an object that isn't alive changes nothing
pub not_sealed : (living : BTreeMap ℕ Body) (made k : ℕ) → get nat_cmp living k ≡ None → blocks_of living made ≡ seal_block (blocks_of living made) k
not_sealed living made k none = elim (sides k) [ inl h ↦ here h | inr h ↦ sym (ap (sealed (blocks_of living made) k) (slice_get_past (blocks_of living made) k (omega (arith, length-blocks_of living made)))) ]
  where
    sides : (k : ℕ) → (k < made) ⊎ (made ≤ k)
    sides k = grind (arith, nat_tests)

    here : k < made → blocks_of living made ≡ seal_block (blocks_of living made) k
    here h =
        let is : block_at living k ≡ ended_block = ap block_of none in
        let at : slice_get (blocks_of living made) k ≡ Some ended_block = slice_get-blocks_of living made k h ∙ ap Some is in
        let same : set (blocks_of living made) k ended_block ≡ blocks_of living made = ap (set (blocks_of living made) k) (sym (get_or-blocks_of living made k ended_block h ∙ is)) ∙ set-get_or (blocks_of living made) k ended_block in
        sym (ap (sealed (blocks_of living made) k) at ∙ same)
