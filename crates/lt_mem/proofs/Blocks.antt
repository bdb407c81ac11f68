-- The objects of a memory, from the living ones under their numbers: one looked up, one changed, one more.
use Rattle.std.proofs.Common.{arith, ◌≡◌, ◌≢◌, refl, sym, ◌∙◌, ap, cond, ℕ, ◌+◌, ◌<◌, ◌≤◌, ◌⊎◌, inl, inr, [], ◌∷◌, ◌++◌, length, get_or, set, Option, Some, None, Result, Ok, Err}
use Rattle.std.specs.Prelude.{◌==◌, slice_get}
use Rattle.std.specs.BTreeMap.{BTreeMap, get, UpdatesBy, WritesThrough}
use Rattle.std.specs.Cmp.{unsigned_tied}
use Rattle.std.specs.Ordering.{nat_cmp}
use Rattle.std.proofs.lemmas.Bool.Decides.{nat_tests, eqb_tells}
use Rattle.std.proofs.lemmas.List.{same_lists, length-set, get_or-set_same, get_or-set_other, set_past}
use Rattle.std.proofs.lemmas.List.FromFn.{length-map-range_with_len, get_or-map-range_with_len, map-range_with_len_more}
use Rattle.std.proofs.lemmas.List.Sums.{sum_by-set, sum_by_push}
use Rattle.std.proofs.lemmas.Option.{slice_get-get_or, slice_get_past}
use Rattle.lt_model.specs.declared.operator.Ub.{Ub}
use Rattle.lt_model.specs.declared.operator.Ub.TheVariants as U
use Rattle.lt_model.specs.Memory.{Block, ended_block, if_alive, living_cells, cells_alive}
use Rattle.lt_mem.specs.Image.{Body, living_block, block_of, block_at, blocks_of}

-- what a use of an object gives that may live
abbrev pub if_living : Option Body → Result Block Ub
if_living None = Err U.Ended
if_living (Some body) = Ok (living_block body)

pub length-blocks_of : (living : BTreeMap ℕ Body) (made : ℕ) → length (blocks_of living made) ≡ made
length-blocks_of living made = length-map-range_with_len (block_at living) 0 made

pub get_or-blocks_of : (living : BTreeMap ℕ Body) (made k : ℕ) (d : Block) → k < made → get_or (blocks_of living made) k d ≡ block_at living k
get_or-blocks_of living made k d h = get_or-map-range_with_len (block_at living) 0 made k k d h (omega arith)

-- the object of a number that was given
pub slice_get-blocks_of : (living : BTreeMap ℕ Body) (made k : ℕ) → k < made → slice_get (blocks_of living made) k ≡ Some (block_at living k)
slice_get-blocks_of living made k h =
    let n : length (blocks_of living made) ≡ made = length-blocks_of living made in
    slice_get-get_or (blocks_of living made) k ended_block (omega arith) ∙ ap Some (get_or-blocks_of living made k ended_block h)

if_living_block : (o : Option Body) → if_alive (Some (block_of o)) ≡ if_living o
if_living_block None = refl
if_living_block (Some body) = refl

-- only living objects can be used
pub used : (living : BTreeMap ℕ Body) (made : ℕ) → ((k : ℕ) → made ≤ k → get nat_cmp living k ≡ None) → (k : ℕ) → if_alive (slice_get (blocks_of living made) k) ≡ if_living (get nat_cmp living k)
used living made unmade k = elim (within k) [ inl h ↦ ap if_alive (slice_get-blocks_of living made k h) ∙ if_living_block (get nat_cmp living k) | inr h ↦ past h ]
  where
    within : (k : ℕ) → (k < made) ⊎ (made ≤ k)
    within k = grind (arith, nat_tests)

    past : made ≤ k → if_alive (slice_get (blocks_of living made) k) ≡ if_living (get nat_cmp living k)
    past h =
        let n : length (blocks_of living made) ≡ made = length-blocks_of living made in
        ap if_alive (slice_get_past (blocks_of living made) k (omega arith)) ∙ sym (ap if_living (unmade k h))

-- a map with another value, or none, under one key
abbrev pub IsChange : BTreeMap ℕ Body → BTreeMap ℕ Body → ℕ → Option Body → Type 0
IsChange old new k w = (q : ℕ) → get nat_cmp new q ≡ cond (k == q) w (get nat_cmp old q)

pub change_from : (old new : BTreeMap ℕ Body) (k : ℕ) (w : Option Body) → UpdatesBy nat_cmp (nat_cmp k) old new w → IsChange old new k w
change_from old new k w updates q = updates.0 q ∙ ap (λ b. cond b w (get nat_cmp old q)) (unsigned_tied k q)

-- what is written through a borrow of the value under a key
pub change_through : (old new : BTreeMap ℕ Body) (k : ℕ) (before after : Body) → WritesThrough nat_cmp (nat_cmp k) old after new → get nat_cmp old k ≡ Some before → IsChange old new k (Some after)
change_through old new k before after writes at = change_from old new k (Some after) (writes.3 (rw at refl))

module _ (old new : BTreeMap ℕ Body) (k : ℕ) (w : Option Body) (change : IsChange old new k w) where
  pub at_key : get nat_cmp new k ≡ w
  at_key = grind (arith, nat_tests, change k)

  pub at_other : (q : ℕ) → q ≢ k → get nat_cmp new q ≡ get nat_cmp old q
  at_other q apart = grind (arith, nat_tests, change q)

  -- one object is another
  pub changed : (made : ℕ) → blocks_of new made ≡ set (blocks_of old made) k (block_of w)
  changed made = same_lists (blocks_of new made) (set (blocks_of old made) k (block_of w)) (length-blocks_of new made ∙ sym (length-set (blocks_of old made) k (block_of w) ∙ length-blocks_of old made)) (λ q d h. at q d (omega (arith, length-blocks_of new made)))
    where
      at : (q : ℕ) (d : Block) → q < made → get_or (blocks_of new made) q d ≡ get_or (set (blocks_of old made) k (block_of w)) q d
      at q d h = get_or-blocks_of new made q d h ∙ elim (eqb_tells q k) [
        | inl e ↦ ap block_of (ap (get nat_cmp new) e.1 ∙ at_key) ∙ sym (here e.1)
        | inr e ↦ ap block_of (at_other q e.1) ∙ sym (get_or-set_other (blocks_of old made) k q (block_of w) d e.1 ∙ get_or-blocks_of old made q d h)
      ]
        where
          here : q ≡ k → get_or (set (blocks_of old made) k (block_of w)) q d ≡ block_of w
          here e =
              let n : length (blocks_of old made) ≡ made = length-blocks_of old made in
              rw e (get_or-set_same (blocks_of old made) k (block_of w) d (omega arith))

  -- an object more
  pub appended : blocks_of new (k + 1) ≡ blocks_of old k ++ block_of w ∷ []
  appended = map-range_with_len_more (block_at new) 0 k k (omega arith) ∙ ap (λ b. blocks_of new k ++ block_of b ∷ []) at_key ∙ ap (λ bs. bs ++ block_of w ∷ []) before
    where
      before : blocks_of new k ≡ blocks_of old k
      before = changed k ∙ set_past (blocks_of old k) k (block_of w) (omega (arith, length-blocks_of old k))

  -- the cells that are alive, with the old object's and without the new one's
  pub recounted : (made : ℕ) → k < made → cells_alive (blocks_of new made) + living_cells (block_at old k) ≡ cells_alive (blocks_of old made) + living_cells (block_of w)
  recounted made h =
      let n : length (blocks_of old made) ≡ made = length-blocks_of old made in
      ap (λ bs. cells_alive bs + living_cells (block_at old k)) (changed made) ∙ ap (λ b. cells_alive (set (blocks_of old made) k (block_of w)) + living_cells b) (sym (get_or-blocks_of old made k ended_block h))
      ∙ sum_by-set living_cells (blocks_of old made) k (block_of w) ended_block (omega arith)

  pub counted_more : cells_alive (blocks_of new (k + 1)) ≡ cells_alive (blocks_of old k) + living_cells (block_of w)
  counted_more = ap cells_alive appended ∙ sum_by_push living_cells (blocks_of old k) (block_of w)
