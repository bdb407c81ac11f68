-- The named objects of an input, one after the other.
use Rattle.std.proofs.Common.{◌≡◌, ℕ, suc, ◌+◌, ◌<◌, nat_le, List, [], ◌∷◌, length, length-append, Bool, true, false, Some, None, Result, Ok, Err, refl, ap, sym, ◌∙◌, arith, if◌then◌else◌}
use Rattle.lt_model.specs.declared.input.BlockIn.{BlockIn}
use Rattle.lt_model.specs.declared.cell.Shape.{Shape}
use Rattle.lt_model.specs.Memory.{Memory, Block, create, new_block, create_shaped, cells_alive, most_cells}
use Rattle.lt_model.specs.State.{Gives}
use Rattle.lt_ir.specs.Running.{At, created}
use Rattle.lt_ir.specs.Starting.{start_blocks}
use Rattle.lt_acts.specs.Acts.{on}
use Rattle.lt_acts.specs.Ends.{end_of}
use Rattle.lt_acts.specs.declared.flow.Stop.{Stop}
use Rattle.lt_acts.specs.declared.flow.Stop.TheVariants.{Over, NoMemory}
use Rattle.lt_mach.specs.Blocks.{Made, roots_from}
use Rattle.lt_mach.proofs.Passing.{first_gives, first_ends}
use Rattle.lt_mach.proofs.Filling.{made}

longer : (b : Bool) (m m1 : Memory) (block : Block) → (if b then Some (create m block) else None) ≡ Some m1 → length m1 ≡ suc (length m)
longer true m m1 block e = let h : create m block ≡ m1 = cc in ap length (sym h) ∙ omega (arith, length-append m (block ∷ []))
longer false m m1 block e = absurd (cc)

pub one_longer : (m m1 : Memory) (shape : Shape) → create_shaped m shape true true ≡ Some m1 → length m1 ≡ suc (length m)
unfolding create_shaped
one_longer m m1 shape e = longer (nat_le (cells_alive m + length shape.cells) most_cells) m m1 (new_block shape true true) e

pub one_named : (it : BlockIn) (rest : List BlockIn) (m m1 m2 : Memory) (result : Result ℕ Stop) (at : At) → create_shaped m it.shape true true ≡ Some m1 → Made rest result (length m1) (on m2 at) (start_blocks rest (on m1 at)) → Made (it ∷ rest) result (length m) (on m2 at) (start_blocks (it ∷ rest) (on m at))
one_named it rest m m1 m2 (Ok first) at e h =
    first_gives (created it.shape true) _ (on m at) (on m1 at) (length m) (made it.shape at.scope m m1 (length m) at refl e)
    ∙ first_gives (start_blocks rest) _ (on m1 at) (on m2 at) (roots_from (length m1) rest) h
    ∙ ap (λ n. Gives (record { name = it.name; block = length m; cells = it.shape.cells } ∷ roots_from n rest) (on m2 at)) (one_longer m m1 it.shape e)
one_named it rest m m1 m2 (Err (Over why)) at e h =
    first_gives (created it.shape true) _ (on m at) (on m1 at) (length m) (made it.shape at.scope m m1 (length m) at refl e)
    ∙ first_ends (start_blocks rest) _ (on m1 at) (on m2 at) (end_of why) h
one_named it rest m m1 m2 (Err NoMemory) at e h = tt

-- the names, where the number of the first is known as soon as there is one
pub first_named : (its : List BlockIn) (first n : ℕ) → (0 < length its → first ≡ n) → roots_from first its ≡ roots_from n its
first_named [] first n h = refl
first_named (it ∷ its) first n h = ap (λ k. roots_from k (it ∷ its)) (h (omega arith))
