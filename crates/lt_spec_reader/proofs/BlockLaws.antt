-- Blocks, as an input has them.
use Rattle.std.proofs.Common.{◌≡◌, ℕ, ◌+◌, ◌<◌, List, [], ◌∷◌, ◌++◌, length, take, get_or, map, sym, ap, ◌∙◌}
use Rattle.lt_model.specs.declared.cell.Shape.{Shape}
use Rattle.lt_model.specs.declared.input.BlockIn.{BlockIn}
use Rattle.lt_spec_reader.proofs.Loops.{mapped_more}

-- one more that is made of an item
pub made_more : {A B : Type 0} (f : A → B) (xs : List A) (i : ℕ) (x : A) (old new : List B) (b : B) → i < length xs → x ≡ get_or xs i x → old ≡ map f (take i xs) → new ≡ old ++ b ∷ [] → b ≡ f x → new ≡ map f (take (i + 1) xs)
made_more f xs i x old new b h is before after same =
    after ∙ ap (λ l. l ++ b ∷ []) before ∙ ap (λ y. map f (take i xs) ++ y ∷ []) same ∙ sym (mapped_more f xs i x h is)

abbrev pub block_named : List ℕ → Shape → BlockIn
block_named name shape = record { name = name; shape = shape }

pub same_block : (name other : List ℕ) (shape its : Shape) → name ≡ other → shape ≡ its → block_named name shape ≡ block_named other its
same_block name other shape its names shapes = ap (λ n. block_named n shape) names ∙ ap (block_named other) shapes
