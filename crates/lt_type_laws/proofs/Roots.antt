-- The names by which an input sets cells, where types have other numbers: the cells of a name are got at alike by their types, or they are those of its block.
use Rattle.std.proofs.Common.{◌≡◌, ℕ, zero, suc, List, [], ◌∷◌, ◌++◌, map, length, Option, Some, None, true, refl, sym, ap, ◌∙◌, subst}
use Rattle.std.proofs.lemmas.List.{append_assoc}
use Rattle.std.specs.Prelude.{slice_get}
use Rattle.std.specs.List.{AllByRecursion}
use Rattle.lt_model.specs.declared.cell.Shape.{Shape}
use Rattle.lt_model.specs.declared.cell.ShapeCell.{ShapeCell}
use Rattle.lt_model.specs.declared.input.BlockIn.{BlockIn}
use Rattle.lt_model.specs.declared.run.End.{End}
use Rattle.lt_model.specs.State.{Gives, Ends}
use Rattle.lt_ir.specs.declared.variable.Variable.TheVariants.{Parameter}
use Rattle.lt_ir.specs.declared.code.Static.{Static}
use Rattle.lt_ir.specs.Running.{Bound, At, Answer, Step, ◌>>=◌, gives, created, block_among}
use Rattle.lt_ir.specs.Starting.{Root, start_blocks, named, parameter_roots, static_roots}
use Rattle.lt_type_laws.specs.Renumbered.{shape_cell_with, shape_with, named_with, at_with}
use Rattle.lt_type_laws.specs.TypeLists.{AreOf}
use Rattle.lt_type_laws.proofs.Memory.{Comparison, Fits, ShapeMeets, ShapeFits}
use Rattle.lt_type_laws.proofs.Alike.{other, Alike, both_give, both_end, Same, alike_then}
use Rattle.lt_type_laws.proofs.Machine.{ShapesFit, created_same}
use Rattle.lt_type_laws.proofs.Standing.{standing}
use Rattle.lt_type_laws.proofs.Growing.{Grown, Grows, as_before, CreatedBehind, created_so}

abbrev pub static_with : (ℕ → ℕ) → Static → Static
static_with r it = record { block = named_with r it.block; cells = it.cells; writable = it.writable }

abbrev pub root_with : (ℕ → ℕ) → Root → Root
root_with r root = record { name = root.name; block = root.block; cells = map (shape_cell_with r) root.cells }

-- what stands in a list stands there with more behind it
got_before : {A : Type 0} (xs more : List A) (k : ℕ) (x : A) → slice_get xs k ≡ Some x → slice_get (xs ++ more) k ≡ Some x
got_before [] more k x e = cc
got_before (y ∷ ys) more zero x e = e
got_before (y ∷ ys) more (suc k) x e = got_before ys more k x e

got_last : {A : Type 0} (xs : List A) (x : A) → slice_get (xs ++ x ∷ []) (length xs) ≡ Some x
got_last [] x = refl
got_last (y ∷ ys) x = got_last ys x

module _ (seen : Comparison) where
  abbrev S : {A : Type 0} → Step A → Step A → Type 0
  S s t = Same seen s t

  -- a root's cells are got at alike by their types, or they are those of its block
  pub data Reached (blocks : List (List ShapeCell)) (root : Root) : Type 0 where
    by_types : ShapeMeets seen root.cells → Reached blocks root
    in_block : slice_get blocks root.block ≡ Some root.cells → Reached blocks root

  abbrev pub AllReached : List (List ShapeCell) → List Root → Type 0
  AllReached blocks roots = AllByRecursion (λ (root : Root). Reached blocks root) roots

  reached_still : (blocks more : List (List ShapeCell)) (root : Root) → Reached blocks root → Reached (blocks ++ more) root
  reached_still blocks more root (by_types h) = by_types h
  reached_still blocks more root (in_block e) = in_block (got_before blocks more root.block root.cells e)

  pub all_still : (blocks more : List (List ShapeCell)) (roots : List Root) → AllReached blocks roots → AllReached (blocks ++ more) roots
  all_still blocks more [] h = tt
  all_still blocks more (root ∷ roots) h = (reached_still blocks more root h.0, all_still blocks more roots h.1)

  -- ---- steps that find roots

  -- two steps that give such answers in such states where these roots are reached
  pub record Sets {A : Type 0} (roots : List Root) (s t : Step A) : Type 0 where
    pub alike : (at : At) → Fits seen at.memory → AllReached (standing at.memory) roots → Alike seen (s at) (t (at_with seen.numbers at))

  sets_on : {A B : Type 0} (roots : List Root) (before : List (List ShapeCell)) (m n : Answer A) (f g : A → Step B) → Alike seen m n → Grown before m → AllReached before roots → ((a : A) → Sets roots (f a) (g a))
      → Alike seen (elim (m) as (λ _. Answer B) [ Gives x at ↦ f x at | Ends end at ↦ Ends end at ]) (elim (n) as (λ _. Answer B) [ Gives x at ↦ g x at | Ends end at ↦ Ends end at ])
  sets_on roots before m n f g (both_give {a} {at} fits) grown reached k = (k a).alike at fits (subst (λ blocks. AllReached blocks roots) (sym grown.1) (all_still before grown.0 roots reached))
  sets_on roots before m n f g both_end grown reached k = both_end

  pub then_sets : {A B : Type 0} (roots : List Root) (s t : Step A) (f g : A → Step B) → Grows s → Sets roots s t → ((a : A) → Sets roots (f a) (g a)) → Sets roots (s >>= f) (t >>= g)
  then_sets roots s t f g grows h k = record { alike = λ at fits reached. sets_on roots (standing at.memory) (s at) (t (other seen at)) f g (h.alike at fits reached) (grows.grown at) reached k }

  -- and behind it what does the same anywhere
  pub sets_then : {A B : Type 0} (roots : List Root) (s t : Step A) (f g : A → Step B) → Sets roots s t → ((a : A) → S (f a) (g a)) → Sets roots (s >>= f) (t >>= g)
  sets_then roots s t f g h k = record { alike = λ at fits reached. alike_then seen (s at) (t (other seen at)) f g (h.alike at fits reached) k }

  pub anywhere : {A : Type 0} (roots : List Root) (s t : Step A) → S s t → Sets roots s t
  anywhere roots s t h = record { alike = λ at fits reached. h.alike at fits }

  -- ---- blocks of the input

  -- both give the same roots, whose cells have the other numbers
  pub data Rooted (before : List (List ShapeCell)) : Answer (List Root) → Answer (List Root) → Type 0 where
    both_root : {roots : List Root} {at : At} (more : List (List ShapeCell)) → standing at.memory ≡ before ++ more → AllReached (standing at.memory) roots → Fits seen at.memory
        → Rooted before (Gives roots at) (Gives (map (root_with seen.numbers) roots) (at_with seen.numbers at))
    both_over : {end : End} {at : At} → Rooted before (Ends end at) (Ends end (at_with seen.numbers at))

  one_root : (root : Root) (before : List (List ShapeCell)) (m n : Answer (List Root)) → root.block ≡ length before → Rooted (before ++ root.cells ∷ []) m n
      → Rooted before (elim (m) as (λ _. Answer (List Root)) [ Gives roots at ↦ Gives (root ∷ roots) at | Ends end at ↦ Ends end at ])
      (elim (n) as (λ _. Answer (List Root)) [ Gives roots at ↦ Gives (root_with seen.numbers root ∷ roots) at | Ends end at ↦ Ends end at ])
  one_root root before m n e (both_root {roots} {at} more grown reached fits) =
      both_root (root.cells ∷ more) (grown ∙ append_assoc before (root.cells ∷ []) more)
      (in_block (ap (λ blocks. slice_get blocks root.block) grown ∙ got_before (before ++ root.cells ∷ []) more root.block root.cells (ap (slice_get (before ++ root.cells ∷ [])) e ∙ got_last before root.cells)), reached)
      fits
  one_root root before m n e both_over = both_over

  blocks_rooted : (its : List BlockIn) → AreOf seen.held its → (at : At) → Fits seen at.memory → Rooted (standing at.memory) (start_blocks its at) (start_blocks (map (named_with seen.numbers) its) (other seen at))
  blocks_rooted [] h at fits = let it = as_before (standing at.memory) in both_root it.0 it.1 tt fits
  blocks_rooted (it ∷ its) h at fits =
      by (standing at.memory) (created it.shape true at) (created (shape_with seen.numbers it.shape) true (other seen at)) ((created_same seen it.shape true h.0).alike at fits) (created_so it.shape true at) (blocks_rooted its h.1)
    where
      by : (before : List (List ShapeCell)) (m n : Answer ℕ) → Alike seen m n → CreatedBehind before it.shape m
          → ((at : At) → Fits seen at.memory → Rooted (standing at.memory) (start_blocks its at) (start_blocks (map (named_with seen.numbers) its) (other seen at)))
          → Rooted before (elim (m) as (λ _. Answer (List Root)) [ Gives block at ↦ (start_blocks its >>= (λ roots. gives (record { name = it.name; block = block; cells = it.shape.cells } ∷ roots))) at | Ends end at ↦ Ends end at ])
          (elim (n) as (λ _. Answer (List Root)) [ Gives block at ↦ (start_blocks (map (named_with seen.numbers) its) >>= (λ roots. gives (record { name = it.name; block = block; cells = map (shape_cell_with seen.numbers) it.shape.cells } ∷ roots))) at | Ends end at ↦ Ends end at ])
      by before m n (both_give {a = block} {at} fits) behind rest =
          one_root (record { name = it.name; block = block; cells = it.shape.cells }) before (start_blocks its at) (start_blocks (map (named_with seen.numbers) its) (other seen at)) behind.1
          (subst (λ blocks. Rooted blocks (start_blocks its at) (start_blocks (map (named_with seen.numbers) its) (other seen at))) behind.0 (rest at fits))
      by before m n both_end behind rest = both_over

  rooted_then : {before : List (List ShapeCell)} (m n : Answer (List Root)) (f g : List Root → Step (Unit {0})) → Rooted before m n → ((roots : List Root) → Sets roots (f roots) (g (map (root_with seen.numbers) roots)))
      → Alike seen {A = Unit {0}} (elim (m) as (λ _. Answer (Unit {0})) [ Gives x at ↦ f x at | Ends end at ↦ Ends end at ]) (elim (n) as (λ _. Answer (Unit {0})) [ Gives x at ↦ g x at | Ends end at ↦ Ends end at ])
  rooted_then m n f g (both_root {roots} {at} more grown reached fits) k = (k roots).alike at fits reached
  rooted_then m n f g both_over k = both_end

  pub blocks_then : (its : List BlockIn) (f g : List Root → Step (Unit {0})) → AreOf seen.held its → ((roots : List Root) → Sets roots (f roots) (g (map (root_with seen.numbers) roots)))
      → S (start_blocks its >>= f) (start_blocks (map (named_with seen.numbers) its) >>= g)
  blocks_then its f g h k = record { alike = λ at fits. rooted_then (start_blocks its at) (start_blocks (map (named_with seen.numbers) its) (other seen at)) f g (blocks_rooted its h at fits) k }

  -- ---- all roots

  named_by : (name : List ℕ) (cells : List ShapeCell) (found : Option ℕ) (roots others : List Root) → others ≡ map (root_with seen.numbers) roots
      → named name (map (shape_cell_with seen.numbers) cells) found others ≡ map (root_with seen.numbers) (named name cells found roots)
  named_by name cells None roots others e = e
  named_by name cells (Some block) roots others e = ap (λ them. record { name = name; block = block; cells = map (shape_cell_with seen.numbers) cells } ∷ them) e

  pub parameters_with : (scope : List Bound) (k : ℕ) (names : List (List ℕ)) (shapes : List Shape) (roots : List Root)
      → parameter_roots scope k names (map (shape_with seen.numbers) shapes) (map (root_with seen.numbers) roots) ≡ map (root_with seen.numbers) (parameter_roots scope k names shapes roots)
  parameters_with scope k [] shapes roots = refl
  parameters_with scope k (name ∷ names) [] roots = refl
  parameters_with scope k (name ∷ names) (shape ∷ shapes) roots =
      named_by name shape.cells (block_among scope (Parameter k)) (parameter_roots scope (suc k) names shapes roots) (parameter_roots scope (suc k) names (map (shape_with seen.numbers) shapes) (map (root_with seen.numbers) roots))
      (parameters_with scope (suc k) names shapes roots)

  pub statics_with : (k : ℕ) (its : List Static) → static_roots k (map (static_with seen.numbers) its) ≡ map (root_with seen.numbers) (static_roots k its)
  statics_with k [] = refl
  statics_with k (it ∷ its) = ap (λ them. record { name = it.block.name; block = k; cells = map (shape_cell_with seen.numbers) it.block.shape.cells } ∷ them) (statics_with (suc k) its)

  abbrev pub StaticsFit : List Static → Type 0
  StaticsFit its = AllByRecursion (λ (it : Static). ShapeFits seen it.block.shape.cells) its

  module _ (blocks : List (List ShapeCell)) where
    named_reached : (name : List ℕ) (cells : List ShapeCell) (found : Option ℕ) (roots : List Root) → ShapeMeets seen cells → AllReached blocks roots → AllReached blocks (named name cells found roots)
    named_reached name cells None roots h g = g
    named_reached name cells (Some block) roots h g = (by_types h, g)

    pub parameters_reached : (scope : List Bound) (k : ℕ) (names : List (List ℕ)) (shapes : List Shape) (roots : List Root) → ShapesFit seen shapes → AllReached blocks roots → AllReached blocks (parameter_roots scope k names shapes roots)
    parameters_reached scope k [] shapes roots h g = g
    parameters_reached scope k (name ∷ names) [] roots h g = g
    parameters_reached scope k (name ∷ names) (shape ∷ shapes) roots h g =
        named_reached name shape.cells (block_among scope (Parameter k)) (parameter_roots scope (suc k) names shapes roots) h.0.1 (parameters_reached scope (suc k) names shapes roots h.1 g)

    pub statics_reached : (k : ℕ) (its : List Static) → StaticsFit its → AllReached blocks (static_roots k its)
    statics_reached k [] h = tt
    statics_reached k (it ∷ its) h = (by_types h.0.1, statics_reached (suc k) its h.1)

    pub both_reached : (roots more : List Root) → AllReached blocks roots → AllReached blocks more → AllReached blocks (roots ++ more)
    both_reached [] more h g = g
    both_reached (root ∷ roots) more h g = (h.0, both_reached roots more h.1 g)
