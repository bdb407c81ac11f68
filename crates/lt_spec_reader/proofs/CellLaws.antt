-- Free cells, as they are made.
use Rattle.std.proofs.Common.{◌≡◌, ℕ, ◌+◌, ◌<◌, ◌≤◌, true, List, [], ◌∷◌, ◌++◌, length, take, get_or, map, Option, refl, sym, ap, ◌∙◌, append_assoc}
use Rattle.std.specs.Prelude.{unwrap_or}
use Rattle.std.specs.List.{flat_map}
use Rattle.std.specs.HashMap.{HashMap}
use Rattle.std.proofs.lemmas.List.{take_all, append-nil}
use Rattle.std.proofs.lemmas.List.Folds.{flat_map-map}
use Rattle.std.proofs.lemmas.Grind.{flat_map-append}
use Rattle.lt_model.specs.declared.cell.ShapeCell.{ShapeCell}
use Rattle.lt_model.specs.declared.input.BlockIn.{BlockIn}
use Rattle.lt_model.specs.declared.input.FreeCell.{FreeCell}
use Rattle.lt_model.specs.declared.input.Want.{Want}
use Rattle.lt_model.specs.declared.scalar.DataModel.{DataModel}
use Rattle.lt_tree.specs.Typing.Types.{Void}
use Rattle.lt_meaning.specs.Expressions.{shape}
use Rattle.lt_entry.specs.Naming.{Root, Block, Scope, block_root}
use Rattle.lt_entry.specs.SpecificationLines.{Line}
use Rattle.lt_entry.specs.Meaning.{any_value, zero_start, free_cell, free_cells, only_null, block_in}
use Rattle.lt_spec_reader.specs.Said.{Key, HasSaid}
use Rattle.lt_spec_reader.specs.Cells.{place_at, cell_in}
use Rattle.lt_spec_reader.proofs.Loops.{one_more, mapped_more}

map-same : {A B : Type 0} (f g : A → B) (xs : List A) → ((x : A) → f x ≡ g x) → map f xs ≡ map g xs
map-same f g [] each = refl
map-same f g (x ∷ xs) each = ap (λ y. y ∷ map f xs) (each x) ∙ ap (λ l. g x ∷ l) (map-same f g xs each)

flat_map-same : {A B : Type 0} (f g : A → List B) (xs : List A) → ((x : A) → f x ≡ g x) → flat_map f xs ≡ flat_map g xs
flat_map-same f g [] each = refl
flat_map-same f g (x ∷ xs) each = ap (λ l. l ++ flat_map f xs) (each x) ∙ ap (λ l. g x ++ l) (flat_map-same f g xs each)

-- one more, behind others
pub flat_more : {A B : Type 0} (f : A → List B) (xs : List A) (i : ℕ) (x : A) (front out new : List B) → i < length xs → x ≡ get_or xs i x → out ≡ front ++ flat_map f (take i xs) → new ≡ out ++ f x → new ≡ front ++ flat_map f (take (i + 1) xs)
flat_more f xs i x front out new h is before after =
    after ∙ ap (λ l. l ++ f x) before ∙ append_assoc front (flat_map f (take i xs)) (f x)
    ∙ ap (λ l. front ++ l) (ap (λ l. flat_map f (take i xs) ++ l) (sym (append-nil (f x))) ∙ sym (flat_map-append f (take i xs) (x ∷ [])) ∙ ap (flat_map f) (sym (one_more xs i x h is)))

-- all of them
pub flat_done : {A B : Type 0} (f : A → List B) (xs : List A) (i : ℕ) (front new : List B) → length xs ≤ i → new ≡ front ++ flat_map f (take i xs) → new ≡ front ++ flat_map f xs
flat_done f xs i front new all so_far = so_far ∙ ap (λ l. front ++ flat_map f l) (take_all i xs all)

-- the same, of what items are viewed as
pub flat_mapped_more : {A B C : Type 0} (f : B → List C) (view : A → B) (xs : List A) (i : ℕ) (x : A) (front out new : List C) → i < length xs → x ≡ get_or xs i x → out ≡ front ++ flat_map f (map view (take i xs)) → new ≡ out ++ f (view x) → new ≡ front ++ flat_map f (map view (take (i + 1) xs))
flat_mapped_more f view xs i x front out new h is before after =
    after ∙ ap (λ l. l ++ f (view x)) before ∙ append_assoc front (flat_map f (map view (take i xs))) (f (view x))
    ∙ ap (λ l. front ++ l) (ap (λ l. flat_map f (map view (take i xs)) ++ l) (sym (append-nil (f (view x)))) ∙ sym (flat_map-append f (map view (take i xs)) (view x ∷ [])) ∙ ap (flat_map f) (sym (mapped_more view xs i x h is)))

pub flat_mapped_done : {A B C : Type 0} (f : B → List C) (view : A → B) (xs : List A) (i : ℕ) (front new : List C) → length xs ≤ i → new ≡ front ++ flat_map f (map view (take i xs)) → new ≡ front ++ flat_map f (map view xs)
flat_mapped_done f view xs i front new all so_far = so_far ∙ ap (λ l. front ++ flat_map f (map view l)) (take_all i xs all)

-- ---- one object

-- a cell of which the map has what lines say
free_is : {S : Type 0} (scope : Scope) (lines : List Line) (pointer : Want) (root : Root) (wants : HashMap Key Want S) → HasSaid scope lines wants → (it : ShapeCell) → cell_in wants scope.program.model root.name pointer it ≡ free_cell scope lines pointer root it
free_is scope lines pointer root wants said it =
    ap (λ (o : Option Want). let cell : FreeCell = record {
      at = place_at root.name it.offset;
      ty = it.ty;
      want = unwrap_or o (any_value scope.program.model it.ty pointer);
      start = zero_start it.ty;
    } in cell) (said (place_at root.name it.offset))

pub all_free : {S : Type 0} (scope : Scope) (lines : List Line) (pointer : Want) (root : Root) (wants : HashMap Key Want S) (model : DataModel) (name : List ℕ) (shape : List ShapeCell) (i : ℕ) (front new : List FreeCell)
    → scope.program.model ≡ model → root.name ≡ name → HasSaid scope lines wants → length shape ≤ i → new ≡ front ++ map (cell_in wants model name pointer) (take i shape) → new ≡ front ++ map (free_cell scope lines pointer root) shape
all_free scope lines pointer root wants model name shape i front new model_is name_is said all so_far =
    so_far ∙ ap (λ l. front ++ map (cell_in wants model name pointer) l) (take_all i shape all)
    ∙ ap (λ m. front ++ map (cell_in wants m name pointer) shape) (sym model_is)
    ∙ ap (λ n. front ++ map (cell_in wants scope.program.model n pointer) shape) (sym name_is)
    ∙ ap (λ l. front ++ l) (map-same (cell_in wants scope.program.model root.name pointer) (free_cell scope lines pointer root) shape (free_is scope lines pointer root wants said))

-- ---- blocks

-- an object of this name
abbrev pub root_named : List ℕ → Root
root_named name = record { name = name; type = Void; is_block = true }

-- the cells of a block, as an input has it
abbrev pub block_cells : Scope → List Line → BlockIn → List FreeCell
block_cells scope lines block = map (free_cell scope lines only_null (root_named block.name)) block.shape.cells

pub blocks_free : (scope : Scope) (lines : List Line) (all : List Block) (blocks : List BlockIn) (front new : List FreeCell) → blocks ≡ map (block_in scope.program) all
    → new ≡ front ++ flat_map (block_cells scope lines) blocks → new ≡ front ++ flat_map (λ block. free_cells scope lines only_null (block_root block)) all
blocks_free scope lines all blocks front new are put =
    put ∙ ap (λ l. front ++ flat_map (block_cells scope lines) l) are
    ∙ ap (λ l. front ++ l) (flat_map-map (block_cells scope lines) (block_in scope.program) all
    ∙ flat_map-same (λ block. block_cells scope lines (block_in scope.program block)) (λ block. free_cells scope lines only_null (block_root block)) all
    (λ block. map-same (free_cell scope lines only_null (root_named block.name)) (free_cell scope lines only_null (block_root block)) (block_in scope.program block).shape.cells (λ it. refl)))
