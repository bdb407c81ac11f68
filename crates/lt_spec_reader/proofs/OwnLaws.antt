-- The names of parameters and blocks, and the parameters that have a default block.
use Rattle.std.proofs.Common.{◌≡◌, ℕ, Bool, true, false, cond, List, [], ◌∷◌, ◌++◌, map, Option, Some, None, refl, sym, ap, ◌∙◌}
use Rattle.std.specs.Prelude.{◌||◌, not, if◌then◌else◌, is_some}
use Rattle.std.specs.List.{list_any, filter, filter_map, cons_option}
use Rattle.std.specs.Str.{bytes_eq}
use Rattle.std.proofs.lemmas.List.Folds.{list_any-append}
use Rattle.lt_tree.specs.Typing.Programs.{Program}
use Rattle.lt_entry.specs.Lines.{Row}
use Rattle.lt_entry.specs.Naming.{Root, Block, block_root, root_among, default_block, parameters_of}
use Rattle.lt_entry.specs.Conditions.{points_at, default_blocks}

-- ---- names

among_any : (roots : List Root) (name : List ℕ) → is_some (root_among roots name) ≡ list_any (λ root. bytes_eq root.name name) roots
among_any [] name = refl
among_any (root ∷ roots) name = one (bytes_eq root.name name) ∙ ap (λ b. bytes_eq root.name name || b) (among_any roots name)
  where
    one : (b : Bool) → is_some (cond b (Some root) (root_among roots name)) ≡ (b || is_some (root_among roots name))
    one true = refl
    one false = refl

any_mapped : {A B : Type 0} (p : B → Bool) (f : A → B) (xs : List A) → list_any p (map f xs) ≡ list_any (λ x. p (f x)) xs
any_mapped p f [] = refl
any_mapped p f (x ∷ xs) = ap (λ b. p (f x) || b) (any_mapped p f xs)

or_assoc : (a b c : Bool) → ((a || b) || c) ≡ (a || (b || c))
or_assoc true b c = refl
or_assoc false b c = refl

-- an object of the name among parameters and blocks, each made of something with a name
pub own_is : {A B C : Type 0} (f : A → Root) (g : B → Block) (h : C → Block) (objects : List A) (made : List B) (blocks : List C) (parameters : List Root) (all : List Block) (name : List ℕ)
    → map f objects ≡ parameters → map g made ++ map h blocks ≡ all
    → is_some (root_among (parameters ++ map block_root all) name) ≡ (list_any (λ it. bytes_eq (f it).name name) objects || list_any (λ it. bytes_eq (g it).name name) made || list_any (λ it. bytes_eq (h it).name name) blocks)
own_is f g h objects made blocks parameters all name are these =
    let p : Root → Bool = λ root. bytes_eq root.name name in
    let q : Block → Bool = λ block. bytes_eq block.name name in
    among_any (parameters ++ map block_root all) name ∙ list_any-append p parameters (map block_root all)
    ∙ ap (λ b. list_any p parameters || b) (any_mapped p block_root all ∙ ap (list_any q) (sym these) ∙ list_any-append q (map g made) (map h blocks))
    ∙ ap (λ l. list_any p l || (list_any q (map g made) || list_any q (map h blocks))) (sym are)
    ∙ sym (or_assoc (list_any p (map f objects)) (list_any q (map g made)) (list_any q (map h blocks)))
    ∙ ap (λ b. (b || list_any q (map g made)) || list_any q (map h blocks)) (any_mapped p f objects)
    ∙ ap (λ b. (list_any (λ it. bytes_eq (f it).name name) objects || b) || list_any q (map h blocks)) (any_mapped q g made)
    ∙ ap (λ b. (list_any (λ it. bytes_eq (f it).name name) objects || list_any (λ it. bytes_eq (g it).name name) made) || b) (any_mapped q h blocks)

-- ---- default blocks

-- picked from those that stay
pub picked : {A B C : Type 0} (f : A → B) (t : B → Bool) (pick : B → Option C) (xs : List A) → filter_map (λ x. pick (f x)) (filter (λ x. not (t (f x))) xs) ≡ filter_map (λ b. if t b then None else pick b) (map f xs)
picked f t pick [] = refl
picked f t pick (x ∷ xs) = one (t (f x)) (picked f t pick xs)
  where
    one : (b : Bool) → filter_map (λ x. pick (f x)) (filter (λ x. not (t (f x))) xs) ≡ filter_map (λ b. if t b then None else pick b) (map f xs)
        → filter_map (λ x. pick (f x)) (cond (not b) (x ∷ filter (λ x. not (t (f x))) xs) (filter (λ x. not (t (f x))) xs)) ≡ cons_option (if b then None else pick (f x)) (filter_map (λ b. if t b then None else pick b) (map f xs))
    one true e = e
    one false e = ap (cons_option (pick (f x))) e

-- the default blocks, made of the parameters of which no row says where they point
pub default_are : {A : Type 0} (program : Program) (rows : List Row) (entry : ℕ) (f : A → Root) (objects : List A) (pointing : List A) (blocks : List Block) → map f objects ≡ parameters_of program entry
    → pointing ≡ filter (λ x. not (list_any (λ row. points_at (f x).name row.words) rows)) objects → blocks ≡ filter_map (λ x. default_block program (f x)) pointing → blocks ≡ default_blocks program rows entry
default_are program rows entry f objects pointing blocks are these made =
    made ∙ ap (filter_map (λ x. default_block program (f x))) these
    ∙ picked f (λ root. list_any (λ row. points_at root.name row.words) rows) (default_block program) objects
    ∙ ap (filter_map (λ parameter. if list_any (λ row. points_at parameter.name row.words) rows then None else default_block program parameter)) are
