-- Cells that are among others.
use Rattle.std.proofs.Common.{drop, drop_of_length-le, drop-cons, get_or, length, ◌<◌, ◌≤◌, suc, ◌≡◌, ℕ, List, [], ◌∷◌, Bool, true, false, refl, sym, ap, ap₂, ◌∙◌}
use Rattle.std.specs.Prelude.{◌++◌, ◌||◌}
use Rattle.std.specs.List.{list_any}
use Rattle.lt_model.specs.State.{CellName, same_cell, meets}
use Rattle.lt_mach_parts.specs.Cells.{HeldName, name_of, names_of}

pub any_names : (f : CellName → Bool) (cells : List HeldName) → list_any f (names_of cells) ≡ list_any (λ cell. f (name_of cell)) cells
any_names f [] = refl
any_names f (cell ∷ cells) = ap (λ b. f (name_of cell) || b) (any_names f cells)

or_assoc : (a b c : Bool) → ((a || b) || c) ≡ (a || (b || c))
or_assoc true b c = refl
or_assoc false b c = refl

or_none : (a : Bool) → (a || false) ≡ a
or_none true = refl
or_none false = refl

or_swap : (a b c d : Bool) → ((a || b) || (c || d)) ≡ ((a || c) || (b || d))
or_swap true b c d = refl
or_swap false true true d = refl
or_swap false true false d = refl
or_swap false false true d = refl
or_swap false false false d = refl

any_behind : (f : CellName → Bool) (xs ys : List CellName) → list_any f (xs ++ ys) ≡ (list_any f xs || list_any f ys)
any_behind f [] ys = refl
any_behind f (x ∷ xs) ys = ap (λ b. f x || b) (any_behind f xs ys) ∙ sym (or_assoc (f x) (list_any f xs) (list_any f ys))

pub meets_first : (xs ys others : List CellName) → meets (xs ++ ys) others ≡ (meets xs others || meets ys others)
meets_first xs ys others = any_behind (λ cell. list_any (same_cell cell) others) xs ys

pub meets_second : (xs ys zs : List CellName) → meets xs (ys ++ zs) ≡ (meets xs ys || meets xs zs)
meets_second [] ys zs = refl
meets_second (x ∷ xs) ys zs =
    ap₂ (λ a b. a || b) (any_behind (same_cell x) ys zs) (meets_second xs ys zs)
    ∙ or_swap (list_any (same_cell x) ys) (list_any (same_cell x) zs) (meets xs ys) (meets xs zs)

pub meets_names : (cells others : List HeldName) → list_any (λ cell. list_any (λ other. same_cell (name_of cell) (name_of other)) others) cells ≡ meets (names_of cells) (names_of others)
meets_names [] others = refl
meets_names (cell ∷ cells) others = ap₂ (λ a b. a || b) (sym (any_names (same_cell (name_of cell)) others)) (meets_names cells others)

pub any_at : {X : Type 0} (f : X → Bool) (xs : List X) (i : ℕ) (d : X) → i < length xs → f (get_or xs i d) ≡ true → list_any f (drop i xs) ≡ true
any_at f xs i d h e = rw (drop-cons xs i d h) (ap (λ b. b || list_any f (drop (suc i) xs)) e)

pub any_past : {X : Type 0} (f : X → Bool) (xs : List X) (i : ℕ) → length xs ≤ i → list_any f (drop i xs) ≡ false
any_past f xs i h = ap (list_any f) (drop_of_length-le xs h)
