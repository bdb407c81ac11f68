-- The first requirement that has a cell that isn't free, along the lines.
use Rattle.std.proofs.Common.{◌≡◌, ℕ, zero, suc, ◌+◌, ◌<◌, ◌≤◌, Bool, true, false, cond, List, [], ◌∷◌, length, drop, get_or, map, slice_get, Option, Some, None, refl, sym, ap, ◌∙◌, arith, add-one}
use Rattle.std.specs.Prelude.{option_map}
use Rattle.std.proofs.lemmas.List.{drop_all}
use Rattle.lt_entry.specs.Lines.{Row}
use Rattle.lt_entry.specs.Naming.{Scope}
use Rattle.lt_entry.specs.SpecificationLines.{Line}
use Rattle.lt_entry.specs.Conditions.{needs_free}
use Rattle.lt_entry.specs.Specifications.{unfree_rows}
use Rattle.lt_spec_reader.specs.Frees.{first_of}

module _ {A B : Type 0} (f : A → Row) (g : B → Line) (scope : Scope) (all : List Row) where
  abbrev pub left : ℕ → List A → List B → List ℕ
  left i rows lines = unfree_rows scope all (map f (drop i rows)) (map g (drop i lines))

  free_suc : (rows : List A) (lines : List B) (i : ℕ) (line : B) → i < length lines → line ≡ get_or lines i line → needs_free scope all (g line) ≡ true → left i rows lines ≡ left (suc i) rows lines
  free_suc rows [] i line within is free = absurd (omega (arith, within))
  free_suc [] (l ∷ lines) zero line within is free = refl
  free_suc [] (l ∷ lines) (suc i) line within is free = refl
  free_suc (r ∷ rows) (l ∷ lines) zero line within is free = rw (sym (ap (λ x. needs_free scope all (g x)) is) ∙ free) refl
  free_suc (r ∷ rows) (l ∷ lines) (suc i) line within is free = free_suc rows lines i line (omega (arith, within)) is free

  pub free_more : (rows : List A) (lines : List B) (i : ℕ) (line : B) (all_left : List ℕ) → i < length lines → line ≡ get_or lines i line → needs_free scope all (g line) ≡ true → all_left ≡ left i rows lines → all_left ≡ left (i + 1) rows lines
  free_more rows lines i line all_left within is free so_far = so_far ∙ free_suc rows lines i line within is free ∙ ap (λ n. left n rows lines) (sym (add-one i))

  stops_at : (rows : List A) (lines : List B) (i : ℕ) (line : B) → i < length lines → line ≡ get_or lines i line → needs_free scope all (g line) ≡ false → option_map (λ row. (f row).number) (slice_get rows i) ≡ first_of (left i rows lines)
  stops_at rows [] i line within is unfree = absurd (omega (arith, within))
  stops_at [] (l ∷ lines) zero line within is unfree = refl
  stops_at [] (l ∷ lines) (suc i) line within is unfree = refl
  stops_at (r ∷ rows) (l ∷ lines) zero line within is unfree = rw (sym (ap (λ x. needs_free scope all (g x)) is) ∙ unfree) refl
  stops_at (r ∷ rows) (l ∷ lines) (suc i) line within is unfree = stops_at rows lines i line (omega (arith, within)) is unfree

  pub free_stops : (rows : List A) (lines : List B) (i : ℕ) (line : B) (all_left : List ℕ) → i < length lines → line ≡ get_or lines i line → needs_free scope all (g line) ≡ false → all_left ≡ left i rows lines
      → option_map (λ row. (f row).number) (slice_get rows i) ≡ first_of all_left
  free_stops rows lines i line all_left within is unfree so_far = stops_at rows lines i line within is unfree ∙ ap first_of (sym so_far)

  none_left : (rows : List Row) → unfree_rows scope all rows [] ≡ []
  none_left [] = refl
  none_left (r ∷ rows) = refl

  pub free_ends : (rows : List A) (lines : List B) (i : ℕ) (all_left : List ℕ) → length lines ≤ i → all_left ≡ left i rows lines → None ≡ first_of all_left
  free_ends rows lines i all_left past so_far =
      sym (ap first_of (so_far ∙ ap (λ l. unfree_rows scope all (map f (drop i rows)) (map g l)) (drop_all i lines past) ∙ none_left (map f (drop i rows))))
