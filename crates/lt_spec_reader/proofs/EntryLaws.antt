-- The entry that the first row names.
use Rattle.std.proofs.Common.{◌≡◌, ℕ, zero, suc, ◌+◌, ◌<◌, ◌≤◌, Bool, true, false, cond, List, [], ◌∷◌, ◌++◌, length, map, take, drop, get_or, Option, Some, None, refl, sym, ap, ◌∙◌, arith, add-one}
use Rattle.std.specs.Prelude.{◌&&◌, is_some}
use Rattle.std.specs.Str.{bytes_eq}
use Rattle.std.proofs.lemmas.List.{drop_all}
use Rattle.lt_tree.specs.Typing.Programs.{Program}
use Rattle.lt_tree.specs.Typing.Entities.{Function}
use Rattle.lt_entry.specs.Lines.{Row}
use Rattle.lt_entry.specs.SpecificationLines.{Line, line_words, is_in_form, entry_line, block_line, range_line, points_line, stub_line, require_line}
use Rattle.lt_entry.specs.Conditions.{number_from, entry_named, entry_of, fits, fits_where}
use Rattle.lt_entry.specs.ReadingLines.{read_line}
use Rattle.lt_entry.specs.Laws.{LinesAreRead}
use Rattle.lt_spec_reader.specs.Fronts.{IsNext, AreFirst}

-- ---- functions by their names

module _ {A : Type 0} (f : A → Function) (name : List ℕ) where
  other_suc : (k : ℕ) (xs : List A) (i : ℕ) (x : A) → i < length xs → x ≡ get_or xs i x → bytes_eq (f x).name name ≡ false → number_from k name (map f (drop i xs)) ≡ number_from (suc k) name (map f (drop (suc i) xs))
  other_suc k [] i x within is other = absurd (omega (arith, within))
  other_suc k (y ∷ xs) zero x within is other = rw (sym (ap (λ z. bytes_eq (f z).name name) is) ∙ other) refl
  other_suc k (y ∷ xs) (suc i) x within is other = other_suc k xs i x (omega (arith, within)) is other

  pub other_more : (xs : List A) (i : ℕ) (x : A) (all : Option ℕ) → i < length xs → x ≡ get_or xs i x → bytes_eq (f x).name name ≡ false → all ≡ number_from i name (map f (drop i xs)) → all ≡ number_from (i + 1) name (map f (drop (i + 1) xs))
  other_more xs i x all within is other so_far = so_far ∙ other_suc i xs i x within is other ∙ ap (λ n. number_from n name (map f (drop n xs))) (sym (add-one i))

  here_is : (k : ℕ) (xs : List A) (i : ℕ) (x : A) → i < length xs → x ≡ get_or xs i x → bytes_eq (f x).name name ≡ true → number_from k name (map f (drop i xs)) ≡ Some k
  here_is k [] i x within is here = absurd (omega (arith, within))
  here_is k (y ∷ xs) zero x within is here = rw (sym (ap (λ z. bytes_eq (f z).name name) is) ∙ here) refl
  here_is k (y ∷ xs) (suc i) x within is here = here_is k xs i x (omega (arith, within)) is here

  pub found_here : (xs : List A) (i : ℕ) (x : A) (all : Option ℕ) → i < length xs → x ≡ get_or xs i x → bytes_eq (f x).name name ≡ true → all ≡ number_from i name (map f (drop i xs)) → Some i ≡ all
  found_here xs i x all within is here so_far = sym (so_far ∙ here_is i xs i x within is here)

  pub found_nowhere : (xs : List A) (i : ℕ) (all : Option ℕ) → length xs ≤ i → all ≡ number_from i name (map f (drop i xs)) → None ≡ all
  found_nowhere xs i all past so_far = sym (so_far ∙ ap (λ l. number_from i name (map f l)) (drop_all i xs past))

-- ---- the first line

module _ (program : Program) (rows : List Row) (words : List (List ℕ)) (read : LinesAreRead) where
  -- no line is read
  pub none_read : read_line words ≡ None → IsNext program rows [] words None
  none_read none line written = by (is_in_form line) refl
    where
      by : (b : Bool) → is_in_form line ≡ b → (b && fits_where program rows [] line) ≡ false
      by false e = refl
      by true e = let some : read_line words ≡ Some line = (read words line).1 (e, written) in absurd (cc)

  -- the line that is read doesn't fit
  pub none_fits : (it : Line) → read_line words ≡ Some it → fits_where program rows [] it ≡ false → IsNext program rows [] words None
  none_fits it some unfit line written = by (is_in_form line) refl
    where
      by : (b : Bool) → is_in_form line ≡ b → (b && fits_where program rows [] line) ≡ false
      by false e = refl
      by true e =
          let found : read_line words ≡ Some line = (read words line).1 (e, written) in
          let same : it ≡ line = cc in
          ap (fits_where program rows []) (sym same) ∙ unfit

  -- the line names no function that may be an entry
  pub none_named : (name : List ℕ) → read_line words ≡ Some (entry_line name) → entry_named program name ≡ None → IsNext program rows [] words None
  none_named name some none = none_fits (entry_line name) some (ap is_some none)

  pub one_named : (name : List ℕ) (number : ℕ) → read_line words ≡ Some (entry_line name) → entry_named program name ≡ Some number → IsNext program rows [] words (Some (entry_line name)) × (entry_named program name ≡ Some number)
  one_named name number some named =
      let hs = (read words (entry_line name)).0 some in
      ((hs.1, ap is_some named), named)
