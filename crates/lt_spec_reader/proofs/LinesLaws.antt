-- Lines that are read row by row.
use Rattle.std.proofs.Common.{◌≡◌, ℕ, zero, suc, ◌+◌, ◌<◌, ◌≤◌, List, [], ◌∷◌, ◌++◌, length, take, get_or, map, Some, None, refl, sym, ap, ◌∙◌, subst, arith}
use Rattle.std.proofs.lemmas.List.{length-map, length-take, map-append}
use Rattle.lt_tree.specs.declared.typed.program.Program as typed
use Rattle.lt_tree.specs.Typing.Programs.{Program}
use Rattle.lt_tree.specs.Typing.ProgramView.{program_of}
use Rattle.lt_entry.specs.Lines.{Row}
use Rattle.lt_entry.specs.SpecificationLines.{Line, line_words}
use Rattle.lt_entry.specs.Specifications.{words_in}
use Rattle.lt_spec_reader.specs.declared.state.State.{State}
use Rattle.lt_spec_reader.specs.Fronts.{IsNext, AreFirst, AreLongest}
use Rattle.lt_spec_reader.specs.States.{IsBehind, AreRead}
use Rattle.lt_spec_reader.proofs.FrontLaws.{first_more, longest_before, longest_all}

mapped_length : {A B : Type 0} (f : A → B) (xs : List A) → length (map f xs) ≡ length xs
mapped_length f [] = refl
mapped_length f (x ∷ xs) = ap suc (mapped_length f xs)

mapped_at : {A B : Type 0} (f : A → B) (xs : List A) (i : ℕ) (x : A) → i < length xs → x ≡ get_or xs i x → f x ≡ get_or (map f xs) i (f x)
mapped_at f [] i x within is = absurd (omega (arith, within))
mapped_at f (y ∷ xs) zero x within is = ap f is
mapped_at f (y ∷ xs) (suc i) x within is = mapped_at f xs i x (omega (arith, within)) is

pub short : (program : Program) (rows : List Row) (lines : List Line) → AreFirst program rows lines → length lines ≤ length rows
short program rows lines are =
    let words : length (words_in (take (length lines) rows)) ≡ length (map line_words lines) = ap length are.written in
    let taken : length (words_in (take (length lines) rows)) ≡ length (take (length lines) rows) = length-map (take (length lines) rows) (λ (row : Row). row.words) in
    let written : length (map line_words lines) ≡ length lines = length-map lines line_words in
    omega (arith, length-take (length lines) rows)

module _ {A B : Type 0} (f : A → Row) (g : B → Line) (program : typed.Program) (entry : ℕ) (rows : List A) (lines : List B) (i : ℕ) (count : length lines ≡ i) where
  counted : length (map g lines) ≡ i
  counted = mapped_length g lines ∙ count

  within_rows : i < length rows → i < length (map f rows)
  within_rows h = omega (arith, h, mapped_length f rows)

  -- the next line doesn't fit
  pub read_stops : (state : State) (row : A) → IsBehind program (map f rows) entry (map g lines) state → AreFirst (program_of program) (map f rows) (map g lines) → i < length rows → row ≡ get_or rows i row
      → IsNext (program_of program) (map f rows) (map g lines) (f row).words None → AreRead program (map f rows) entry (map g lines) state
  read_stops state row behind first within is next = record {
    behind = behind;
    first = first;
    longest = longest_before (program_of program) (map f rows) (map g lines) i (f row) (f row).words first counted (within_rows within) (mapped_at f rows i row within is) refl next;
  }

  -- the next line fits
  pub read_more : (row : A) (line : B) → AreFirst (program_of program) (map f rows) (map g lines) → i < length rows → row ≡ get_or rows i row
      → IsNext (program_of program) (map f rows) (map g lines) (f row).words (Some (g line)) → AreFirst (program_of program) (map f rows) (map g (lines ++ line ∷ []))
  read_more row line first within is next =
      subst (AreFirst (program_of program) (map f rows)) (sym (map-append g lines (line ∷ [])))
      (first_more (program_of program) (map f rows) (map g lines) i (f row) (f row).words (g line) first counted (within_rows within) (mapped_at f rows i row within is) refl next)

  -- all lines fit
  pub read_ends : (state : State) → IsBehind program (map f rows) entry (map g lines) state → AreFirst (program_of program) (map f rows) (map g lines) → length rows ≤ i → AreRead program (map f rows) entry (map g lines) state
  read_ends state behind first past = record {
    behind = behind;
    first = first;
    longest = longest_all (program_of program) (map f rows) (map g lines) (omega (arith, counted, mapped_length f rows, short (program_of program) (map f rows) (map g lines) first, past));
  }
