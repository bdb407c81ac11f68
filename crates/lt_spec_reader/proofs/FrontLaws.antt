-- One line more in its place, or none.
use Rattle.std.proofs.Common.{◌≡◌, ℕ, zero, suc, ◌+◌, ◌<◌, ◌≤◌, Bool, true, false, List, [], ◌∷◌, ◌++◌, length, take, drop, get_or, map, Option, Some, None, refl, sym, ap, ◌∙◌, subst, arith, length-append}
use Rattle.std.specs.Prelude.{◌&&◌, if◌then◌else◌, IsTrue}
use Rattle.std.specs.List.{list_all}
use Rattle.std.proofs.lemmas.List.{take_more, append-nil, map-append, length-map, length-take, drop_all}
use Rattle.lt_tree.specs.Typing.Programs.{Program}
use Rattle.lt_entry.specs.Lines.{Row, rows_of, count_of_lines}
use Rattle.lt_entry.specs.Naming.{Scope}
use Rattle.lt_entry.specs.SpecificationLines.{Line, line_words}
use Rattle.lt_entry.specs.Conditions.{fits, entry_of, scope_behind, needs_free}
use Rattle.lt_entry.specs.Specifications.{Specification, specification_in, words_in, all_fit, IsFront, IsSpecification, unfree_rows, unfree_lines, missing_entry, faulty_lines, IsFirstBadLine}
use Rattle.lt_spec_reader.specs.Fronts.{IsNext, AreFirst, AreLongest}
use Rattle.lt_spec_reader.proofs.Bools.{both, and_true}

cancel : {A : Type 0} (xs ys zs : List A) → xs ++ ys ≡ xs ++ zs → ys ≡ zs
cancel [] ys zs h = h
cancel (x ∷ xs) ys zs h = cancel xs ys zs (cc)

head_is : {A : Type 0} (a b : A) → a ∷ [] ≡ b ∷ [] → a ≡ b
head_is a b h = cc

pub one_longer : {A : Type 0} (xs : List A) (x : A) → length (xs ++ x ∷ []) ≡ length xs + 1
one_longer xs x = omega (arith, length-append xs (x ∷ []))

-- the words of one row more
words_more : (rows : List Row) (k : ℕ) (row : Row) → k < length rows → row ≡ get_or rows k row → words_in (take (k + 1) rows) ≡ words_in (take k rows) ++ row.words ∷ []
words_more rows k row h is =
    ap words_in (take_more rows k row h ∙ ap (λ r. take k rows ++ r ∷ []) (sym is)) ∙ map-append (λ (row : Row). row.words) (take k rows) (row ∷ [])

module _ (program : Program) (rows : List Row) where
  all_fit-more : (before lines : List Line) (line : Line) → all_fit program rows before (lines ++ line ∷ []) ≡ (all_fit program rows before lines && fits program rows (before ++ lines) line)
  all_fit-more before [] line = and_true (fits program rows before line) ∙ ap (λ b. fits program rows b line) (sym (append-nil before))
  all_fit-more before (l ∷ lines) line =
      ap (λ b. fits program rows before l && b) (all_fit-more (before ++ l ∷ []) lines line ∙ ap (λ b. all_fit program rows (before ++ l ∷ []) lines && fits program rows b line) (regroup before l lines))
      ∙ sym (and_assoc (fits program rows before l) (all_fit program rows (before ++ l ∷ []) lines) (fits program rows (before ++ l ∷ lines) line))
    where
      regroup : (xs : List Line) (x : Line) (ys : List Line) → (xs ++ x ∷ []) ++ ys ≡ xs ++ x ∷ ys
      regroup [] x ys = refl
      regroup (y ∷ xs) x ys = ap (λ l. y ∷ l) (regroup xs x ys)

      and_assoc : (a b c : Bool) → ((a && b) && c) ≡ (a && (b && c))
      and_assoc true b c = refl
      and_assoc false b c = refl

  -- the first lines, with the next
  pub first_more : (lines : List Line) (k : ℕ) (row : Row) (words : List (List ℕ)) (line : Line) → AreFirst program rows lines → length lines ≡ k → k < length rows → row ≡ get_or rows k row → words ≡ row.words → IsNext program rows lines words (Some line)
      → AreFirst program rows (lines ++ line ∷ [])
  first_more lines k row words line are count within is of next = record {
    written =
        ap (λ n. words_in (take n rows)) (one_longer lines line ∙ ap (λ n. n + 1) count) ∙ words_more rows k row within is
        ∙ ap (λ n. words_in (take n rows) ++ row.words ∷ []) (sym count) ∙ ap (λ l. l ++ row.words ∷ []) are.written ∙ ap (λ w. map line_words lines ++ w ∷ []) (sym of ∙ sym next.0)
        ∙ sym (map-append line_words lines (line ∷ []));
    fit = all_fit-more [] lines line ∙ rw (are.fit, next.1) refl;
  }

  -- no line is the next
  pub longest_before : (lines : List Line) (k : ℕ) (row : Row) (words : List (List ℕ)) → AreFirst program rows lines → length lines ≡ k → k < length rows → row ≡ get_or rows k row → words ≡ row.words → IsNext program rows lines words None
      → AreLongest program rows lines
  longest_before lines k row words are count within is of next line more =
      let fit = both (all_fit program rows [] lines) (fits program rows lines line) (sym (all_fit-more [] lines line) ∙ more.fit) in
      let written : map line_words lines ++ row.words ∷ [] ≡ map line_words lines ++ line_words line ∷ [] =
      ap (λ l. l ++ row.words ∷ []) (sym are.written) ∙ ap (λ n. words_in (take n rows) ++ row.words ∷ []) count ∙ sym (words_more rows k row within is)
      ∙ ap (λ n. words_in (take n rows)) (sym (one_longer lines line ∙ ap (λ n. n + 1) count)) ∙ more.written ∙ map-append line_words lines (line ∷ []) in
      let same : row.words ≡ line_words line = head_is _ _ (cancel (map line_words lines) _ _ written) in
      let fails : fits program rows lines line ≡ false = next line (sym same ∙ sym of) in
      let holds : fits program rows lines line ≡ true = fit.1 in
      absurd (cc)

  -- no line is left
  pub longest_all : (lines : List Line) → length lines ≡ length rows → AreLongest program rows lines
  longest_all lines all line more =
      let words : length (words_in (take (length (lines ++ line ∷ [])) rows)) ≡ length (map line_words (lines ++ line ∷ [])) = ap length more.written in
      let taken : length (words_in (take (length (lines ++ line ∷ [])) rows)) ≡ length (take (length (lines ++ line ∷ [])) rows) = length-map (take (length (lines ++ line ∷ [])) rows) (λ (row : Row). row.words) in
      let written : length (map line_words (lines ++ line ∷ [])) ≡ length (lines ++ line ∷ []) = length-map (lines ++ line ∷ []) line_words in
      absurd (omega (arith, length-take (length (lines ++ line ∷ [])) rows, one_longer lines line))

  pub none_first : AreFirst program rows []
  none_first = record { written = refl; fit = refl }

-- ---- the first bad line

module _ (program : Program) (text : List ℕ) where
  front_is : (rows : List Row) (lines : List Line) → rows ≡ rows_of text → AreFirst program rows lines → IsFront program text lines
  front_is rows lines is are = record {
    written = ap (λ r. words_in (take (length lines) r)) (sym is) ∙ are.written;
    fit = ap (λ r. all_fit program r [] lines) (sym is) ∙ are.fit;
  }

  longest_is : (rows : List Row) (lines : List Line) → rows ≡ rows_of text → AreLongest program rows lines → (line : Line) → IsFront program text (lines ++ line ∷ []) → ⊥
  longest_is rows lines is longest line front = longest line (record {
    written = ap (λ r. words_in (take (length (lines ++ line ∷ [])) r)) is ∙ front.written;
    fit = ap (λ r. all_fit program r [] (lines ++ line ∷ [])) is ∙ front.fit;
  })

  pub bad_is : (rows : List Row) (lines : List Line) (number : ℕ) (others : List ℕ) → rows ≡ rows_of text → AreFirst program rows lines → AreLongest program rows lines
      → (unfree_lines program rows (entry_of program lines) lines ++ map (λ row. row.number) (drop (length lines) rows)) ++ missing_entry text lines ≡ number ∷ others
      → IsFirstBadLine program text number
  bad_is rows lines number others is are longest faulty = record {
    lines = lines;
    front = front_is rows lines is are;
    longest = longest_is rows lines is longest;
    others = others;
    first = ap (λ r. (unfree_lines program r (entry_of program lines) lines ++ map (λ (row : Row). row.number) (drop (length lines) r)) ++ missing_entry text lines) (sym is) ∙ faulty;
  }

  -- no line names an entry, since there is none
  pub bad_none : (rows : List Row) → rows ≡ rows_of text → rows ≡ [] → IsFirstBadLine program text (suc (count_of_lines text))
  bad_none rows is none = bad_is rows [] (suc (count_of_lines text)) [] is (none_first program rows) (longest_all program rows [] (sym (ap length none))) (rw none refl)

  -- the first line names no entry
  pub bad_first : (row : Row) (rows : List Row) → row ∷ rows ≡ rows_of text → IsNext program (row ∷ rows) [] row.words None → IsFirstBadLine program text row.number
  bad_first row rows is next =
      bad_is (row ∷ rows) [] row.number (map (λ row. row.number) rows ++ missing_entry text []) is (none_first program (row ∷ rows))
      (longest_before program (row ∷ rows) [] 0 row row.words (none_first program (row ∷ rows)) refl (omega arith) refl refl next) refl

  module _ (rows : List Row) (lines : List Line) (entry : ℕ) (is : rows ≡ rows_of text) (are : AreFirst program rows lines) (first : entry_of program lines ≡ Some entry) where
    abbrev scope : Scope
    scope = scope_behind program rows entry lines

    not_missing : (ls : List Line) → entry_of program ls ≡ Some entry → missing_entry text ls ≡ []
    not_missing [] h = absurd (cc)
    not_missing (l ∷ ls) h = refl

    unfree_is : unfree_lines program rows (entry_of program lines) lines ≡ unfree_rows scope rows rows lines
    unfree_is = ap (λ o. unfree_lines program rows o lines) first

    -- the cells of a requirement aren't free
    pub bad_unfree : (number : ℕ) (others : List ℕ) → AreLongest program rows lines → unfree_rows scope rows rows lines ≡ number ∷ others → IsFirstBadLine program text number
    bad_unfree number others longest unfree =
        bad_is rows lines number _ is are longest
        (ap (λ l. (l ++ map (λ (row : Row). row.number) (drop (length lines) rows)) ++ missing_entry text lines) (unfree_is ∙ unfree))

    behind : (k : ℕ) (rs : List Row) (row : Row) → k < length rs → row ≡ get_or rs k row → (others : List Row) × (drop k rs ≡ row ∷ others)
    behind k [] row within at = absurd (omega (arith, within))
    behind zero (r ∷ rs) row within at = (rs, ap (λ x. x ∷ rs) (sym at))
    behind (suc k) (r ∷ rs) row within at = behind k rs row (omega (arith, within)) at

    -- the line behind those that fit
    pub bad_behind : (row : Row) → AreLongest program rows lines → unfree_rows scope rows rows lines ≡ [] → length lines < length rows → row ≡ get_or rows (length lines) row → IsFirstBadLine program text row.number
    bad_behind row longest free within at =
        let found = behind (length lines) rows row within at in
        bad_is rows lines row.number _ is are longest
        (ap (λ l. (l ++ map (λ (row : Row). row.number) (drop (length lines) rows)) ++ missing_entry text lines) (unfree_is ∙ free)
        ∙ ap (λ l. map (λ (row : Row). row.number) l ++ missing_entry text lines) found.1)

    all_free : (rs : List Row) (ls : List Line) → length ls ≡ length rs → unfree_rows scope rows rs ls ≡ [] → list_all (needs_free scope rows) ls ≡ true
    all_free rs [] count h = refl
    all_free [] (l ∷ ls) count h = absurd (omega (arith, count))
    all_free (r ∷ rs) (l ∷ ls) count h = by (needs_free scope rows l) refl h (all_free rs ls (omega (arith, count)))
      where
        by : (b : Bool) → needs_free scope rows l ≡ b → (if b then unfree_rows scope rows rs ls else r.number ∷ unfree_rows scope rows rs ls) ≡ []
            → (unfree_rows scope rows rs ls ≡ [] → list_all (needs_free scope rows) ls ≡ true) → list_all (needs_free scope rows) (l ∷ ls) ≡ true
        by true e h next = rw (e, next h) refl
        by false e h next = absurd (cc)

    -- all lines fit
    pub all_say : (it : Specification) → length lines ≡ length rows → unfree_rows scope rows rows lines ≡ [] → it ≡ specification_in scope entry lines → IsSpecification program text it
    all_say it all free says = record {
      lines = lines;
      all = all ∙ ap length is;
      front = front_is rows lines is are;
      entry = entry;
      first = first;
      free = ap (λ r. list_all (needs_free (scope_behind program r entry lines) r) lines) (sym is) ∙ all_free rows lines all free;
      says = says ∙ ap (λ r. specification_in (scope_behind program r entry lines) entry lines) is;
    }
