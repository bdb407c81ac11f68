-- The first lines of a text, row by row.
use Rattle.std.proofs.Common.{◌≡◌, ℕ, zero, suc, Bool, ◌+◌, ◌<◌, ◌≤◌, true, false, List, [], ◌∷◌, ◌++◌, length, take, drop, get_or, map, refl, sym, ap, ◌∙◌, subst, arith, length-append}
use Rattle.std.specs.Prelude.{◌&&◌}
use Rattle.std.proofs.lemmas.List.{append-nil, append_assoc}
use Rattle.lt_tree.specs.Typing.Programs.{Program}
use Rattle.lt_entry.specs.declared.test.Suite.{Suite}
use Rattle.lt_entry.specs.Lines as lines
use Rattle.lt_entry.specs.Lines.{rows_of}
use Rattle.lt_entry.specs.Naming.{Scope}
use Rattle.lt_entry.specs.Specifications.{Specification, words_in}
use Rattle.lt_entry.specs.Suites.{SuiteLine, suite_words, fits_suite, all_fit_suite, suite_scope, IsSuiteFront, IsSuite, IsFirstBadSuiteLine}
use Rattle.lt_entry.specs.declared.row.Row.{Row}
use Rattle.lt_entry.specs.LineViews.{row_view}
use Rattle.lt_entry.proofs.PieceLaws.{both}
use Rattle.lt_input_suites.specs.declared.draft.Draft.{Draft}
use Rattle.lt_input_suites.specs.Drafts.{tests_of, IsDraft, IsRead}
use Rattle.lt_input_suites.proofs.Said.{no_end}

-- The rows so far are lines in their places, and the draft has what they say.
pub record HasRead (scope : Scope) (text : List ℕ) (count : ℕ) (draft : Draft) : Type 0 where
  pub lines : List SuiteLine
  pub all : length lines ≡ count
  pub front : IsSuiteFront scope text lines
  pub said : IsDraft scope lines draft

pub none_yet : (scope : Scope) (text : List ℕ) (draft : Draft) → IsDraft scope [] draft → HasRead scope text 0 draft
none_yet scope text draft is = record { lines = []; all = refl; front = record { written = refl; fit = refl }; said = is }

-- ---- lists

map_last : {A B : Type 0} (f : A → B) (xs : List A) (x : A) → map f (xs ++ x ∷ []) ≡ map f xs ++ f x ∷ []
map_last f [] x = refl
map_last f (y ∷ ys) x = ap (λ l. f y ∷ l) (map_last f ys x)

take_last : {A : Type 0} (xs : List A) (i : ℕ) (x : A) → i < length xs → x ≡ get_or xs i x → take (i + 1) xs ≡ take i xs ++ x ∷ []
take_last [] i x h is = absurd (omega (arith, h))
take_last (y ∷ ys) zero x h is = ap (λ it. it ∷ []) (sym is)
take_last (y ∷ ys) (suc i) x h is = let e : suc i + 1 ≡ suc (i + 1) = omega arith in rw e (ap (λ l. y ∷ l) (take_last ys i x (omega (arith, h)) is))

drop_at : {A : Type 0} (xs : List A) (i : ℕ) (x : A) → i < length xs → x ≡ get_or xs i x → drop i xs ≡ x ∷ drop (i + 1) xs
drop_at [] i x h is = absurd (omega (arith, h))
drop_at (y ∷ ys) zero x h is = ap (λ it. it ∷ ys) (sym is)
drop_at (y ∷ ys) (suc i) x h is = let e : suc i + 1 ≡ suc (i + 1) = omega arith in rw e (drop_at ys i x (omega (arith, h)) is)

get_map : {A B : Type 0} (f : A → B) (xs : List A) (i : ℕ) (x : A) → f (get_or xs i x) ≡ get_or (map f xs) i (f x)
get_map f [] i x = refl
get_map f (y ∷ ys) zero x = refl
get_map f (y ∷ ys) (suc i) x = get_map f ys i x

length_map : {A B : Type 0} (f : A → B) (xs : List A) → length (map f xs) ≡ length xs
length_map f [] = refl
length_map f (x ∷ xs) = ap suc (length_map f xs)

-- ---- rows

-- this row of the text
pub record IsRow (text : List ℕ) (i : ℕ) (row : lines.Row) : Type 0 where
  pub within : i < length (rows_of text)
  pub is : row ≡ get_or (rows_of text) i row

pub row_at : (text : List ℕ) (rows : List Row) (i : ℕ) (row : Row) → map row_view rows ≡ rows_of text → i < length rows → row ≡ get_or rows i row → IsRow text i (row_view row)
row_at text rows i row e h is = record {
  within = subst (λ k. i < k) (sym (length_map row_view rows) ∙ ap length e) h;
  is = ap row_view is ∙ get_map row_view rows i row ∙ ap (λ l. get_or l i (row_view row)) e;
}

and_both : (a b : Bool) → a ≡ true → b ≡ true → (a && b) ≡ true
and_both a b e f = rw (e, f) refl

all_last : (scope : Scope) (before ls : List SuiteLine) (line : SuiteLine) → all_fit_suite scope before ls ≡ true → fits_suite scope (before ++ ls) line ≡ true → all_fit_suite scope before (ls ++ line ∷ []) ≡ true
all_last scope before [] line h fits = and_both (fits_suite scope before line) true (subst (λ b. fits_suite scope b line ≡ true) (append-nil before) fits) refl
all_last scope before (l ∷ ls) line h fits =
    let hs = both (fits_suite scope before l) (all_fit_suite scope (before ++ l ∷ []) ls) h in
    and_both (fits_suite scope before l) (all_fit_suite scope (before ++ l ∷ []) (ls ++ line ∷ [])) hs.0
    (all_last scope (before ++ l ∷ []) ls line hs.1 (subst (λ b. fits_suite scope b line ≡ true) (sym (append_assoc before (l ∷ []) ls)) fits))

last_fits : (scope : Scope) (before ls : List SuiteLine) (line : SuiteLine) → all_fit_suite scope before (ls ++ line ∷ []) ≡ true → fits_suite scope (before ++ ls) line ≡ true
last_fits scope before [] line h = subst (λ b. fits_suite scope b line ≡ true) (sym (append-nil before)) (both (fits_suite scope before line) true h).0
last_fits scope before (l ∷ ls) line h =
    subst (λ b. fits_suite scope b line ≡ true) (append_assoc before (l ∷ []) ls)
    (last_fits scope (before ++ l ∷ []) ls line (both (fits_suite scope before l) (all_fit_suite scope (before ++ l ∷ []) (ls ++ line ∷ [])) h).1)

-- the words of one row more
words_last : (text : List ℕ) (ls : List SuiteLine) (i : ℕ) (row : lines.Row) (line : SuiteLine) → length ls ≡ i → IsRow text i row → words_in (take (length (ls ++ line ∷ [])) (rows_of text)) ≡ words_in (take i (rows_of text)) ++ row.words ∷ []
words_last text ls i row line e at =
    let count : length (ls ++ line ∷ []) ≡ i + 1 = length-append ls (line ∷ []) ∙ ap (λ k. k + 1) e in
    ap (λ k. words_in (take k (rows_of text))) count ∙ ap words_in (take_last (rows_of text) i row at.within at.is)
    ∙ map_last (λ (row : lines.Row). row.words) (take i (rows_of text)) row

front_last : (scope : Scope) (text : List ℕ) (ls : List SuiteLine) (i : ℕ) (row : lines.Row) (line : SuiteLine) → length ls ≡ i → IsRow text i row → IsSuiteFront scope text ls → suite_words line ≡ row.words → fits_suite scope ls line ≡ true
    → IsSuiteFront scope text (ls ++ line ∷ [])
front_last scope text ls i row line e at front writes fits =
    let so : words_in (take i (rows_of text)) ≡ map suite_words ls = ap (λ k. words_in (take k (rows_of text))) (sym e) ∙ front.written in
    record {
      written =
          words_last text ls i row line e at ∙ ap (λ l. l ++ row.words ∷ []) so
          ∙ ap (λ words. map suite_words ls ++ words ∷ []) (sym writes) ∙ sym (map_last suite_words ls line);
      fit = all_last scope [] ls line front.fit fits;
    }

pub read_more : (scope : Scope) (text : List ℕ) (i : ℕ) (row : lines.Row) (old new : Draft) → IsRow text i row → HasRead scope text i old → ((ls : List SuiteLine) → IsDraft scope ls old → IsRead scope ls row.words new true) → HasRead scope text (i + 1) new
read_more scope text i row old new at so reads =
    let got = reads so.lines so.said in
    record {
      lines = so.lines ++ got.0 ∷ [];
      all = length-append so.lines (got.0 ∷ []) ∙ ap (λ k. k + 1) so.all;
      front = front_last scope text so.lines i row got.0 so.all at so.front got.1 got.2;
      said = got.3;
    }

-- ---- the end

-- All rows are read.
pub all_rows : (text : List ℕ) (rows : List Row) (i : ℕ) → map row_view rows ≡ rows_of text → i ≤ length rows → length rows ≤ i → i ≡ length (rows_of text)
all_rows text rows i e le ge =
    let all : i ≡ length rows = omega (arith, le, ge) in
    all ∙ sym (length_map row_view rows) ∙ ap length e

pub suite_read : (program : Program) (it : Specification) (text : List ℕ) (i : ℕ) (draft : Draft) (suite : Suite) → i ≡ length (rows_of text) → HasRead (suite_scope program it) text i draft → suite.tests ≡ tests_of draft
    → IsSuite program it text suite
suite_read program it text i draft suite e so is = record {
  lines = so.lines;
  all = so.all ∙ e;
  front = so.front;
  says = is ∙ so.said.tests;
}

same_last : {A : Type 0} (xs ys : List A) (a b : A) → xs ++ a ∷ [] ≡ ys ++ b ∷ [] → a ≡ b
same_last [] [] a b e = cc
same_last [] (y ∷ ys) a b e = let rest : [] ≡ ys ++ b ∷ [] = cc in absurd (no_end ys b (sym rest))
same_last (x ∷ xs) [] a b e = let rest : xs ++ a ∷ [] ≡ [] = cc in absurd (no_end xs a rest)
same_last (x ∷ xs) (y ∷ ys) a b e = let rest : xs ++ a ∷ [] ≡ ys ++ b ∷ [] = cc in same_last xs ys a b rest

-- A line behind these has the words of the row.
row_words : (scope : Scope) (text : List ℕ) (ls : List SuiteLine) (i : ℕ) (row : lines.Row) (line : SuiteLine) → length ls ≡ i → IsRow text i row → IsSuiteFront scope text (ls ++ line ∷ []) → suite_words line ≡ row.words
row_words scope text ls i row line e at front =
    sym (same_last (words_in (take i (rows_of text))) (map suite_words ls) row.words (suite_words line) (sym (words_last text ls i row line e at) ∙ front.written ∙ map_last suite_words ls line))

pub bad_line : (program : Program) (it : Specification) (text : List ℕ) (i : ℕ) (row : lines.Row) (old new : Draft) → IsRow text i row → HasRead (suite_scope program it) text i old
    → ((ls : List SuiteLine) → IsDraft (suite_scope program it) ls old → IsRead (suite_scope program it) ls row.words new false) → IsFirstBadSuiteLine program it text row.number
bad_line program it text i row old new at so reads = record {
  lines = so.lines;
  front = so.front;
  longest = λ line front.
      let fits : fits_suite (suite_scope program it) so.lines line ≡ true = last_fits (suite_scope program it) [] so.lines line front.fit in
      let ill : fits_suite (suite_scope program it) so.lines line ≡ false =
      reads so.lines so.said line (row_words (suite_scope program it) text so.lines i row line so.all at front) in
      absurd (cc);
  row = row;
  others = drop (i + 1) (rows_of text);
  behind = ap (λ k. drop k (rows_of text)) so.all ∙ drop_at (rows_of text) i row at.within at.is;
  is = refl;
}
