-- A text says at most one suite, and has at most one first bad line, not both.
use Rattle.std.proofs.Common.{◌≡◌, ℕ, ◌<◌, ◌≤◌, true, List, [], ◌∷◌, ◌++◌, length, take, drop, refl, sym, ◌∙◌, ap, subst, arith, length-append, length-drop, ⊎_elim}
use Rattle.std.specs.Prelude.{◌&&◌}
use Rattle.std.specs.List.{list_all}
use Rattle.lt_tree.specs.Typing.Programs.{Program}
use Rattle.lt_entry.specs.declared.test.Suite.{Suite}
use Rattle.lt_entry.specs.declared.test.Test.{Test}
use Rattle.lt_entry.specs.Lines.{Row, rows_of}
use Rattle.lt_entry.specs.Naming.{Scope}
use Rattle.lt_entry.specs.Specifications.{Specification, words_in}
use Rattle.lt_entry.specs.Suites.{SuiteLine, suite_words, is_suite_form, is_test_line, fits_suite, all_fit_suite, tests_said, suite_scope, IsSuiteFront, IsSuite, IsFirstBadSuiteLine}
use Rattle.lt_entry.specs.ReadingLines.{read_suite_line}
use Rattle.lt_entry.specs.Laws.{TextsSayOneSuite}
use Rattle.lt_entry.proofs.PieceLaws.{both}
use Rattle.lt_entry.proofs.SuiteLaws.{line_read}
use Rattle.std.proofs.lemmas.Bool.{cases_lt}
use Rattle.lt_entry.proofs.Fronts.{begins_other, nothing_more, map_take, front_words, one_more}

-- ---- lines in their places

form_of : (scope : Scope) (before : List SuiteLine) (line : SuiteLine) → fits_suite scope before line ≡ true → is_suite_form line ≡ true
form_of scope [] line h = (both (is_test_line line) (is_suite_form line) h).1
form_of scope (first ∷ before) line h = (both (is_suite_form line) _ (both (is_suite_form line && _) _ h).0).0

forms_of : (scope : Scope) (before lines : List SuiteLine) → all_fit_suite scope before lines ≡ true → list_all is_suite_form lines ≡ true
forms_of scope before [] h = refl
forms_of scope before (line ∷ lines) h =
    let hs = both (fits_suite scope before line) (all_fit_suite scope (before ++ line ∷ []) lines) h in
    rw (form_of scope before line hs.0, forms_of scope (before ++ line ∷ []) lines hs.1) refl

front_fits : (scope : Scope) (before ls more : List SuiteLine) → all_fit_suite scope before (ls ++ more) ≡ true → all_fit_suite scope before ls ≡ true
front_fits scope before [] more h = refl
front_fits scope before (l ∷ ls) more h =
    let hs = both (fits_suite scope before l) (all_fit_suite scope (before ++ l ∷ []) (ls ++ more)) h in
    rw (hs.0, front_fits scope (before ++ l ∷ []) ls more hs.1) refl

-- ---- fronts

words_taken : (n : ℕ) (rows : List Row) → words_in (take n rows) ≡ take n (words_in rows)
words_taken n rows = map_take (λ (row : Row). row.words) n rows

front_of : (scope : Scope) (text : List ℕ) (ls more : List SuiteLine) → IsSuiteFront scope text (ls ++ more) → IsSuiteFront scope text ls
front_of scope text ls more front = record {
  written = words_taken (length ls) (rows_of text) ∙ front_words suite_words (words_in (rows_of text)) ls more (sym (words_taken (length (ls ++ more)) (rows_of text)) ∙ front.written);
  fit = front_fits scope [] ls more front.fit;
}

pub fronts_agree : (scope : Scope) (text : List ℕ) (ls ms : List SuiteLine) → IsSuiteFront scope text ls → IsSuiteFront scope text ms → length ls ≤ length ms → (more : List SuiteLine) × (ms ≡ ls ++ more)
fronts_agree scope text ls ms f g le =
    begins_other suite_words read_suite_line is_suite_form line_read (words_in (rows_of text)) ls ms
    (sym (words_taken (length ls) (rows_of text)) ∙ f.written) (sym (words_taken (length ms) (rows_of text)) ∙ g.written)
    (forms_of scope [] ls f.fit) (forms_of scope [] ms g.fit) le

-- a front that no line can follow is as long as any
pub longest_is : (scope : Scope) (text : List ℕ) (ls ms : List SuiteLine) → IsSuiteFront scope text ms → ((line : SuiteLine) → IsSuiteFront scope text (ls ++ line ∷ []) → ⊥) → (more : List SuiteLine) → ms ≡ ls ++ more → ms ≡ ls
longest_is scope text ls ms g longest [] e = nothing_more ls ms [] e (omega (arith, ap length e, length-append ls ([])))
longest_is scope text ls ms g longest (line ∷ more) e =
    absurd (longest line (front_of scope text (ls ++ line ∷ []) more (subst (IsSuiteFront scope text) (e ∙ one_more ls more line) g)))

-- ---- suites

same_fronts : (scope : Scope) (text : List ℕ) (ls ms : List SuiteLine) → IsSuiteFront scope text ls → IsSuiteFront scope text ms → length ls ≡ length ms → ms ≡ ls
same_fronts scope text ls ms f g same =
    let found = fronts_agree scope text ls ms f g (omega arith) in
    nothing_more ls ms found.0 found.1 (omega arith)

said_once : (program : Program) (it : Specification) (text : List ℕ) (one other : Suite) → IsSuite program it text one → IsSuite program it text other → one ≡ other
said_once program it text one other a b =
    let same : b.lines ≡ a.lines = same_fronts (suite_scope program it) text a.lines b.lines a.front b.front (a.all ∙ sym b.all) in
    let tests : one.tests ≡ other.tests = a.says ∙ ap (tests_said (suite_scope program it)) (sym same) ∙ sym b.says in
    let made : List Test → Suite = λ tests. record { tests = tests } in
    ap made tests

-- of two fronts that no line can follow, neither is longer
same_longest : (scope : Scope) (text : List ℕ) (ls ms : List SuiteLine) → IsSuiteFront scope text ls → IsSuiteFront scope text ms → ((line : SuiteLine) → IsSuiteFront scope text (ls ++ line ∷ []) → ⊥) → length ls ≤ length ms → ms ≡ ls
same_longest scope text ls ms f g longest le =
    let found = fronts_agree scope text ls ms f g le in
    longest_is scope text ls ms g longest found.0 found.1

number_of_row : (rows : List Row) (ls ms : List SuiteLine) (row other : Row) (rest more : List Row) → ms ≡ ls → drop (length ls) rows ≡ row ∷ rest → drop (length ms) rows ≡ other ∷ more → row.number ≡ other.number
number_of_row rows ls ms row other rest more same e f =
    let rows_same : drop (length ms) rows ≡ drop (length ls) rows = ap (λ lines. drop (length lines) rows) same in
    let is : row ∷ rest ≡ other ∷ more = sym e ∙ sym rows_same ∙ f in
    let first : row ≡ other = cc in
    ap (λ (r : Row). r.number) first

bad_once : (program : Program) (it : Specification) (text : List ℕ) (m n : ℕ) → IsFirstBadSuiteLine program it text m → IsFirstBadSuiteLine program it text n → m ≡ n
bad_once program it text m n a b =
    ⊎_elim
    (λ lt. a.is ∙ number_of_row (rows_of text) a.lines b.lines a.row b.row a.others b.others (same_longest (suite_scope program it) text a.lines b.lines a.front b.front a.longest (omega arith)) a.behind b.behind ∙ sym b.is)
    (λ le. sym (b.is ∙ number_of_row (rows_of text) b.lines a.lines b.row a.row b.others a.others (same_longest (suite_scope program it) text b.lines a.lines b.front a.front b.longest le) b.behind a.behind ∙ sym a.is))
    (cases_lt (length a.lines) (length b.lines))

not_both : (program : Program) (it : Specification) (text : List ℕ) (suite : Suite) (n : ℕ) → IsSuite program it text suite → IsFirstBadSuiteLine program it text n → ⊥
not_both program it text suite n a b =
    let short : length (drop (length b.lines) (rows_of text)) ≡ length (b.row ∷ b.others) = ap length b.behind in
    let less : length b.lines < length (rows_of text) = omega (arith, short, length-drop (length b.lines) (rows_of text)) in
    let all : length a.lines ≡ length (rows_of text) = a.all in
    let same : a.lines ≡ b.lines = same_longest (suite_scope program it) text b.lines a.lines b.front a.front b.longest (omega arith) in
    let equal : length a.lines ≡ length b.lines = ap length same in
    omega arith

pub suites : TextsSayOneSuite
suites program it text = record { said = said_once program it text; bad = bad_once program it text; apart = not_both program it text }
