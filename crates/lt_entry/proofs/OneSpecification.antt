-- A text says at most one specification, and has at most one first bad line, not both.
use Rattle.std.proofs.Common.{◌≡◌, ℕ, ◌<◌, ◌≤◌, true, List, [], ◌∷◌, ◌++◌, length, take, drop, Some, refl, sym, ◌∙◌, ap, subst, arith, length-append, ⊎_elim}
use Rattle.std.specs.Prelude.{map}
use Rattle.std.specs.List.{list_all}
use Rattle.std.proofs.lemmas.Bool.{cases_lt}
use Rattle.std.proofs.lemmas.List.{drop_all, length-map, length-take}
use Rattle.lt_tree.specs.Typing.Programs.{Program}
use Rattle.lt_entry.specs.Lines.{Row, rows_of}
use Rattle.lt_entry.specs.Naming.{Scope}
use Rattle.lt_entry.specs.SpecificationLines.{Line, line_words, is_in_form}
use Rattle.lt_entry.specs.Conditions.{fits, fits_where, entry_of, scope_behind, needs_free}
use Rattle.lt_entry.specs.Specifications.{Specification, specification_in, words_in, all_fit, IsFront, IsSpecification, unfree_rows, unfree_lines, missing_entry, faulty_lines, IsFirstBadLine}
use Rattle.lt_entry.specs.ReadingLines.{read_line}
use Rattle.lt_entry.specs.Laws.{TextsSayOneSpecification}
use Rattle.lt_entry.proofs.PieceLaws.{both}
use Rattle.lt_entry.proofs.LineLaws.{line_read}
use Rattle.lt_entry.proofs.Fronts.{begins_other, nothing_more, map_take, front_words, one_more}

-- ---- lines in their places

forms_of : (program : Program) (rows : List Row) (before lines : List Line) → all_fit program rows before lines ≡ true → list_all is_in_form lines ≡ true
forms_of program rows before [] h = refl
forms_of program rows before (line ∷ lines) h =
    let hs = both (fits program rows before line) (all_fit program rows (before ++ line ∷ []) lines) h in
    let form = (both (is_in_form line) (fits_where program rows before line) hs.0).0 in
    rw (form, forms_of program rows (before ++ line ∷ []) lines hs.1) refl

front_fits : (program : Program) (rows : List Row) (before ls more : List Line) → all_fit program rows before (ls ++ more) ≡ true → all_fit program rows before ls ≡ true
front_fits program rows before [] more h = refl
front_fits program rows before (l ∷ ls) more h =
    let hs = both (fits program rows before l) (all_fit program rows (before ++ l ∷ []) (ls ++ more)) h in
    rw (hs.0, front_fits program rows (before ++ l ∷ []) ls more hs.1) refl

-- ---- fronts

words_taken : (n : ℕ) (rows : List Row) → words_in (take n rows) ≡ take n (words_in rows)
words_taken n rows = map_take (λ (row : Row). row.words) n rows

front_of : (program : Program) (text : List ℕ) (ls more : List Line) → IsFront program text (ls ++ more) → IsFront program text ls
front_of program text ls more front = record {
  written = words_taken (length ls) (rows_of text) ∙ front_words line_words (words_in (rows_of text)) ls more (sym (words_taken (length (ls ++ more)) (rows_of text)) ∙ front.written);
  fit = front_fits program (rows_of text) [] ls more front.fit;
}

fronts_agree : (program : Program) (text : List ℕ) (ls ms : List Line) → IsFront program text ls → IsFront program text ms → length ls ≤ length ms → (more : List Line) × (ms ≡ ls ++ more)
fronts_agree program text ls ms f g le =
    begins_other line_words read_line is_in_form line_read (words_in (rows_of text)) ls ms
    (sym (words_taken (length ls) (rows_of text)) ∙ f.written) (sym (words_taken (length ms) (rows_of text)) ∙ g.written)
    (forms_of program (rows_of text) [] ls f.fit) (forms_of program (rows_of text) [] ms g.fit) le

-- a front that no line can follow is as long as any
longest_is : (program : Program) (text : List ℕ) (ls ms : List Line) → IsFront program text ms → ((line : Line) → IsFront program text (ls ++ line ∷ []) → ⊥) → (more : List Line) → ms ≡ ls ++ more → ms ≡ ls
longest_is program text ls ms g longest [] e = nothing_more ls ms [] e (omega (arith, ap length e, length-append ls ([])))
longest_is program text ls ms g longest (line ∷ more) e =
    absurd (longest line (front_of program text (ls ++ line ∷ []) more (subst (IsFront program text) (e ∙ one_more ls more line) g)))

same_longest : (program : Program) (text : List ℕ) (ls ms : List Line) → IsFront program text ls → IsFront program text ms → ((line : Line) → IsFront program text (ls ++ line ∷ []) → ⊥) → length ls ≤ length ms → ms ≡ ls
same_longest program text ls ms f g longest le =
    let found = fronts_agree program text ls ms f g le in
    longest_is program text ls ms g longest found.0 found.1

same_fronts : (program : Program) (text : List ℕ) (ls ms : List Line) → IsFront program text ls → IsFront program text ms → length ls ≡ length ms → ms ≡ ls
same_fronts program text ls ms f g same =
    let found = fronts_agree program text ls ms f g (omega arith) in
    nothing_more ls ms found.0 found.1 (omega arith)

-- ---- specifications

same_entry : (program : Program) (ls ms : List Line) (m n : ℕ) → ms ≡ ls → entry_of program ls ≡ Some m → entry_of program ms ≡ Some n → m ≡ n
same_entry program ls ms m n same e f =
    let is : entry_of program ms ≡ Some m = ap (entry_of program) same ∙ e in
    cc

said_once : (program : Program) (text : List ℕ) (one other : Specification) → IsSpecification program text one → IsSpecification program text other → one ≡ other
said_once program text one other a b =
    let same : b.lines ≡ a.lines = same_fronts program text a.lines b.lines a.front b.front (a.all ∙ sym b.all) in
    let entry : a.entry ≡ b.entry = same_entry program a.lines b.lines a.entry b.entry same a.first b.first in
    let says : ℕ → List Line → Specification = λ k lines. specification_in (scope_behind program (rows_of text) k lines) k lines in
    a.says ∙ ap (λ k. says k a.lines) entry ∙ ap (says b.entry) (sym same) ∙ sym b.says

bad_same : (program : Program) (text : List ℕ) (ls ms : List Line) (m n : ℕ) (rest more : List ℕ) → ms ≡ ls → faulty_lines program text ls ≡ m ∷ rest → faulty_lines program text ms ≡ n ∷ more → m ≡ n
bad_same program text ls ms m n rest more same e f =
    let is : m ∷ rest ≡ n ∷ more = sym e ∙ ap (faulty_lines program text) (sym same) ∙ f in
    cc

bad_once : (program : Program) (text : List ℕ) (m n : ℕ) → IsFirstBadLine program text m → IsFirstBadLine program text n → m ≡ n
bad_once program text m n a b =
    ⊎_elim
    (λ lt. bad_same program text a.lines b.lines m n a.others b.others (same_longest program text a.lines b.lines a.front b.front a.longest (omega arith)) a.first b.first)
    (λ le. sym (bad_same program text b.lines a.lines n m b.others a.others (same_longest program text b.lines a.lines b.front a.front b.longest le) b.first a.first))
    (cases_lt (length a.lines) (length b.lines))

-- ---- no faults

none_unfree : (scope : Scope) (all rows : List Row) (lines : List Line) → list_all (needs_free scope all) lines ≡ true → unfree_rows scope all rows lines ≡ []
none_unfree scope all [] lines h = refl
none_unfree scope all (row ∷ rows) [] h = refl
none_unfree scope all (row ∷ rows) (line ∷ lines) h =
    let hs = both (needs_free scope all line) (list_all (needs_free scope all) lines) h in
    rw (hs.0, none_unfree scope all rows lines hs.1) refl

none_missing : (program : Program) (text : List ℕ) (lines : List Line) (entry : ℕ) → entry_of program lines ≡ Some entry → missing_entry text lines ≡ []
none_missing program text [] entry h = absurd (cc)
none_missing program text (line ∷ lines) entry h = refl

none_faulty : (program : Program) (text : List ℕ) (lines : List Line) (entry : ℕ) → length lines ≡ length (rows_of text) → entry_of program lines ≡ Some entry → list_all (needs_free (scope_behind program (rows_of text) entry lines) (rows_of text)) lines ≡ true → faulty_lines program text lines ≡ []
none_faulty program text lines entry all first free =
    let unfree : unfree_lines program (rows_of text) (entry_of program lines) lines ≡ [] =
    ap (λ o. unfree_lines program (rows_of text) o lines) first ∙ none_unfree (scope_behind program (rows_of text) entry lines) (rows_of text) (rows_of text) lines free in
    let behind : drop (length lines) (rows_of text) ≡ [] = drop_all (length lines) (rows_of text) (omega arith) in
    rw (unfree, behind, none_missing program text lines entry first) refl

-- No front is longer than the text.
too_long : (program : Program) (text : List ℕ) (lines : List Line) → IsFront program text lines → length (rows_of text) < length lines → ⊥
too_long program text lines front long =
    let words : length (words_in (take (length lines) (rows_of text))) ≡ length (map line_words lines) = ap length front.written in
    let taken : length (words_in (take (length lines) (rows_of text))) ≡ length (take (length lines) (rows_of text)) = length-map (take (length lines) (rows_of text)) (λ (row : Row). row.words) in
    let all : length (map line_words lines) ≡ length lines = length-map lines line_words in
    omega (arith, length-take (length lines) (rows_of text))

not_both : (program : Program) (text : List ℕ) (it : Specification) (n : ℕ) → IsSpecification program text it → IsFirstBadLine program text n → ⊥
not_both program text it n a b =
    let none : faulty_lines program text a.lines ≡ [] = none_faulty program text a.lines a.entry a.all a.first a.free in
    ⊎_elim
    (λ lt.
    let longer : length (rows_of text) < length b.lines = omega (arith, a.all) in
    too_long program text b.lines b.front longer)
    (λ le.
    let same : a.lines ≡ b.lines = same_longest program text b.lines a.lines b.front a.front b.longest le in
    let faulty : faulty_lines program text a.lines ≡ n ∷ b.others = ap (faulty_lines program text) same ∙ b.first in
    let wrong : [] ≡ n ∷ b.others = sym none ∙ faulty in
    cc)
    (cases_lt (length a.lines) (length b.lines))

pub specifications : TextsSayOneSpecification
specifications program text = record { said = said_once program text; bad = bad_once program text; apart = not_both program text }
