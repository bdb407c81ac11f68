-- The tests of a draft behind one more line.
use Rattle.std.proofs.Common.{◌≡◌, ℕ, Bool, true, false, List, [], ◌∷◌, ◌++◌, map, Some, None, refl, sym, ap, ◌∙◌, subst}
use Rattle.std.specs.Prelude.{◌||◌, not, option_to_list}
use Rattle.std.specs.List.{list_any}
use Rattle.std.specs.Borrow.{Bor}
use Rattle.std.specs.Str.{bytes_eq}
use Rattle.lt_entry.specs.Naming.{Scope}
use Rattle.lt_entry.specs.Suites.{SuiteLine, test_line, set_line, point_line, values_line, suite_words, is_suite_form, is_test_line, of_last_test, names_test, fits_suite, test_said, tests_said}
use Rattle.lt_entry.specs.declared.suite_line.SuiteLine as memory
use Rattle.lt_entry.specs.declared.suite_line.SuiteLine.TheVariants as lines
use Rattle.lt_entry.specs.LineViews.{suite_line_view}
use Rattle.lt_entry.specs.ReadingLines.{read_suite_line}
use Rattle.lt_entry.proofs.SuiteLaws.{suite_lines}
use Rattle.lt_input_names.specs.Stubs.{has_name}
use Rattle.lt_input_suites.specs.declared.begun.Begun.{Begun}
use Rattle.lt_input_suites.specs.declared.draft.Draft.{Draft}
use Rattle.lt_input_suites.specs.Drafts.{test_of, HasSet, IsPut, Puts, tests_of, HasBegun, IsDraft, IsTaken, Takes, IsRead, Reads}
use Rattle.lt_input_suites.proofs.Said.{any_last, behind_last, last_begins, said_begun, said_more, no_end, form_of, fits_behind, fits_new, fits_first}
use Rattle.lt_input_suites.proofs.Sets.{or_comm}

or_false : (a : Bool) → (a || false) ≡ a
or_false true = refl
or_false false = refl

no_name : (name : List ℕ) (line : SuiteLine) → is_test_line line ≡ false → names_test name line ≡ false
no_name name (test_line other) h = absurd (cc)
no_name name (set_line place value) h = refl
no_name name (point_line place target) h = refl
no_name name (values_line stub values) h = refl

-- what is no `test` line in memory is none
pub no_test : (line : memory.SuiteLine) → ((name : Bor (List ℕ)) → line ≡ lines.Test name → ⊥) → is_test_line (suite_line_view line) ≡ false
no_test (lines.Test name) h = absurd (h name refl)
no_test (lines.Set l) h = refl
no_test (lines.Point l) h = refl
no_test (lines.Values l) h = refl

pub not_taken : (scope : Scope) (lines : List SuiteLine) (line : SuiteLine) (new : Draft) → fits_suite scope lines line ≡ false → IsTaken scope lines line new false
not_taken scope lines line new e = record { fits = sym e; draft = λ h. absurd (cc) }

-- Where no test has begun there are no lines, and no other line fits.
pub none_begun : (scope : Scope) (lines : List SuiteLine) (line : SuiteLine) (new : Draft) → is_test_line line ≡ false → lines ≡ [] → IsTaken scope lines line new false
none_begun scope lines line new h e = not_taken scope lines line new (ap (λ ls. fits_suite scope ls line) e ∙ fits_first scope line h)

-- One more line of the test that has begun.
pub taken_in : (scope : Scope) (lines : List SuiteLine) (line : SuiteLine) (old new : Draft) (test next : Begun) (taken : Bool) → is_test_line line ≡ false → is_suite_form line ≡ true
    → IsDraft scope lines old → old.begun ≡ Some test → Puts scope line test next taken
    → new.tests ≡ old.tests → new.names ≡ old.names → new.begun ≡ Some next → IsTaken scope lines line new taken
taken_in scope [] line old new test next taken other form is e puts tests names begun =
    let said : old.tests.items ++ test_of test ∷ [] ≡ [] = ap (λ o. old.tests.items ++ map test_of (option_to_list o)) (sym e) ∙ is.tests in
    absurd (no_end old.tests.items (test_of test) said)
taken_in scope (l ∷ ls) line old new test next taken other form is e puts tests names begun =
    let has : HasSet scope (of_last_test (l ∷ ls)) test = subst (HasBegun scope (l ∷ ls)) e is.begun in
    let put : IsPut scope (of_last_test (l ∷ ls)) line test next taken = puts (of_last_test (l ∷ ls)) form has in
    let said : old.tests.items ++ test_of test ∷ [] ≡ tests_said scope (l ∷ ls) = ap (λ o. old.tests.items ++ map test_of (option_to_list o)) (sym e) ∙ is.tests in
    record {
      fits = put.fits ∙ sym (fits_behind scope l ls line other form);
      draft = λ yes. record {
        names = λ name.
            ap (λ set. has_name set name) names ∙ is.names name
            ∙ sym (any_last (names_test name) (l ∷ ls) line ∙ ap (λ t. list_any (names_test name) (l ∷ ls) || t) (no_name name line other) ∙ or_false (list_any (names_test name) (l ∷ ls)));
        tests =
            ap (λ o. new.tests.items ++ map test_of (option_to_list o)) begun ∙ ap (λ v. v.items ++ test_of next ∷ []) tests
            ∙ ap (λ t. old.tests.items ++ t ∷ []) (put.said yes) ∙ said_more scope (l ∷ ls) line other old.tests.items (test_of test) said;
        begun = subst (HasBegun scope (l ∷ (ls ++ line ∷ []))) (sym begun) (subst (λ behind. HasSet scope behind next) (sym (behind_last (l ∷ ls) line other)) (put.set yes));
      };
    }

-- Another test begins.
pub begins : (scope : Scope) (lines : List SuiteLine) (name : List ℕ) (old ended new : Draft) (test : Begun) → is_suite_form (test_line name) ≡ true → IsDraft scope lines old
    → has_name old.names name ≡ false → ended.tests.items ≡ tests_of old
    → ((other : List ℕ) → has_name new.names other ≡ (bytes_eq name other || has_name old.names other))
    → test_of test ≡ test_said scope name [] → HasSet scope [] test
    → new.tests ≡ ended.tests → new.begun ≡ Some test → IsTaken scope lines (test_line name) new true
begins scope lines name old ended new test form is fresh over names said set tests begun = record {
  fits = sym (fits_new scope lines name form ∙ ap not (sym (is.names name) ∙ fresh));
  draft = λ yes. record {
    names = λ other.
        names other ∙ or_comm (bytes_eq name other) (has_name old.names other) ∙ ap (λ t. t || bytes_eq name other) (is.names other)
        ∙ sym (any_last (names_test other) lines (test_line name));
    tests =
        ap (λ o. new.tests.items ++ map test_of (option_to_list o)) begun ∙ ap (λ v. v.items ++ test_of test ∷ []) tests
        ∙ ap (λ ts. ts ++ test_of test ∷ []) (over ∙ is.tests) ∙ ap (λ t. tests_said scope lines ++ t ∷ []) said ∙ sym (said_begun scope lines name);
    begun = subst (HasBegun scope (lines ++ test_line name ∷ [])) (sym begun) (subst (λ behind. HasSet scope behind test) (sym (last_begins lines name)) set);
  };
}

-- A test of this name has begun before.
pub begun_before : (scope : Scope) (lines : List SuiteLine) (name : List ℕ) (old new : Draft) → is_suite_form (test_line name) ≡ true → IsDraft scope lines old → has_name old.names name ≡ true
    → IsTaken scope lines (test_line name) new false
begun_before scope lines name old new form is there =
    not_taken scope lines (test_line name) new (fits_new scope lines name form ∙ ap not (sym (is.names name) ∙ there))

-- ---- words

-- Words that are read as no line are none.
pub none_read : (scope : Scope) (lines : List SuiteLine) (words : List (List ℕ)) (new : Draft) → read_suite_line words ≡ None → IsRead scope lines words new false
none_read scope lines words new e line writes = by (fits_suite scope lines line) refl
  where
    by : (b : Bool) → fits_suite scope lines line ≡ b → b ≡ false
    by false h = refl
    by true h =
        let read : read_suite_line words ≡ Some line = (suite_lines words line).1 (form_of scope lines line h, writes) in
        absurd (cc)

-- Words write one line.
other_read : (scope : Scope) (lines : List SuiteLine) (words : List (List ℕ)) (line other : SuiteLine) → read_suite_line words ≡ Some line → fits_suite scope lines line ≡ false → suite_words other ≡ words → (b : Bool) → fits_suite scope lines other ≡ b → b ≡ false
other_read scope lines words line other e ill same false h = refl
other_read scope lines words line other e ill same true h =
    let read : read_suite_line words ≡ Some other = (suite_lines words other).1 (form_of scope lines other h, same) in
    let one : line ≡ other = cc in
    let fits : fits_suite scope lines line ≡ true = ap (fits_suite scope lines) one ∙ h in
    absurd (cc)

pub one_read : (scope : Scope) (lines : List SuiteLine) (words : List (List ℕ)) (line : SuiteLine) (old new : Draft) (taken : Bool) → read_suite_line words ≡ Some line → Takes scope line old new taken → IsDraft scope lines old
    → IsRead scope lines words new taken
one_read scope lines words line old new true e takes is =
    let writes = (suite_lines words line).0 e in
    let got = takes lines writes.0 is in
    (line, writes.1, sym got.fits, got.draft refl)
one_read scope lines words line old new false e takes is =
    let writes = (suite_lines words line).0 e in
    let got = takes lines writes.0 is in
    λ other same. other_read scope lines words line other e (sym got.fits) same (fits_suite scope lines other) refl

-- the same at equal values
pub same_reads : (scope other : Scope) (words more : List (List ℕ)) (old new : Draft) (a b : Bool) → scope ≡ other → words ≡ more → a ≡ b → Reads scope words old new a → Reads other more old new b
same_reads scope other words more old new a b e f g reads =
    subst (λ a. Reads other more old new a) g (subst (λ words. Reads other words old new a) f (subst (λ scope. Reads scope words old new a) e reads))
