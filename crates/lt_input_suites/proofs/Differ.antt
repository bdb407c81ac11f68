-- The tests that lines in their places say have names that differ.
use Rattle.std.proofs.Common.{◌≡◌, ℕ, zero, suc, Bool, true, false, List, [], ◌∷◌, ◌++◌, Some, refl, sym, ap, ◌∙◌}
use Rattle.std.specs.Prelude.{◌||◌, not, slice_get}
use Rattle.std.specs.List.{list_any}
use Rattle.std.specs.Str.{bytes_eq}
use Rattle.std.proofs.lemmas.Slice.Eq.{bytes_eq-Decides}
use Rattle.lt_entry.specs.declared.test.Test.{Test}
use Rattle.lt_entry.specs.Naming.{Scope}
use Rattle.lt_entry.specs.Suites.{SuiteLine, test_line, set_line, point_line, values_line, names_test, fits_suite, all_fit_suite, of_this_test, test_said, tests_said, suite_scope}
use Rattle.lt_entry.proofs.PieceLaws.{both}
use Rattle.lt_input_suites.specs.Laws.{TestsOfASuiteDiffer}
use Rattle.lt_input_suites.proofs.Said.{any_last, form_of, fits_new}
use Rattle.lt_input_suites.proofs.Sets.{not_true}

neither : (a b : Bool) → (a || b) ≡ false → (a ≡ false) × (b ≡ false)
neither true b h = absurd (cc)
neither false b h = (refl, h)

-- no line that stands before has this name
before_last : (before : List SuiteLine) (line : SuiteLine) (name : List ℕ) → list_any (names_test name) (before ++ line ∷ []) ≡ false → (list_any (names_test name) before ≡ false) × (names_test name line ≡ false)
before_last before line name h = neither (list_any (names_test name) before) (names_test name line) (sym (any_last (names_test name) before line) ∙ h)

-- The name of a test is none of those before.
fresh : (scope : Scope) (before ls : List SuiteLine) → all_fit_suite scope before ls ≡ true → (j : ℕ) (t : Test) → slice_get (tests_said scope ls) j ≡ Some t → list_any (names_test t.name) before ≡ false
fresh scope before [] h j t e = absurd (cc)
fresh scope before (test_line name ∷ ls) h zero t e =
    let hs = both (fits_suite scope before (test_line name)) (all_fit_suite scope (before ++ test_line name ∷ []) ls) h in
    let is : test_said scope name (of_this_test ls) ≡ t = cc in
    let new : not (list_any (names_test name) before) ≡ true = sym (fits_new scope before name (form_of scope before (test_line name) hs.0)) ∙ hs.0 in
    ap (λ (t : Test). list_any (names_test t.name) before) (sym is) ∙ not_true (list_any (names_test name) before) new
fresh scope before (test_line name ∷ ls) h (suc j) t e =
    (before_last before (test_line name) t.name (fresh scope (before ++ test_line name ∷ []) ls (both (fits_suite scope before (test_line name)) (all_fit_suite scope (before ++ test_line name ∷ []) ls) h).1 j t e)).0
fresh scope before (set_line place value ∷ ls) h j t e =
    (before_last before (set_line place value) t.name (fresh scope (before ++ set_line place value ∷ []) ls (both (fits_suite scope before (set_line place value)) (all_fit_suite scope (before ++ set_line place value ∷ []) ls) h).1 j t e)).0
fresh scope before (point_line place target ∷ ls) h j t e =
    (before_last before (point_line place target) t.name (fresh scope (before ++ point_line place target ∷ []) ls (both (fits_suite scope before (point_line place target)) (all_fit_suite scope (before ++ point_line place target ∷ []) ls) h).1 j t e)).0
fresh scope before (values_line stub values ∷ ls) h j t e =
    (before_last before (values_line stub values) t.name (fresh scope (before ++ values_line stub values ∷ []) ls (both (fits_suite scope before (values_line stub values)) (all_fit_suite scope (before ++ values_line stub values ∷ []) ls) h).1 j t e)).0

-- A test has another name than each behind it.
apart : (scope : Scope) (before ls : List SuiteLine) (name : List ℕ) → all_fit_suite scope (before ++ test_line name ∷ []) ls ≡ true → (j : ℕ) (t : Test) → slice_get (tests_said scope ls) j ≡ Some t → name ≡ t.name → ⊥
apart scope before ls name h j t e same =
    let other : bytes_eq name t.name ≡ false = (before_last before (test_line name) t.name (fresh scope (before ++ test_line name ∷ []) ls h j t e)).1 in
    let one : bytes_eq name t.name ≡ true = (bytes_eq-Decides name t.name).1 same in
    cc

differ : (scope : Scope) (before ls : List SuiteLine) → all_fit_suite scope before ls ≡ true → (i j : ℕ) (first second : Test) → slice_get (tests_said scope ls) i ≡ Some first → slice_get (tests_said scope ls) j ≡ Some second → first.name ≡ second.name → i ≡ j
differ scope before [] h i j first second e f same = absurd (cc)
differ scope before (test_line name ∷ ls) h zero zero first second e f same = refl
differ scope before (test_line name ∷ ls) h zero (suc j) first second e f same =
    let is : test_said scope name (of_this_test ls) ≡ first = cc in
    absurd (apart scope before ls name (both (fits_suite scope before (test_line name)) (all_fit_suite scope (before ++ test_line name ∷ []) ls) h).1 j second f (ap (λ (t : Test). t.name) is ∙ same))
differ scope before (test_line name ∷ ls) h (suc i) zero first second e f same =
    let is : test_said scope name (of_this_test ls) ≡ second = cc in
    absurd (apart scope before ls name (both (fits_suite scope before (test_line name)) (all_fit_suite scope (before ++ test_line name ∷ []) ls) h).1 i first e (ap (λ (t : Test). t.name) is ∙ sym same))
differ scope before (test_line name ∷ ls) h (suc i) (suc j) first second e f same =
    ap suc (differ scope (before ++ test_line name ∷ []) ls (both (fits_suite scope before (test_line name)) (all_fit_suite scope (before ++ test_line name ∷ []) ls) h).1 i j first second e f same)
differ scope before (set_line place value ∷ ls) h i j first second e f same =
    differ scope (before ++ set_line place value ∷ []) ls (both (fits_suite scope before (set_line place value)) (all_fit_suite scope (before ++ set_line place value ∷ []) ls) h).1 i j first second e f same
differ scope before (point_line place target ∷ ls) h i j first second e f same =
    differ scope (before ++ point_line place target ∷ []) ls (both (fits_suite scope before (point_line place target)) (all_fit_suite scope (before ++ point_line place target ∷ []) ls) h).1 i j first second e f same
differ scope before (values_line stub values ∷ ls) h i j first second e f same =
    differ scope (before ++ values_line stub values ∷ []) ls (both (fits_suite scope before (values_line stub values)) (all_fit_suite scope (before ++ values_line stub values ∷ []) ls) h).1 i j first second e f same

pub tests_differ : TestsOfASuiteDiffer
tests_differ program it text suite is i j first second e f same =
    differ (suite_scope program it) [] is.lines is.front.fit i j first second
    (ap (λ ts. slice_get ts i) (sym is.says) ∙ e) (ap (λ ts. slice_get ts j) (sym is.says) ∙ f) same
