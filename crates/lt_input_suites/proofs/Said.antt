-- The tests that lines say, with one more line behind them.
use Rattle.std.proofs.Common.{◌≡◌, ℕ, Bool, true, false, cond, List, [], ◌∷◌, ◌++◌, length, refl, sym, ap, ◌∙◌, arith, length-append}
use Rattle.std.specs.Prelude.{◌||◌, ◌&&◌, not}
use Rattle.std.specs.List.{list_any, flat_map}
use Rattle.std.proofs.lemmas.List.{append-nil}
use Rattle.std.proofs.lemmas.List.Folds.{list_any-append}
use Rattle.std.proofs.lemmas.Grind.{flat_map-append}
use Rattle.lt_entry.specs.declared.test.Test.{Test}
use Rattle.lt_entry.specs.Naming.{Scope}
use Rattle.lt_entry.specs.Suites.{SuiteLine, test_line, set_line, point_line, values_line, is_suite_form, is_test_line, of_last_test, of_this_test, names_test, fits_in_test, fits_suite, cells_set, stubs_set, test_said, tests_said}
use Rattle.lt_entry.proofs.PieceLaws.{both}
use Rattle.lt_input_suites.specs.Drafts.{with_line}

or_false : (a : Bool) → (a || false) ≡ a
or_false true = refl
or_false false = refl

or_true : (a : Bool) → (a || true) ≡ true
or_true true = refl
or_true false = refl

pub any_last : {A : Type 0} (p : A → Bool) (xs : List A) (x : A) → list_any p (xs ++ x ∷ []) ≡ (list_any p xs || p x)
any_last p xs x = list_any-append p xs (x ∷ []) ∙ ap (λ t. list_any p xs || t) (or_false (p x))

-- ---- the lines of the last test

cond_last : (t : Bool) (l : SuiteLine) (ls : List SuiteLine) (line : SuiteLine) → cond t (ls ++ line ∷ []) (l ∷ (ls ++ line ∷ [])) ≡ cond t ls (l ∷ ls) ++ line ∷ []
cond_last true l ls line = refl
cond_last false l ls line = refl

any_same : (ls : List SuiteLine) (line : SuiteLine) (b : Bool) → is_test_line line ≡ false → list_any is_test_line ls ≡ b → list_any is_test_line (ls ++ line ∷ []) ≡ b
any_same ls line b h e = any_last is_test_line ls line ∙ rw (h, e) (or_false b)

behind_by : (l : SuiteLine) (ls : List SuiteLine) (line : SuiteLine) (b : Bool) → is_test_line line ≡ false → list_any is_test_line ls ≡ b → of_last_test (ls ++ line ∷ []) ≡ of_last_test ls ++ line ∷ [] → of_last_test (l ∷ (ls ++ line ∷ [])) ≡ of_last_test (l ∷ ls) ++ line ∷ []
behind_by l ls line true h e same = rw (any_same ls line true h e, e) same
behind_by l ls line false h e same = rw (any_same ls line false h e, e) (cond_last (is_test_line l) l ls line)

-- One more line stands behind the last test too.
pub behind_last : (lines : List SuiteLine) (line : SuiteLine) → is_test_line line ≡ false → of_last_test (lines ++ line ∷ []) ≡ of_last_test lines ++ line ∷ []
behind_last [] line h = rw h refl
behind_last (l ∷ ls) line h = behind_by l ls line (list_any is_test_line ls) h refl (behind_last ls line h)

-- Behind a line that begins a test stands nothing.
pub last_begins : (lines : List SuiteLine) (name : List ℕ) → of_last_test (lines ++ test_line name ∷ []) ≡ []
last_begins [] name = refl
last_begins (l ∷ ls) name =
    let some : list_any is_test_line (ls ++ test_line name ∷ []) ≡ true = any_last is_test_line ls (test_line name) ∙ or_true (list_any is_test_line ls) in
    rw some (last_begins ls name)

-- ---- a further test

this_before : (ls : List SuiteLine) (name : List ℕ) → of_this_test (ls ++ test_line name ∷ []) ≡ of_this_test ls
this_before [] name = refl
this_before (test_line other ∷ ls) name = refl
this_before (set_line place value ∷ ls) name = ap (λ xs. set_line place value ∷ xs) (this_before ls name)
this_before (point_line place target ∷ ls) name = ap (λ xs. point_line place target ∷ xs) (this_before ls name)
this_before (values_line stub values ∷ ls) name = ap (λ xs. values_line stub values ∷ xs) (this_before ls name)

pub said_begun : (scope : Scope) (lines : List SuiteLine) (name : List ℕ) → tests_said scope (lines ++ test_line name ∷ []) ≡ tests_said scope lines ++ test_said scope name [] ∷ []
said_begun scope [] name = refl
said_begun scope (test_line other ∷ ls) name =
    ap (λ xs. test_said scope other xs ∷ tests_said scope (ls ++ test_line name ∷ [])) (this_before ls name)
    ∙ ap (λ ts. test_said scope other (of_this_test ls) ∷ ts) (said_begun scope ls name)
said_begun scope (set_line place value ∷ ls) name = said_begun scope ls name
said_begun scope (point_line place target ∷ ls) name = said_begun scope ls name
said_begun scope (values_line stub values ∷ ls) name = said_begun scope ls name

-- ---- a further line of the last test

none_begun : (scope : Scope) (ls : List SuiteLine) → list_any is_test_line ls ≡ false → tests_said scope ls ≡ []
none_begun scope [] h = refl
none_begun scope (test_line name ∷ ls) h = absurd (cc)
none_begun scope (set_line place value ∷ ls) h = none_begun scope ls h
none_begun scope (point_line place target ∷ ls) h = none_begun scope ls h
none_begun scope (values_line stub values ∷ ls) h = none_begun scope ls h

none_said : (scope : Scope) (ls : List SuiteLine) → tests_said scope ls ≡ [] → list_any is_test_line ls ≡ false
none_said scope [] h = refl
none_said scope (test_line name ∷ ls) h = absurd (cc)
none_said scope (set_line place value ∷ ls) h = none_said scope ls h
none_said scope (point_line place target ∷ ls) h = none_said scope ls h
none_said scope (values_line stub values ∷ ls) h = none_said scope ls h

pub no_end : {A : Type 0} (xs : List A) (x : A) → xs ++ x ∷ [] ≡ [] → ⊥
no_end xs x e = let n : length (xs ++ x ∷ []) ≡ 0 = ap length e in omega (arith, n, length-append xs (x ∷ []))

some_said : (scope : Scope) (ls : List SuiteLine) (done : List Test) (t : Test) → done ++ t ∷ [] ≡ tests_said scope ls → list_any is_test_line ls ≡ true
some_said scope ls done t e = by (list_any is_test_line ls) refl
  where
    by : (b : Bool) → list_any is_test_line ls ≡ b → b ≡ true
    by true h = refl
    by false h = absurd (no_end done t (e ∙ none_begun scope ls h))

this_whole : (ls : List SuiteLine) → list_any is_test_line ls ≡ false → of_this_test ls ≡ ls
this_whole [] h = refl
this_whole (test_line name ∷ ls) h = absurd (cc)
this_whole (set_line place value ∷ ls) h = ap (λ xs. set_line place value ∷ xs) (this_whole ls h)
this_whole (point_line place target ∷ ls) h = ap (λ xs. point_line place target ∷ xs) (this_whole ls h)
this_whole (values_line stub values ∷ ls) h = ap (λ xs. values_line stub values ∷ xs) (this_whole ls h)

this_over : (ls more : List SuiteLine) → list_any is_test_line ls ≡ true → of_this_test (ls ++ more) ≡ of_this_test ls
this_over [] more h = absurd (cc)
this_over (test_line name ∷ ls) more h = refl
this_over (set_line place value ∷ ls) more h = ap (λ xs. set_line place value ∷ xs) (this_over ls more h)
this_over (point_line place target ∷ ls) more h = ap (λ xs. point_line place target ∷ xs) (this_over ls more h)
this_over (values_line stub values ∷ ls) more h = ap (λ xs. values_line stub values ∷ xs) (this_over ls more h)

flat_last : {A B : Type 0} (f : A → List B) (xs : List A) (x : A) → flat_map f (xs ++ x ∷ []) ≡ flat_map f xs ++ f x
flat_last f xs x = flat_map-append f xs (x ∷ []) ∙ ap (λ l. flat_map f xs ++ l) (append-nil (f x))

said_with : (scope : Scope) (name : List ℕ) (ls : List SuiteLine) (line : SuiteLine) → test_said scope name (ls ++ line ∷ []) ≡ with_line scope line (test_said scope name ls)
said_with scope name ls line = rw (flat_last (cells_set scope) ls line, flat_last stubs_set ls line) refl

-- The last test has what one more line says.
pub said_more : (scope : Scope) (lines : List SuiteLine) (line : SuiteLine) → is_test_line line ≡ false → (done : List Test) (t : Test) → done ++ t ∷ [] ≡ tests_said scope lines → done ++ with_line scope line t ∷ [] ≡ tests_said scope (lines ++ line ∷ [])
said_more scope [] line h done t e = absurd (no_end done t e)
said_more scope (test_line name ∷ ls) line h [] t e =
    let is : t ≡ test_said scope name (of_this_test ls) = cc in
    let rest : [] ≡ tests_said scope ls = cc in
    let none : list_any is_test_line ls ≡ false = none_said scope ls (sym rest) in
    let more : list_any is_test_line (ls ++ line ∷ []) ≡ false = any_same ls line false h none in
    let last : test_said scope name (of_this_test (ls ++ line ∷ [])) ≡ with_line scope line t =
    ap (test_said scope name) (this_whole (ls ++ line ∷ []) more) ∙ said_with scope name ls line ∙ ap (λ xs. with_line scope line (test_said scope name xs)) (sym (this_whole ls none)) ∙ ap (with_line scope line) (sym is) in
    let ends : tests_said scope (ls ++ line ∷ []) ≡ [] = none_begun scope (ls ++ line ∷ []) more in
    rw (last, ends) refl
said_more scope (test_line name ∷ ls) line h (d ∷ done) t e =
    let is : d ≡ test_said scope name (of_this_test ls) = cc in
    let rest : done ++ t ∷ [] ≡ tests_said scope ls = cc in
    let same : of_this_test (ls ++ line ∷ []) ≡ of_this_test ls = this_over ls (line ∷ []) (some_said scope ls done t rest) in
    rw (same, is) (ap (λ ts. test_said scope name (of_this_test ls) ∷ ts) (said_more scope ls line h done t rest))
said_more scope (set_line place value ∷ ls) line h done t e = said_more scope ls line h done t e
said_more scope (point_line place target ∷ ls) line h done t e = said_more scope ls line h done t e
said_more scope (values_line stub values ∷ ls) line h done t e = said_more scope ls line h done t e

-- ---- whether a line fits

-- What fits is of its form.
pub form_of : (scope : Scope) (lines : List SuiteLine) (line : SuiteLine) → fits_suite scope lines line ≡ true → is_suite_form line ≡ true
form_of scope [] line h = (both (is_test_line line) (is_suite_form line) h).1
form_of scope (first ∷ before) line h = (both (is_suite_form line) _ (both (is_suite_form line && _) _ h).0).0

and_all : (a f : Bool) → a ≡ true → ((a && true) && f) ≡ f
and_all true f h = refl
and_all false f h = absurd (cc)

-- A line of a test fits where it fits in it.
pub fits_behind : (scope : Scope) (l : SuiteLine) (ls : List SuiteLine) (line : SuiteLine) → is_test_line line ≡ false → is_suite_form line ≡ true → fits_suite scope (l ∷ ls) line ≡ fits_in_test scope (of_last_test (l ∷ ls)) line
fits_behind scope l ls (test_line name) h form = absurd (cc)
fits_behind scope l ls (set_line place value) h form = and_all (is_suite_form (set_line place value)) (fits_in_test scope (of_last_test (l ∷ ls)) (set_line place value)) form
fits_behind scope l ls (point_line place target) h form = and_all (is_suite_form (point_line place target)) (fits_in_test scope (of_last_test (l ∷ ls)) (point_line place target)) form
fits_behind scope l ls (values_line stub values) h form = and_all (is_suite_form (values_line stub values)) (fits_in_test scope (of_last_test (l ∷ ls)) (values_line stub values)) form

and_new : (a b : Bool) → a ≡ true → ((a && b) && true) ≡ b
and_new true true h = refl
and_new true false h = refl
and_new false b h = absurd (cc)

-- A line that begins a test fits where its name is new.
pub fits_new : (scope : Scope) (lines : List SuiteLine) (name : List ℕ) → is_suite_form (test_line name) ≡ true → fits_suite scope lines (test_line name) ≡ not (list_any (names_test name) lines)
fits_new scope [] name form = form
fits_new scope (l ∷ ls) name form = and_new (is_suite_form (test_line name)) (not (list_any (names_test name) (l ∷ ls))) form

-- Before the first test no other line fits.
pub fits_first : (scope : Scope) (line : SuiteLine) → is_test_line line ≡ false → fits_suite scope [] line ≡ false
fits_first scope line h = rw h refl
