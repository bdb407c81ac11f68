-- What a test is behind one more line.
use Rattle.std.proofs.Common.{◌≡◌, ℕ, Bool, true, false, cond, ℤ, List, [], ◌∷◌, ◌++◌, length, map, Option, Some, None, refl, sym, ap, ◌∙◌, subst}
use Rattle.std.specs.Prelude.{◌==◌, ◌&&◌, ◌||◌, not, is_some, option_map, option_to_list, unwrap_or}
use Rattle.std.specs.List.{list_any, list_all, flat_map}
use Rattle.std.specs.Str.{bytes_eq}
use Rattle.std.proofs.lemmas.List.{append-nil}
use Rattle.lt_model.specs.declared.input.CellSet.{CellSet}
use Rattle.lt_model.specs.declared.input.CellSet.TheVariants as cellset
use Rattle.lt_model.specs.declared.input.Place.{Place}
use Rattle.lt_model.specs.declared.input.StubSet.{StubSet}
use Rattle.lt_model.specs.declared.scalar.DataModel.{DataModel}
use Rattle.lt_model.specs.declared.scalar.Scalar.{Scalar}
use Rattle.lt_tree.specs.Typing.Types.{CType, scalar_of, target_of}
use Rattle.lt_entry.specs.declared.test.Test.{Test}
use Rattle.lt_entry.specs.Written.{Numeral, value_of, is_numeral, PlaceWord, is_place, is_single, TargetWord, is_target, is_single_target}
use Rattle.lt_entry.specs.Naming.{Scope, Named, named_by, targets_of}
use Rattle.lt_entry.specs.Conditions.{same_place, each_named, Stub, stub_among, stubs_of}
use Rattle.lt_entry.specs.Suites.{SuiteLine, test_line, set_line, point_line, values_line, is_suite_form, sets_cell, sets_stub, is_number, is_target_for, fits_in_test, cells_set, stubs_set, points_to}
use Rattle.lt_entry.proofs.PieceLaws.{both}
use Rattle.lt_input_names.specs.Stubs.{has_name}
use Rattle.lt_input_wants.specs.declared.marked.MarkedPlaces.{MarkedPlaces}
use Rattle.lt_input_wants.specs.Marks.{Marks, is_marked}
use Rattle.lt_input_suites.specs.declared.begun.Begun.{Begun}
use Rattle.lt_input_suites.specs.Drafts.{HasSet, IsPut}
use Rattle.lt_input_suites.proofs.Said.{any_last}
use Rattle.lt_input_suites.proofs.Sets.{or_comm}

and_true : (a : Bool) → (a && true) ≡ a
and_true true = refl
and_true false = refl

and_false : (a : Bool) → (a && false) ≡ false
and_false true = refl
and_false false = refl

or_false : (a : Bool) → (a || false) ≡ a
or_false true = refl
or_false false = refl

test_is : (n m : List ℕ) (cells more : List CellSet) (stubs others : List StubSet) → n ≡ m → cells ≡ more → stubs ≡ others
    → (let one : Test = record { name = n; cells = cells; stubs = stubs } in let other : Test = record { name = m; cells = more; stubs = others } in one ≡ other)
test_is n m cells more stubs others e f g = rw (e, f, g) refl

-- A line that doesn't fit says nothing.
pub not_put : (scope : Scope) (lines : List SuiteLine) (line : SuiteLine) (old new : Begun) → fits_in_test scope lines line ≡ false → IsPut scope lines line old new false
not_put scope lines line old new e = record { fits = sym e; said = λ h. absurd (cc); set = λ h. absurd (cc) }

-- a line that begins a test says nothing of the one before
pub begins_put : (scope : Scope) (lines : List SuiteLine) (name : List ℕ) (test : Begun) → HasSet scope lines test → IsPut scope lines (test_line name) test test true
begins_put scope lines name test has = record {
  fits = refl;
  said = λ h. test_is test.name.now test.name.now test.cells.items (test.cells.items ++ []) test.stubs.items (test.stubs.items ++ []) refl (sym (append-nil test.cells.items)) (sym (append-nil test.stubs.items));
  set = λ h. record {
    places = λ place. has.places place ∙ sym (any_last (sets_cell scope place) lines (test_line name) ∙ or_false (list_any (sets_cell scope place) lines));
    functions = λ stub. has.functions stub ∙ sym (any_last (sets_stub stub) lines (test_line name) ∙ or_false (list_any (sets_stub stub) lines));
  };
}

-- ---- cells

one_fits : (scope : Scope) (lines : List SuiteLine) (test : Begun) (p : Named → Bool) (its : List Named) (it : Named) → its ≡ it ∷ [] → HasSet scope lines test
    → each_named (λ it. p it && not (list_any (sets_cell scope it.place) lines)) its ≡ (p it && not (is_marked test.places it.place))
one_fits scope lines test p its it e has =
    ap (each_named (λ it. p it && not (list_any (sets_cell scope it.place) lines))) e
    ∙ and_true (p it && not (list_any (sets_cell scope it.place) lines))
    ∙ ap (λ t. p it && not t) (sym (has.places it.place))

pub set_fits : (scope : Scope) (lines : List SuiteLine) (test : Begun) (place : PlaceWord) (value : Numeral) (it : Named) → named_by scope place ≡ it ∷ [] → HasSet scope lines test
    → fits_in_test scope lines (set_line place value) ≡ (is_number scope.program.model value (scalar_of it.type) && not (is_marked test.places it.place))
set_fits scope lines test place value it e has = one_fits scope lines test (λ it. is_number scope.program.model value (scalar_of it.type)) (named_by scope place) it e has

pub set_nothing : (scope : Scope) (lines : List SuiteLine) (place : PlaceWord) (value : Numeral) → named_by scope place ≡ [] → fits_in_test scope lines (set_line place value) ≡ false
set_nothing scope lines place value e = rw e refl

pub set_bad : (scope : Scope) (lines : List SuiteLine) (test : Begun) (place : PlaceWord) (value : Numeral) (it : Named) → named_by scope place ≡ it ∷ [] → HasSet scope lines test → is_number scope.program.model value (scalar_of it.type) ≡ false → fits_in_test scope lines (set_line place value) ≡ false
set_bad scope lines test place value it e has bad = set_fits scope lines test place value it e has ∙ ap (λ t. t && not (is_marked test.places it.place)) bad

pub set_twice : (scope : Scope) (lines : List SuiteLine) (test : Begun) (marked : MarkedPlaces) (place : PlaceWord) (value : Numeral) (it : Named) → named_by scope place ≡ it ∷ [] → HasSet scope lines test → Marks it.place test.places marked false → fits_in_test scope lines (set_line place value) ≡ false
set_twice scope lines test marked place value it e has marks =
    set_fits scope lines test place value it e has ∙ ap (λ t. is_number scope.program.model value (scalar_of it.type) && t) (sym marks.added) ∙ and_false (is_number scope.program.model value (scalar_of it.type))

pub point_fits : (scope : Scope) (lines : List SuiteLine) (test : Begun) (place : PlaceWord) (target : TargetWord) (it : Named) → named_by scope place ≡ it ∷ [] → HasSet scope lines test
    → fits_in_test scope lines (point_line place target) ≡ (is_target_for scope target (target_of it.type) && not (is_marked test.places it.place))
point_fits scope lines test place target it e has = one_fits scope lines test (λ it. is_target_for scope target (target_of it.type)) (named_by scope place) it e has

pub point_nothing : (scope : Scope) (lines : List SuiteLine) (place : PlaceWord) (target : TargetWord) → named_by scope place ≡ [] → fits_in_test scope lines (point_line place target) ≡ false
point_nothing scope lines place target e = rw e refl

no_length : {A : Type 0} (xs : List A) (o : Option A) → xs ≡ option_to_list o → not (length xs == 0) ≡ is_some o
no_length xs None e = rw e refl
no_length xs (Some a) e = rw e refl

-- Whether a target is one of the type is whether it names something.
pub target_there : (scope : Scope) (target : TargetWord) (pointed : Option CType) (found : Option (Option Place)) → unwrap_or (option_map (λ pointed. targets_of scope pointed target) pointed) [] ≡ option_to_list found → is_target_for scope target pointed ≡ is_some found
target_there scope target None None e = refl
target_there scope target None (Some place) e = absurd (cc)
target_there scope target (Some pointed) found e = no_length (targets_of scope pointed target) found e

pub point_bad : (scope : Scope) (lines : List SuiteLine) (test : Begun) (place : PlaceWord) (target : TargetWord) (it : Named) → named_by scope place ≡ it ∷ [] → HasSet scope lines test
    → unwrap_or (option_map (λ pointed. targets_of scope pointed target) (target_of it.type)) [] ≡ [] → fits_in_test scope lines (point_line place target) ≡ false
point_bad scope lines test place target it e has none =
    point_fits scope lines test place target it e has ∙ ap (λ t. t && not (is_marked test.places it.place)) (target_there scope target (target_of it.type) None none)

pub point_twice : (scope : Scope) (lines : List SuiteLine) (test : Begun) (marked : MarkedPlaces) (place : PlaceWord) (target : TargetWord) (it : Named) → named_by scope place ≡ it ∷ [] → HasSet scope lines test → Marks it.place test.places marked false → fits_in_test scope lines (point_line place target) ≡ false
point_twice scope lines test marked place target it e has marks =
    point_fits scope lines test place target it e has ∙ ap (λ t. is_target_for scope target (target_of it.type) && t) (sym marks.added) ∙ and_false (is_target_for scope target (target_of it.type))

-- what is marked is the place of the part
pub marked_at : (at : Place) (root : List ℕ) (old new : MarkedPlaces) (b c : Bool) → at.root ≡ root → b ≡ c → Marks (record { root = root; offset = at.offset }) old new b → Marks at old new c
marked_at at root old new b c e f marks =
    subst (λ c. Marks at old new c) f (subst (λ r. Marks (record { root = r; offset = at.offset }) old new b) (sym e) marks)

-- The line sets this cell, and the test has marked it.
cell_put : (scope : Scope) (lines : List SuiteLine) (line : SuiteLine) (at : Place) (old new : Begun)
    → ((place : Place) → sets_cell scope place line ≡ same_place at place) → ((name : List ℕ) → sets_stub name line ≡ false) → stubs_set line ≡ []
    → Marks at old.places new.places true → HasSet scope lines old → fits_in_test scope lines line ≡ true
    → new.name ≡ old.name → new.stubs ≡ old.stubs → new.functions ≡ old.functions
    → new.cells.items ≡ old.cells.items ++ cells_set scope line
    → IsPut scope lines line old new true
cell_put scope lines line at old new sets calls stubs marks has fits names same functions cells = record {
  fits = sym fits;
  said = λ h. test_is new.name.now old.name.now new.cells.items (old.cells.items ++ cells_set scope line) new.stubs.items (old.stubs.items ++ stubs_set line)
      (ap (λ name. name.now) names) cells
      (ap (λ v. v.items) same ∙ sym (ap (λ l. old.stubs.items ++ l) stubs ∙ append-nil old.stubs.items));
  set = λ h. record {
    places = λ place.
        marks.places place ∙ or_comm (same_place at place) (is_marked old.places place)
        ∙ ap (λ t. t || same_place at place) (has.places place)
        ∙ sym (any_last (sets_cell scope place) lines line ∙ ap (λ t. list_any (sets_cell scope place) lines || t) (sets place));
    functions = λ name.
        ap (λ set. has_name set name) functions ∙ has.functions name
        ∙ sym (any_last (sets_stub name) lines line ∙ ap (λ t. list_any (sets_stub name) lines || t) (calls name) ∙ or_false (list_any (sets_stub name) lines));
  };
}

one_place : (its : List Named) (it : Named) (place : Place) → its ≡ it ∷ [] → list_any (λ it. same_place it.place place) its ≡ same_place it.place place
one_place its it place e = ap (list_any (λ (it : Named). same_place it.place place)) e ∙ or_false (same_place it.place place)

pub set_put : (scope : Scope) (lines : List SuiteLine) (place : PlaceWord) (value : Numeral) (it : Named) (old new : Begun) → named_by scope place ≡ it ∷ []
    → is_number scope.program.model value (scalar_of it.type) ≡ true
    → Marks it.place old.places new.places true → HasSet scope lines old
    → new.name ≡ old.name → new.stubs ≡ old.stubs → new.functions ≡ old.functions
    → new.cells.items ≡ old.cells.items ++ cellset.Number it.place (value_of value) ∷ []
    → IsPut scope lines (set_line place value) old new true
set_put scope lines place value it old new e number marks has names same functions cells =
    cell_put scope lines (set_line place value) it.place old new (λ other. one_place (named_by scope place) it other e) (λ name. refl) refl marks has
    (set_fits scope lines old place value it e has ∙ rw (number, sym marks.added) refl)
    names same functions
    (cells ∙ ap (λ its. old.cells.items ++ map (λ (it : Named). cellset.Number it.place (value_of value)) its) (sym e))

pub point_put : (scope : Scope) (lines : List SuiteLine) (place : PlaceWord) (target : TargetWord) (to : Option Place) (it : Named) (old new : Begun) → named_by scope place ≡ it ∷ []
    → unwrap_or (option_map (λ pointed. targets_of scope pointed target) (target_of it.type)) [] ≡ to ∷ []
    → Marks it.place old.places new.places true → HasSet scope lines old
    → new.name ≡ old.name → new.stubs ≡ old.stubs → new.functions ≡ old.functions
    → new.cells.items ≡ old.cells.items ++ cellset.Point it.place to ∷ []
    → IsPut scope lines (point_line place target) old new true
point_put scope lines place target to it old new e found marks has names same functions cells =
    cell_put scope lines (point_line place target) it.place old new (λ other. one_place (named_by scope place) it other e) (λ name. refl) refl marks has
    (point_fits scope lines old place target it e has ∙ rw (target_there scope target (target_of it.type) (Some to) found, sym marks.added) refl)
    names same functions
    (cells ∙ ap (λ l. old.cells.items ++ l) (sym (ap (flat_map (points_to scope target)) e ∙ append-nil (points_to scope target it) ∙ ap (map (cellset.Point it.place)) found)))

-- ---- functions without a body

stub_there : (name : List ℕ) (stubs : List Stub) → list_any (λ other. bytes_eq other.name name) stubs ≡ is_some (stub_among name stubs)
stub_there name [] = refl
stub_there name (stub ∷ stubs) = ap (λ t. bytes_eq stub.name name || t) (stub_there name stubs) ∙ by (bytes_eq stub.name name)
  where
    by : (b : Bool) → (b || is_some (stub_among name stubs)) ≡ is_some (cond b (Some stub.type) (stub_among name stubs))
    by true = refl
    by false = refl

pub values_fit : (scope : Scope) (lines : List SuiteLine) (test : Begun) (stub : List ℕ) (values : List Numeral) (o : Option Scalar) → o ≡ stub_among stub (stubs_of scope.program) → HasSet scope lines test
    → fits_in_test scope lines (values_line stub values) ≡ (list_all (λ value. is_number scope.program.model value o) values && is_some o && not (has_name test.functions stub))
values_fit scope lines test stub values o e has =
    rw (e, stub_there stub (stubs_of scope.program), has.functions stub) refl

all_map : {A B : Type 0} (p : B → Bool) (f : A → B) (xs : List A) → list_all p (map f xs) ≡ list_all (λ x. p (f x)) xs
all_map p f [] = refl
all_map p f (x ∷ xs) = ap (λ t. p (f x) && t) (all_map p f xs)

-- whether the numbers fit, as they are tested
pub numbers_fit : {A : Type 0} (numeral : A → Numeral) (its items : List A) (model other : DataModel) (o : Option Scalar) (tested t : Bool) → model ≡ other → its ≡ items → tested ≡ list_all (λ it. is_number model (numeral it) o) its → tested ≡ t
    → list_all (λ value. is_number other value o) (map numeral items) ≡ t
numbers_fit numeral its items model other o tested t e f is told =
    all_map (λ value. is_number other value o) numeral items ∙ rw (sym e, sym f) (sym is ∙ told)

pub values_none : (scope : Scope) (lines : List SuiteLine) (test : Begun) (stub : List ℕ) (values : List Numeral) (o : Option Scalar) → o ≡ stub_among stub (stubs_of scope.program) → HasSet scope lines test → is_some o ≡ false → fits_in_test scope lines (values_line stub values) ≡ false
values_none scope lines test stub values o e has none =
    values_fit scope lines test stub values o e has ∙ ap (λ t. list_all (λ value. is_number scope.program.model value o) values && t && not (has_name test.functions stub)) none
    ∙ ap (λ t. t && not (has_name test.functions stub)) (and_false (list_all (λ value. is_number scope.program.model value o) values))

pub values_bad : (scope : Scope) (lines : List SuiteLine) (test : Begun) (stub : List ℕ) (values : List Numeral) (o : Option Scalar) → o ≡ stub_among stub (stubs_of scope.program) → HasSet scope lines test → list_all (λ value. is_number scope.program.model value o) values ≡ false
    → fits_in_test scope lines (values_line stub values) ≡ false
values_bad scope lines test stub values o e has bad = values_fit scope lines test stub values o e has ∙ ap (λ t. t && is_some o && not (has_name test.functions stub)) bad

pub values_twice : (scope : Scope) (lines : List SuiteLine) (test : Begun) (stub : List ℕ) (values : List Numeral) (o : Option Scalar) → o ≡ stub_among stub (stubs_of scope.program) → HasSet scope lines test → not (has_name test.functions stub) ≡ false
    → fits_in_test scope lines (values_line stub values) ≡ false
values_twice scope lines test stub values o e has there =
    values_fit scope lines test stub values o e has ∙ ap (λ t. list_all (λ value. is_number scope.program.model value o) values && is_some o && t) there ∙ and_false (list_all (λ value. is_number scope.program.model value o) values && is_some o)

pub values_well : (scope : Scope) (lines : List SuiteLine) (test : Begun) (stub : List ℕ) (values : List Numeral) (o : Option Scalar) → o ≡ stub_among stub (stubs_of scope.program) → HasSet scope lines test → list_all (λ value. is_number scope.program.model value o) values ≡ true → is_some o ≡ true → not (has_name test.functions stub) ≡ true
    → fits_in_test scope lines (values_line stub values) ≡ true
values_well scope lines test stub values o e has all some new = values_fit scope lines test stub values o e has ∙ rw (all, some, new) refl

pub values_put : (scope : Scope) (lines : List SuiteLine) (stub : List ℕ) (values : List Numeral) (old new : Begun) → fits_in_test scope lines (values_line stub values) ≡ true → HasSet scope lines old
    → ((name : List ℕ) → has_name new.functions name ≡ (bytes_eq stub name || has_name old.functions name))
    → new.name ≡ old.name → new.cells ≡ old.cells → new.places ≡ old.places
    → new.stubs.items ≡ old.stubs.items ++ record { name = stub; values = map value_of values } ∷ []
    → IsPut scope lines (values_line stub values) old new true
values_put scope lines stub values old new fits has functions names cells places stubs = record {
  fits = sym fits;
  said = λ h. test_is new.name.now old.name.now new.cells.items (old.cells.items ++ []) new.stubs.items (old.stubs.items ++ record { name = stub; values = map value_of values } ∷ [])
      (ap (λ name. name.now) names) (ap (λ v. v.items) cells ∙ sym (append-nil old.cells.items)) stubs;
  set = λ h. record {
    places = λ place.
        ap (λ marked. is_marked marked place) places ∙ has.places place
        ∙ sym (any_last (sets_cell scope place) lines (values_line stub values) ∙ or_false (list_any (sets_cell scope place) lines));
    functions = λ name.
        functions name ∙ or_comm (bytes_eq stub name) (has_name old.functions name)
        ∙ ap (λ t. t || bytes_eq stub name) (has.functions name) ∙ sym (any_last (sets_stub name) lines (values_line stub values));
  };
}

map_map : {A B C : Type 0} (f : B → C) (g : A → B) (xs : List A) → map f (map g xs) ≡ map (λ x. f (g x)) xs
map_map f g [] = refl
map_map f g (x ∷ xs) = ap (λ l. f (g x) ∷ l) (map_map f g xs)

-- what is kept of the values of a function
pub values_said : {A : Type 0} (numeral : A → Numeral) (name stub : List ℕ) (values numbers : List ℤ) (its items : List A) → name ≡ stub → values ≡ numbers → numbers ≡ map (λ it. value_of (numeral it)) its → its ≡ items
    → (let one : StubSet = record { name = name; values = values } in let other : StubSet = record { name = stub; values = map value_of (map numeral items) } in one ≡ other)
values_said numeral name stub values numbers its items e f g h =
    let are : values ≡ map value_of (map numeral items) = f ∙ g ∙ sym (map_map value_of numeral its) ∙ ap (λ l. map value_of (map numeral l)) h in
    rw (e, are) refl

-- ---- forms

-- the place of a line names one thing
pub single_set : (place : PlaceWord) (value : Numeral) → is_suite_form (set_line place value) ≡ true → is_single place ≡ true
single_set place value h = (both (is_place place) (is_single place) (both (is_place place && is_single place) (is_numeral value) h).0).1

pub single_point : (place : PlaceWord) (target : TargetWord) → is_suite_form (point_line place target) ≡ true → is_single place ≡ true
single_point place target h =
    (both (is_place place) (is_single place) (both (is_place place && is_single place) (is_target target) (both (is_place place && is_single place && is_target target) (is_single_target target) h).0).0).1

pub single_target : (place : PlaceWord) (target : TargetWord) → is_suite_form (point_line place target) ≡ true → is_single_target target ≡ true
single_target place target h = (both (is_place place && is_single place && is_target target) (is_single_target target) h).1
