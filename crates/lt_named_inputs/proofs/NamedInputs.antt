-- The places of the inputs that a suite gives have names.
use Rattle.std.proofs.Common.{◌≡◌, refl, sym, subst, Bool, true, false, List, [], ◌∷◌, Option, Some, None}
use Rattle.std.specs.Prelude.{◌==◌, if◌then◌else◌, not, filter, filter_map, option_and_then, IfSome}
use Rattle.std.specs.List.{AllByRecursion}
use Rattle.std.specs.Str.{bytes_eq}
use Rattle.std.proofs.lemmas.Slice.Eq.{bytes_eq-Decides}
use Rattle.lt_model.specs.declared.input.CellSet.{CellSet}
use Rattle.lt_model.specs.declared.input.CellSet.TheVariants as cellset
use Rattle.lt_model.specs.declared.input.Place.{Place}
use Rattle.lt_model.specs.declared.input.Spec.{Spec}
use Rattle.lt_model.specs.declared.input.StartValue.{StartValue}
use Rattle.lt_entry.specs.declared.test.Test.{Test}
use Rattle.lt_entry.specs.Naming.{Scope}
use Rattle.lt_entry.specs.Conditions.{same_place}
use Rattle.lt_entry.specs.Suites.{SuiteLine, test_line, set_line, point_line, values_line, tests_said, suite_scope}
use Rattle.lt_entry.specs.Meeting.{place_set, value_set, last_set, sets_free_cell}
use Rattle.lt_entry.specs.Inputs.{set_to, set_in, cells_in_order, built}
use Rattle.lt_entry.proofs.PieceLaws.{both}
use Rattle.lt_object_laws.specs.Laws.{HasName, IsNamed, AreNamed}
use Rattle.lt_named_inputs.specs.Laws.{InputsOfSuitesAreNamed}
use Rattle.lt_named_inputs.proofs.Lists.{all_both, all_filtered, each_there}
use Rattle.lt_named_inputs.proofs.NamedCells.{IsInForm, all_in_form, test_named}

-- ---- what is set in a free cell

root_there : (p q : Place) → same_place p q ≡ true → HasName p.root → HasName q.root
root_there p q same h = subst HasName ((bytes_eq-Decides p.root q.root).0 (both (bytes_eq p.root q.root) (p.offset == q.offset) same).0) h

set_named : (place : Place) (it : CellSet) → IsNamed it → (t : Bool) → same_place (place_set it) place ≡ t → IfSome (option_and_then (set_to place) (if t then Some (value_set it) else None)) IsNamed
set_named place it h false same = tt
set_named place (cellset.Number p z) h true same = root_there p place same h
set_named place (cellset.Point p None) h true same = root_there p place same h
set_named place (cellset.Point p (Some target)) h true same = (root_there p place same h.0, h.1)

-- A free cell has the name of the place of the element that sets it last.
last_named : (place : Place) (its : List CellSet) → AllByRecursion IsNamed its → IfSome (option_and_then (set_to place) (last_set place its)) IsNamed
last_named place [] h = tt
last_named place (it ∷ its) h = by (last_set place its) (last_named place its h.1)
  where
    by : (last : Option StartValue) → IfSome (option_and_then (set_to place) last) IsNamed
        → IfSome (option_and_then (set_to place) (elim last [ Some value ↦ Some value | None ↦ if same_place (place_set it) place then Some (value_set it) else None ])) IsNamed
    by (Some value) g = g
    by None g = set_named place it h.0 (same_place (place_set it) place) refl

in_order_named : (spec : Spec) (its : List CellSet) → AllByRecursion IsNamed its → AllByRecursion IsNamed (cells_in_order spec its)
in_order_named spec its h =
    all_both IsNamed (filter_map (set_in its) spec.cells) (filter (λ (it : CellSet). not (sets_free_cell spec it)) its)
    (each_there IsNamed (set_in its) (λ cell. last_named cell.at its h) spec.cells)
    (all_filtered IsNamed (λ (it : CellSet). not (sets_free_cell spec it)) its h)

-- ---- tests

tests_named : (spec : Spec) (scope : Scope) (lines : List SuiteLine) → AllByRecursion IsInForm lines → AllByRecursion (λ (test : Test). AreNamed (built test spec)) (tests_said scope lines)
tests_named spec scope [] h = tt
tests_named spec scope (test_line name ∷ lines) h = (in_order_named spec _ (test_named scope name lines h.1), tests_named spec scope lines h.1)
tests_named spec scope (set_line place value ∷ lines) h = tests_named spec scope lines h.1
tests_named spec scope (point_line place target ∷ lines) h = tests_named spec scope lines h.1
tests_named spec scope (values_line stub values ∷ lines) h = tests_named spec scope lines h.1

pub inputs_of_suites_are_named : InputsOfSuitesAreNamed
inputs_of_suites_are_named program it text suite is =
    let scope = suite_scope program it in
    subst (AllByRecursion (λ (test : Test). AreNamed (built test it.spec))) (sym is.says) (tests_named it.spec scope is.lines (all_in_form scope [] is.lines is.front.fit))
