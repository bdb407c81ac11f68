-- The objects of the cells that the lines of a suite set have names, and so have those to which these lines point.
use Rattle.std.proofs.Common.{◌≡◌, ℕ, true, false, List, [], ◌∷◌, ◌++◌, Option, Some, None}
use Rattle.std.specs.Prelude.{◌&&◌, if◌then◌else◌, map, unwrap_or, option_map}
use Rattle.std.specs.List.{AllByRecursion}
use Rattle.lt_model.specs.declared.input.CellSet.TheVariants as cellset
use Rattle.lt_model.specs.declared.input.Place.{Place}
use Rattle.lt_tree.specs.Typing.Types.{CType, target_of}
use Rattle.lt_entry.specs.Written.{value_of, is_numeral, is_place, is_single, TargetWord, is_target, is_single_target}
use Rattle.lt_entry.specs.Naming.{Scope, Named, named_by, targets_of}
use Rattle.lt_entry.specs.Suites.{SuiteLine, test_line, set_line, point_line, values_line, is_suite_form, is_test_line, fits_suite, all_fit_suite, of_this_test, points_to, cells_set, test_said}
use Rattle.lt_entry.proofs.PieceLaws.{both}
use Rattle.lt_object_laws.specs.Laws.{HasName, IsNamed}
use Rattle.lt_named_inputs.proofs.Lists.{all_mapped, all_joined}
use Rattle.lt_named_inputs.proofs.NamedParts.{PartNamed, TargetNamed, parts_named, targets_named}

-- ---- forms of lines

-- the line's places and targets are of their forms
abbrev pub IsInForm : SuiteLine → Type 0
IsInForm line = is_suite_form line ≡ true

in_form : (scope : Scope) (before : List SuiteLine) (line : SuiteLine) → fits_suite scope before line ≡ true → IsInForm line
in_form scope [] line h = (both (is_test_line line) (is_suite_form line) h).1
in_form scope (first ∷ before) line h = (both (is_suite_form line) _ (both (is_suite_form line && _) _ h).0).0

pub all_in_form : (scope : Scope) (before lines : List SuiteLine) → all_fit_suite scope before lines ≡ true → AllByRecursion IsInForm lines
all_in_form scope before [] h = tt
all_in_form scope before (line ∷ lines) h =
    let hs = both (fits_suite scope before line) (all_fit_suite scope (before ++ line ∷ []) lines) h in
    (in_form scope before line hs.0, all_in_form scope (before ++ line ∷ []) lines hs.1)

this_test_in_form : (lines : List SuiteLine) → AllByRecursion IsInForm lines → AllByRecursion IsInForm (of_this_test lines)
this_test_in_form [] h = tt
this_test_in_form (line ∷ lines) h =
    elim (is_test_line line) as (λ b. AllByRecursion IsInForm (if b then [] else line ∷ of_this_test lines)) [ true ↦ tt | false ↦ (h.0, this_test_in_form lines h.1) ]

-- ---- cells

pointed_named : (place : Place) (target : Option Place) → HasName place.root → TargetNamed target → IsNamed (cellset.Point place target)
pointed_named place None h g = h
pointed_named place (Some target) h g = (h, g)

points_named : (scope : Scope) (target : TargetWord) → is_target target ≡ true → (it : Named) → PartNamed it → AllByRecursion IsNamed (points_to scope target it)
points_named scope target is it h = by (target_of it.type)
  where
    by : (pointed : Option CType) → AllByRecursion IsNamed (map (cellset.Point it.place) (unwrap_or (option_map (λ pointed. targets_of scope pointed target) pointed) []))
    by None = tt
    by (Some pointed) = all_mapped TargetNamed IsNamed (cellset.Point it.place) (λ to one. pointed_named it.place to h one) (targets_of scope pointed target) (targets_named scope pointed target is)

cells_named : (scope : Scope) (line : SuiteLine) → IsInForm line → AllByRecursion IsNamed (cells_set scope line)
cells_named scope (set_line place value) h =
    let is = (both (is_place place) (is_single place) (both (is_place place && is_single place) (is_numeral value) h).0).0 in
    all_mapped PartNamed IsNamed (λ (it : Named). cellset.Number it.place (value_of value)) (λ it one. one) (named_by scope place) (parts_named scope place is)
cells_named scope (point_line place target) h =
    let hs = both (is_place place && is_single place) (is_target target) (both (is_place place && is_single place && is_target target) (is_single_target target) h).0 in
    let is = (both (is_place place) (is_single place) hs.0).0 in
    all_joined PartNamed IsNamed (points_to scope target) (points_named scope target hs.1) (named_by scope place) (parts_named scope place is)
cells_named scope (test_line name) h = tt
cells_named scope (values_line stub values) h = tt

pub test_named : (scope : Scope) (name : List ℕ) (lines : List SuiteLine) → AllByRecursion IsInForm lines → AllByRecursion IsNamed (test_said scope name (of_this_test lines)).cells
test_named scope name lines h = all_joined IsInForm IsNamed (cells_set scope) (cells_named scope) (of_this_test lines) (this_test_in_form lines h)
