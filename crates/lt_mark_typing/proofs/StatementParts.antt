-- Parts of statements with marks added are typed again.
use Rattle.std.proofs.Common.{◌≡◌, ℕ, ℤ, List, [], ◌∷◌, Option, Some, None, Bool, true, false, refl, ap, ◌∙◌, subst}
use Rattle.std.specs.Prelude.{if◌then◌else◌}
use Rattle.std.specs.List.{flat_map}
use Rattle.lt_model.specs.declared.scalar.DataModel.{DataModel}
use Rattle.lt_model.specs.declared.scalar.Scalar.{Scalar}
use Rattle.lt_tree.specs.Tree as c
use Rattle.lt_tree.specs.Nodes.{in_expression, in_label}
use Rattle.lt_tree.specs.Typing.Types.{CType, is_scalar, is_integer, is_void, unqualified}
use Rattle.lt_tree.specs.Typing.Constants.{Constancy, varying, faulty, number, null_constant, null_address, address}
use Rattle.lt_tree.specs.Typing.Rules.{unless, broken_if, not_scalar, bad_case, bad_return, bad_assignment}
use Rattle.lt_tree.specs.Typing.TypedTree.{Items, Local}
use Rattle.lt_tree.specs.Typing.Entities.{Known, no_names}
use Rattle.lt_tree.specs.Typing.Steps.{Outcome, Goes, goes_on, left}
use Rattle.lt_tree.specs.Typing.Expressions.{Typed, as_value, own_type, value_in, converted_to}
use Rattle.lt_tree.specs.Typing.Operations.{fits}
use Rattle.lt_tree.specs.Typing.StatementTyping.{test_faults, optional_test_faults, optional_expression, optional_test, optional_value, TypedStart, for_start, switch_value, Seen, as_case, case_value, is_new_case, with_case, end_of_case, labels, return_faults, returned, locals_before}
use Rattle.lt_mark_laws.specs.Added as a
use Rattle.lt_mark_laws.specs.Added.{Adds, AddsTruth, AddsLocals, AddsOptional, AddsForStart, AddsItems}
use Rattle.lt_object_laws.specs.Renamed.{renumbered, value_with, locals_with, optional_with, for_start_with, items_with, constancy_with}
use Rattle.lt_mark_typing.specs.Renumbered.{typed_with}
use Rattle.lt_mark_typing.specs.Further.{Agrees}
use Rattle.lt_mark_typing.specs.Beside.{IsBeside, AddsMade, AddsTyped, AddsTest, Follows}
use Rattle.lt_mark_typing.specs.Placed.{AreOld}
use Rattle.lt_mark_typing.specs.PlacedItems as p
use Rattle.lt_mark_typing.specs.PlacedItems.{in_new_block, AddsToTest, AddsToOptional, AddsToStart}
use Rattle.lt_mark_typing.proofs.Numbers.{agrees_so_far}
use Rattle.lt_mark_typing.proofs.Going.{bind, goes_here, entered_beside, same_of}
use Rattle.lt_mark_typing.proofs.Operands.{made, value_adds, converted_adds}
use Rattle.lt_mark_typing.proofs.Operators.{unless_more, scalar_more, fits_more, argument_adds}
use Rattle.lt_mark_typing.proofs.Renumbering.{own_type_with, value_in_with, converted_to_with, fits_with}
use Rattle.lt_mark_typing.proofs.OneOperand.{argument_with}
use Rattle.lt_mark_typing.proofs.Names.{frames_known}
use Rattle.lt_mark_typing.proofs.Nodes.{old_first, old_second}
use Rattle.lt_mark_typing.proofs.Labels.{unmarked_same}
use Rattle.lt_mark_typing.proofs.Steps.{Same, bind_same, judged_same, unmarked, unmarked_beside, frames_beside, scoped}
use Rattle.lt_mark_typing.proofs.Unchanged.{of_expression}
use Rattle.lt_mark_typing.proofs.Placing.{scalar_with}
use Rattle.lt_mark_typing.proofs.DeclaredAgain.{of_declaration_with}
use Rattle.lt_mark_typing.proofs.Again.{of_to}

-- ---- parts that may be left out

abbrev pub AddsTests : (ℕ → Bool) → (ℕ → ℕ) → Option Typed → Option Typed → Type 0
AddsTests new r None None = Unit {0}
AddsTests new r (Some x) (Some y) = AddsTest new (typed_with r x) y
AddsTests new r _ _ = ⊥

abbrev pub AddsMaybe : (ℕ → Bool) → (ℕ → ℕ) → Option Typed → Option Typed → Type 0
AddsMaybe new r None None = Unit {0}
AddsMaybe new r (Some x) (Some y) = AddsTyped new (typed_with r x) y
AddsMaybe new r _ _ = ⊥

pub record AddsTypedStart (new : ℕ → Bool) (r : ℕ → ℕ) (x y : TypedStart) : Type 0 where
  pub start : AddsForStart new (for_start_with r x.start) y.start
  pub faults : y.faults ≡ x.faults

module _ {new : ℕ → Bool} (r : ℕ → ℕ) (x y : Typed) where
  -- ---- expressions

  pub tests_more : AddsTest new (typed_with r x) y → test_faults x ≡ [] → test_faults y ≡ []
  tests_more t = unless_more not_scalar (is_scalar (own_type x)) (is_scalar (own_type y)) (λ h. scalar_more t (scalar_with r x h))

  pub truth_there : AddsTest new (typed_with r x) y → AddsTruth new (value_with r (value_in x)) (value_in y)
  truth_there t = subst (λ v. AddsTruth new v (value_in y)) (value_in_with r x) t.value

  pub value_there : AddsTyped new (typed_with r x) y → Adds new (value_with r (value_in x)) (value_in y)
  value_there t = subst (λ v. Adds new v (value_in y)) (value_in_with r x) (value_adds (made t))

  pub switch_there : (m : DataModel) → AddsMade new (typed_with r x) y → Adds new (value_with r (switch_value m x)) (switch_value m y)
  switch_there m t = subst (λ v. Adds new v (switch_value m y)) (argument_with r m x) (argument_adds m t)

  -- ---- `return`

  return_there : (result : CType) → AddsTyped new (typed_with r x) y → Adds new (value_with r (converted_to (unqualified result) (value_in x))) (converted_to (unqualified result) (value_in y))
  return_there result t = subst (λ v. Adds new v (converted_to (unqualified result) (value_in y))) (converted_to_with r (unqualified result) (value_in x)) (converted_adds (unqualified result) (value_there t))

  return_more_by : (result : CType) (b : Bool) → AddsTyped new (typed_with r x) y → (if b then bad_return ∷ [] else unless (fits (unqualified result) x) bad_assignment) ≡ [] → (if b then bad_return ∷ [] else unless (fits (unqualified result) y) bad_assignment) ≡ []
  return_more_by result true t h = h
  return_more_by result false t h = unless_more bad_assignment (fits (unqualified result) x) (fits (unqualified result) y) (λ q. fits_more (unqualified result) t (fits_with r (unqualified result) x ∙ q)) h

module _ (new : ℕ → Bool) (r : ℕ → ℕ) where
  pub optional_tests_more : (x y : Option Typed) → AddsTests new r x y → optional_test_faults x ≡ [] → optional_test_faults y ≡ []
  optional_tests_more None None t h = h
  optional_tests_more (Some x) (Some y) t h = tests_more r x y t h
  optional_tests_more None (Some y) t h = absurd t
  optional_tests_more (Some x) None t h = absurd t

  pub tests_adds : (x y : Option Typed) → AddsTests new r x y → AddsOptional (AddsTruth new) (optional_with r (optional_value x)) (optional_value y)
  tests_adds None None t = tt
  tests_adds (Some x) (Some y) t = truth_there r x y t
  tests_adds None (Some y) t = absurd t
  tests_adds (Some x) None t = absurd t

  pub values_adds : (x y : Option Typed) → AddsMaybe new r x y → AddsOptional (Adds new) (optional_with r (optional_value x)) (optional_value y)
  values_adds None None t = tt
  values_adds (Some x) (Some y) t = value_there r x y t
  values_adds None (Some y) t = absurd t
  values_adds (Some x) None t = absurd t

  pub return_more : (result : CType) (x y : Option Typed) → AddsMaybe new r x y → return_faults result x ≡ [] → return_faults result y ≡ []
  return_more result None None t h = h
  return_more result (Some x) (Some y) t h = return_more_by r x y result (is_void result) t h
  return_more result None (Some y) t h = absurd t
  return_more result (Some x) None t h = absurd t

  pub returned_adds : (result : CType) (x y : Option Typed) → AddsMaybe new r x y → AddsOptional (Adds new) (optional_with r (returned result x)) (returned result y)
  returned_adds result None None t = tt
  returned_adds result (Some x) (Some y) t = return_there r x y result t
  returned_adds result None (Some y) t = absurd t
  returned_adds result (Some x) None t = absurd t

  -- ---- declarations

  pub locals_in_front : (xs ys : List Local) (is : Items) {js : Items} → AddsLocals new (locals_with r xs) ys → AddsItems new (items_with r is) js → AddsItems new (items_with r (locals_before xs is)) (locals_before ys js)
  locals_in_front [] [] is h d = d
  locals_in_front (x ∷ xs) (y ∷ ys) is h d = a.a_local h.0 (locals_in_front xs ys is h.1 d)
  locals_in_front [] (y ∷ ys) is h d = absurd h
  locals_in_front (x ∷ xs) [] is h d = absurd h

-- ---- values of cases

case_with : (r : ℕ → ℕ) (m : DataModel) (type : Option Scalar) (x : Typed) → case_value m type (typed_with r x) ≡ case_value m type x
case_with r m type x = by x.constancy (own_type_with r x)
  where
    by : (c : Constancy) {t : CType} → t ≡ own_type x
        → elim (constancy_with r c) as (λ _. Option ℤ) [ number z ↦ (if is_integer t then Some (as_case m type z) else None) | _ ↦ None ] ≡ elim (c) as (λ _. Option ℤ) [ number z ↦ (if is_integer (own_type x) then Some (as_case m type z) else None) | _ ↦ None ]
    by (number z) h = ap (λ t. if is_integer t then Some (as_case m type z) else None) h
    by (address n offset) h = refl
    by varying h = refl
    by faulty h = refl
    by null_constant h = refl
    by null_address h = refl

module _ {new : ℕ → Bool} where
  -- ---- blocks

  pub block_beside : {used : List ℕ} {further : List Bool} {k j : Known} → IsBeside new used further k j → IsBeside new used further (in_new_block k) (in_new_block j)
  block_beside {used} {further} {k} {j} b = frames_beside (no_names ∷ k.frames) (no_names ∷ j.frames) (λ r g. ap (λ frames. no_names ∷ frames) (frames_known b r g)) b

  pub in_blocks : {A : Type 0} {used after : List ℕ} {further : List Bool} {R : (ℕ → ℕ) → A → A → Type 0} {o p : Outcome A} {k j : Known} → IsBeside new used further k j → Follows new after further R o p
      → Follows new after further R (goes_on (left k.frames o) (λ r known. Goes r.0 known)) (goes_on (left j.frames p) (λ r known. Goes r.0 known))
  in_blocks {k = k} {j = j} b d = scoped k.frames j.frames (λ r g. frames_known b r g) d

  pub model_same : {used : List ℕ} {further : List Bool} {k j : Known} → IsBeside new used further k j → j.model ≡ k.model
  model_same b = same_of (λ (known : Known). known.model) b (λ r n os fs ls facts h. refl)

  -- ---- labels of a `switch`

  case_same : {used : List ℕ} {further : List Bool} (type : Option Scalar) (x y : Typed) {k j : Known} → ((r : ℕ → ℕ) → Agrees r further → y ≡ typed_with r x) → IsBeside new used further k j
      → case_value j.model type y ≡ case_value k.model type x
  case_same {used} {further} type x y {k} {j} s b =
      let r = renumbered further in
      ap (case_value j.model type) (s r (agrees_so_far further)) ∙ case_with r j.model type x ∙ ap (λ model. case_value model type x) (model_same b)

  case_ended : {used : List ℕ} {further : List Bool} (n m : ℕ) (type : Option Scalar) (seen : Seen) (x y : Typed) {k j : Known} → ((r : ℕ → ℕ) → Agrees r further → y ≡ typed_with r x) → IsBeside new used further k j
      → Follows new used further Same (end_of_case n type seen x k) (end_of_case m type seen y j)
  case_ended n m type seen x y {k} {j} s b =
      bind_same (judged_same n m (unless (is_new_case seen (case_value k.model type x)) bad_case) (unless (is_new_case seen (case_value j.model type y)) bad_case)
      (ap (λ value. unless (is_new_case seen value) bad_case) (case_same type x y s b)) b) (λ u p q behind i b'. goes_here (λ r g. case_same type x y s b) b')

  pub of_labels : {used : List ℕ} (list : List c.Label) (type : Option Scalar) (seen : Seen) {further : List Bool} {k j : Known} → AreOld new (flat_map in_label list) → IsBeside new used further k j
      → Follows new used further Same (labels list type seen k) (labels list type seen j)
  of_labels [] type seen h b = goes_here (λ r g. refl) b
  of_labels (c.Case it ∷ rest) type seen {k = k} {j = j} h b =
      let there = entered_beside b in
      bind (unmarked k.is_unmarked j.is_unmarked (unmarked_same b) (of_expression it as_value (old_first new (in_expression it) (flat_map in_label rest) h.1) (unmarked_beside there))) (λ x y m n behind i s b.
      bind_same (case_ended k.next j.next type seen x y s b) (λ z m n behind i b.
      bind_same (of_labels rest type (with_case seen z) (old_second new (in_expression it) (flat_map in_label rest) h.1) b) (λ others m n behind i b. goes_here (λ r g. refl) b)))
  of_labels (c.Default ∷ rest) type seen {k = k} {j = j} h b =
      bind_same (judged_same k.next j.next (broken_if bad_case seen.has_default) (broken_if bad_case seen.has_default) refl (entered_beside b)) (λ u m n behind i b.
      bind_same (of_labels rest type (record seen { has_default = true }) h.1 b) (λ others m n behind i b. goes_here (λ r g. refl) b))

  -- ---- parts of statements

  pub of_test : {used after : List ℕ} {further : List Bool} {k : Known} {it other : Option c.Expression} → AddsToTest new used after k it other → {j : Known} → IsBeside new used further k j
      → Follows new after further (AddsTests new) (optional_test it k) (optional_test other j)
  of_test p.no_test b = goes_here (λ r g. tt) b
  of_test (p.a_test d) b = bind (of_to d b) (λ x y k j behind i t b. goes_here t b)

  pub of_optional : {used after : List ℕ} {further : List Bool} {k : Known} {it other : Option c.Expression} → AddsToOptional new used after k it other → {j : Known} → IsBeside new used further k j
      → Follows new after further (AddsMaybe new) (optional_expression it k) (optional_expression other j)
  of_optional p.no_value b = goes_here (λ r g. tt) b
  of_optional (p.a_value d) b = bind (of_to d b) (λ x y k j behind i t b. goes_here t b)

  pub of_start : {used after : List ℕ} {further : List Bool} {k : Known} {start begin : c.ForStart} → AddsToStart new used after k start begin → {j : Known} → IsBeside new used further k j
      → Follows new after further (AddsTypedStart new) (for_start start k) (for_start begin j)
  of_start p.Nothing b = goes_here (λ r g. record { start = tt; faults = refl }) b
  of_start (p.First d) b = bind (of_to d b) (λ x y k j behind i t b. goes_here (λ r g. record { start = value_there r x y (t r g); faults = refl }) b)
  of_start (p.Declares d) b = bind (of_declaration_with d b) (λ x y k j behind i t b. goes_here (λ r g. record { start = (t r g).locals; faults = (t r g).faults }) b)
