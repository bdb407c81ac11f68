-- What is asked of trees doesn't depend on the numbers of objects.
use Rattle.std.proofs.Common.{◌≡◌, ℕ, suc, List, [], ◌∷◌, ◌++◌, map, Option, Some, None, Bool, refl, sym, ap, ◌∙◌}
use Rattle.std.proofs.lemmas.List.{map-append}
use Rattle.std.specs.Prelude.{◌||◌, ◌&&◌, ◌==◌, if◌then◌else◌}
use Rattle.std.specs.List.{list_any}
use Rattle.lt_tree.specs.Typing.TypedTree as e
use Rattle.lt_tree.specs.Typing.TypedTree.{Value, Values, Place, Label, Local, Start, StartPart, Statement, Items, Cases, type_of}
use Rattle.lt_meaning.specs.Expressions.{is_pure, is_pure_place, are_pure}
use Rattle.lt_meaning.specs.Statements.{has_label, entry_label, is_case, is_default, parts_in, is_zeroed}
use Rattle.lt_meaning.specs.Runs.{place_among, begun_by, locals_in, locals_of, locals_among}
use Rattle.lt_object_laws.specs.Renamed.{renumbered, value_with, values_with, place_with, parts_with, start_with, locals_with, statement_with, items_with, cases_with}
use Rattle.lt_object_laws.proofs.Numbers.{tests_same}

module _ (r : ℕ → ℕ) where
  pub type_with : (v : Value) → type_of (value_with r v) ≡ type_of v
  type_with (e.Constant t z) = refl
  type_with v = refl

  mutual
    pub pure_with : (v : Value) → is_pure (value_with r v) ≡ is_pure v
    pure_with (e.Constant t z) = refl
    pure_with (e.Load t p) = pure_place_with p
    pure_with (e.Whole t p) = pure_place_with p
    pure_with (e.Decay t p) = pure_place_with p
    pure_with (e.AddressOf t p) = pure_place_with p
    pure_with (e.Convert how t v) = pure_with v
    pure_with (e.Minus t v) = pure_with v
    pure_with (e.Complement t v) = pure_with v
    pure_with (e.Not t v) = pure_with v
    pure_with (e.Arithmetic t op s a b) = ap (λ x. x && is_pure (value_with r b)) (pure_with a) ∙ ap (λ x. is_pure a && x) (pure_with b)
    pure_with (e.Move t op size side a b) = ap (λ x. x && is_pure (value_with r b)) (pure_with a) ∙ ap (λ x. is_pure a && x) (pure_with b)
    pure_with (e.Distance t size a b) = ap (λ x. x && is_pure (value_with r b)) (pure_with a) ∙ ap (λ x. is_pure a && x) (pure_with b)
    pure_with (e.Compare t op a b) = ap (λ x. x && is_pure (value_with r b)) (pure_with a) ∙ ap (λ x. is_pure a && x) (pure_with b)
    pure_with (e.Logical t op a b) = ap (λ x. x && is_pure (value_with r b)) (pure_with a) ∙ ap (λ x. is_pure a && x) (pure_with b)
    pure_with (e.Conditional t test a b) =
        ap (λ x. x && (is_pure (value_with r a) && is_pure (value_with r b))) (pure_with test) ∙ ap (λ x. is_pure test && (x && is_pure (value_with r b))) (pure_with a)
        ∙ ap (λ x. is_pure test && (is_pure a && x)) (pure_with b)
    pure_with (e.Comma t vs) = all_pure_with vs
    pure_with (e.Assign t p v) = refl
    pure_with (e.Update t op s p v) = refl
    pure_with (e.UpdatePointer t op size p v) = refl
    pure_with (e.Step t when op s p) = refl
    pure_with (e.StepPointer t when op size p) = refl
    pure_with (e.Call t f vs) = refl
    pure_with (e.Marked t ms v) = refl
    pure_with (e.Decide t v p q) = refl
    pure_with (e.After t v id) = refl

    pure_place_with : (p : Place) → is_pure_place (place_with r p) ≡ is_pure_place p
    pure_place_with (e.Object t n) = refl
    pure_place_with (e.Pointed t v) = pure_with v
    pure_place_with (e.Element t size side a b) = ap (λ x. x && is_pure (value_with r b)) (pure_with a) ∙ ap (λ x. is_pure a && x) (pure_with b)
    pure_place_with (e.Part t offset p) = pure_place_with p
    pure_place_with (e.Held t v) = pure_with v

    all_pure_with : (vs : Values) → are_pure (values_with r vs) ≡ are_pure vs
    all_pure_with e.no_values = refl
    all_pure_with (e.a_value v vs) = ap (λ x. x && are_pure (values_with r vs)) (pure_with v) ∙ ap (λ x. is_pure v && x) (all_pure_with vs)

  labels_with : (test : Label → Bool) (cs : Cases) → has_label test (cases_with r cs) ≡ has_label test cs
  labels_with test e.no_cases = refl
  labels_with test (e.a_case labels c rest) = ap (λ b. list_any test labels || b) (labels_with test rest)

  pub entry_with : (z : _) (cs : Cases) → entry_label z (cases_with r cs) ≡ entry_label z cs
  entry_with z cs = ap (λ b. if b then is_case z else is_default) (labels_with (is_case z) cs)

  pub zeroed_with : (x : Option Start) → is_zeroed (start_with r x) ≡ is_zeroed x
  zeroed_with None = refl
  zeroed_with (Some start) = refl

  pub parts_in_with : (x : Option Start) → parts_in (start_with r x) ≡ parts_with r (parts_in x)
  parts_in_with None = refl
  parts_in_with (Some start) = refl

  -- ---- the objects that statements begin

  begun_with : (locals : List Local) → begun_by (locals_with r locals) ≡ map r (begun_by locals)
  begun_with [] = refl
  begun_with (local ∷ locals) = ap (λ them. r local.object ∷ them) (begun_with locals)

  both_with : (xs ys : List ℕ) (a b : List ℕ) → a ≡ map r xs → b ≡ map r ys → a ++ b ≡ map r (xs ++ ys)
  both_with xs ys a b h k = ap (λ l. l ++ b) h ∙ ap (λ l. map r xs ++ l) k ∙ sym (map-append r xs ys)

  mutual
    statement_locals : (c : Statement) → locals_in (statement_with r c) ≡ map r (locals_in c)
    statement_locals (e.Compound items) = items_locals items
    statement_locals (e.Evaluates v) = refl
    statement_locals e.Null = refl
    statement_locals (e.If test body) = statement_locals body
    statement_locals (e.IfElse test body other) = both_with (locals_in body) (locals_in other) (locals_in (statement_with r body)) (locals_in (statement_with r other)) (statement_locals body) (statement_locals other)
    statement_locals (e.While test body) = statement_locals body
    statement_locals (e.Do body test) = statement_locals body
    statement_locals (e.For e.Nothing test step body) = statement_locals body
    statement_locals (e.For (e.First v) test step body) = statement_locals body
    statement_locals (e.For (e.Locals locals) test step body) = both_with (begun_by locals) (locals_in body) (begun_by (locals_with r locals)) (locals_in (statement_with r body)) (begun_with locals) (statement_locals body)
    statement_locals (e.Switch operand cases) = cases_locals cases
    statement_locals e.Break = refl
    statement_locals e.Continue = refl
    statement_locals (e.Return v) = refl

    pub items_locals : (items : Items) → locals_of (items_with r items) ≡ map r (locals_of items)
    items_locals e.no_items = refl
    items_locals (e.a_local local rest) = ap (λ them. r local.object ∷ them) (items_locals rest)
    items_locals (e.a_statement first rest) = both_with (locals_in first) (locals_of rest) (locals_in (statement_with r first)) (locals_of (items_with r rest)) (statement_locals first) (items_locals rest)
    items_locals (e.a_label label rest) = items_locals rest

    cases_locals : (cases : Cases) → locals_among (cases_with r cases) ≡ map r (locals_among cases)
    cases_locals e.no_cases = refl
    cases_locals (e.a_case labels first rest) = both_with (locals_in first) (locals_among rest) (locals_in (statement_with r first)) (locals_among (cases_with r rest)) (statement_locals first) (cases_locals rest)

-- a number among others stands where it stood
pub among_with : (further : List Bool) (k n : ℕ) (ms : List ℕ) → place_among k (renumbered further n) (map (renumbered further) ms) ≡ place_among k n ms
among_with further k n [] = refl
among_with further k n (m ∷ ms) =
    ap (λ b. if b then Some k else place_among (suc k) (renumbered further n) (map (renumbered further) ms)) (tests_same further m n)
    ∙ ap (λ (found : Option ℕ). if m == n then Some k else found) (among_with further (suc k) n ms)
