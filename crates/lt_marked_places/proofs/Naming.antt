-- A tree whose objects have other numbers does what the tree itself does where its objects have the names of these numbers.
use Rattle.std.proofs.Common.{◌≡◌, ℕ, List, [], ◌∷◌, Option, Some, None, Bool, false, refl, ap, ◌∙◌}
use Rattle.std.specs.Prelude.{if◌then◌else◌}
use Rattle.lt_model.specs.declared.cell.Content.{Content}
use Rattle.lt_model.specs.declared.cell.Content.TheVariants as content
use Rattle.lt_model.specs.State.{Footprint, Valued, Binding, untouched}
use Rattle.lt_tree.specs.Typing.Types.{scalar_of, is_struct}
use Rattle.lt_tree.specs.Typing.Programs.{Program}
use Rattle.lt_tree.specs.Typing.TypedTree as e
use Rattle.lt_tree.specs.Typing.TypedTree.{Value, Values, Place, Marks, Mark, Bindings}
use Rattle.lt_ir.specs.Running.{At, Step, ◌>>=◌, gives, quietly, one_more, marked_with}
use Rattle.lt_ir.specs.Evaluation.{valued, number_in, truth_in, settled_in, apart, aimed}
use Rattle.lt_meaning.specs.Expressions.{Around, Fate, wanted, unconverted, untaken, tracking, inside, of_branch, of_last, fate_of_part, taken, cells_of, late, assigned, passed, decides, second_truth, with_argument, comma_from, pure_only, eval, place_of, arguments_of, parts_of, bound_at, marked, marked_all}
use Rattle.lt_mark_laws.specs.Laws.{is_quietly_true}
use Rattle.lt_mark_laws.specs.Mutants.{of_scalar, value_at}
use Rattle.lt_object_laws.specs.Renamed.{value_with, values_with, place_with, marks_with, mark_with, bindings_with}
use Rattle.lt_object_laws.proofs.Trees.{type_with, pure_with}

-- ---- steps

-- one after another, each the same
one_by_one : {A B : Type 0} {s t : Step A} {f g : A → Step B} → s ≡ t → ((a : A) → f a ≡ g a) → (s >>= f) ≡ (t >>= g)
one_by_one p q = λ i. p i >>= (λ a. q a i)

either : {A : Type 0} (b : Bool) {s t u v : Step A} → s ≡ t → u ≡ v → (if b then s else u) ≡ (if b then t else v)
either b p q = λ i. if b then p i else q i

behind : {A : Type 0} {s t : Step A} {f g : At → At} → s ≡ t → ((at : At) → f at ≡ g at) → ◌≡◌ {A = Step A} (λ at. s (f at)) (λ at. t (g at))
behind p q = λ i at. p i (q at i)

-- what a mark asks quietly
mark_by : (id : ℕ) (at : At) {s t : Step (Valued Content)} {b c : Bool} {xs ys : Option (List Binding)} → s ≡ t → b ≡ c → xs ≡ ys
    → marked_with id (pure_only b (quietly (s >>= (λ x. truth_in x.value)) at)) xs at ≡ marked_with id (pure_only c (quietly (t >>= (λ x. truth_in x.value)) at)) ys at
mark_by id at p h q = λ i. marked_with id (pure_only (h i) (quietly (p i >>= (λ x. truth_in x.value)) at)) (q i) at

binding_by : (name : List ℕ) (at : At) {s t : Step (Valued Content)} {b c : Bool} {xs ys : Option (List Binding)} → s ≡ t → b ≡ c → xs ≡ ys
    → one_more name (pure_only b (quietly (s >>= (λ x. number_in x.value)) at)) xs ≡ one_more name (pure_only c (quietly (t >>= (λ x. number_in x.value)) at)) ys
binding_by name at p h q = λ i. one_more name (pure_only (h i) (quietly (p i >>= (λ x. number_in x.value)) at)) (q i)

-- the parts of a comma expression, behind nothing
abbrev parts_alone : Option (Footprint → Step (Valued Content)) → Step (Valued Content)
parts_alone parts = elim (parts) [ None ↦ gives (valued content.Unset untouched) | Some step ↦ step untouched ]

-- ---- trees

module _ (here : Around) (r : ℕ → ℕ) where
  -- objects have here the names of the numbers that r gives
  abbrev pub named : Around
  named = record here { variable = λ n. here.variable (r n) }

  late_same : (program : Program) (v : Value) (c : Content) → late program (value_with r v) c ≡ late program v c
  late_same program (e.Convert how t v) c = refl
  late_same program (e.Constant t z) c = refl
  late_same program v c = refl

  fate_same : (fate : Fate) (vs : Values) → fate_of_part fate (values_with r vs) ≡ fate_of_part fate vs
  fate_same fate e.no_values = refl
  fate_same fate (e.a_value v vs) = refl

  passed_same : (program : Program) (vs : Values) (cs : List Content) → passed program (values_with r vs) cs ≡ passed program vs cs
  passed_same program e.no_values cs = refl
  passed_same program (e.a_value v vs) [] = refl
  passed_same program (e.a_value v vs) (c ∷ cs) = one_by_one (one_by_one (late_same program v c) (λ c. refl)) (λ x. one_by_one (passed_same program vs cs) (λ xs. refl))

  abbrev one : Bool → Around
  one k = tracking k here

  abbrev two : Bool → Around
  two k = tracking k named

  first_part : (k : Bool) (fate : Fate) (v : Value) (us vs : Values) → fate_of_part fate us ≡ fate_of_part fate vs → eval (one k) (fate_of_part fate vs) (value_with r v) ≡ eval (two k) (fate_of_part fate vs) v
      → parts_of (one k) fate us ≡ parts_of (two k) fate vs → parts_of (one k) fate (e.a_value (value_with r v) us) ≡ parts_of (two k) fate (e.a_value v vs)
  first_part k fate v us vs h first rest =
      ap (λ f. Some (λ before. eval (one k) f (value_with r v) >>= (λ x. comma_from k before x (parts_of (one k) fate us)))) h
      ∙ (λ i. Some (λ before. first i >>= (λ x. comma_from k before x (rest i))))

  mutual
    value_same : (k : Bool) (v : Value) (fate : Fate) → eval (one k) fate (value_with r v) ≡ eval (two k) fate v
    value_same k (e.Constant t z) fate = refl
    value_same k (e.Load t p) fate = one_by_one (place_same k p) (λ x. refl)
    value_same k (e.Whole t p) fate = one_by_one (place_same k p) (λ x. refl)
    value_same k (e.Decay t p) fate = one_by_one (place_same k p) (λ x. refl)
    value_same k (e.AddressOf t p) fate = one_by_one (place_same k p) (λ x. refl)
    value_same k (e.Convert e.to_void t v) fate = one_by_one (value_same k v untaken) (λ x. refl)
    value_same k (e.Convert e.to_integer t v) fate = one_by_one (value_same k v (inside fate)) (λ x. refl)
    value_same k (e.Convert e.to_truth t v) fate = one_by_one (value_same k v (inside fate)) (λ x. refl)
    value_same k (e.Convert e.to_null t v) fate = one_by_one (value_same k v (inside fate)) (λ x. refl)
    value_same k (e.Convert e.to_pointer t v) fate = one_by_one (value_same k v (inside fate)) (λ x. refl)
    value_same k (e.Minus t v) fate = one_by_one (value_same k v wanted) (λ x. refl)
    value_same k (e.Complement t v) fate = one_by_one (value_same k v wanted) (λ x. refl)
    value_same k (e.Not t v) fate = one_by_one (value_same k v wanted) (λ x. refl)
    value_same k (e.Arithmetic t op s a b) fate = one_by_one (value_same k a wanted) (λ x. one_by_one (value_same k b wanted) (λ y. refl))
    value_same k (e.Move t op size side a b) fate = one_by_one (value_same k a wanted) (λ x. one_by_one (value_same k b wanted) (λ y. refl))
    value_same k (e.Distance t size a b) fate = one_by_one (value_same k a wanted) (λ x. one_by_one (value_same k b wanted) (λ y. refl))
    value_same k (e.Compare t op a b) fate = one_by_one (value_same k a wanted) (λ x. one_by_one (value_same k b wanted) (λ y. refl))
    value_same k (e.Logical t op a b) fate =
        one_by_one (value_same k a wanted) (λ x. one_by_one refl (λ c. either (decides op c) refl (ap (second_truth k (settled_in k x.footprint)) (value_same k b wanted))))
    value_same k (e.Conditional t test a b) fate =
        one_by_one (value_same k test wanted) (λ x. one_by_one refl (λ c. one_by_one (either c (value_same k a (of_branch fate)) (value_same k b (of_branch fate))) (λ y. refl)))
    value_same k (e.Assign t p v) fate =
        one_by_one (place_same k p) (λ x. one_by_one (value_same k v unconverted) (λ y. ap (λ s. taken (one k) t y >>= (λ q. apart k x.footprint q >>= (λ operands. aimed k (cells_of here.program t) x.value operands
        >>= (λ footprint. s >>= (λ c. assigned (one k) t x.value c footprint (is_struct t)))))) (late_same here.program v y.value)))
    value_same k (e.Update t op s p v) fate = one_by_one (place_same k p) (λ x. one_by_one refl (λ old. one_by_one (value_same k v wanted) (λ y. refl)))
    value_same k (e.UpdatePointer t op size p v) fate = one_by_one (place_same k p) (λ x. one_by_one refl (λ old. one_by_one (value_same k v wanted) (λ y. refl)))
    value_same k (e.Step t when op s p) fate = one_by_one (place_same k p) (λ x. refl)
    value_same k (e.StepPointer t when op size p) fate = one_by_one (place_same k p) (λ x. refl)
    value_same k (e.Call t f vs) fate = one_by_one (arguments_same k vs) (λ xs. one_by_one (passed_same here.program vs xs.value) (λ ys. refl))
    value_same k (e.Comma t vs) fate = ap parts_alone (parts_same k vs (of_last fate))
    value_same k (e.Marked t ms v) fate = behind (value_same k v (of_last fate)) (all_marked k ms)
    value_same k (e.Decide t v p q) fate = one_by_one (value_same k v wanted) (λ x. refl)
    value_same k (e.After t v id) fate = one_by_one (value_same k v (of_last fate)) (λ x. refl)

    place_same : (k : Bool) (p : Place) → place_of (one k) (place_with r p) ≡ place_of (two k) p
    place_same k (e.Object t n) = refl
    place_same k (e.Pointed t v) = one_by_one (value_same k v wanted) (λ x. refl)
    place_same k (e.Element t size side a b) = one_by_one (value_same k a wanted) (λ x. one_by_one (value_same k b wanted) (λ y. refl))
    place_same k (e.Part t offset p) = one_by_one (place_same k p) (λ x. refl)
    place_same k (e.Held t v) = one_by_one (value_same k v wanted) (λ x. refl)

    arguments_same : (k : Bool) (vs : Values) → arguments_of (one k) (values_with r vs) ≡ arguments_of (two k) vs
    arguments_same k e.no_values = refl
    arguments_same k (e.a_value v vs) = one_by_one (value_same k v unconverted) (λ x. one_by_one (arguments_same k vs) (λ xs. ap (λ t. with_argument (one k) t x xs) (type_with r v)))

    parts_same : (k : Bool) (vs : Values) (fate : Fate) → parts_of (one k) fate (values_with r vs) ≡ parts_of (two k) fate vs
    parts_same k e.no_values fate = refl
    parts_same k (e.a_value v vs) fate =
        first_part k fate v (values_with r vs) vs (fate_same fate vs) (value_same k v (fate_of_part fate vs)) (parts_same k vs fate)

    all_marked : (k : Bool) (ms : Marks) (at : At) → marked_all (one k) (marks_with r ms) at ≡ marked_all (two k) ms at
    all_marked k e.no_marks at = refl
    all_marked k (e.a_mark m ms) at = ap (marked_all (one k) (marks_with r ms)) (mark_same k m at) ∙ all_marked k ms (marked (two k) m at)

    mark_same : (k : Bool) (m : Mark) (at : At) → marked (one k) (mark_with r m) at ≡ marked (two k) m at
    mark_same k (e.mark predicate id bound) at = mark_by id at (value_same false predicate wanted) (pure_with r predicate) (bound_same k bound at)

    bound_same : (k : Bool) (bound : Bindings) (at : At) → bound_at (one k) (bindings_with r bound) at ≡ bound_at (two k) bound at
    bound_same k e.no_bindings at = refl
    bound_same k (e.a_binding name v rest) at = binding_by name at (value_same false v wanted) (pure_with r v) (bound_same k rest at)

  -- ---- what is asked of predicates and their operands

  pub truth_same : (v : Value) (at : At) → is_quietly_true here (value_with r v) at ≡ is_quietly_true named v at
  truth_same v at = λ i. elim (pure_only (pure_with r v i) (quietly (value_same false v wanted i >>= (λ x. truth_in x.value)) at)) as (λ _. Bool) [ None ↦ false | Some b ↦ b ]

  pub value_at_same : (v : Value) (at : At) → value_at here (value_with r v) at ≡ value_at named v at
  value_at_same v at = λ i. of_scalar here.program.model (scalar_of (type_with r v i)) (quietly (value_same false v wanted i >>= (λ x. number_in x.value)) at)

  pub noted_same : (m : Mark) (at : At) → marked here (mark_with r m) at ≡ marked named m at
  noted_same m at = mark_same here.tracks m at
