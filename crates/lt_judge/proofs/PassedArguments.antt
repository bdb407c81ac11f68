-- The arguments of calls, one more at a time.
use Rattle.std.proofs.Common.{◌≡◌, ℕ, suc, ◌+◌, ◌<◌, ◌==◌, nat_le, Bool, true, false, ◌&&◌, ◌||◌, get_or, take, List, [], ◌∷◌, ◌++◌, length, slice_get, Option, None, option_map, refl, sym, ap, ◌∙◌, arith, length-append}
use Rattle.std.proofs.lemmas.List.{take_more}
use Rattle.std.specs.Global.{Box}
use Rattle.lt_model.specs.declared.scalar.DataModel.{DataModel}
use Rattle.lt_tree.specs.declared.typed.tree.Value.{Value as Held}
use Rattle.lt_tree.specs.declared.typed.types.TypeId.{TypeId}
use Rattle.lt_tree.specs.Typing.Types.{CType, CTypes, Void, Num, Pointer, Array, Struct, Function, Floating, Qualified, is_function, unqualified}
use Rattle.lt_tree.specs.Typing.TypeRows.{type_in, all_in}
use Rattle.lt_tree.specs.Typing.ValueView.{value_of, values_in}
use Rattle.lt_tree.specs.Typing.TypedTree as e
use Rattle.lt_tree.specs.Typing.TypedTree.{Value, Values}
use Rattle.lt_tree.specs.Typing.Expressions as x
use Rattle.lt_tree.specs.Typing.Expressions.{own_type, value_in, converted_to}
use Rattle.lt_tree.specs.Typing.Rules.{Rule, broken_if, unless, floating_type, function_as_value, bad_assignment, bad_call, no_body}
use Rattle.lt_tree.specs.Typing.Entities.{Known}
use Rattle.lt_tree.specs.Typing.Operations.{fits, passed, promoted_argument, all_fit, has_type, count_types, takes_or_gives, is_right_number, can_be_run, judge_function}
use Rattle.lt_judge.specs.Arguments.{fits_at, passed_at}
use Rattle.lt_env.specs.declared.typed.Typed.{Typed}
use Rattle.lt_env.specs.Views.{typed_in, all_typed}

-- one value behind others
abbrev pub before : Values → Value → Values
before e.no_values v = e.a_value v e.no_values
before (e.a_value first rest) v = e.a_value first (before rest v)

held_more : (types : List CType) (vs : List Held) (v : Held) → values_in types (vs ++ v ∷ []) ≡ before (values_in types vs) (value_of types v)
held_more types [] v = refl
held_more types (w ∷ vs) v = ap (e.a_value (value_of types w)) (held_more types vs v)

typed_more : (types : List CType) (xs : List (Box Typed)) (y : Box Typed) → all_typed types (xs ++ y ∷ []) ≡ all_typed types xs ++ typed_in types y ∷ []
typed_more types [] y = refl
typed_more types (x ∷ xs) y = ap (λ l. typed_in types x ∷ l) (typed_more types xs y)

pub as_many : (types : List CType) (xs : List (Box Typed)) → length (all_typed types xs) ≡ length xs
as_many types [] = refl
as_many types (x ∷ xs) = ap suc (as_many types xs)

passed_more : (m : DataModel) (types : List CType) (ts : List TypeId) (xs : List x.Typed) (y : x.Typed)
    → passed m (xs ++ y ∷ []) (all_in types ts) ≡ before (passed m xs (all_in types ts)) (passed_at m (option_map (type_in types) (slice_get ts (length xs))) y)
passed_more m types [] [] y = refl
passed_more m types (t ∷ ts) [] y = refl
passed_more m types [] (x ∷ xs) y = ap (e.a_value (promoted_argument m x)) (passed_more m types [] xs y)
passed_more m types (t ∷ ts) (x ∷ xs) y = ap (e.a_value (converted_to (type_in types t) (value_in x))) (passed_more m types ts xs y)

and_true : (a : Bool) → (a && true) ≡ a
and_true true = refl
and_true false = refl

and_both : (a b c : Bool) → ((a && b) && c) ≡ (a && (b && c))
and_both true b c = refl
and_both false b c = refl

fit_more : (types : List CType) (ts : List TypeId) (xs : List x.Typed) (y : x.Typed)
    → all_fit (xs ++ y ∷ []) (all_in types ts) ≡ (all_fit xs (all_in types ts) && fits_at (option_map (type_in types) (slice_get ts (length xs))) y)
fit_more types [] [] y = and_true (fits_at None y)
fit_more types (t ∷ ts) [] y = and_true (fits (type_in types t) y)
fit_more types [] (x ∷ xs) y = ap (λ b. fits_at None x && b) (fit_more types [] xs y) ∙ sym (and_both (fits_at None x) (all_fit xs (all_in types [])) (fits_at None y))
fit_more types (t ∷ ts) (x ∷ xs) y =
    ap (λ b. fits (type_in types t) x && b) (fit_more types ts xs y)
    ∙ sym (and_both (fits (type_in types t) x) (all_fit xs (all_in types ts)) (fits_at (option_map (type_in types) (slice_get ts (length xs))) y))

pub one_passed : (m : DataModel) (types : List CType) (ts : List TypeId) (vs : List Held) (v : Held) (xs : List (Box Typed)) (y : Box Typed) (parameter : Option TypeId) → parameter ≡ slice_get ts (length xs)
    → values_in types vs ≡ passed m (all_typed types xs) (all_in types ts) → value_of types v ≡ passed_at m (option_map (type_in types) parameter) (typed_in types y)
    → values_in types (vs ++ v ∷ []) ≡ passed m (all_typed types (xs ++ y ∷ [])) (all_in types ts)
one_passed m types ts vs v xs y parameter at those this =
    held_more types vs v ∙ ap (λ l. before l (value_of types v)) those ∙ ap (before (passed m (all_typed types xs) (all_in types ts))) this
    ∙ ap (λ o. before (passed m (all_typed types xs) (all_in types ts)) (passed_at m (option_map (type_in types) o) (typed_in types y))) (at ∙ ap (slice_get ts) (sym (as_many types xs)))
    ∙ sym (passed_more m types ts (all_typed types xs) (typed_in types y)) ∙ ap (λ l. passed m l (all_in types ts)) (sym (typed_more types xs y))

pub one_fits : (types : List CType) (ts : List TypeId) (b d : Bool) (xs : List (Box Typed)) (y : Box Typed) (parameter : Option TypeId) → parameter ≡ slice_get ts (length xs)
    → b ≡ all_fit (all_typed types xs) (all_in types ts) → d ≡ (b && fits_at (option_map (type_in types) parameter) (typed_in types y)) → d ≡ all_fit (all_typed types (xs ++ y ∷ [])) (all_in types ts)
one_fits types ts b d xs y parameter at those this =
    this ∙ ap (λ c. c && fits_at (option_map (type_in types) parameter) (typed_in types y)) those
    ∙ ap (λ o. all_fit (all_typed types xs) (all_in types ts) && fits_at (option_map (type_in types) o) (typed_in types y)) (at ∙ ap (slice_get ts) (sym (as_many types xs)))
    ∙ sym (fit_more types ts (all_typed types xs) (typed_in types y)) ∙ ap (λ l. all_fit l (all_in types ts)) (sym (typed_more types xs y))

pub one_longer : {A B : Type 0} (xs : List A) (ys : List B) (x : A) (y : B) → length xs ≡ length ys → length (xs ++ x ∷ []) ≡ length (ys ++ y ∷ [])
one_longer xs ys x y same = omega (arith, length-append xs (x ∷ []), length-append ys (y ∷ []))

-- ---- types, one more at a time

or_false : (a : Bool) → (a || false) ≡ a
or_false true = refl
or_false false = refl

or_both : (a b c : Bool) → ((a || b) || c) ≡ (a || (b || c))
or_both true b c = refl
or_both false b c = refl

has_more : (test : CType → Bool) (types : List CType) (ts : List TypeId) (t : TypeId) → has_type test (all_in types (ts ++ t ∷ [])) ≡ (has_type test (all_in types ts) || test (type_in types t))
has_more test types [] t = or_false (test (type_in types t))
has_more test types (u ∷ ts) t =
    ap (λ b. test (type_in types u) || b) (has_more test types ts t) ∙ sym (or_both (test (type_in types u)) (has_type test (all_in types ts)) (test (type_in types t)))

pub one_unread : (test : CType → Bool) (types : List CType) (ts : List TypeId) (i : ℕ) (d : TypeId) (a b r : Bool) → i < length ts → r ≡ (a || b) → a ≡ has_type test (all_in types (take i ts))
    → b ≡ test (type_in types (get_or ts i d)) → r ≡ has_type test (all_in types (take (i + 1) ts))
one_unread test types ts i d a b r within is those this =
    is ∙ ap (λ c. c || b) those ∙ ap (λ c. has_type test (all_in types (take i ts)) || c) this ∙ sym (has_more test types (take i ts) (get_or ts i d))
    ∙ ap (λ l. has_type test (all_in types l)) (sym (take_more ts i d within))

pub count_in : (types : List CType) (ts : List TypeId) → length ts ≡ count_types (all_in types ts)
count_in types [] = refl
count_in types (t ∷ ts) = ap suc (count_in types ts)

-- ---- what is called

pub no_function : (known : Known) (name : List ℕ) (t : CType) (xs : List x.Typed) → is_function t ≡ false → x.judgement (bad_call ∷ []) x.nothing ≡ judge_function known name t xs
unfolding judge_function
no_function known name Void xs is = refl
no_function known name (Num s) xs is = refl
no_function known name (Pointer t) xs is = refl
no_function known name (Array t n) xs is = refl
no_function known name (Struct k) xs is = refl
no_function known name (Function t ts dots) xs is = cc
no_function known name Floating xs is = refl
no_function known name (Qualified q t) xs is = refl

-- the rules that a call breaks, by what breaks them
abbrev pub call_breaks : Bool → Bool → Bool → Bool → Bool → List Rule
call_breaks floating function fit right run =
    broken_if floating_type floating ++ broken_if function_as_value function ++ unless fit bad_assignment ++ unless right bad_call ++ unless run no_body

pub breaks_as : (faults : List Rule) (a b fit d e i j k l : Bool) → faults ≡ call_breaks a b fit d e → a ≡ i → b ≡ j → d ≡ k → e ≡ l → faults ≡ call_breaks i j fit k l
breaks_as faults a b fit d e i j k l is floating function right run =
    is ∙ ap (λ x. call_breaks x b fit d e) floating ∙ ap (λ x. call_breaks i x fit d e) function ∙ ap (λ x. call_breaks i j fit x e) right ∙ ap (call_breaks i j fit k) run

pub right_number : (types : List CType) (ts : List TypeId) (n count : ℕ) (dots b : Bool) → b ≡ ((n == count) || (dots && nat_le count n)) → count ≡ length ts → b ≡ is_right_number n (all_in types ts) dots
right_number types ts n count dots b is len = is ∙ ap (λ k. (n == k) || (dots && nat_le k n)) (len ∙ count_in types ts)

pub called_is : (known : Known) (name : List ℕ) (r : CType) (ts : CTypes) (dots : Bool) (xs : List x.Typed) (j : x.Judged) (faults : List Rule) (t : x.Typed) (fit : Bool) (number : ℕ) (vs : Values)
    → j ≡ x.judgement faults t
    → faults ≡ call_breaks (takes_or_gives x.has_floating r ts) (takes_or_gives x.has_pointer_to_function r ts) fit (is_right_number number ts dots) (can_be_run known name r)
    → number ≡ length xs → fit ≡ all_fit xs ts → t ≡ x.varies (e.Call (unqualified r) name vs) → vs ≡ passed known.model xs ts → j ≡ judge_function known name (Function r ts dots) xs
unfolding judge_function
called_is known name r ts dots xs j faults t fit number vs is breaks many fits_all typed values =
    is ∙ ap (λ f. x.judgement f t) breaks
    ∙ ap (λ n. x.judgement (call_breaks (takes_or_gives x.has_floating r ts) (takes_or_gives x.has_pointer_to_function r ts) fit (is_right_number n ts dots) (can_be_run known name r)) t) many
    ∙ ap (λ b. x.judgement (call_breaks (takes_or_gives x.has_floating r ts) (takes_or_gives x.has_pointer_to_function r ts) b (is_right_number (length xs) ts dots) (can_be_run known name r)) t) fits_all
    ∙ ap (x.judgement (call_breaks (takes_or_gives x.has_floating r ts) (takes_or_gives x.has_pointer_to_function r ts) (all_fit xs ts) (is_right_number (length xs) ts dots) (can_be_run known name r)))
    (typed ∙ ap (λ v. x.varies (e.Call (unqualified r) name v)) values)
