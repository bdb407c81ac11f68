-- The code of an expression or an lvalue by what it is.
use Rattle.std.proofs.Common.{◌≡◌, ℕ, ◌+◌, true, List, refl, sym, subst, Result}
use Rattle.std.specs.declared.alloc.AllocError.{AllocError}
use Rattle.lt_tree.specs.declared.typed.tree.Value.{Value}
use Rattle.lt_tree.specs.declared.typed.tree.Place.{Place}
use Rattle.lt_tree.specs.Typing.Types.{CType}
use Rattle.lt_tree.specs.Typing.TypedTree as e
use Rattle.lt_tree.specs.Typing.ValueView.{value_of, place_of}
use Rattle.lt_ir.specs.declared.node.Node.TheVariants as node
use Rattle.lt_meaning.specs.Expressions.{wanted, Fate as Kind}
use Rattle.lt_code.specs.Code.{Site, value_code, test_code}
use Rattle.lt_code.specs.Costs.{nodes_of}
use Rattle.lt_emit.specs.declared.builder.Builder.{Builder}
use Rattle.lt_emit.specs.declared.fate.Fate.{Fate}
use Rattle.lt_emit.specs.Spending.{IsWithin}
use Rattle.lt_emit.specs.Emission.{Here}
use Rattle.lt_emit.specs.Fate.{fate_of}
use Rattle.lt_emit.specs.Stands.{is_plain, HasValue, HasPlace, HasTest, GivesPlain, GivesValue, GivesPlace, GivesTest, value_cost, place_cost, test_cost}
use Rattle.lt_emit.proofs.Spent.{within, itself}

same_value : (tree : List CType → e.Value) (here : Here) (r : ℕ) {v : e.Value} → v ≡ tree here.types
    → IsWithin (value_cost tree r here) (value_cost (λ types. v) r here)
same_value tree here r is =
    let Costs : e.Value → Type 0 = λ w. IsWithin (value_cost tree r here) (value_cost (λ types. w) r here) in
    subst Costs (sym is) (itself (value_cost tree r here))

pub plain_arm :
    {a b : Builder} {result : Result ℕ AllocError} (v : Value) (fate : Fate) (r to : ℕ) (tree : List CType → e.Value)
    → ((types : List CType) → value_of types v ≡ tree types)
    → GivesPlain a b result tree r to
    → GivesValue a b result fate (λ types. value_of types v) r to
plain_arm v fate r to tree is code =
    within code (λ from here it plain.
    let Is : e.Value → Type 0 = λ w. HasValue (λ types. w) fate r to from here it in
    subst Is (sym (is here.types)) (λ known. plain known (fate_of fate)))
    (λ here. same_value tree here r (is here.types))

pub value_arm :
    {a b : Builder} {result : Result ℕ AllocError} (v : Value) (fate : Fate) (r to : ℕ) (tree : List CType → e.Value)
    → ((types : List CType) → value_of types v ≡ tree types)
    → GivesValue a b result fate tree r to
    → GivesValue a b result fate (λ types. value_of types v) r to
value_arm v fate r to tree is code =
    within code (λ from here it stands.
    let Is : e.Value → Type 0 = λ w. HasValue (λ types. w) fate r to from here it in
    subst Is (sym (is here.types)) stands)
    (λ here. same_value tree here r (is here.types))

-- a value whose fate is another's
pub fated : (s : Site) (v : e.Value) (fate : Fate) {f : Kind} (r from to : ℕ) → fate_of fate ≡ f
    → value_code s (fate_of fate) v r from to → value_code s f v r from to
fated s v fate {f} r from to is code =
    let Is : Kind → Type 0 = λ f. value_code s f v r from to in subst Is is code

pub place_arm :
    {a b : Builder} {result : Result ℕ AllocError} (p : Place) (r to : ℕ) (tree : List CType → e.Place)
    → ((types : List CType) → place_of types p ≡ tree types)
    → GivesPlace a b result tree r to
    → GivesPlace a b result (λ types. place_of types p) r to
place_arm p r to tree is code =
    within code (λ from here it stands.
    let Is : e.Place → Type 0 = λ w. HasPlace (λ types. w) r to from here it in
    subst Is (sym (is here.types)) stands)
    (λ here.
    let Costs : e.Place → Type 0 = λ w. IsWithin (place_cost tree r here) (place_cost (λ types. w) r here) in
    subst Costs (sym (is here.types)) (itself (place_cost tree r here)))

pub test_arm :
    {a b : Builder} {result : Result ℕ AllocError} (v : Value) (r on off : ℕ) (tree : List CType → e.Value)
    → ((types : List CType) → value_of types v ≡ tree types)
    → GivesTest a b result tree r on off
    → GivesTest a b result (λ types. value_of types v) r on off
test_arm v r on off tree is code =
    within code (λ from here it stands.
    let Is : e.Value → Type 0 = λ w. HasTest (λ types. w) r on off from here it in
    subst Is (sym (is here.types)) stands)
    (λ here.
    let Costs : e.Value → Type 0 = λ w. IsWithin (test_cost tree r here) (test_cost (λ types. w) r here) in
    subst Costs (sym (is here.types)) (itself (test_cost tree r here)))

-- a test by its value and a branch
pub plain_tested :
    (s : Site) (from : ℕ) (v : e.Value) {r m on off : ℕ} → is_plain v ≡ true → value_code s wanted v r from m
    → s.stands m (node.Branch r on off) → test_code s v r from on off
plain_tested s from (e.Constant t z) plain v n = (_, v, n)
plain_tested s from (e.Load t p) plain v n = (_, v, n)
plain_tested s from (e.Whole t p) plain v n = (_, v, n)
plain_tested s from (e.Decay t p) plain v n = (_, v, n)
plain_tested s from (e.AddressOf t p) plain v n = (_, v, n)
plain_tested s from (e.Convert e.to_integer t w) plain v n = (_, v, n)
plain_tested s from (e.Convert e.to_truth t w) plain v n = (_, v, n)
plain_tested s from (e.Convert e.to_null t w) plain v n = (_, v, n)
plain_tested s from (e.Convert e.to_pointer t w) plain v n = (_, v, n)
plain_tested s from (e.Convert e.to_void t w) plain v n = (_, v, n)
plain_tested s from (e.Minus t w) plain v n = (_, v, n)
plain_tested s from (e.Complement t w) plain v n = (_, v, n)
plain_tested s from (e.Not t w) plain v n = absurd (cc)
plain_tested s from (e.Arithmetic t op k a b) plain v n = (_, v, n)
plain_tested s from (e.Move t op size side a b) plain v n = (_, v, n)
plain_tested s from (e.Distance t size a b) plain v n = (_, v, n)
plain_tested s from (e.Compare t op a b) plain v n = (_, v, n)
plain_tested s from (e.Logical t op a b) plain v n = absurd (cc)
plain_tested s from (e.Conditional t test a b) plain v n = (_, v, n)
plain_tested s from (e.Assign t p w) plain v n = (_, v, n)
plain_tested s from (e.Update t op k p w) plain v n = (_, v, n)
plain_tested s from (e.UpdatePointer t op size p w) plain v n = (_, v, n)
plain_tested s from (e.Step t when op k p) plain v n = (_, v, n)
plain_tested s from (e.StepPointer t when op size p) plain v n = (_, v, n)
plain_tested s from (e.Call t name vs) plain v n = (_, v, n)
plain_tested s from (e.Comma t e.no_values) plain v n = (_, v, n)
plain_tested s from (e.Comma t (e.a_value w ws)) plain v n = (_, v, n)
plain_tested s from (e.Marked t ms w) plain v n = absurd (cc)
plain_tested s from (e.Decide t w when_true when_false) plain v n = absurd (cc)
plain_tested s from (e.After t w id) plain v n = (_, v, n)

-- in so many nodes
pub plain_nodes : (v : e.Value) → is_plain v ≡ true → (nodes_of v).test ≡ (nodes_of v).value + 1
plain_nodes (e.Constant t z) plain = refl
plain_nodes (e.Load t p) plain = refl
plain_nodes (e.Whole t p) plain = refl
plain_nodes (e.Decay t p) plain = refl
plain_nodes (e.AddressOf t p) plain = refl
plain_nodes (e.Convert how t w) plain = refl
plain_nodes (e.Minus t w) plain = refl
plain_nodes (e.Complement t w) plain = refl
plain_nodes (e.Not t w) plain = absurd (cc)
plain_nodes (e.Arithmetic t op k a b) plain = refl
plain_nodes (e.Move t op size side a b) plain = refl
plain_nodes (e.Distance t size a b) plain = refl
plain_nodes (e.Compare t op a b) plain = refl
plain_nodes (e.Logical t op a b) plain = absurd (cc)
plain_nodes (e.Conditional t test a b) plain = refl
plain_nodes (e.Assign t p w) plain = refl
plain_nodes (e.Update t op k p w) plain = refl
plain_nodes (e.UpdatePointer t op size p w) plain = refl
plain_nodes (e.Step t when op k p) plain = refl
plain_nodes (e.StepPointer t when op size p) plain = refl
plain_nodes (e.Call t name vs) plain = refl
plain_nodes (e.Comma t vs) plain = refl
plain_nodes (e.Marked t ms w) plain = absurd (cc)
plain_nodes (e.Decide t w when_true when_false) plain = absurd (cc)
plain_nodes (e.After t w id) plain = refl
