-- The values of comma expressions, one more at a time.
use Rattle.std.proofs.Common.{◌≡◌, List, [], ◌∷◌, ◌++◌, refl, sym, ap, ◌∙◌}
use Rattle.std.specs.Global.{Box}
use Rattle.lt_tree.specs.declared.typed.tree.Value.{Value as Held}
use Rattle.lt_tree.specs.Typing.Types.{CType}
use Rattle.lt_tree.specs.Typing.ValueView.{value_of, values_in}
use Rattle.lt_tree.specs.Typing.TypedTree as e
use Rattle.lt_tree.specs.Typing.TypedTree.{Value, Values}
use Rattle.lt_tree.specs.Typing.Expressions as x
use Rattle.lt_tree.specs.Typing.Expressions.{own_type, value_in}
use Rattle.lt_tree.specs.Typing.BinaryOperations.{values_of, last_of}
use Rattle.lt_env.specs.declared.typed.Typed.{Typed}
use Rattle.lt_env.specs.Views.{typed_in, all_typed}

-- one value behind others
abbrev pub with_value : Values → Value → Values
with_value e.no_values v = e.a_value v e.no_values
with_value (e.a_value first rest) v = e.a_value first (with_value rest v)

values_more : (xs : List x.Typed) (y : x.Typed) → values_of (xs ++ y ∷ []) ≡ with_value (values_of xs) (value_in y)
values_more [] y = refl
values_more (x ∷ xs) y = ap (e.a_value (value_in x)) (values_more xs y)

held_more : (types : List CType) (vs : List Held) (v : Held) → values_in types (vs ++ v ∷ []) ≡ with_value (values_in types vs) (value_of types v)
held_more types [] v = refl
held_more types (w ∷ vs) v = ap (e.a_value (value_of types w)) (held_more types vs v)

typed_more : (types : List CType) (xs : List (Box Typed)) (y : Box Typed) → all_typed types (xs ++ y ∷ []) ≡ all_typed types xs ++ typed_in types y ∷ []
typed_more types [] y = refl
typed_more types (x ∷ xs) y = ap (λ l. typed_in types x ∷ l) (typed_more types xs y)

last_more : (t : CType) (xs : List x.Typed) (y : x.Typed) → last_of t (xs ++ y ∷ []) ≡ own_type y
last_more t [] y = refl
last_more t (x ∷ xs) y = last_more (own_type x) xs y

pub one_more : (types : List CType) (vs : List Held) (v : Held) (xs : List (Box Typed)) (y : Box Typed)
    → values_in types vs ≡ values_of (all_typed types xs) → value_of types v ≡ value_in (typed_in types y) → values_in types (vs ++ v ∷ []) ≡ values_of (all_typed types (xs ++ y ∷ []))
one_more types vs v xs y before this =
    held_more types vs v ∙ ap (λ l. with_value l (value_of types v)) before ∙ ap (with_value (values_of (all_typed types xs))) this
    ∙ sym (values_more (all_typed types xs) (typed_in types y)) ∙ ap values_of (sym (typed_more types xs y))

pub last_is : (types : List CType) (t : CType) (xs : List (Box Typed)) (y : Box Typed) → own_type (typed_in types y) ≡ last_of t (all_typed types (xs ++ y ∷ []))
last_is types t xs y = sym (ap (last_of t) (typed_more types xs y) ∙ last_more t (all_typed types xs) (typed_in types y))
