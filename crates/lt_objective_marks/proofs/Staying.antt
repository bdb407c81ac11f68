-- What is there as an integer stays one wherever more is known.
use Rattle.std.proofs.Common.{◌≡◌, ℕ, List, ◌++◌, Option, Some, None, Bool, true, refl, sym, ap, ◌∙◌, subst, append_assoc}
use denote.Enum.Bare.{same_true, true_same}
use Rattle.lt_model.specs.contracts.scalar.Scalar.{the_type}
use Rattle.lt_model.specs.declared.scalar.Scalar.{Scalar}
use Rattle.lt_tree.specs.Tree as c
use Rattle.lt_tree.specs.Typing.Types.{CType, Void, Num, Pointer, Array, Struct, Function, Floating, Qualified, scalar_of, is_integer, same_scalar}
use Rattle.lt_tree.specs.Typing.Entities.{Known}
use Rattle.lt_tree.specs.Typing.Steps.{Goes}
use Rattle.lt_tree.specs.Typing.Operands.{holds}
use Rattle.lt_tree.specs.Typing.Expressions.{Typed, as_value, own_type}
use Rattle.lt_tree.specs.Typing.ExpressionTyping.{expression}
use Rattle.lt_object_laws.specs.Further.{IsFurther}
use Rattle.lt_mark_laws.proofs.Lists.{all_both}
use Rattle.lt_mark_typing.specs.Beside.{IsBeside}
use Rattle.lt_mark_typing.specs.Placed.{IsAt, IsThere}
use Rattle.lt_mark_typing.proofs.NewMarks.{marked_further, behind_alone}
use Rattle.lt_objective_typing.specs.Laws.{IsThereAs}
use Rattle.lt_mutation_labels.specs.Laws.{IsLater, StaysInteger}

-- ---- integer types of one scalar

abbrev has_scalar : Scalar → CType → Bool
has_scalar s t = holds (same_scalar s) (scalar_of t)

scalar_by : (s : Scalar) (found : Option Scalar) → holds (same_scalar s) found ≡ true → found ≡ Some s
scalar_by s None is = absurd cc
scalar_by s (Some r) is = ap Some (sym (same_true the_type tt s r is))

scalar_found : (t : CType) → is_integer t ≡ true → (s : Scalar) × (has_scalar s t ≡ true)
scalar_found (Num s) is = (s, true_same the_type s s refl)
scalar_found (Qualified q t) is = scalar_found t is
scalar_found Void is = absurd cc
scalar_found (Pointer t) is = absurd cc
scalar_found (Array t n) is = absurd cc
scalar_found (Struct n) is = absurd cc
scalar_found (Function t ts dots) is = absurd cc
scalar_found Floating is = absurd cc

-- ---- where more is known

later_behind : (there k : Known) → IsLater there k → (test : CType → Bool) (it : c.Expression) (found : IsAt test k it) → IsLater there (record k { next = found.1; objects = k.objects ++ found.3; facts = found.2 })
later_behind there k later test it found = (
  later.0 ++ found.3,
  all_both IsFurther later.0 found.3 later.1 found.4,
  ap (λ (known : Known). record known { next = found.1; objects = k.objects ++ found.3; facts = found.2 }) later.2
      ∙ ap (λ objects. record there { next = found.1; objects = objects; facts = found.2 }) (ap (λ (known : Known). known.objects ++ found.3) later.2 ∙ append_assoc there.objects later.0 found.3),
)

pub stays_integer : {new : ℕ → Bool} {used : List ℕ} {known : Known} {type : CType} {it : c.Expression} → IsThereAs new used known type it → is_integer type ≡ true
    → {further : List Bool} {there : Known} → IsBeside new used further known there → StaysInteger there it
stays_integer {new} {used} {known} {type} {it} is_there integer {further} {there} beside = record { scalar = s; typed = typed_at }
  where
    s : Scalar
    s = (scalar_found type integer).0

    everywhere : IsThere (has_scalar s) new used known it
    everywhere = is_there (has_scalar s) (scalar_found type integer).1

    typed_at : (k : Known) → IsLater there k → (x : Typed) × (behind : Known) × (expression it as_value k ≡ Goes x behind) × IsLater there behind × (scalar_of (own_type x) ≡ Some s)
    typed_at k later =
        let found = everywhere.1 (further ++ marked_further later.0) k (subst (IsBeside new used (further ++ marked_further later.0) known) (sym later.2) (behind_alone k.next later.0 k.facts later.1 beside)) in
        (found.0, _, found.5, later_behind there k later (has_scalar s) it found, scalar_by s (scalar_of (own_type found.0)) found.6)
