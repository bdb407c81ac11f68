-- What pointers point to.
use Rattle.std.proofs.Common.{◌≡◌, Bool, false, List, Option, Some, None, IfSome, option_map, refl, sym, ap, ◌∙◌}
use Rattle.lt_tree.specs.declared.typed.types.TypeId.{TypeId}
use Rattle.lt_tree.specs.Typing.Types.{CType, Pointer, Qualified, target_of, is_function, is_pointer_to_function}
use Rattle.lt_tree.specs.Typing.TypeRows.{type_in}
use Rattle.lt_tree.specs.Typing.Operands.{holds, points_to}

pub pointer_to_function : (x : CType) → is_pointer_to_function x ≡ points_to is_function x
pointer_to_function (Pointer x) = refl
pointer_to_function (Qualified q x) = pointer_to_function x
pointer_to_function x = refl

pub then_some : {A : Type 0} {P Q : A → Type 0} (r : Option A) → ((a : A) → P a → Q a) → IfSome r P → IfSome r Q
then_some None f h = tt
then_some (Some a) f h = f a h

pub points_some : (types : List CType) (test : CType → Bool) (x : CType) (o : Option TypeId) (u : TypeId) → option_map (type_in types) o ≡ target_of x → o ≡ Some u
    → points_to test x ≡ test (type_in types u)
points_some types test x o u known is = ap (holds test) (sym known) ∙ ap (λ p. holds test (option_map (type_in types) p)) is

pub points_none : (types : List CType) (test : CType → Bool) (x : CType) (o : Option TypeId) → option_map (type_in types) o ≡ target_of x → o ≡ None → points_to test x ≡ false
points_none types test x o known is = ap (holds test) (sym known) ∙ ap (λ p. holds test (option_map (type_in types) p)) is
