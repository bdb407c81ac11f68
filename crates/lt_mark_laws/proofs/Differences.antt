-- A label that two pure expressions differ is true exactly where both have values of the type and these differ.
use Rattle.std.proofs.Common.{◌≡◌, ℤ, Option, Some, None, Bool, true, false, refl, sym, subst}
use Rattle.std.specs.Prelude.{pos, not, ◌&&◌, if◌then◌else◌}
use Rattle.std.specs.Ordering.{int_eq}
use Rattle.lt_model.specs.declared.cell.Content.{Content}
use Rattle.lt_model.specs.declared.cell.Content.TheVariants as content
use Rattle.lt_model.specs.declared.operator.Op.TheVariants as O
use Rattle.lt_model.specs.declared.scalar.Scalar.{Scalar}
use Rattle.lt_model.specs.Operators.{truth, value_of, is_value}
use Rattle.lt_model.specs.State.{Footprint, Valued, Gives, Ends}
use Rattle.lt_tree.specs.Typing.TypedTree as e
use Rattle.lt_tree.specs.Typing.TypedTree.{Value}
use Rattle.lt_ir.specs.Running.{At, Answer, Step, ◌>>=◌, gives, defined, absurdity, quietly}
use Rattle.lt_ir.specs.Evaluation.{valued, number_in, truth_in, applied}
use Rattle.lt_meaning.specs.Expressions.{is_pure, pure_only, Around, wanted, tracking, eval}
use Rattle.lt_mark_laws.specs.Laws.{number_at, differ, DifferencesAreExact}
use Rattle.lt_mark_laws.proofs.Pure.{Leaves, value_still}

-- the number and the truth that an answer has
abbrev number_of : Answer (Valued Content) → Option ℤ
number_of m = elim (elim (m) as (λ _. Answer ℤ) [ Gives x at1 ↦ number_in x.value at1 | Ends end at1 ↦ Ends end at1 ]) as (λ _. Option ℤ) [ Gives z at1 ↦ Some z | Ends end at1 ↦ None ]

abbrev truth_of : Answer (Valued Content) → Bool
truth_of m =
    elim (elim (elim (m) as (λ _. Answer Bool) [ Gives x at1 ↦ truth_in x.value at1 | Ends end at1 ↦ Ends end at1 ]) as (λ _. Option Bool) [ Gives b at1 ↦ Some b | Ends end at1 ↦ None ]) as (λ _. Bool) [ None ↦ false | Some b ↦ b ]

module _ (here : Around) (s : Scalar) where
  -- the operator on two values
  abbrev compared_with : Valued Content → Valued Content → Step (Valued Content)
  compared_with x y = applied here.program.model O.Ne s x.value y.value >>= (λ z. gives (valued (content.Number z) x.footprint))

  truth_back : (b : Bool) → not (int_eq (truth b) (pos 0)) ≡ b
  truth_back true = refl
  truth_back false = refl

  on_numbers : (b : Bool) (m n : ℤ) (f : Footprint) (at : At) → truth_of (((if b then defined (value_of here.program.model O.Ne s m n) else absurdity) >>= (λ z. gives (valued (content.Number z) f))) at) ≡ (b && not (int_eq m n))
  on_numbers true m n f at = truth_back (not (int_eq m n))
  on_numbers false m n f at = refl

  on_values : (c d : Content) (f g : Footprint) (at1 at2 : At) → truth_of (compared_with (valued c f) (valued d g) at2) ≡ differ here.program.model s (number_of (Gives (valued c f) at1)) (number_of (Gives (valued d g) at2))
  on_values content.Unset d f g at1 at2 = refl
  on_values (content.Address p) d f g at1 at2 = refl
  on_values (content.Number m) content.Unset f g at1 at2 = refl
  on_values (content.Number m) (content.Address p) f g at1 at2 = refl
  on_values (content.Number m) (content.Number n) f g at1 at2 = on_numbers (is_value here.program.model s m && is_value here.program.model s n) m n f at2

  on_right : (c : Content) (f : Footprint) (at1 : At) (n : Answer (Valued Content)) → truth_of (elim (n) as (λ _. Answer (Valued Content)) [ Gives y at2 ↦ compared_with (valued c f) y at2 | Ends end at2 ↦ Ends end at2 ]) ≡ differ here.program.model s (number_of (Gives (valued c f) at1)) (number_of n)
  on_right c f at1 (Gives y at2) = on_values c y.value f y.footprint at1 at2
  on_right content.Unset f at1 (Ends end at2) = refl
  on_right (content.Address p) f at1 (Ends end at2) = refl
  on_right (content.Number m) f at1 (Ends end at2) = refl

  on_left : (b : Value) (at0 : At) (m : Answer (Valued Content)) → Leaves at0 m → truth_of (elim (m) as (λ _. Answer (Valued Content)) [ Gives x at1 ↦ (eval (tracking false here) wanted b >>= (λ y. compared_with x y)) at1 | Ends end at1 ↦ Ends end at1 ]) ≡ differ here.program.model s (number_of m) (number_of (eval (tracking false here) wanted b at0))
  on_left b at0 (Gives x at1) h = subst (λ z. truth_of ((eval (tracking false here) wanted b >>= (λ y. compared_with x y)) at1) ≡ differ here.program.model s (number_of (Gives x at1)) (number_of (eval (tracking false here) wanted b z))) h (on_right x.value x.footprint at1 (eval (tracking false here) wanted b at1))
  on_left b at0 (Ends end at1) h = refl

pure_both : (p q : Bool) (it : Option Bool) (r : Bool) → p ≡ true → q ≡ true → elim (it) as (λ _. Bool) [ None ↦ false | Some b ↦ b ] ≡ r → elim (pure_only {A = Bool} (p && q) it) as (λ _. Bool) [ None ↦ false | Some b ↦ b ] ≡ r
pure_both p q it r hp hq h = subst (λ p. elim (pure_only {A = Bool} (p && q) it) as (λ _. Bool) [ None ↦ false | Some b ↦ b ] ≡ r) (sym hp) (subst (λ q. elim (pure_only {A = Bool} (true && q) it) as (λ _. Bool) [ None ↦ false | Some b ↦ b ] ≡ r) (sym hq) h)

pub exact : DifferencesAreExact
exact here t s v w at hv hw =
    pure_both (is_pure v) (is_pure w) (quietly (eval (tracking false here) wanted (e.Arithmetic t O.Ne s v w) >>= (λ x. truth_in x.value)) at) (differ here.program.model s (number_at here v at) (number_at here w at)) hv hw
    (on_left here s w at (eval (tracking false here) wanted v at) ((value_still here v wanted hv).leaves at))
