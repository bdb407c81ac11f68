use Rattle.std.proofs.Common.{◌≡◌, ℕ, ◌+◌, ◌*◌, ◌^◌, ◌<◌, ◌≤◌, true, ℤ, pos, negsuc, ◌+ℤ◌, ◌*ℤ◌, List, ◌∷◌, length, drop, get_or, Option, Some, None, refl, sym, ap, ◌∙◌, subst, arith}
use Rattle.std.specs.Prelude.{nat_abs, nat_lt, option_map, option_and_then}
use Rattle.std.specs.Int.RustNames.{unsigned_abs}
use Rattle.std.proofs.lemmas.Int.{ints, unsigned_abs-mul, fits_signed_from_abs, to_z-of_z}
use Rattle.std.proofs.lemmas.List.{at_drop_more, at_drop_all}
use mir.Syntax.{w128}
use mir.Val.{SFits, to_z, of_z}
use Rattle.std.proofs.lemmas.Bool.Decides.{nat_tests}
use Rattle.std.proofs.Math.Nat.{mul-le-mul}
use Rattle.lt_model.specs.declared.input.Input.{Input}
use Rattle.lt_model.specs.declared.input.NeedTerm.{NeedTerm}
use Rattle.lt_model.specs.declared.input.Spec.{Spec}
use Rattle.lt_entry.specs.Meeting.{number_at, sum_of}
use Rattle.lt_input_values.specs.Bounds.{IsWithin}

same_abs : (z : ℤ) → nat_abs z ≡ unsigned_abs z
same_abs (pos n) = refl
same_abs (negsuc n) = refl

small_abs : (n : ℕ) (z : ℤ) → IsWithin n z → unsigned_abs z ≤ n
small_abs n (pos m) h = omega (arith, ints)
small_abs n (negsuc m) h = omega (arith, ints)

within_abs : (n : ℕ) (z : ℤ) → unsigned_abs z ≤ n → IsWithin n z
within_abs n (pos m) h = (omega (arith, ints), omega (arith, ints))
within_abs n (negsuc m) h = (omega (arith, ints), omega (arith, ints))

-- A small factor times a number of 64 bits.
pub product_within : (a b : ℤ) → nat_lt (nat_abs a) (2 ^ 31) ≡ true → IsWithin (2 ^ 64) b → IsWithin (2 ^ 95) (a *ℤ b)
product_within a b ha hb =
    let small : nat_abs a ≤ 2 ^ 31 = grind (arith, nat_tests) in
    let left : unsigned_abs a ≤ 2 ^ 31 = rw (← same_abs a) small in
    let both : unsigned_abs a * unsigned_abs b ≤ 2 ^ 31 * 2 ^ 64 = mul-le-mul left (small_abs (2 ^ 64) b hb) in
    within_abs (2 ^ 95) (a *ℤ b) (rw (unsigned_abs-mul a b) both)

pub sum_within : (n : ℕ) (a b : ℤ) → IsWithin (n * 2 ^ 95) a → IsWithin (2 ^ 95) b → IsWithin ((n + 1) * 2 ^ 95) (a +ℤ b)
sum_within n a b ha hb = (omega (arith, ints), omega (arith, ints))

-- A number that is small enough fits.
pub within_fits : (n : ℕ) (z : ℤ) → n < 2 ^ 127 → IsWithin n z → SFits w128 z
within_fits n z small h = fits_signed_from_abs w128 z (omega (arith, small_abs n z h))

-- ---- sums of terms

unnumbered : (term : NeedTerm) (o : Option ℤ) → option_map (λ z. term.factor *ℤ z) o ≡ None → o ≡ None
unnumbered term None h = refl
unnumbered term (Some z) h = absurd (cc)

sum_first : (spec : Spec) (input : Input) (terms : List NeedTerm) (i : ℕ) (term : NeedTerm) → i < length terms → term ≡ get_or terms i term → sum_of spec input (drop i terms) ≡ sum_of spec input (term ∷ drop (i + 1) terms)
sum_first spec input terms i term h is =
    let first : NeedTerm → Option ℤ = λ x. sum_of spec input (x ∷ drop (i + 1) terms) in
    at_drop_more (sum_of spec input) terms i term h ∙ ap first (sym is)

plus : ℤ → Option ℤ → Option ℤ
plus a o = option_map (λ sum. a +ℤ sum) o

-- No sum is there where a term has no number.
pub sum_none : (spec : Spec) (input : Input) (terms : List NeedTerm) (i : ℕ) (term : NeedTerm) (a : ℤ) → i < length terms → term ≡ get_or terms i term → option_map (λ z. term.factor *ℤ z) (number_at spec input term.at) ≡ None → sum_of spec input terms ≡ option_map (λ sum. a +ℤ sum) (sum_of spec input (drop i terms)) → sum_of spec input terms ≡ None
unfolding plus
sum_none spec input terms i term a h is none before =
    let no : number_at spec input term.at ≡ None = unnumbered term (number_at spec input term.at) none in
    let all : sum_of spec input (term ∷ drop (i + 1) terms) ≡ None = rw no refl in
    before ∙ ap (plus a) (sum_first spec input terms i term h is ∙ all)

add_assoc : (a b c : ℤ) → (a +ℤ b) +ℤ c ≡ a +ℤ (b +ℤ c)
add_assoc a b c = omega (arith, ints)

added : (term : NeedTerm) (p : ℤ) (o sum : Option ℤ) → option_map (λ z. term.factor *ℤ z) o ≡ Some p → option_and_then (λ z. option_map (λ rest. (term.factor *ℤ z) +ℤ rest) sum) o ≡ option_map (λ rest. p +ℤ rest) sum
added term p None sum h = absurd (cc)
added term p (Some z) sum h = let e : term.factor *ℤ z ≡ p = cc in rw e refl

twice : (a p : ℤ) (o : Option ℤ) → option_map (λ sum. a +ℤ sum) (option_map (λ rest. p +ℤ rest) o) ≡ option_map (λ sum. (a +ℤ p) +ℤ sum) o
twice a p None = refl
twice a p (Some z) = ap Some (sym (add_assoc a p z))

sum_more : (spec : Spec) (input : Input) (terms : List NeedTerm) (i : ℕ) (term : NeedTerm) (a p : ℤ) → i < length terms → term ≡ get_or terms i term → option_map (λ z. term.factor *ℤ z) (number_at spec input term.at) ≡ Some p → sum_of spec input terms ≡ option_map (λ sum. a +ℤ sum) (sum_of spec input (drop i terms)) → sum_of spec input terms ≡ option_map (λ sum. (a +ℤ p) +ℤ sum) (sum_of spec input (drop (i + 1) terms))
unfolding plus
sum_more spec input terms i term a p h is some before =
    before ∙ ap (plus a) (sum_first spec input terms i term h is ∙ added term p (number_at spec input term.at) (sum_of spec input (drop (i + 1) terms)) some)
    ∙ twice a p (sum_of spec input (drop (i + 1) terms))

settled : (a p : ℤ) → SFits w128 p → SFits w128 (a +ℤ p) → a +ℤ p ≡ to_z w128 (of_z w128 (a +ℤ to_z w128 (of_z w128 p)))
settled a p f g = sym (ap (λ x. to_z w128 (of_z w128 (a +ℤ x))) (to_z-of_z w128 p f) ∙ to_z-of_z w128 (a +ℤ p) g)

-- A product as it is kept.
pub product_kept : (n : ℕ) (f z : ℤ) → SFits w128 f → SFits w128 z → SFits w128 (f *ℤ z) → IsWithin n (f *ℤ z) → IsWithin n (to_z w128 (of_z w128 (to_z w128 (of_z w128 f) *ℤ to_z w128 (of_z w128 z))))
product_kept n f z ff fz fp h =
    let e : f *ℤ z ≡ to_z w128 (of_z w128 (to_z w128 (of_z w128 f) *ℤ to_z w128 (of_z w128 z))) =
    sym (ap (λ x. to_z w128 (of_z w128 (x *ℤ to_z w128 (of_z w128 z)))) (to_z-of_z w128 f ff) ∙ ap (λ x. to_z w128 (of_z w128 (f *ℤ x))) (to_z-of_z w128 z fz) ∙ to_z-of_z w128 (f *ℤ z) fp) in
    subst (IsWithin n) e h

-- The step of a loop that sums terms up, with the sum as it is kept.
pub sum_step : (spec : Spec) (input : Input) (terms : List NeedTerm) (i : ℕ) (term : NeedTerm) (a p : ℤ) → i < length terms → term ≡ get_or terms i term → length terms ≤ 16 → SFits w128 p → option_map (λ z. term.factor *ℤ z) (number_at spec input term.at) ≡ Some p → IsWithin (2 ^ 95) p → IsWithin (i * 2 ^ 95) a → sum_of spec input terms ≡ option_map (λ sum. a +ℤ sum) (sum_of spec input (drop i terms)) → IsWithin ((i + 1) * 2 ^ 95) (to_z w128 (of_z w128 (a +ℤ to_z w128 (of_z w128 p)))) × (sum_of spec input terms ≡ option_map (λ sum. to_z w128 (of_z w128 (a +ℤ to_z w128 (of_z w128 p))) +ℤ sum) (sum_of spec input (drop (i + 1) terms)))
sum_step spec input terms i term a p h is few fp some small within before =
    let wide : IsWithin ((i + 1) * 2 ^ 95) (a +ℤ p) = sum_within i a p within small in
    let bound : (i + 1) * 2 ^ 95 < 2 ^ 127 = omega arith in
    let fits : SFits w128 (a +ℤ p) = within_fits ((i + 1) * 2 ^ 95) (a +ℤ p) bound wide in
    let P : ℤ → Type 0 = λ x. IsWithin ((i + 1) * 2 ^ 95) x × (sum_of spec input terms ≡ option_map (λ sum. x +ℤ sum) (sum_of spec input (drop (i + 1) terms))) in
    subst P (settled a p fp fits) (wide, sum_more spec input terms i term a p h is some before)

plus_zero : (a : ℤ) → a +ℤ pos 0 ≡ a
plus_zero a = omega (arith, ints)

-- The end of it.
pub sum_all : (spec : Spec) (input : Input) (terms : List NeedTerm) (i : ℕ) (a : ℤ) → length terms ≤ i → sum_of spec input terms ≡ option_map (λ sum. a +ℤ sum) (sum_of spec input (drop i terms)) → sum_of spec input terms ≡ Some a
unfolding plus
sum_all spec input terms i a h before =
    before ∙ ap (plus a) (at_drop_all (sum_of spec input) terms i h) ∙ ap Some (plus_zero a)
