-- The sizes of arrays, from those of their elements, and their cells, one element after the other.
use Rattle.std.proofs.Common.{◌≡◌, ℕ, zero, suc, ◌+◌, ◌*◌, ◌^◌, ◌≤◌, nat_lt, List, ◌++◌, length, Option, Some, None, unwrap_or, inl, inr, refl, sym, ap, ◌∙◌, arith, append_assoc, append-nil}
use Rattle.std.proofs.lemmas.Bool.{cases_lt, cond-true, cond-false, le-ltb, lt-ltb}
use Rattle.std.proofs.Math.Nat.{mul_comm, mul_assoc}
use Rattle.lt_model.specs.declared.scalar.DataModel.{DataModel}
use Rattle.lt_model.specs.declared.sizes.Extent.{Extent}
use Rattle.lt_model.specs.declared.cell.ShapeCell.{ShapeCell}
use Rattle.lt_model.specs.Layout.{then_some, within, resized}
use Rattle.lt_tree.specs.Typing.Types.{CType, Array, element}
use Rattle.lt_tree.specs.Typing.Extents.{Structs, elements, single_extent, struct_extent, size_of}
use Rattle.lt_tree.specs.Typing.Shapes.{repeated}
use Rattle.lt_tables.specs.Layouts.{size_of_extent}

-- a number of bytes, or 0 where it doesn't fit
abbrev pub fitted : ℕ → ℕ
fitted n = unwrap_or (within n) 0

none_fitted : (n : ℕ) → fitted (0 * n) ≡ 0
none_fitted n = let e : 0 * n ≡ 0 = omega arith in ap fitted e

past : (s n : ℕ) → 2 ^ 64 ≤ s → fitted (n * s) ≡ 0
past s zero above = none_fitted s
past s (suc n) above =
    let more : 2 ^ 64 ≤ suc n * s = omega (arith, above) in
    ap (λ o. unwrap_or o 0) (cond-false (nat_lt (suc n * s) (2 ^ 64)) (Some (suc n * s)) None (le-ltb (suc n * s) (2 ^ 64) more))

many : (s n : ℕ) → fitted (n * s) ≡ fitted (fitted s * n)
many s n = elim (cases_lt s (2 ^ 64)) [
  | inl below ↦
      let e : fitted s ≡ s = ap (λ o. unwrap_or o 0) (cond-true (nat_lt s (2 ^ 64)) (Some s) None (lt-ltb s (2 ^ 64) below)) in
      ap fitted (mul_comm n s) ∙ ap (λ x. fitted (x * n)) (sym e)
  | inr above ↦
      let e : fitted s ≡ 0 = ap (λ o. unwrap_or o 0) (cond-false (nat_lt s (2 ^ 64)) (Some s) None (le-ltb s (2 ^ 64) above)) in
      past s n above ∙ sym (ap (λ x. fitted (x * n)) e ∙ none_fitted n)
]

sized : (e : Extent) (o : Option ℕ) → size_of_extent (resized e o) ≡ unwrap_or o 0
sized e None = refl
sized e (Some n) = refl

swapped : (a n k : ℕ) → a * (n * k) ≡ n * (a * k)
swapped a n k = sym (mul_assoc a n k) ∙ ap (λ x. x * k) (mul_comm a n) ∙ mul_assoc n a k

array_extent : (o : Option Extent) (n k : ℕ)
    → fitted (size_of_extent (then_some o (λ e. resized e (within (e.size * k)))) * n) ≡ size_of_extent (then_some o (λ e. resized e (within (e.size * (n * k)))))
array_extent None n k = none_fitted n
array_extent (Some e) n k =
    ap (λ x. fitted (x * n)) (sized e (within (e.size * k))) ∙ sym (many (e.size * k) n) ∙ ap fitted (sym (swapped e.size n k)) ∙ sym (sized e (within (e.size * (n * k))))

pub array_size : (m : DataModel) (structs : Structs) (t : CType) (n : ℕ) → unwrap_or (within (size_of m structs t * n)) 0 ≡ size_of m structs (Array t n)
array_size m structs t n = array_extent (single_extent m (struct_extent m structs (length structs)) (element t)) n (elements t)

pub array_size_of : (m : DataModel) (structs : Structs) (t : CType) (n size whole : ℕ) → whole ≡ unwrap_or (within (size * n)) 0 → size ≡ size_of m structs t → whole ≡ size_of m structs (Array t n)
array_size_of m structs t n size whole is same = is ∙ ap (λ s. unwrap_or (within (s * n)) 0) same ∙ array_size m structs t n

-- ---- cells

repeated_last : (n size : ℕ) (part : ℕ → List ShapeCell) (offset : ℕ) → repeated (suc n) size part offset ≡ repeated n size part offset ++ part (offset + size * n)
repeated_last zero size part offset = let e : offset ≡ offset + size * 0 = omega arith in append-nil (part offset) ∙ ap part e
repeated_last (suc n) size part offset =
    let e : offset + size + size * n ≡ offset + size * suc n = omega (arith, mul_comm size n, mul_comm size (suc n)) in
    ap (λ l. part offset ++ l) (repeated_last n size part (offset + size)) ∙ sym (append_assoc (part offset) (repeated n size part (offset + size)) (part (offset + size + size * n)))
    ∙ ap (λ k. (part offset ++ repeated n size part (offset + size)) ++ part k) e

pub repeated_more : (n size at : ℕ) (part : ℕ → List ShapeCell) (old new cells : List ShapeCell) → old ≡ repeated n size part 0 → new ≡ old ++ cells → cells ≡ part at → at ≡ size * n → new ≡ repeated (n + 1) size part 0
repeated_more n size at part old new cells before after is place =
    let next : suc n ≡ n + 1 = omega arith in
    let begins : size * n ≡ 0 + size * n = omega arith in
    after ∙ ap (λ l. l ++ cells) before ∙ ap (λ l. repeated n size part 0 ++ l) (is ∙ ap part (place ∙ begins)) ∙ sym (repeated_last n size part 0) ∙ ap (λ k. repeated k size part 0) next
