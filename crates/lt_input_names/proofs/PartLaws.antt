-- What the types of parts are.
use Rattle.std.proofs.Common.{◌≡◌, ℕ, zero, suc, ◌-◌, ◌*◌, ◌^◌, ◌<◌, true, false, cond, List, Option, Some, None, refl, sym, ap, ◌∙◌, arith, lit<}
use Rattle.std.specs.Prelude.{is_some, nat_lt, unwrap_or}
use Rattle.std.proofs.lemmas.Bool.{lt-ltb}
use Rattle.lt_model.specs.declared.scalar.DataModel.{DataModel}
use Rattle.lt_model.specs.declared.scalar.DataModel.TheVariants as model
use Rattle.lt_model.specs.declared.scalar.Scalar.TheVariants as scalar
use Rattle.lt_model.specs.declared.sizes.Extent.{Extent}
use Rattle.lt_model.specs.Layout.{then_some, within, resized, scalar_extent}
use Rattle.lt_tree.specs.Typing.Extents.{Structs, size_of}
use Rattle.lt_model.specs.declared.scalar.Scalar.{Scalar}
use Rattle.lt_tree.specs.Typing.Types.{CType, Num, scalar_of, target_of, struct_of}
use Rattle.lt_input_names.specs.declared.part.PartType.{PartType}
use Rattle.lt_input_names.specs.Blocks.{pointers, base_of}
use Rattle.lt_input_names.specs.Roots.{counted, part_type}

pub no_scalar : (t : CType) (n : ℕ) (o : Option ℕ) → 0 < n → None ≡ scalar_of (counted (pointers n t) o)
no_scalar t zero o more = absurd (omega (arith, more))
no_scalar t (suc n) None more = refl
no_scalar t (suc n) (Some k) more = refl

pub no_struct : (t : CType) (n : ℕ) (o : Option ℕ) → 0 < n → None ≡ struct_of (counted (pointers n t) o)
no_struct t zero o more = absurd (omega (arith, more))
no_struct t (suc n) None more = refl
no_struct t (suc n) (Some k) more = refl

pointed : (t : CType) (n : ℕ) (o : Option ℕ) → is_some o ≡ false → 0 < n → Some (pointers (n - 1) t) ≡ target_of (counted (pointers n t) o)
pointed t zero o none more = absurd (omega (arith, more))
pointed t (suc n) None none more = let e : suc n - 1 ≡ n = omega arith in ap (λ k. Some (pointers k t)) e
pointed t (suc n) (Some k) none more = absurd (let e : true ≡ false = none in cc)

-- what a pointer to something points to
pub pointed_type : (types : List CType) (t it : PartType) → is_some t.count ≡ false → 0 < t.element.pointers → it ≡ record { element = record t.element { pointers = t.element.pointers - 1 }; count = None }
    → Some (part_type types it) ≡ target_of (part_type types t)
pointed_type types t it none more is = ap (λ r. Some (part_type types r)) is ∙ pointed (base_of types t.element.base) t.element.pointers t.count none more

-- ---- sizes

small : (m : DataModel) (s : Scalar) → (scalar_extent m s).size < 2 ^ 64
small m scalar.Bool = lit< tt
small m scalar.Char = lit< tt
small m scalar.SChar = lit< tt
small m scalar.UChar = lit< tt
small m scalar.Short = lit< tt
small m scalar.UShort = lit< tt
small m scalar.Int = lit< tt
small m scalar.UInt = lit< tt
small m scalar.LLong = lit< tt
small m scalar.ULLong = lit< tt
small model.Ilp32 scalar.Long = lit< tt
small model.Lp64 scalar.Long = lit< tt
small model.Llp64 scalar.Long = lit< tt
small model.Ilp32U scalar.Long = lit< tt
small model.Lp64U scalar.Long = lit< tt
small model.Llp64U scalar.Long = lit< tt
small model.Ilp32 scalar.ULong = lit< tt
small model.Lp64 scalar.ULong = lit< tt
small model.Llp64 scalar.ULong = lit< tt
small model.Ilp32U scalar.ULong = lit< tt
small model.Lp64U scalar.ULong = lit< tt
small model.Llp64U scalar.ULong = lit< tt

alone : (e : Extent) → e.size < 2 ^ 64 → unwrap_or (then_some (resized e (within (e.size * 1))) (λ e. Some e.size)) 0 ≡ e.size
alone e h =
    let one : e.size * 1 ≡ e.size = omega arith in
    let fits : nat_lt (e.size * 1) (2 ^ 64) ≡ true = lt-ltb (e.size * 1) (2 ^ 64) (omega (arith, one, h)) in
    ap (λ b. unwrap_or (then_some (resized e (cond b (Some (e.size * 1)) None)) (λ e. Some e.size)) 0) fits ∙ one

pub scalar_size : (m : DataModel) (structs : Structs) (s : Scalar) → (scalar_extent m s).size ≡ size_of m structs (Num s)
scalar_size m structs s = sym (alone (scalar_extent m s) (small m s))
