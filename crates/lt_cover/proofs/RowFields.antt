-- The fields of a row tell the row.
use Rattle.std.proofs.Common.{◌≡◌, ℕ, List, [], ◌∷◌, get_or, refl, ap, arith}
use Rattle.std.specs.Prelude.{All, map}
use Rattle.std.proofs.lemmas.Fmt.{decimal_injective}
use Rattle.std.proofs.lemmas.List.Elements.{All-head, All-tail}
use Rattle.lt_cover.specs.declared.rows.TestRow.{TestRow}
use Rattle.lt_cover.specs.declared.rows.LabelRow.{LabelRow}
use Rattle.lt_cover.specs.declared.rows.HyperRow.{HyperRow}
use Rattle.lt_cover.specs.declared.rows.Row.{Row}
use Rattle.lt_cover.specs.declared.rows.Row.TheVariants.{Test, Label, Hyper}
use Rattle.lt_cover.specs.Coverage.Text.{row_fields}
use Rattle.lt_cover.specs.Coverage.Rows.{IsRow}
use Rattle.lt_cover.proofs.Ends.{end_inj, state_inj}
use Rattle.lt_cover.proofs.NameFields.{names_inj}

abbrev field : ℕ → List (List ℕ) → List ℕ
field k fields = get_or fields k []

abbrev first_byte : List (List ℕ) → ℕ
first_byte fields = get_or (field 0 fields) 0 0

test_same : (a b : TestRow) → a.name ≡ b.name → a.end ≡ b.end → a ≡ b
test_same a b p q = λ i. record { name = p i; end = q i }

label_same : (a b : LabelRow) → a.id ≡ b.id → a.tag ≡ b.tag → a.by ≡ b.by → a ≡ b
label_same a b p q r = λ i. record { id = p i; tag = q i; by = r i }

hyper_same : (a b : HyperRow) → a.id ≡ b.id → a.tag ≡ b.tag → a.state ≡ b.state → a ≡ b
hyper_same a b p q r = λ i. record { id = p i; tag = q i; state = r i }

pub row_inj : (a b : Row) → IsRow a → IsRow b → row_fields a ≡ row_fields b → a ≡ b
row_inj (Test a) (Test b) ha hb e = ap Test (test_same a b (ap (field 1) e) (end_inj a.end b.end (ap (field 3) e)))
row_inj (Label a) (Label b) ha hb e =
    let id : a.id ≡ b.id = decimal_injective a.id b.id (omega (arith, ha.row.id.1)) (omega (arith, hb.row.id.1)) (ap (field 1) e) in
    ap Label (label_same a b id (ap (field 2) e) (names_inj a.by b.by ha.by.each hb.by.each (ap (field 3) e) (ap (field 4) e)))
row_inj (Hyper a) (Hyper b) ha hb e =
    let id : a.id ≡ b.id = decimal_injective a.id b.id (omega (arith, ha.id.1)) (omega (arith, hb.id.1)) (ap (field 1) e) in
    ap Hyper (hyper_same a b id (ap (field 2) e) (state_inj a.state b.state (ap (field 3) e)))
row_inj (Test a) (Label b) ha hb e = absurd (omega (arith, ap first_byte e))
row_inj (Test a) (Hyper b) ha hb e = absurd (omega (arith, ap first_byte e))
row_inj (Label a) (Test b) ha hb e = absurd (omega (arith, ap first_byte e))
row_inj (Label a) (Hyper b) ha hb e = absurd (omega (arith, ap first_byte e))
row_inj (Hyper a) (Test b) ha hb e = absurd (omega (arith, ap first_byte e))
row_inj (Hyper a) (Label b) ha hb e = absurd (omega (arith, ap first_byte e))

pub rows_inj : (a b : List Row) → All IsRow a → All IsRow b → map row_fields a ≡ map row_fields b → a ≡ b
rows_inj [] [] ha hb e = refl
rows_inj [] (y ∷ b) ha hb e = absurd (cc)
rows_inj (x ∷ a) [] ha hb e = absurd (cc)
rows_inj (x ∷ a) (y ∷ b) ha hb e =
    let head : row_fields x ≡ row_fields y = cc in
    let tail : map row_fields a ≡ map row_fields b = cc in
    let first : x ≡ y = row_inj x y (All-head IsRow x a ha) (All-head IsRow y b hb) head in
    let rest : a ≡ b = rows_inj a b (All-tail IsRow x a ha) (All-tail IsRow y b hb) tail in
    λ i. first i ∷ rest i
