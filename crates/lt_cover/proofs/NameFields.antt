-- The names of a label in one field.
use Rattle.std.proofs.Common.{◌≡◌, ℕ, false, List, [], ◌∷◌, get_or, refl, sym, ap, arith, ◌∙◌, eqb}
use Rattle.std.specs.Prelude.{All, IsTrue, Contains}
use Rattle.std.specs.List.{slice_split}
use Rattle.std.proofs.lemmas.List.Splits.{slice_split_none, slice_split_at}
use Rattle.std.proofs.lemmas.Bool.Decides.{nat_tests}
use Rattle.std.proofs.lemmas.List.Elements.{All-head, All-tail, All-weaker, All-contains, All-map}
use Rattle.lt_cover.specs.declared.rows.TestRow.{TestRow}
use Rattle.lt_cover.specs.declared.rows.LabelRow.{LabelRow}
use Rattle.lt_cover.specs.Coverage.Names.{is_name_byte, IsTestName}
use Rattle.lt_cover.specs.Coverage.Table.{IsTestRow, IsLabelRow, IsCoveredBy, names_of}
use Rattle.lt_cover.specs.Coverage.Text.{names_text, label_word}
use Rattle.lt_cover.specs.Coverage.Rows.{IsLabelForm}

no_space_byte : (b : ℕ) → IsTrue (is_name_byte b) → eqb b 32 ≡ false
no_space_byte b h = grind (arith, nat_tests)

no_space : (name : List ℕ) → IsTestName name → All (λ b. eqb b 32 ≡ false) name
no_space name h = All-weaker (λ b. IsTrue (is_name_byte b)) (λ b. eqb b 32 ≡ false) no_space_byte name h.bytes

pub split_names : (name : List ℕ) (names : List (List ℕ)) → All IsTestName (name ∷ names) → slice_split (λ b. eqb b 32) (names_text (name ∷ names)) ≡ name ∷ names
split_names name [] h = slice_split_none (λ b. eqb b 32) name (no_space name (All-head IsTestName name [] h))
split_names name (next ∷ names) h =
    slice_split_at (λ b. eqb b 32) name 32 (names_text (next ∷ names)) (no_space name (All-head IsTestName name (next ∷ names) h)) refl
    ∙ ap (λ rest. name ∷ rest) (split_names next names (All-tail IsTestName name (next ∷ names) h))

abbrev first_byte : List ℕ → ℕ
first_byte word = get_or word 0 0

pub names_inj : (a b : List (List ℕ)) → All IsTestName a → All IsTestName b → label_word a ≡ label_word b → names_text a ≡ names_text b → a ≡ b
names_inj [] [] ha hb w e = refl
names_inj [] (b ∷ bs) ha hb w e = absurd (omega (arith, ap first_byte w))
names_inj (a ∷ more) [] ha hb w e = absurd (omega (arith, ap first_byte w))
names_inj (a ∷ more) (b ∷ bs) ha hb w e = sym (split_names a more ha) ∙ (ap (slice_split (λ x. eqb x 32)) e ∙ split_names b bs hb)

-- a label of a table has the names of tests
pub label_form : (tests : List TestRow) (label : LabelRow) → All IsTestRow tests → IsLabelRow label → IsCoveredBy (names_of tests) label → IsLabelForm label
label_form tests label each row h =
    let names : All IsTestName (names_of tests) = All-map IsTestName (λ (t : TestRow). t.name) tests (All-weaker IsTestRow (λ (t : TestRow). IsTestName t.name) (λ t k. k.name) tests each) in
    record {
      row = row;
      by = record { each = All-weaker (λ name. Contains (names_of tests) name) IsTestName (λ name k. All-contains IsTestName (names_of tests) name names k) label.by h.known; rise = h.rise };
    }
