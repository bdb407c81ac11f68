-- The two words for the covering names of a label.
use Rattle.std.proofs.Common.{◌≡◌, ℕ, ◌<◌, List, [], ◌∷◌, length, get_or, refl, sym, ap, subst, ◌∙◌, arith, eqb}
use Rattle.std.specs.Prelude.{All, codes, Bool, true, ◌==◌}
use Rattle.std.proofs.lemmas.Bool.Decides.{nat_tests}
use Rattle.std.specs.List.{slice_split}
use Rattle.std.proofs.lemmas.List.Splits.{length-slice_split, join_with_byte-slice_split}
use Rattle.std.proofs.lemmas.List.Elements.{All-nil}
use Rattle.std.specs.Ordering.{nat_cmp}
use Rattle.std.specs.Cmp.Lexicographic.{slice_cmp}
use Rattle.lt_cover.specs.Coverage.Names.{IsTestName}
use Rattle.lt_cover.specs.Coverage.Table.{NamesRise}
use Rattle.lt_cover.specs.Coverage.Text.{label_word, names_text}
use Rattle.lt_cover.specs.Coverage.Rows.{AreCovering, covering_words}
use Rattle.lt_cover.proofs.NameFields.{split_names}
use Rattle.lt_cover.proofs.Rising.{rise_nil}

pub covered_by_none : (names : List (List ℕ)) (state by : List ℕ) → names ≡ [] → state ≡ codes "uncovered" → by ≡ [] → AreCovering names × (covering_words names ≡ (state, by))
covered_by_none names state by n s b =
    let nil : AreCovering [] = record { each = All-nil IsTestName; rise = rise_nil (slice_cmp nat_cmp) } in
    (subst AreCovering (sym n) nil, ap covering_words n ∙ λ i. (sym s i, sym b i))

covered : (names : List (List ℕ)) → 0 < length names → label_word names ≡ codes "covered"
covered [] h = absurd (omega arith)
covered (name ∷ names) h = refl

pub covered_by_split : (names words : List (List ℕ)) (state by : List ℕ) → names ≡ words → words ≡ slice_split (λ b. eqb b 32) by → All IsTestName words → NamesRise words → state ≡ codes "covered" → AreCovering names × (covering_words names ≡ (state, by))
covered_by_split names words state by n w each rise s =
    let form : AreCovering words = record { each = each; rise = rise } in
    let some : 0 < length words = omega (arith, ap length w, length-slice_split (λ b. eqb b 32) by) in
    let text : names_text words ≡ by = ap names_text w ∙ join_with_byte-slice_split 32 by in
    (subst AreCovering (sym n) form, ap covering_words n ∙ λ i. ((covered words some ∙ sym s) i, text i))

abbrev first_byte : List ℕ → ℕ
first_byte word = get_or word 0 0

-- the names are the pieces between spaces
pub names_are_split : (names : List (List ℕ)) (state by : List ℕ) → state ≡ codes "covered" → AreCovering names → covering_words names ≡ (state, by) → names ≡ slice_split (λ b. eqb b 32) by
names_are_split [] state by s h e = absurd (omega (arith, ap (λ (p : List ℕ × List ℕ). first_byte p.0) e, ap first_byte s))
names_are_split (name ∷ names) state by s h e = sym (split_names name names h.each) ∙ ap (λ (p : List ℕ × List ℕ). slice_split (λ b. eqb b 32) p.1) e

pub nil_told : (xs : List ℕ) (b : Bool) → b ≡ (length xs == 0) → b ≡ true → xs ≡ []
nil_told [] b e h = refl
nil_told (x ∷ xs) b e h = absurd (grind (arith, nat_tests))
