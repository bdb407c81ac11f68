-- A text stands for one table, or has one first row that breaks the grammar.
use Rattle.std.proofs.Common.{◌≡◌, ℕ, suc, zero, ◌<◌, List, sym, ap, subst, ◌∙◌, arith, inl, inr}
use Rattle.std.proofs.lemmas.Bool.{cases_lt}
use Rattle.lt_cover.specs.Coverage.Table.{Table}
use Rattle.lt_cover.specs.Coverage.Text.{IsCoverText, BreaksAt, HasRows, StandFor, IsFirstBroken, row_number}
use Rattle.lt_cover.proofs.Texts.{records_unique, text_unique}
use Rattle.lt_cover_laws.specs.Laws.{TextsStandForOneTable}
use Rattle.lt_cover_laws.proofs.TableFronts.{front, front_stands}

one_list : (text : List ℕ) (a b : List (List (List ℕ))) → HasRows text a → HasRows text b → a ≡ b
one_list text a b ha hb = records_unique _ _ _ a b ha hb

not_before : (rows : List (List (List ℕ))) (m n : ℕ) → IsFirstBroken rows m → IsFirstBroken rows n → m < n → ⊥
not_before rows m n hm hn less = let stands = hn.before m hm.some less in hm.here stands.0 stands.1

first_is_one : (rows : List (List (List ℕ))) (m n : ℕ) → IsFirstBroken rows m → IsFirstBroken rows n → m ≡ n
first_is_one rows m n hm hn = elim (cases_lt m n) [
  | inl less ↦ absurd (not_before rows m n hm hn less)
  | inr past ↦ elim (cases_lt n m) [
    | inl less ↦ absurd (not_before rows n m hn hm less)
    | inr both ↦ omega arith
  ]
]

number_is_one : (text : List ℕ) (m n : ℕ) → BreaksAt text m → BreaksAt text n → m ≡ n
number_is_one text m n (rows, has, i, broken, is) (others, have, j, other, are) =
    let same : others ≡ rows = one_list text others rows have has in
    is ∙ (ap row_number (first_is_one rows i j broken (subst (λ (z : List (List (List ℕ))). IsFirstBroken z j) same other)) ∙ sym are)

-- rows that stand for a table break the grammar nowhere
none_broken : (rows : List (List (List ℕ))) (t : Table) (n : ℕ) → StandFor rows t → IsFirstBroken rows n → ⊥
none_broken rows t zero stands broken = absurd (omega (arith, broken.some))
none_broken rows t (suc i) (version, are) broken = broken.here (front i t) (version, front_stands version t rows i are)

never_both : (text : List ℕ) (t : Table) (n : ℕ) → IsCoverText text t → BreaksAt text n → ⊥
never_both text t n (rows, has, stands) (others, have, j, other, are) =
    let same : others ≡ rows = one_list text others rows have has in
    none_broken rows t j stands (subst (λ (z : List (List (List ℕ))). IsFirstBroken z j) same other)

pub texts_are_one : TextsStandForOneTable
texts_are_one text = record { said = text_unique text; bad = number_is_one text; apart = never_both text }
