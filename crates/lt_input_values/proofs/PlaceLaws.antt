-- Places are the same where their names and offsets are.
use Rattle.std.proofs.Common.{◌≡◌, ℕ, ◌==◌, true, List, refl, ap, ◌∙◌, arith}
use Rattle.std.specs.Str.{bytes_eq}
use Rattle.std.specs.Bool.{Decides}
use Rattle.std.proofs.lemmas.Slice.Eq.{bytes_eq-Decides}
use Rattle.std.proofs.lemmas.Bool.Decides.{nat_tests}
use Rattle.lt_model.specs.declared.input.Place.{Place}
use Rattle.lt_entry.specs.Conditions.{same_place}
use Rattle.lt_input_values.proofs.Truths.{both, join}

place_by : (p q : Place) → p.root ≡ q.root → p.offset ≡ q.offset → p ≡ q
place_by p q e f =
    let named : List ℕ → Place = λ root. record { root = root; offset = p.offset } in
    let lying : ℕ → Place = λ offset. record { root = q.root; offset = offset } in
    ap named e ∙ ap lying f

same_offset : (m n : ℕ) → (m == n) ≡ true → m ≡ n
same_offset m n h = grind (arith, nat_tests)

offset_same : (m n : ℕ) → m ≡ n → (m == n) ≡ true
offset_same m n h = grind (arith, nat_tests)

pub same_place-Decides : (p q : Place) → Decides (same_place p q) (p ≡ q)
same_place-Decides p q = (
  λ h. let hs : (bytes_eq p.root q.root ≡ true) × ((p.offset == q.offset) ≡ true) = both (bytes_eq p.root q.root) (p.offset == q.offset) h in
      place_by p q ((bytes_eq-Decides p.root q.root).0 hs.0) (same_offset p.offset q.offset hs.1),
  λ e. join (bytes_eq p.root q.root) (p.offset == q.offset) ((bytes_eq-Decides p.root q.root).1 (ap (λ (r : Place). r.root) e)) (offset_same p.offset q.offset (ap (λ (r : Place). r.offset) e)),
)

pub same_place-self : (p : Place) → same_place p p ≡ true
same_place-self p = (same_place-Decides p p).1 refl
