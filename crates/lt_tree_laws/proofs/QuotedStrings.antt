-- A string that is written is read as the same bytes.
use Rattle.std.proofs.Common.{◌≡◌, ℕ, ◌+◌, ◌-◌, ◌*◌, ◌/◌, ◌%◌, ◌<◌, Bool, true, false, ◌&&◌, eqb, leb, List, [], ◌∷◌, ◌++◌, Some, refl, arith, append_assoc}
use Rattle.std.specs.List.{All, flat_map}
use Rattle.std.proofs.lemmas.Bool.{eqb-true}
use Rattle.std.proofs.lemmas.List.Elements.{All-head, All-tail}
use Rattle.lt_tree.specs.Strings.{Spells, closed, plain, escaped, escape, is_octal}
use Rattle.lt_tree.specs.Grammar.{quoted as quoted_literal}
use Rattle.lt_tree.specs.Pieces.{quoted_byte}
use Rattle.lt_tree_laws.specs.Laws.{StringsAreReadBack}

digits_of : (b : ℕ) → b < 256 → (8 * (8 * ((b / 64) % 8) + ((b / 8) % 8)) + (b % 8)) % 256 ≡ b
digits_of b h = omega arith

octal_digit : (d : ℕ) → d < 8 → is_octal (48 + d) ≡ true
octal_digit d h = grind arith

-- three octal digits are the byte that they were made from
octal_is_read : (b : ℕ) (rest : List ℕ) → b < 256
    → escape ((48 + ((b / 64) % 8)) ∷ (48 + ((b / 8) % 8)) ∷ (48 + (b % 8)) ∷ rest) ≡ Some (b, rest)
octal_is_read b rest h = digits ((b / 64) % 8) ((b / 8) % 8) (b % 8) (omega arith) (omega arith) (omega arith) (digits_of b h)
  where
    digits : (q r s : ℕ) → q < 8 → r < 8 → s < 8 → (8 * (8 * q + r) + s) % 256 ≡ b → escape ((48 + q) ∷ (48 + r) ∷ (48 + s) ∷ rest) ≡ Some (b, rest)
    digits q r s hq hr hs e =
        let less : (d : ℕ) → (48 + d) - 48 ≡ d = λ d. omega arith in
        rw (octal_digit q hq, octal_digit r hr, octal_digit s hs, less q, less r, less s, e) refl

-- a byte as it is written between quotes
one_byte : (b : ℕ) (rest value : List ℕ) → b < 256 → Spells rest value → Spells (quoted_byte b ++ rest) (b ∷ value)
one_byte b rest value h s = step (eqb b 10) (eqb b 9) (eqb b 34) (eqb b 92) (leb 32 b && leb b 126) refl refl refl refl refl
  where
    at : (v : ℕ) → b ≡ v → Spells (quoted_byte v ++ rest) (v ∷ value) → Spells (quoted_byte b ++ rest) (b ∷ value)
    at v e d = rw e d

    step : (p q r t u : Bool) → eqb b 10 ≡ p → eqb b 9 ≡ q → eqb b 34 ≡ r → eqb b 92 ≡ t → (leb 32 b && leb b 126) ≡ u
        → Spells (quoted_byte b ++ rest) (b ∷ value)
    step true q r t u e f g i j = at 10 (eqb-true b 10 e) (escaped refl s)
    step false true r t u e f g i j = at 9 (eqb-true b 9 f) (escaped refl s)
    step false false true t u e f g i j = at 34 (eqb-true b 34 g) (escaped refl s)
    step false false false true u e f g i j = at 92 (eqb-true b 92 i) (escaped refl s)
    step false false false false true e f g i j = rw (e, f, g, i, j) (plain {b = b} (rw (g, i, e) refl) s)
    step false false false false false e f g i j = rw (e, f, g, i, j) (escaped (octal_is_read b rest h) s)

abbrev IsByte : ℕ → Type 0
IsByte b = b < 256

spelt : (bytes : List ℕ) → All IsByte bytes → Spells (flat_map quoted_byte bytes ++ 34 ∷ []) bytes
spelt [] h = closed
spelt (b ∷ bytes) h =
    rw (append_assoc (quoted_byte b) (flat_map quoted_byte bytes) (34 ∷ []))
    (one_byte b (flat_map quoted_byte bytes ++ 34 ∷ []) bytes (All-head IsByte b bytes h) (spelt bytes (All-tail IsByte b bytes h)))

pub read_back : StringsAreReadBack
read_back bytes h = quoted_literal (spelt bytes h)
