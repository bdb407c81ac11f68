-- What a literal of bytes spells are bytes.
use Rattle.std.proofs.Common.{◌≡◌, ℕ, ◌+◌, ◌-◌, ◌*◌, ◌%◌, ◌<◌, Bool, true, false, cond, ◌||◌, ◌&&◌, eqb, leb, List, [], ◌∷◌, Option, Some, None, refl, subst, arith}
use Rattle.std.specs.List.{All}
use Rattle.std.specs.Prelude.{option_map}
use Rattle.std.proofs.lemmas.List.Elements.{All-nil, All-cons, All-head, All-tail}
use Rattle.lt_tree.specs.Strings.{Spells, closed, plain, escaped, escape, is_octal, hex_value, simple_escape, third_octal, second_octal, with_second_hex, second_hex, hex_escape}
use Rattle.lt_tree.specs.Grammar.{quoted as quoted_literal}
use Rattle.lt_tree_laws.specs.Laws.{LiteralsSpellBytes}

abbrev pub IsByte : ℕ → Type 0
IsByte b = b < 256

-- a byte, and bytes behind it
abbrev AreGood : ℕ × List ℕ → Type 0
AreGood p = (p.0 < 256) × All IsByte p.1

octal_is_small : (b : ℕ) → is_octal b ≡ true → b - 48 < 8
octal_is_small b h = grind arith

third : (v : ℕ) (bytes : List ℕ) → v < 256 → All IsByte bytes → AreGood (third_octal v bytes)
third v [] h a = (h, a)
third v (b ∷ bytes) h a = step (is_octal b) refl
  where
    step : (t : Bool) → is_octal b ≡ t → AreGood (cond t ((8 * v + (b - 48)) % 256, bytes) (v, b ∷ bytes))
    step true e = (omega arith, All-tail IsByte b bytes a)
    step false e = (h, a)

second : (v : ℕ) (bytes : List ℕ) → v < 8 → All IsByte bytes → AreGood (second_octal v bytes)
second v [] h a = (omega (arith, h), a)
second v (b ∷ bytes) h a = step (is_octal b) refl
  where
    step : (t : Bool) → is_octal b ≡ t → AreGood (cond t (third_octal (8 * v + (b - 48)) bytes) (v, b ∷ bytes))
    step true e = third (8 * v + (b - 48)) bytes (let s = octal_is_small b e in omega (arith, h, s)) (All-tail IsByte b bytes a)
    step false e = (omega (arith, h), a)

hex_is_small : (b v : ℕ) → hex_value b ≡ Some v → v < 16
hex_is_small b v e = step (leb 48 b && leb b 57) (leb 97 b && leb b 102) (leb 65 b && leb b 70) refl refl refl e
  where
    step : (p q r : Bool) → (leb 48 b && leb b 57) ≡ p → (leb 97 b && leb b 102) ≡ q → (leb 65 b && leb b 70) ≡ r
        → cond p (Some (b - 48)) (cond q (Some (b - 87)) (cond r (Some (b - 55)) None)) ≡ Some v → v < 16
    step true q r f g h e = grind arith
    step false true r f g h e = grind arith
    step false false true f g h e = grind arith
    step false false false f g h e = absurd cc

simple_is_small : (b v : ℕ) → b < 256 → simple_escape b ≡ Some v → v < 256
simple_is_small b v l e = step (eqb b 110) (eqb b 116) (eqb b 114) (eqb b 97) (eqb b 98) (eqb b 102) (eqb b 118) (((eqb b 92 || eqb b 39) || eqb b 34) || eqb b 63) e
  where
    step : (p q r s t u w z : Bool)
        → cond p (Some 10) (cond q (Some 9) (cond r (Some 13) (cond s (Some 7) (cond t (Some 8) (cond u (Some 12) (cond w (Some 11) (cond z (Some b) None))))))) ≡ Some v → v < 256
    step true q r s t u w z e = grind arith
    step false true r s t u w z e = grind arith
    step false false true s t u w z e = grind arith
    step false false false true t u w z e = grind arith
    step false false false false true u w z e = grind arith
    step false false false false false true w z e = grind arith
    step false false false false false false true z e = grind arith
    step false false false false false false false true e = grind arith
    step false false false false false false false false e = absurd cc

hexed : (v : ℕ) (bytes : List ℕ) → v < 16 → All IsByte bytes → AreGood (second_hex v bytes)
hexed v [] h a = (omega (arith, h), a)
hexed v (b ∷ bytes) h a = step (hex_value b) refl
  where
    step : (o : Option ℕ) → hex_value b ≡ o → AreGood (with_second_hex v b bytes o)
    step None e = (omega (arith, h), a)
    step (Some w) e = (let s = hex_is_small b w e in omega (arith, h, s), All-tail IsByte b bytes a)

-- from the pair that an escape gives
good_pair : (p q : ℕ × List ℕ) → Some p ≡ Some q → AreGood p → AreGood q
good_pair p q e g = subst AreGood (same p q e) g
  where
    same : (p q : ℕ × List ℕ) → Some p ≡ Some q → p ≡ q
    same p q e = cc

escape_is_good : (bytes : List ℕ) (p : ℕ × List ℕ) → All IsByte bytes → escape bytes ≡ Some p → AreGood p
escape_is_good [] p a e = absurd cc
escape_is_good (b ∷ bytes) p a e = step (is_octal b) (eqb b 120) refl e
  where
    tail : All IsByte bytes
    tail = All-tail IsByte b bytes a

    of_hex : (cs : List ℕ) → All IsByte cs → hex_escape cs ≡ Some p → AreGood p
    of_hex [] h e = absurd cc
    of_hex (c ∷ cs) h e = by_value (hex_value c) refl e
      where
        by_value : (o : Option ℕ) → hex_value c ≡ o → option_map (λ v. second_hex v cs) o ≡ Some p → AreGood p
        by_value None f e = absurd cc
        by_value (Some v) f e = good_pair (second_hex v cs) p e (hexed v cs (hex_is_small c v f) (All-tail IsByte c cs h))

    of_simple : (o : Option ℕ) → simple_escape b ≡ o → option_map (λ v. (v, bytes)) o ≡ Some p → AreGood p
    of_simple None f e = absurd cc
    of_simple (Some v) f e = good_pair (v, bytes) p e (simple_is_small b v (All-head IsByte b bytes a) f, tail)

    step : (t u : Bool) → is_octal b ≡ t
        → cond t (Some (second_octal (b - 48) bytes)) (cond u (hex_escape bytes) (option_map (λ v. (v, bytes)) (simple_escape b))) ≡ Some p → AreGood p
    step true u f e = good_pair (second_octal (b - 48) bytes) p e (second (b - 48) bytes (octal_is_small b f) tail)
    step false true f e = of_hex bytes tail e
    step false false f e = of_simple (simple_escape b) refl e

spelt : {bytes value : List ℕ} → Spells bytes value → All IsByte bytes → All IsByte value
spelt closed a = All-nil IsByte
spelt (plain {b} {bytes} {value} h s) a = All-cons IsByte b value (All-head IsByte b bytes a) (spelt s (All-tail IsByte b bytes a))
spelt (escaped {v} {bytes} {rest} {value} e s) a =
    let g = escape_is_good bytes (v, rest) (All-tail IsByte 92 bytes a) e
    in All-cons IsByte v value g.0 (spelt s g.1)

pub are_bytes : LiteralsSpellBytes
are_bytes text bytes a (quoted_literal {text = inside} s) = spelt s (All-tail IsByte 34 inside a)
