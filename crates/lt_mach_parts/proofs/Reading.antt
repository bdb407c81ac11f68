-- Registers by their number.
use Rattle.std.proofs.Common.{◌≢◌, ap₂, ◌≡◌, ℕ, zero, suc, ◌<◌, ◌≤◌, List, [], ◌∷◌, length, get_or, refl, ap, ◌∙◌, arith, slice_set}
use Rattle.std.proofs.Common.{◌++◌, ◌+◌, false, add-one}
use Rattle.lt_model.specs.State.{Footprint, CellName, meets, clash, untouched, joined}
use Rattle.lt_ir.specs.Graph.{Register, register_at, footprint_at, with_footprint, with_joined, blank, blanks}

pub register_within : (rs : List Register) (r : ℕ) (d : Register) → r < length rs → register_at rs r ≡ get_or rs r d
register_within [] r d h = absurd (omega arith)
register_within (it ∷ its) zero d h = refl
register_within (it ∷ its) (suc r) d h = register_within its r d (omega arith)

pub register_past : (rs : List Register) (r : ℕ) → length rs ≤ r → register_at rs r ≡ blank
register_past [] r h = refl
register_past (it ∷ its) zero h = absurd (omega arith)
register_past (it ∷ its) (suc r) h = register_past its r (omega arith)

pub set_past : (rs : List Register) (r : ℕ) (x : Register) → length rs ≤ r → slice_set rs r x ≡ rs
set_past [] r x h = refl
set_past (it ∷ its) zero x h = absurd (omega arith)
set_past (it ∷ its) (suc r) x h = ap (λ rs. it ∷ rs) (set_past its r x (omega arith))

meets_none : (cells : List CellName) → meets cells [] ≡ false
meets_none [] = refl
meets_none (cell ∷ cells) = meets_none cells

pub none_clash : (p : Footprint) → clash untouched p ≡ false
none_clash p = simp (meets_none (p.settled ++ p.pending), meets_none)

pub clash_none : (p : Footprint) → clash p untouched ≡ false
clash_none p = simp (meets_none (p.settled ++ p.pending), meets_none)

pub one_more_blank : (n : ℕ) → blanks (n + 1) ≡ blanks n ++ blank ∷ []
one_more_blank n = rw (add-one n) (behind n)
  where
    behind : (n : ℕ) → blanks (suc n) ≡ blanks n ++ blank ∷ []
    behind zero = refl
    behind (suc n) = ap (λ rs. blank ∷ rs) (behind n)

other_kept : (rs : List Register) (left right : ℕ) (p : Footprint) → left ≢ right → register_at (with_footprint rs right p) left ≡ register_at rs left
other_kept [] left right p h = refl
other_kept (it ∷ its) zero zero p h = absurd (h refl)
other_kept (it ∷ its) (suc left) zero p h = refl
other_kept (it ∷ its) zero (suc right) p h = refl
other_kept (it ∷ its) (suc left) (suc right) p h = other_kept its left right p (λ e. h (ap suc e))

-- one footprint goes to another
pub moved_over : (rs rs1 rs2 : List Register) (left right : ℕ) (p : Footprint) → left ≢ right → rs1 ≡ with_footprint rs right untouched → p ≡ footprint_at rs right
    → rs2 ≡ with_footprint rs1 left (joined (footprint_at rs1 left) p) → rs2 ≡ with_joined rs left right (joined (footprint_at rs left) (footprint_at rs right))
moved_over rs rs1 rs2 left right p apart h i j =
    j ∙ ap₂ (λ rs q. with_footprint rs left (joined (footprint_at rs left) q)) h i
    ∙ ap (λ (r : Register). with_footprint (with_footprint rs right untouched) left (joined r.footprint (footprint_at rs right))) (other_kept rs left right untouched apart)

given_twice : (rs : List Register) (k : ℕ) (q : Footprint) →
    let rs1 = with_footprint rs k untouched in
    let rs2 = with_footprint rs1 k (joined (footprint_at rs1 k) q) in
    with_footprint rs2 k (joined (footprint_at rs2 k) q) ≡ with_joined rs k k (joined q q)
given_twice [] k q = refl
given_twice (it ∷ its) zero q = refl
given_twice (it ∷ its) (suc k) q = ap (λ rs. it ∷ rs) (given_twice its k q)

-- a footprint comes twice
pub doubled : (rs rs1 rs2 rs3 : List Register) (k : ℕ) (p : Footprint) → rs1 ≡ with_footprint rs k untouched → p ≡ footprint_at rs k → rs2 ≡ with_footprint rs1 k (joined (footprint_at rs1 k) p)
    → rs3 ≡ with_footprint rs2 k (joined (footprint_at rs2 k) p) → rs3 ≡ with_joined rs k k (joined (footprint_at rs k) (footprint_at rs k))
doubled rs rs1 rs2 rs3 k p h i j l =
    l ∙ ap (λ rs. with_footprint rs k (joined (footprint_at rs k) p)) (j ∙ ap (λ rs. with_footprint rs k (joined (footprint_at rs k) p)) h)
    ∙ given_twice rs k p ∙ ap (λ q. with_joined rs k k (joined q q)) i
