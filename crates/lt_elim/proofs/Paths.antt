-- Lists of vertices without repetition.
use Rattle.std.proofs.Common.{arith, ◌≡◌, refl, sym, ◌∙◌, ap, subst, ℕ, suc, zero, ◌<◌, ◌≤◌, List, [], ◌∷◌, ◌++◌, length, inl, inr}
use Rattle.std.proofs.lemmas.Bool.Decides.{eqb_tells}

abbrev pub Absent : ℕ → List ℕ → Type 0
Absent u [] = Unit {0}
Absent u (k ∷ ks) = (u ≡ k → ⊥) × Absent u ks

abbrev pub Distinct : List ℕ → Type 0
Distinct [] = Unit {0}
Distinct (k ∷ ks) = Absent k ks × Distinct ks

-- no vertex stands in both
abbrev pub Apart : List ℕ → List ℕ → Type 0
Apart [] b = Unit {0}
Apart (k ∷ a) b = Absent k b × Apart a b

abbrev pub Above : ℕ → List ℕ → Type 0
Above v [] = Unit {0}
Above v (k ∷ ks) = (v < k) × Above v ks

abbrev pub UpTo : ℕ → List ℕ → Type 0
UpTo n [] = Unit {0}
UpTo n (k ∷ ks) = (k ≤ n) × UpTo n ks

pub same_or_not : {P : Type 0} (x y : ℕ) → (x ≡ y → P) → ((x ≡ y → ⊥) → P) → P
same_or_not x y p q = elim (eqb_tells x y) [ inl e ↦ p e.1 | inr e ↦ q e.1 ]

-- ---- above and up to
pub above_append : (v : ℕ) (a b : List ℕ) → Above v a → Above v b → Above v (a ++ b)
above_append v [] b h k = k
above_append v (x ∷ a) b h k = (h.0, above_append v a b h.1 k)

pub above_left : (v : ℕ) (a b : List ℕ) → Above v (a ++ b) → Above v a
above_left v [] b h = tt
above_left v (x ∷ a) b h = (h.0, above_left v a b h.1)

pub above_right : (v : ℕ) (a b : List ℕ) → Above v (a ++ b) → Above v b
above_right v [] b h = h
above_right v (x ∷ a) b h = above_right v a b h.1

pub above_less : (v w : ℕ) (a : List ℕ) → v ≤ w → Above w a → Above v a
above_less v w [] l h = tt
above_less v w (x ∷ a) l h = (let k : w < x = h.0 in omega arith, above_less v w a l h.1)

pub upto_append : (n : ℕ) (a b : List ℕ) → UpTo n a → UpTo n b → UpTo n (a ++ b)
upto_append n [] b h k = k
upto_append n (x ∷ a) b h k = (h.0, upto_append n a b h.1 k)

pub upto_left : (n : ℕ) (a b : List ℕ) → UpTo n (a ++ b) → UpTo n a
upto_left n [] b h = tt
upto_left n (x ∷ a) b h = (h.0, upto_left n a b h.1)

pub upto_right : (n : ℕ) (a b : List ℕ) → UpTo n (a ++ b) → UpTo n b
upto_right n [] b h = h
upto_right n (x ∷ a) b h = upto_right n a b h.1

-- what is not above a path's vertices does not stand in it
pub absent_above : (w : ℕ) (a : List ℕ) → Above w a → Absent w a
absent_above w [] h = tt
absent_above w (x ∷ a) h = ((λ e. let k : w < x = h.0 in omega arith), absent_above w a h.1)

-- ---- absent
pub absent_append : (u : ℕ) (a b : List ℕ) → Absent u a → Absent u b → Absent u (a ++ b)
absent_append u [] b h k = k
absent_append u (x ∷ a) b h k = (h.0, absent_append u a b h.1 k)

pub absent_left : (u : ℕ) (a b : List ℕ) → Absent u (a ++ b) → Absent u a
absent_left u [] b h = tt
absent_left u (x ∷ a) b h = (h.0, absent_left u a b h.1)

pub absent_right : (u : ℕ) (a b : List ℕ) → Absent u (a ++ b) → Absent u b
absent_right u [] b h = h
absent_right u (x ∷ a) b h = absent_right u a b h.1

-- where a vertex stands, or that it does not
pub data Place (u : ℕ) (ks : List ℕ) : Type 0 where
  absent : Absent u ks → Place u ks
  at : (a b : List ℕ) → ks ≡ a ++ u ∷ b → Place u ks

pub place_of : (u : ℕ) (ks : List ℕ) → Place u ks
place_of u [] = absent tt
place_of u (k ∷ ks) = same_or_not u k
    (λ e. at [] ks (ap (λ x. x ∷ ks) (sym e)))
    (λ other. further other (place_of u ks))
  where
    further : (u ≡ k → ⊥) → Place u ks → Place u (k ∷ ks)
    further other (absent h) = absent (other, h)
    further other (at a b e) = at (k ∷ a) b (ap (λ x. k ∷ x) e)

-- two lists are apart, or a vertex stands in both
pub data Meeting (a b : List ℕ) : Type 0 where
  apart : Apart a b → Meeting a b
  meet : (u : ℕ) (a₁ a₂ b₁ b₂ : List ℕ) → a ≡ a₁ ++ u ∷ a₂ → b ≡ b₁ ++ u ∷ b₂ → Meeting a b

pub meeting_of : (a b : List ℕ) → Meeting a b
meeting_of [] b = apart tt
meeting_of (k ∷ a) b = by_place (place_of k b) (meeting_of a b)
  where
    by_rest : Absent k b → Meeting a b → Meeting (k ∷ a) b
    by_rest h (apart r) = apart (h, r)
    by_rest h (meet u a₁ a₂ b₁ b₂ e f) = meet u (k ∷ a₁) a₂ b₁ b₂ (ap (λ x. k ∷ x) e) f

    by_place : Place k b → Meeting a b → Meeting (k ∷ a) b
    by_place (absent h) m = by_rest h m
    by_place (at b₁ b₂ e) m = meet k [] a b₁ b₂ refl e

-- ---- distinct
pub distinct_join : (a b : List ℕ) (w : ℕ) → Distinct a → Distinct b → Apart a b → Absent w a → Absent w b → Distinct (a ++ w ∷ b)
distinct_join [] b w da db ap wa wb = (wb, db)
distinct_join (k ∷ a) b w da db ap wa wb =
    (absent_append k a (w ∷ b) da.0 ((λ e. wa.0 (sym e)), ap.0), distinct_join a b w da.1 db ap.1 wa.1 wb)

distinct_without : (a b : List ℕ) (w : ℕ) → Distinct (a ++ w ∷ b) → Distinct (a ++ b) × Absent w (a ++ b)
distinct_without [] b w d = (d.1, d.0)
distinct_without (k ∷ a) b w d =
    let rest = distinct_without a b w d.1 in
    let k_a : Absent k a = absent_left k a (w ∷ b) d.0 in
    let k_wb : Absent k (w ∷ b) = absent_right k a (w ∷ b) d.0 in
    ((absent_append k a b k_a k_wb.1, rest.0), ((λ e. k_wb.0 (sym e)), rest.1))

upto_less : (n : ℕ) (ks : List ℕ) → UpTo (suc n) ks → Absent (suc n) ks → UpTo n ks
upto_less n [] h k = tt
upto_less n (x ∷ ks) h k = (let l : x ≤ suc n = h.0 in let o : suc n ≡ x → ⊥ = k.0 in omega arith, upto_less n ks h.1 k.1)

length_gap : (a b : List ℕ) (w : ℕ) → length (a ++ w ∷ b) ≡ suc (length (a ++ b))
length_gap [] b w = refl
length_gap (k ∷ a) b w = ap suc (length_gap a b w)

-- Distinct vertices from 1 to n are no more than n.
pub distinct_length : (n : ℕ) (ks : List ℕ) → Distinct ks → Above 0 ks → UpTo n ks → length ks ≤ n
distinct_length zero [] d p h = omega arith
distinct_length zero (k ∷ ks) d p h = absurd (let a : 0 < k = p.0 in let b : k ≤ 0 = h.0 in omega arith)
distinct_length (suc n) ks d p h = by_place (λ l. distinct_length n l) (place_of (suc n) ks)
  where
    by_place : ((l : List ℕ) → Distinct l → Above 0 l → UpTo n l → length l ≤ n) → Place (suc n) ks → length ks ≤ suc n
    by_place fewer (absent o) = let k : length ks ≤ n = fewer ks d p (upto_less n ks h o) in omega arith
    by_place fewer (at a b e) =
        let w = distinct_without a b (suc n) (subst Distinct e d) in
        let p' : Above 0 (a ++ suc n ∷ b) = subst (Above 0) e p in
        let q : Above 0 (a ++ b) = above_append 0 a b (above_left 0 a (suc n ∷ b) p') (above_right 0 a (suc n ∷ b) p').1 in
        let h' : UpTo (suc n) (a ++ suc n ∷ b) = subst (UpTo (suc n)) e h in
        let u : UpTo (suc n) (a ++ b) = upto_append (suc n) a b (upto_left (suc n) a (suc n ∷ b) h') (upto_right (suc n) a (suc n ∷ b) h').1 in
        let k : length (a ++ b) ≤ n = fewer (a ++ b) w.0 q (upto_less n (a ++ b) u w.1) in
        let l : length ks ≡ suc (length (a ++ b)) = ap length e ∙ length_gap a b (suc n) in
        omega arith
