-- The least id on which two lists of keys don't agree.
use Rattle.std.proofs.Common.{◌≡◌, ℕ, suc, zero, ◌<◌, ◌≤◌, min, List, [], ◌∷◌, ◌++◌, length, get_or, take, drop, map, refl, sym, ap, subst, ◌∙◌, arith, inl, inr}
use Rattle.std.specs.Prelude.{All, Contains, ◌⊎◌}
use Rattle.std.specs.Ordering.{nat_cmp}
use Rattle.std.specs.declared.cmp.Ordering.TheVariants.{Less}
use Rattle.std.proofs.lemmas.Bool.{cases_lt}
use Rattle.std.proofs.lemmas.List.{append-nil, take_all, take-append-drop}
use Rattle.std.proofs.Math.Seq.{drop-cons}
use Rattle.std.proofs.lemmas.List.Elements.{All-nil, All-cons, All-head, All-contains, Contains-append_left, Contains-append_right, Contains-append_cases}
use Rattle.lt_cover.specs.Coverage.Merge.{IsLeastMixed}
use Rattle.lt_merge.specs.Keys.{KeysRise}
use Rattle.lt_cover.proofs.Rising.{rise_head, rise_tail}
use Rattle.lt_cover.proofs.Drafts.{less_lt}
use Rattle.std.proofs.lemmas.Bool.Decides.{nat_tests}

abbrev pub Keys : Type 0
Keys = List (ℕ × List ℕ)

abbrev AtLeast : ℕ → ℕ × List ℕ → Type 0
AtLeast n k = n ≤ k.0

abbrev Below : ℕ → ℕ × List ℕ → Type 0
Below n k = k.0 < n

below_id : (x y : ℕ) → nat_cmp x y ≡ Less → x < y
below_id x y e = let h = less_lt x y e in grind (arith, nat_tests)

-- behind the first, ids are greater
behind_first : (x : ℕ × List ℕ) (xs : Keys) → KeysRise (x ∷ xs) → All (λ (k : ℕ × List ℕ). x.0 < k.0) xs
behind_first x [] h = All-nil (λ (k : ℕ × List ℕ). x.0 < k.0)
behind_first x (y ∷ xs) h =
    let less : x.0 < y.0 = below_id x.0 y.0 (All-head (λ (n : ℕ). nat_cmp x.0 n ≡ Less) y.0 (map (λ (k : ℕ × List ℕ). k.0) xs) (rise_head nat_cmp x.0 (map (λ (k : ℕ × List ℕ). k.0) (y ∷ xs)) h)) in
    let rest = behind_first y xs (rise_tail nat_cmp x.0 (map (λ (k : ℕ × List ℕ). k.0) (y ∷ xs)) h) in
    All-cons (λ (k : ℕ × List ℕ). x.0 < k.0) y xs less (λ k d within. let next : y.0 < _ = rest k d within in omega (arith, next, less))

pub rest_rises : (front xs : Keys) → KeysRise (front ++ xs) → KeysRise xs
rest_rises [] xs h = h
rest_rises (y ∷ front) xs h = rest_rises front xs (rise_tail nat_cmp y.0 (map (λ (k : ℕ × List ℕ). k.0) (front ++ xs)) h)

front_below : (front : Keys) (x : ℕ × List ℕ) (xs : Keys) → KeysRise (front ++ x ∷ xs) → All (Below x.0) front
front_below [] x xs h = All-nil (Below x.0)
front_below (y ∷ front) x xs h =
    let here : y.0 < x.0 = All-contains (λ (k : ℕ × List ℕ). y.0 < k.0) (front ++ x ∷ xs) x (behind_first y (front ++ x ∷ xs) h) (Contains-append_right front (x ∷ xs) x (0, omega arith, refl)) in
    All-cons (Below x.0) y front here (front_below front x xs (rise_tail nat_cmp y.0 (map (λ (k : ℕ × List ℕ). k.0) (front ++ x ∷ xs)) h))

from_first : (x : ℕ × List ℕ) (xs : Keys) → KeysRise (x ∷ xs) → All (AtLeast x.0) (x ∷ xs)
from_first x xs h = All-cons (AtLeast x.0) x xs (omega arith) (λ k d within. let more : x.0 < _ = behind_first x xs h k d within in omega (arith, more))

-- one list has the id with a tag that the other doesn't have, and what stands before is the same
mixed : (front xs ys : Keys) (x : ℕ × List ℕ) → All (Below x.0) front → All (AtLeast x.0) xs → All (AtLeast x.0) ys → Contains xs x → (Contains ys x → ⊥) → IsLeastMixed (front ++ xs) (front ++ ys) x.0
mixed front xs ys x below left right has misses = record {
  here = λ agree. missing (Contains-append_cases front ys x ((agree x.1).0 (Contains-append_right front xs x has)));
  before = λ lesser less tag. (λ k. over xs ys left lesser less tag (Contains-append_cases front xs (lesser, tag) k), λ k. over ys xs right lesser less tag (Contains-append_cases front ys (lesser, tag) k));
}
  where
    missing : Contains front x ⊎ Contains ys x → ⊥
    missing (inl k) = let h : x.0 < x.0 = All-contains (Below x.0) front x below k in absurd (omega (arith, h))
    missing (inr k) = misses k

    over : (us vs : Keys) → All (AtLeast x.0) us → (lesser : ℕ) → lesser < x.0 → (tag : List ℕ) → Contains front (lesser, tag) ⊎ Contains us (lesser, tag) → Contains (front ++ vs) (lesser, tag)
    over us vs each lesser less tag (inl k) = Contains-append_left front vs (lesser, tag) k
    over us vs each lesser less tag (inr k) = let h : x.0 ≤ lesser = All-contains (AtLeast x.0) us (lesser, tag) each k in absurd (omega (arith, h, less))

pub other_way : (a b : Keys) (n : ℕ) → IsLeastMixed a b n → IsLeastMixed b a n
other_way a b n h = record {
  here = λ agree. h.here (λ tag. ((agree tag).1, (agree tag).0));
  before = λ lesser less tag. let k = h.before lesser less tag in (k.1, k.0);
}

not_behind : (n : ℕ) (x : ℕ × List ℕ) (xs : Keys) → n ≡ x.0 → All (λ (k : ℕ × List ℕ). n < k.0) xs → Contains xs x → ⊥
not_behind n x xs e h k = let less : n < x.0 = All-contains (λ (z : ℕ × List ℕ). n < z.0) xs x h k in absurd (omega (arith, e, less))

-- the second list is at its end
pub mixed_end : (front : Keys) (x : ℕ × List ℕ) (xs : Keys) → KeysRise (front ++ x ∷ xs) → IsLeastMixed (front ++ x ∷ xs) (front ++ []) x.0
mixed_end front x xs h = mixed front (x ∷ xs) [] x (front_below front x xs h) (from_first x xs (rest_rises front (x ∷ xs) h)) (All-nil (AtLeast x.0)) (0, omega arith, refl) (λ k. absurd (omega (arith, k.1)))

lesser_first : (front : Keys) (x y : ℕ × List ℕ) (xs ys : Keys) → KeysRise (front ++ x ∷ xs) → KeysRise (front ++ y ∷ ys) → x.0 ≤ y.0 → (y ≡ x → ⊥) → IsLeastMixed (front ++ x ∷ xs) (front ++ y ∷ ys) x.0
lesser_first front x y xs ys h k le differ =
    let from = from_first y ys (rest_rises front (y ∷ ys) k) in
    mixed front (x ∷ xs) (y ∷ ys) x (front_below front x xs h) (from_first x xs (rest_rises front (x ∷ xs) h)) (λ i d within. let high : y.0 ≤ _ = from i d within in omega (arith, high, le)) (0, omega arith, refl) (λ has. found (Contains-append_cases (y ∷ []) ys x has))
  where
    found : Contains (y ∷ []) x ⊎ Contains ys x → ⊥
    found (inl (zero, within, is)) = differ is
    found (inl (suc i, within, is)) = absurd (omega (arith, within))
    found (inr has) = not_behind x.0 x ys refl (λ i d within. let high : y.0 < _ = behind_first y ys (rest_rises front (y ∷ ys) k) i d within in omega (arith, high, le)) has

-- the keys at a place differ, and those before are the same
pub mixed_heads : (front : Keys) (x y : ℕ × List ℕ) (xs ys : Keys) → KeysRise (front ++ x ∷ xs) → KeysRise (front ++ y ∷ ys) → (x ≡ y → ⊥) → IsLeastMixed (front ++ x ∷ xs) (front ++ y ∷ ys) (min x.0 y.0)
mixed_heads front x y xs ys h k differ = elim (cases_lt y.0 x.0) [
  | inl less ↦ subst (λ (n : ℕ). IsLeastMixed (front ++ x ∷ xs) (front ++ y ∷ ys) n) {x = y.0} {y = min x.0 y.0} (omega arith) (other_way (front ++ y ∷ ys) (front ++ x ∷ xs) y.0 (lesser_first front y x ys xs k h (omega arith) differ))
  | inr more ↦ subst (λ (n : ℕ). IsLeastMixed (front ++ x ∷ xs) (front ++ y ∷ ys) n) {x = x.0} {y = min x.0 y.0} (omega arith) (lesser_first front x y xs ys h k more (λ e. differ (sym e)))
]

split_at : (a : Keys) (i : ℕ) (x : ℕ × List ℕ) → i < length a → x ≡ get_or a i x → a ≡ take i a ++ x ∷ drop (suc i) a
split_at a i x within is = sym (take-append-drop i a) ∙ ap (λ z. take i a ++ z) (drop-cons a i x within ∙ ap (λ z. z ∷ drop (suc i) a) (sym is))

pub mixed_at : (a b : Keys) (i : ℕ) (x y : ℕ × List ℕ) → KeysRise a → KeysRise b → i < length a → i < length b → x ≡ get_or a i x → y ≡ get_or b i y → take i b ≡ take i a → (x ≡ y → ⊥) → IsLeastMixed a b (min x.0 y.0)
mixed_at a b i x y ha hb ia ib xi yi same differ =
    let ea : a ≡ take i a ++ x ∷ drop (suc i) a = split_at a i x ia xi in
    let eb : b ≡ take i a ++ y ∷ drop (suc i) b = split_at b i y ib yi ∙ ap (λ z. z ++ y ∷ drop (suc i) b) same in
    let m = mixed_heads (take i a) x y (drop (suc i) a) (drop (suc i) b) (subst KeysRise ea ha) (subst KeysRise eb hb) differ in
    subst (λ (z : Keys). IsLeastMixed z b (min x.0 y.0)) (sym ea) (subst (λ (z : Keys). IsLeastMixed (take i a ++ x ∷ drop (suc i) a) z (min x.0 y.0)) (sym eb) m)

pub mixed_past : (a b : Keys) (i : ℕ) (x : ℕ × List ℕ) → KeysRise a → i < length a → length b ≤ i → x ≡ get_or a i x → take i b ≡ take i a → IsLeastMixed a b x.0
mixed_past a b i x ha ia past xi same =
    let ea : a ≡ take i a ++ x ∷ drop (suc i) a = split_at a i x ia xi in
    let eb : b ≡ take i a ++ [] = sym (take_all i b past) ∙ (same ∙ sym (append-nil (take i a))) in
    let m = mixed_end (take i a) x (drop (suc i) a) (subst KeysRise ea ha) in
    subst (λ (z : Keys). IsLeastMixed z b x.0) (sym ea) (subst (λ (z : Keys). IsLeastMixed (take i a ++ x ∷ drop (suc i) a) z x.0) (sym eb) m)
