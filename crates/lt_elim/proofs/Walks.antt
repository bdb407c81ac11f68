-- Walks of a weighted graph: what eliminating a vertex does to edges.
use Rattle.std.proofs.Common.{arith, ◌≡◌, refl, sym, ap, subst, ℕ, suc, zero, ℤ, pos, ◌+ℤ◌, ◌≤ℤ◌, ◌+◌, ◌<◌, ◌≤◌, List, [], ◌∷◌, ◌++◌, length, ◌⊎◌, inl, inr}
use Rattle.std.specs.Prelude.{neg_ℤ}
use Rattle.std.proofs.lemmas.Int.{ints}
use Rattle.lt_elim.proofs.Paths.{Distinct, Above, UpTo, same_or_not, above_append, above_left, above_right, above_less, upto_append, absent_above, Meeting, apart, meet, meeting_of, distinct_join, distinct_length}

-- a walk from i to j over the vertices of a path, with the sum of the weights of its edges
abbrev pub Walk : (ℕ → ℕ → ℤ → Type 0) → ℕ → List ℕ → ℕ → ℤ → Type 0
Walk edge i [] j c = edge i j c
Walk edge i (k ∷ ks) j c = (a : ℤ) × (b : ℤ) × edge i k a × Walk edge k ks j b × (c ≡ a +ℤ b)

pub joined : (edge : ℕ → ℕ → ℤ → Type 0) (i k j : ℕ) (p q : List ℕ) (a b : ℤ) → Walk edge i p k a → Walk edge k q j b → Walk edge i (p ++ k ∷ q) j (a +ℤ b)
joined edge i k j [] q a b x y = (a, b, x, y, refl)
joined edge i k j (h ∷ p) q a b x y = (x.0, x.1 +ℤ b, x.2, joined edge h k j p q x.1 b x.3 y, regroup x.0 x.1 a x.4)
  where
    regroup : (s t a : ℤ) → a ≡ s +ℤ t → a +ℤ b ≡ s +ℤ (t +ℤ b)
    regroup s t a e = omega (arith, ints)

-- the two walks of a walk over u
pub record Halves (edge : ℕ → ℕ → ℤ → Type 0) (i : ℕ) (p : List ℕ) (u : ℕ) (q : List ℕ) (j : ℕ) (c : ℤ) : Type 0 where
  pub before : ℤ
  pub after : ℤ
  pub sum : c ≡ before +ℤ after
  pub first : Walk edge i p u before
  pub second : Walk edge u q j after

pub halves : (edge : ℕ → ℕ → ℤ → Type 0) (i u j : ℕ) (p q : List ℕ) (c : ℤ) → Walk edge i (p ++ u ∷ q) j c → Halves edge i p u q j c
halves edge i u j [] q c w = record { before = w.0; after = w.1; sum = w.4; first = w.2; second = w.3 }
halves edge i u j (k ∷ p) q c w =
    let h = halves edge k u j p q w.1 w.3 in
    record {
      before = w.0 +ℤ h.before;
      after = h.after;
      sum = regroup w.0 w.1 h.before h.after w.4 h.sum;
      first = (w.0, h.before, w.2, h.first, refl);
      second = h.second;
    }
  where
    regroup : (s t x y : ℤ) → c ≡ s +ℤ t → t ≡ x +ℤ y → c ≡ (s +ℤ x) +ℤ y
    regroup s t x y e f = omega (arith, ints)

-- ---- stages
-- Of the edges of a graph on the vertices up to n, the edges `kept` are what the vertices up to v are left with once the
-- others are eliminated: at most one from a vertex to another; it weighs as much as a walk over eliminated vertices that
-- comes to none twice, and no such walk weighs less; none leads back with a weight below 0.
pub record IsStage (edge kept : ℕ → ℕ → ℤ → Type 0) (n v : ℕ) : Type 0 where
  pub ends : (i j : ℕ) (c : ℤ) → kept i j c → (i ≤ v) × (j ≤ v) × (i ≡ j → ⊥)
  pub one : (i j : ℕ) (c d : ℤ) → kept i j c → kept i j d → c ≡ d
  pub walks : (i j : ℕ) (c : ℤ) → kept i j c → (p : List ℕ) × Walk edge i p j c × Above v p × UpTo n p × Distinct p
  pub least : (i j : ℕ) (p : List ℕ) (c : ℤ) → i ≤ v → j ≤ v → Walk edge i p j c → Above v p → (i ≡ j → ⊥) → (d : ℤ) × kept i j d × (d ≤ℤ c)
  pub back : (i : ℕ) (p : List ℕ) (c : ℤ) → i ≤ v → Walk edge i p i c → Above v p → pos 0 ≤ℤ c

-- What eliminating the vertex w gives: each pair of edges over w, and the edges that do not touch it, of which the
-- lightest are left.
pub record Eliminates (kept next : ℕ → ℕ → ℤ → Type 0) (w : ℕ) : Type 0 where
  pub from : (i j : ℕ) (c : ℤ) → next i j c → (kept i j c × (i ≡ w → ⊥) × (j ≡ w → ⊥)) ⊎ ((a : ℤ) × (b : ℤ) × kept i w a × kept w j b × (c ≡ a +ℤ b))
  pub proper : (i j : ℕ) (c : ℤ) → next i j c → i ≡ j → ⊥
  pub one : (i j : ℕ) (c d : ℤ) → next i j c → next i j d → c ≡ d
  pub stays : (i j : ℕ) (c : ℤ) → kept i j c → (i ≡ w → ⊥) → (j ≡ w → ⊥) → (d : ℤ) × next i j d × (d ≤ℤ c)
  pub over : (i j : ℕ) (a b : ℤ) → kept i w a → kept w j b → (i ≡ j → ⊥) → (d : ℤ) × next i j d × (d ≤ℤ (a +ℤ b))
  pub round : (i : ℕ) (a b : ℤ) → kept i w a → kept w i b → pos 0 ≤ℤ (a +ℤ b)

-- where a path over vertices above v first comes to the vertex after v
data First (v : ℕ) (p : List ℕ) : Type 0 where
  never : Above (suc v) p → First v p
  first_at : (a b : List ℕ) → p ≡ a ++ suc v ∷ b → Above (suc v) a → Above v b → First v p

first_of : (v : ℕ) (p : List ℕ) → Above v p → First v p
first_of v [] h = never tt
first_of v (k ∷ p) h = same_or_not (suc v) k
    (λ e. first_at [] p (ap (λ (x : ℕ). x ∷ p) (sym e)) tt h.1)
    (λ o. further (let l : v < k = h.0 in omega arith) (first_of v p h.1))
  where
    further : suc v < k → First v p → First v (k ∷ p)
    further l (never a) = never (l, a)
    further l (first_at a b e x y) = first_at (k ∷ a) b (ap (λ q. k ∷ q) e) (l, x) y

gap : (v : ℕ) (a b : List ℕ) → length b < length (a ++ suc v ∷ b)
gap v [] b = omega arith
gap v (z ∷ a) b = let k : length b < length (a ++ suc v ∷ b) = gap v a b in omega arith

-- a walk from the eliminated vertex on: its parts back to that vertex weigh nothing less than 0
tail_least : (edge kept : ℕ → ℕ → ℤ → Type 0) (n v : ℕ) → IsStage edge kept n (suc v) → (fuel j : ℕ) (p : List ℕ) (c : ℤ) → length p ≤ fuel → Walk edge (suc v) p j c → Above v p → j ≤ v → (d : ℤ) × kept (suc v) j d × (d ≤ℤ c)
tail_least edge kept n v s zero j p c len w h l = by_first (first_of v p h)
  where
    by_first : First v p → (d : ℤ) × kept (suc v) j d × (d ≤ℤ c)
    by_first (never a) = s.least (suc v) j p c (omega arith) (omega arith) w a (λ e. omega arith)
    by_first (first_at a b e x y) = absurd (let g : length b < length (a ++ suc v ∷ b) = gap v a b in omega (arith, ap length e))
tail_least edge kept n v s (suc f) j p c len w h l = by_first (λ q a. tail_least edge kept n v s f j q a) (first_of v p h)
  where
    lighter : (d x y : ℤ) → d ≤ℤ y → pos 0 ≤ℤ x → c ≡ x +ℤ y → d ≤ℤ c
    lighter d x y e f g = omega (arith, ints)

    by_first : ((q : List ℕ) (a : ℤ) → length q ≤ f → Walk edge (suc v) q j a → Above v q → j ≤ v → (d : ℤ) × kept (suc v) j d × (d ≤ℤ a)) → First v p → (d : ℤ) × kept (suc v) j d × (d ≤ℤ c)
    by_first shorter (never a) = s.least (suc v) j p c (omega arith) (omega arith) w a (λ e. omega arith)
    by_first shorter (first_at a b e x y) =
        let hs = halves edge (suc v) (suc v) j a b c (subst (λ (q : List ℕ). Walk edge (suc v) q j c) e w) in
        let g : length b < length (a ++ suc v ∷ b) = gap v a b in
        let r = shorter b hs.after (omega (arith, ap length e)) hs.second y l in
        let z : pos 0 ≤ℤ hs.before = s.back (suc v) a hs.before (omega arith) hs.first x in
        (r.0, r.1, lighter r.0 hs.before hs.after r.2 z hs.sum)

-- ---- the next stage
next_walks : (edge kept next : ℕ → ℕ → ℤ → Type 0) (n v : ℕ) → suc v ≤ n → IsStage edge kept n (suc v) → Eliminates kept next (suc v) → (i j : ℕ) (c : ℤ) → next i j c → (p : List ℕ) × Walk edge i p j c × Above v p × UpTo n p × Distinct p
next_walks edge kept next n v in_n s t i j c k = by_origin (t.from i j c k)
  where
    as_before : kept i j c → (p : List ℕ) × Walk edge i p j c × Above v p × UpTo n p × Distinct p
    as_before k =
        let w = s.walks i j c k in
        (w.0, w.1, above_less v (suc v) w.0 (omega arith) w.2, w.3, w.4)

    -- an edge that weighs no more than c is c's own
    not_more : (d : ℤ) → kept i j d → (i ≡ suc v → ⊥) → (j ≡ suc v → ⊥) → d ≤ℤ c → (p : List ℕ) × Walk edge i p j c × Above v p × UpTo n p × Distinct p
    not_more d kd ni nj l =
        let m = t.stays i j d kd ni nj in
        let e : c ≡ m.0 = t.one i j c m.0 k m.1 in
        let f : d ≡ c = tie d c m.0 l m.2 e in
        as_before (subst (λ (z : ℤ). kept i j z) f kd)
      where
        tie : (d c m : ℤ) → d ≤ℤ c → m ≤ℤ d → c ≡ m → d ≡ c
        tie d c m x y z = omega (arith, ints)

    by_meeting : (a b : ℤ) → kept i (suc v) a → kept (suc v) j b → c ≡ a +ℤ b → (p q : List ℕ) → Walk edge i p (suc v) a → Above (suc v) p → UpTo n p → Distinct p → Walk edge (suc v) q j b → Above (suc v) q → UpTo n q → Distinct q → Meeting p q → (r : List ℕ) × Walk edge i r j c × Above v r × UpTo n r × Distinct r
    by_meeting a b ka kb e p q wp ap up dp wq aq uq dq (apart o) = (
      p ++ suc v ∷ q,
      subst (λ (z : ℤ). Walk edge i (p ++ suc v ∷ q) j z) (sym e) (joined edge i (suc v) j p q a b wp wq),
      above_append v p (suc v ∷ q) (above_less v (suc v) p (omega arith) ap) (omega arith, above_less v (suc v) q (omega arith) aq),
      upto_append n p (suc v ∷ q) up (in_n, uq),
      distinct_join p q (suc v) dp dq o (absent_above (suc v) p ap) (absent_above (suc v) q aq),
    )
    by_meeting a b ka kb e p q wp ap up dp wq aq uq dq (meet u p₁ p₂ q₁ q₂ ep eq) =
        let hp = halves edge i u (suc v) p₁ p₂ a (subst (λ (z : List ℕ). Walk edge i z (suc v) a) ep wp) in
        let hq = halves edge (suc v) u j q₁ q₂ b (subst (λ (z : List ℕ). Walk edge (suc v) z j b) eq wq) in
        let ap' : Above (suc v) (p₁ ++ u ∷ p₂) = subst (Above (suc v)) ep ap in
        let aq' : Above (suc v) (q₁ ++ u ∷ q₂) = subst (Above (suc v)) eq aq in
        let around : Walk edge (suc v) (q₁ ++ u ∷ p₂) (suc v) (hq.before +ℤ hp.after) = joined edge (suc v) u (suc v) q₁ p₂ hq.before hp.after hq.first hp.second in
        let past : Walk edge i (p₁ ++ u ∷ q₂) j (hp.before +ℤ hq.after) = joined edge i u j p₁ q₂ hp.before hq.after hp.first hq.second in
        let around_above : Above (suc v) (q₁ ++ u ∷ p₂) = above_append (suc v) q₁ (u ∷ p₂) (above_left (suc v) q₁ (u ∷ q₂) aq') (above_right (suc v) p₁ (u ∷ p₂) ap') in
        let past_above : Above (suc v) (p₁ ++ u ∷ q₂) = above_append (suc v) p₁ (u ∷ q₂) (above_left (suc v) p₁ (u ∷ p₂) ap') (above_right (suc v) q₁ (u ∷ q₂) aq') in
        let z : pos 0 ≤ℤ (hq.before +ℤ hp.after) = s.back (suc v) (q₁ ++ u ∷ p₂) (hq.before +ℤ hp.after) (omega arith) around around_above in
        let x = s.ends i (suc v) a ka in
        let y = s.ends (suc v) j b kb in
        let m = s.least i j (p₁ ++ u ∷ q₂) (hp.before +ℤ hq.after) x.0 y.1 past past_above (t.proper i j c k) in
        not_more m.0 m.1 x.2 (λ r. y.2 (sym r)) (lighter m.0 hp.before hp.after hq.before hq.after m.2 z hp.sum hq.sum)
      where
        lighter : (d s₁ s₂ t₁ t₂ : ℤ) → d ≤ℤ (s₁ +ℤ t₂) → pos 0 ≤ℤ (t₁ +ℤ s₂) → a ≡ s₁ +ℤ s₂ → b ≡ t₁ +ℤ t₂ → d ≤ℤ c
        lighter d s₁ s₂ t₁ t₂ x y f g = omega (arith, ints)

    by_origin : (kept i j c × (i ≡ suc v → ⊥) × (j ≡ suc v → ⊥)) ⊎ ((a : ℤ) × (b : ℤ) × kept i (suc v) a × kept (suc v) j b × (c ≡ a +ℤ b)) → (p : List ℕ) × Walk edge i p j c × Above v p × UpTo n p × Distinct p
    by_origin (inl h) = as_before h.0
    by_origin (inr h) =
        let x = s.walks i (suc v) h.0 h.2 in
        let y = s.walks (suc v) j h.1 h.3 in
        by_meeting h.0 h.1 h.2 h.3 h.4 x.0 y.0 x.1 x.2 x.3 x.4 y.1 y.2 y.3 y.4 (meeting_of x.0 y.0)

next_ends : (edge kept next : ℕ → ℕ → ℤ → Type 0) (n v : ℕ) → IsStage edge kept n (suc v) → Eliminates kept next (suc v) → (i j : ℕ) (c : ℤ) → next i j c → (i ≤ v) × (j ≤ v) × (i ≡ j → ⊥)
next_ends edge kept next n v s t i j c k = by_origin (t.from i j c k)
  where
    under : (x : ℕ) → x ≤ suc v → (x ≡ suc v → ⊥) → x ≤ v
    under x h o = omega arith

    by_origin : (kept i j c × (i ≡ suc v → ⊥) × (j ≡ suc v → ⊥)) ⊎ ((a : ℤ) × (b : ℤ) × kept i (suc v) a × kept (suc v) j b × (c ≡ a +ℤ b)) → (i ≤ v) × (j ≤ v) × (i ≡ j → ⊥)
    by_origin (inl h) =
        let x = s.ends i j c h.0 in
        (under i x.0 h.1, under j x.1 h.2, t.proper i j c k)
    by_origin (inr h) =
        let x = s.ends i (suc v) h.0 h.2 in
        let y = s.ends (suc v) j h.1 h.3 in
        (under i x.0 x.2, under j y.1 (λ e. y.2 (sym e)), t.proper i j c k)

next_least : (edge kept next : ℕ → ℕ → ℤ → Type 0) (n v : ℕ) → IsStage edge kept n (suc v) → Eliminates kept next (suc v) → (i j : ℕ) (p : List ℕ) (c : ℤ) → i ≤ v → j ≤ v → Walk edge i p j c → Above v p → (i ≡ j → ⊥) → (d : ℤ) × next i j d × (d ≤ℤ c)
next_least edge kept next n v s t i j p c li lj w h o = by_first (first_of v p h)
  where
    lower : (d e : ℤ) → d ≤ℤ e → e ≤ℤ c → d ≤ℤ c
    lower d e x y = omega (arith, ints)

    lower_sum : (d a b x y : ℤ) → d ≤ℤ (a +ℤ b) → a ≤ℤ x → b ≤ℤ y → c ≡ x +ℤ y → d ≤ℤ c
    lower_sum d a b x y f g h k = omega (arith, ints)

    by_first : First v p → (d : ℤ) × next i j d × (d ≤ℤ c)
    by_first (never a) =
        let m = s.least i j p c (omega arith) (omega arith) w a o in
        let r = t.stays i j m.0 m.1 (λ e. omega arith) (λ e. omega arith) in
        (r.0, r.1, lower r.0 m.0 r.2 m.2)
    by_first (first_at a b e x y) =
        let hs = halves edge i (suc v) j a b c (subst (λ (q : List ℕ). Walk edge i q j c) e w) in
        let m = s.least i (suc v) a hs.before (omega arith) (omega arith) hs.first x (λ e. omega arith) in
        let l = tail_least edge kept n v s (length b) j b hs.after (omega arith) hs.second y lj in
        let r = t.over i j m.0 l.0 m.1 l.1 o in
        (r.0, r.1, lower_sum r.0 m.0 l.0 hs.before hs.after r.2 m.2 l.2 hs.sum)

next_back : (edge kept next : ℕ → ℕ → ℤ → Type 0) (n v : ℕ) → IsStage edge kept n (suc v) → Eliminates kept next (suc v) → (i : ℕ) (p : List ℕ) (c : ℤ) → i ≤ v → Walk edge i p i c → Above v p → pos 0 ≤ℤ c
next_back edge kept next n v s t i p c li w h = by_first (first_of v p h)
  where
    lower_sum : (a b x y : ℤ) → pos 0 ≤ℤ (a +ℤ b) → a ≤ℤ x → b ≤ℤ y → c ≡ x +ℤ y → pos 0 ≤ℤ c
    lower_sum a b x y f g h k = omega (arith, ints)

    by_first : First v p → pos 0 ≤ℤ c
    by_first (never a) = s.back i p c (omega arith) w a
    by_first (first_at a b e x y) =
        let hs = halves edge i (suc v) i a b c (subst (λ (q : List ℕ). Walk edge i q i c) e w) in
        let m = s.least i (suc v) a hs.before (omega arith) (omega arith) hs.first x (λ e. omega arith) in
        let l = tail_least edge kept n v s (length b) i b hs.after (omega arith) hs.second y li in
        lower_sum m.0 l.0 hs.before hs.after (t.round i m.0 l.0 m.1 l.1) m.2 l.2 hs.sum

pub next_stage : (edge kept next : ℕ → ℕ → ℤ → Type 0) (n v : ℕ) → suc v ≤ n → IsStage edge kept n (suc v) → Eliminates kept next (suc v) → IsStage edge next n v
next_stage edge kept next n v in_n s t = record {
  ends = next_ends edge kept next n v s t;
  one = t.one;
  walks = next_walks edge kept next n v in_n s t;
  least = next_least edge kept next n v s t;
  back = next_back edge kept next n v s t;
}

-- Before a vertex is eliminated, the edges are the lightest from each vertex to each other.
pub first_stage : (edge kept : ℕ → ℕ → ℤ → Type 0) (n : ℕ) → ((i j : ℕ) (c : ℤ) → edge i j c → (i ≤ n) × (j ≤ n) × (i ≡ j → ⊥)) → ((i j : ℕ) (c : ℤ) → kept i j c → edge i j c) → ((i j : ℕ) (c d : ℤ) → kept i j c → kept i j d → c ≡ d) → ((i j : ℕ) (c : ℤ) → edge i j c → (d : ℤ) × kept i j d × (d ≤ℤ c)) → IsStage edge kept n n
first_stage edge kept n ends from one lightest = record {
  ends = λ i j c k. ends i j c (from i j c k);
  one = one;
  walks = λ i j c k. ([], from i j c k, tt, tt, tt);
  least = direct;
  back = none;
}
  where
    direct : (i j : ℕ) (p : List ℕ) (c : ℤ) → i ≤ n → j ≤ n → Walk edge i p j c → Above n p → (i ≡ j → ⊥) → (d : ℤ) × kept i j d × (d ≤ℤ c)
    direct i j [] c li lj w a o = lightest i j c w
    direct i j (k ∷ p) c li lj w a o = absurd (let x : k ≤ n = (ends i k w.0 w.2).1 in let y : n < k = a.0 in omega arith)

    none : (i : ℕ) (p : List ℕ) (c : ℤ) → i ≤ n → Walk edge i p i c → Above n p → pos 0 ≤ℤ c
    none i [] c li w a = absurd ((ends i i c w).2 refl)
    none i (k ∷ p) c li w a = absurd (let x : k ≤ n = (ends i k w.0 w.2).1 in let y : n < k = a.0 in omega arith)

-- ---- sizes
pub record IsSized (m : ℕ) (c : ℤ) : Type 0 where
  pub low : neg_ℤ (pos m) ≤ℤ c
  pub high : c ≤ℤ pos m

abbrev pub steps : ℕ → ℕ → ℕ
steps m zero = 0
steps m (suc k) = m + steps m k

steps_more : (m k l : ℕ) → k ≤ l → steps m k ≤ steps m l
steps_more m zero l h = omega arith
steps_more m (suc k) zero h = absurd (omega arith)
steps_more m (suc k) (suc l) h = let r : steps m k ≤ steps m l = steps_more m k l (omega arith) in omega arith

walk_sized : (edge : ℕ → ℕ → ℤ → Type 0) (m : ℕ) → ((i j : ℕ) (c : ℤ) → edge i j c → IsSized m c) → (i j : ℕ) (p : List ℕ) (c : ℤ) → Walk edge i p j c → IsSized (steps m (suc (length p))) c
walk_sized edge m h i j [] c w =
    let s = h i j c w in
    record { low = let x : neg_ℤ (pos m) ≤ℤ c = s.low in omega (arith, ints); high = let x : c ≤ℤ pos m = s.high in omega (arith, ints) }
walk_sized edge m h i j (k ∷ p) c w =
    let s = h i k w.0 w.2 in
    let r = walk_sized edge m h k j p w.1 w.3 in
    sums w.0 w.1 (steps m (suc (length p))) s r w.4
  where
    sums : (a b : ℤ) (t : ℕ) → IsSized m a → IsSized t b → c ≡ a +ℤ b → IsSized (m + t) c
    sums a b t x y e = record { low = omega (arith, ints, x.low, y.low); high = omega (arith, ints, x.high, y.high) }

-- No edge that is kept weighs more than n + 1 edges of the graph can, where vertex 0 stays.
pub stage_sized : (edge kept : ℕ → ℕ → ℤ → Type 0) (n v m : ℕ) → ((i j : ℕ) (c : ℤ) → edge i j c → IsSized m c) → IsStage edge kept n v → (i j : ℕ) (c : ℤ) → kept i j c → IsSized (steps m (suc n)) c
stage_sized edge kept n v m h s i j c k =
    let w = s.walks i j c k in
    let few : length w.0 ≤ n = distinct_length n w.0 w.4 (above_less 0 v w.0 (omega arith) w.2) w.3 in
    let r = walk_sized edge m h i j w.0 c w.1 in
    wider (steps m (suc (length w.0))) (steps m (suc n)) r (steps_more m (suc (length w.0)) (suc n) (omega arith))
  where
    wider : (x y : ℕ) → IsSized x c → x ≤ y → IsSized y c
    wider x y r l = record { low = omega (arith, ints, r.low); high = omega (arith, ints, r.high) }
