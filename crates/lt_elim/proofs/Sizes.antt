-- Values of a point of a difference system are small: each is led to 0 by rows that hold with nothing to spare.
use Rattle.std.proofs.Common.{arith, ◌≡◌, refl, sym, ap, subst, ℕ, suc, zero, ℤ, pos, ◌+ℤ◌, ◌-ℤ◌, ◌≤ℤ◌, ◌<ℤ◌, ◌+◌, ◌<◌, ◌≤◌, List, [], ◌∷◌, length}
use Rattle.std.specs.Prelude.{neg_ℤ}
use Rattle.std.proofs.lemmas.Int.{ints, by_lt_z}
use Rattle.lt_elim.proofs.Paths.{Absent, Distinct, Above, UpTo, distinct_length}
use Rattle.lt_elim.proofs.Walks.{Walk, IsSized}

-- ---- chains of vertices
-- Vertices up to n lead from u to one of the value 0, each at most m from the next.
pub data Chain (value : ℕ → ℤ) (n m : ℕ) : ℕ → Type 0 where
  at_zero : (u : ℕ) → value u ≡ pos 0 → Chain value n m u
  leads_on : (u w : ℕ) → u ≤ n → IsSized m (value u -ℤ value w) → Chain value n m w → Chain value n m u

-- a vertex whose value is above k and not above k + m
record Between (value : ℕ → ℤ) (n m k : ℕ) : Type 0 where
  vertex : ℕ
  upto : vertex ≤ n
  above : pos k <ℤ value vertex
  not_above : value vertex ≤ℤ pos (k + m)

between : (value : ℕ → ℤ) (n m k u : ℕ) → Chain value n m u → pos k <ℤ value u → Between value n m k
between value n m k u (at_zero w e) h = absurd (clash (value w) e h)
  where
    clash : (z : ℤ) → z ≡ pos 0 → pos k <ℤ z → ⊥
    clash z e h = omega (arith, ints)
between value n m k u (leads_on x w l s c) h = by_lt_z (pos (k + m)) (value x)
    (λ more. between value n m k w c (lower (value x) (value w) more s.low s.high))
    (λ low. record { vertex = x; upto = l; above = h; not_above = low })
  where
    lower : (a b : ℤ) → pos (k + m) <ℤ a → neg_ℤ (pos m) ≤ℤ (a -ℤ b) → (a -ℤ b) ≤ℤ pos m → pos k <ℤ b
    lower a b p q r = omega (arith, ints)

-- as many vertices as steps of m lie below the value, each in a step of its own
record Ladder (value : ℕ → ℤ) (n top : ℕ) (count : ℕ) : Type 0 where
  vertices : List ℕ
  count_is : length vertices ≡ count
  distinct : Distinct vertices
  upto : UpTo n vertices
  positive : Above 0 vertices
  below : (w : ℕ) → pos top <ℤ value w → Absent w vertices

abbrev pub times : ℕ → ℕ → ℕ
times m zero = 0
times m (suc k) = times m k + m

ladder : (value : ℕ → ℤ) (n m u : ℕ) → value 0 ≡ pos 0 → Chain value n m u → (k : ℕ) → pos (times m k) <ℤ value u → Ladder value n (times m k) k
ladder value n m u z c zero h = record { vertices = []; count_is = refl; distinct = tt; upto = tt; positive = tt; below = λ w l. tt }
ladder value n m u z c (suc k) h = by_step (ladder value n m u z c k (less (times m k) (value u) h)) (between value n m (times m k) u c (less (times m k) (value u) h))
  where
    less : (t : ℕ) (x : ℤ) → pos (t + m) <ℤ x → pos t <ℤ x
    less t x h = omega (arith, ints)

    clash : (t : ℕ) (x : ℤ) → pos (t + m) <ℤ x → x ≤ℤ pos (t + m) → ⊥
    clash t x h l = omega (arith, ints)

    not_zero : (t : ℕ) (x : ℤ) → pos t <ℤ x → x ≡ pos 0 → ⊥
    not_zero t x h e = omega (arith, ints)

    positive_vertex : (w : ℕ) → pos (times m k) <ℤ value w → 0 < w
    positive_vertex zero h = absurd (not_zero (times m k) (value 0) h z)
    positive_vertex (suc w) h = omega arith

    by_step : Ladder value n (times m k) k → Between value n m (times m k) → Ladder value n (times m k + m) (suc k)
    by_step l b = record {
      vertices = b.vertex ∷ l.vertices;
      count_is = ap suc l.count_is;
      distinct = (l.below b.vertex b.above, l.distinct);
      upto = (b.upto, l.upto);
      positive = (positive_vertex b.vertex b.above, l.positive);
      below = λ w g. ((λ e. clash (times m k) (value w) g (subst (λ (x : ℕ). value x ≤ℤ pos (times m k + m)) (sym e) b.not_above)), l.below w (less (times m k) (value w) g));
    }

-- A chain leads no higher than n steps.
not_higher : (value : ℕ → ℤ) (n m u : ℕ) → value 0 ≡ pos 0 → Chain value n m u → value u ≤ℤ pos (times m n)
not_higher value n m u z c = by_lt_z (pos (times m n)) (value u)
    (λ more. absurd (too_many more))
    (λ low. low)
  where
    too_many : pos (times m n) <ℤ value u → ⊥
    too_many h = by_ladder (ladder value n m u z c n h) (between value n m (times m n) u c h)
      where
        positive_vertex : (w : ℕ) → pos (times m n) <ℤ value w → 0 < w
        positive_vertex zero h = absurd (clash (value 0) h z)
          where
            clash : (x : ℤ) → pos (times m n) <ℤ x → x ≡ pos 0 → ⊥
            clash x h e = omega (arith, ints)
        positive_vertex (suc w) h = omega arith

        by_ladder : Ladder value n (times m n) n → Between value n m (times m n) → ⊥
        by_ladder l b =
            let k : length (b.vertex ∷ l.vertices) ≤ n = distinct_length n (b.vertex ∷ l.vertices) (l.below b.vertex b.above, l.distinct) (positive_vertex b.vertex b.above, l.positive) (b.upto, l.upto) in
            let e : length l.vertices ≡ n = l.count_is in
            omega arith

opposite : (value : ℕ → ℤ) (n m u : ℕ) → Chain value n m u → Chain (λ x. neg_ℤ (value x)) n m u
opposite value n m u (at_zero w e) = at_zero w (ap neg_ℤ e)
opposite value n m u (leads_on x w l s c) = leads_on x w l (turned (value x) (value w) s.low s.high) (opposite value n m w c)
  where
    turned : (a b : ℤ) → neg_ℤ (pos m) ≤ℤ (a -ℤ b) → (a -ℤ b) ≤ℤ pos m → IsSized m (neg_ℤ a -ℤ neg_ℤ b)
    turned a b p q = record { low = omega (arith, ints); high = omega (arith, ints) }

pub chain_sized : (value : ℕ → ℤ) (n m u : ℕ) → value 0 ≡ pos 0 → Chain value n m u → IsSized (times m n) (value u)
chain_sized value n m u z c =
    let high = not_higher value n m u z c in
    let low = not_higher (λ x. neg_ℤ (value x)) n m u (ap neg_ℤ z) (opposite value n m u c) in
    both (value u) high low
  where
    both : (x : ℤ) → x ≤ℤ pos (times m n) → neg_ℤ x ≤ℤ pos (times m n) → IsSized (times m n) x
    both x h l = record { low = omega (arith, ints); high = h }

-- ---- walks that hold with nothing to spare
-- each edge holds
abbrev pub EdgesHold : (ℕ → ℕ → ℤ → Type 0) → (ℕ → ℤ) → Type 0
EdgesHold edge value = (i j : ℕ) (c : ℤ) → edge i j c → pos 0 ≤ℤ (value i -ℤ value j +ℤ c)

walk_holds : (edge : ℕ → ℕ → ℤ → Type 0) (value : ℕ → ℤ) → EdgesHold edge value → (i j : ℕ) (p : List ℕ) (c : ℤ) → Walk edge i p j c → pos 0 ≤ℤ (value i -ℤ value j +ℤ c)
walk_holds edge value h i j [] c w = h i j c w
walk_holds edge value h i j (k ∷ p) c w = sum (value i) (value k) (value j) w.0 w.1 (h i k w.0 w.2) (walk_holds edge value h k j p w.1 w.3) w.4
  where
    sum : (x y z a b : ℤ) → pos 0 ≤ℤ (x -ℤ y +ℤ a) → pos 0 ≤ℤ (y -ℤ z +ℤ b) → c ≡ a +ℤ b → pos 0 ≤ℤ (x -ℤ z +ℤ c)
    sum x y z a b p q e = omega (arith, ints)

tight_sized : (x y a : ℤ) (m : ℕ) → IsSized m a → x -ℤ y +ℤ a ≡ pos 0 → IsSized m (x -ℤ y)
tight_sized x y a m s e = both s.low s.high
  where
    both : neg_ℤ (pos m) ≤ℤ a → a ≤ℤ pos m → IsSized m (x -ℤ y)
    both l h = record { low = omega (arith, ints); high = omega (arith, ints) }

-- what is tight on the whole is tight at each part
first_tight : (x y z a b c : ℤ) → pos 0 ≤ℤ (x -ℤ y +ℤ a) → pos 0 ≤ℤ (y -ℤ z +ℤ b) → c ≡ a +ℤ b → x -ℤ z +ℤ c ≡ pos 0 → (x -ℤ y +ℤ a ≡ pos 0) × (y -ℤ z +ℤ b ≡ pos 0)
first_tight x y z a b c p q e f = (omega (arith, ints), omega (arith, ints))

pub chain_back : (edge : ℕ → ℕ → ℤ → Type 0) (value : ℕ → ℤ) (n m : ℕ) → ((i j : ℕ) (c : ℤ) → edge i j c → IsSized m c) → EdgesHold edge value → (i j : ℕ) (p : List ℕ) (c : ℤ) → Walk edge i p j c → i ≤ n → UpTo n p → value i -ℤ value j +ℤ c ≡ pos 0 → Chain value n m j → Chain value n m i
chain_back edge value n m s h i j [] c w l u e k = leads_on i j l (tight_sized (value i) (value j) c m (s i j c w) e) k
chain_back edge value n m s h i j (x ∷ p) c w l u e k =
    let t = first_tight (value i) (value x) (value j) w.0 w.1 c (h i x w.0 w.2) (walk_holds edge value h x j p w.1 w.3) w.4 e in
    leads_on i x l (tight_sized (value i) (value x) w.0 m (s i x w.0 w.2) t.0) (chain_back edge value n m s h x j p w.1 w.3 u.0 u.1 t.1 k)

pub chain_on : (edge : ℕ → ℕ → ℤ → Type 0) (value : ℕ → ℤ) (n m : ℕ) → ((i j : ℕ) (c : ℤ) → edge i j c → IsSized m c) → EdgesHold edge value → (i j : ℕ) (p : List ℕ) (c : ℤ) → Walk edge i p j c → j ≤ n → UpTo n p → value i -ℤ value j +ℤ c ≡ pos 0 → Chain value n m i → Chain value n m j
chain_on edge value n m s h i j [] c w l u e k = leads_on j i l (turned (value i) (value j) (tight_sized (value i) (value j) c m (s i j c w) e)) k
  where
    turned : (a b : ℤ) → IsSized m (a -ℤ b) → IsSized m (b -ℤ a)
    turned a b z = both z.low z.high
      where
        both : neg_ℤ (pos m) ≤ℤ (a -ℤ b) → (a -ℤ b) ≤ℤ pos m → IsSized m (b -ℤ a)
        both l h = record { low = omega (arith, ints); high = omega (arith, ints) }
chain_on edge value n m s h i j (x ∷ p) c w l u e k =
    let t = first_tight (value i) (value x) (value j) w.0 w.1 c (h i x w.0 w.2) (walk_holds edge value h x j p w.1 w.3) w.4 e in
    chain_on edge value n m s h x j p w.1 w.3 l u.1 t.1 (leads_on x i u.0 (turned (value i) (value x) (tight_sized (value i) (value x) w.0 m (s i x w.0 w.2) t.0)) k)
  where
    turned : (a b : ℤ) → IsSized m (a -ℤ b) → IsSized m (b -ℤ a)
    turned a b z = both z.low z.high
      where
        both : neg_ℤ (pos m) ≤ℤ (a -ℤ b) → (a -ℤ b) ≤ℤ pos m → IsSized m (b -ℤ a)
        both l h = record { low = omega (arith, ints); high = omega (arith, ints) }
