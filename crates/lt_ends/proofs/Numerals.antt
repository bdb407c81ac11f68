-- Numbers whose digits are rests.
use Rattle.std.proofs.Common.{◌≡◌, ℕ, zero, suc, ◌+◌, ◌*◌, ◌<◌, ◌≤◌, List, [], ◌∷◌, arith}
use Rattle.std.proofs.Math.Nat.{mul-le-mul_right, mul-lt-mul_of_pos_right, mul_assoc}
use Rattle.lt_ends.specs.Gauge.{numeral, power}

pub power_positive : (w n : ℕ) → 1 ≤ w → 1 ≤ power w n
power_positive w zero h = omega arith
power_positive w (suc n) h = let i = power_positive w n h in let j : 1 * power w n ≤ w * power w n = mul-le-mul_right (power w n) h in omega arith

-- more ticks, a greater number
pub more_ticks : (w t u : ℕ) (rs : List ℕ) → 1 ≤ w → t ≤ u → numeral w t rs ≤ numeral w u rs
more_ticks w t u [] h le = le
more_ticks w t u (r ∷ rs) h le = let i = mul-le-mul_right w (more_ticks w t u rs h le) in omega arith

pub less_ticks : (w t u : ℕ) (rs : List ℕ) → 1 ≤ w → t < u → numeral w t rs < numeral w u rs
less_ticks w t u [] h lt = lt
less_ticks w t u (r ∷ rs) h lt = let i = mul-lt-mul_of_pos_right {k = w} (less_ticks w t u rs h lt) h in omega arith

-- a step within the call
pub within_call : (w t u r r1 p : ℕ) (rs : List ℕ) → 1 ≤ w → 1 ≤ p → t ≤ u → r1 < r → numeral w t (r1 ∷ rs) * p < numeral w u (r ∷ rs) * p
within_call w t u r r1 p rs h hp le lt =
    let i = mul-le-mul_right w (more_ticks w t u rs h le) in
    mul-lt-mul_of_pos_right {m = numeral w t (r1 ∷ rs)} {n = numeral w u (r ∷ rs)} {k = p} (omega arith) hp

-- a tick is spent
pub at_tick : (w t u r r1 p : ℕ) (rs : List ℕ) → 1 ≤ w → 1 ≤ p → t < u → r1 < w + r → numeral w t (r1 ∷ rs) * p < numeral w u (r ∷ rs) * p
at_tick w t u r r1 p rs h hp lt small =
    let j : numeral w t rs + 1 ≤ numeral w u rs = omega (arith, less_ticks w t u rs h lt) in
    let i : (numeral w t rs + 1) * w ≤ numeral w u rs * w = mul-le-mul_right w j in
    mul-lt-mul_of_pos_right {m = numeral w t (r1 ∷ rs)} {n = numeral w u (r ∷ rs)} {k = p} (omega arith) hp

-- a call goes on, and the one that it makes begins
pub at_call : (w t u r r1 q p : ℕ) (rs : List ℕ) → 1 ≤ w → 1 ≤ p → t ≤ u → r1 < r → q < w → numeral w t (q ∷ r1 ∷ rs) * p < numeral w u (r ∷ rs) * (w * p)
at_call w t u r r1 q p rs h hp le lt small =
    let i = mul-le-mul_right w (more_ticks w t u rs h le) in
    let j : (numeral w t rs * w + r1 + 1) * w ≤ (numeral w u rs * w + r) * w = mul-le-mul_right w (omega arith) in
    let k : numeral w t (q ∷ r1 ∷ rs) * p < ((numeral w u rs * w + r) * w) * p = mul-lt-mul_of_pos_right {k = p} (omega arith) hp in
    let e : ((numeral w u rs * w + r) * w) * p ≡ numeral w u (r ∷ rs) * (w * p) = mul_assoc _ w p in
    omega arith

-- a call is over
pub at_return : (w t u r q p : ℕ) (rs : List ℕ) → 1 ≤ w → 1 ≤ p → t ≤ u → 1 ≤ r → numeral w t (q ∷ rs) * (w * p) < numeral w u (r ∷ q ∷ rs) * p
at_return w t u r q p rs h hp le lt =
    let x = more_ticks w t u (q ∷ rs) h le in
    let i = mul-le-mul_right w x in
    let e : (numeral w t (q ∷ rs) * w) * p ≡ numeral w t (q ∷ rs) * (w * p) = mul_assoc _ w p in
    let k : (numeral w t (q ∷ rs) * w) * p < numeral w u (r ∷ q ∷ rs) * p = mul-lt-mul_of_pos_right {k = p} (omega arith) hp in
    omega arith
