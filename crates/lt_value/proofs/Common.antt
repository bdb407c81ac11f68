-- Offsets that go up by two steps at once.
use Rattle.std.proofs.Common.{arith, ◌≡◌, sym, ◌∙◌, ap, subst, ℕ, ◌+◌, ◌-◌, ◌*◌, ◌/◌, ◌%◌, ◌<◌, ◌≤◌, ◌⊎◌, inl, inr}
use Rattle.std.specs.Int.{◌∣◌}
use Rattle.std.proofs.Math.Nat.{add-mod-mod, mod-mod, add-mul-mod_self_right, mul_comm, mul-le-mul_left, div-add-mod', mod-lt, add_comm, mod-le, div-mul_cancel, mod-eq-zero_of_dvd, dvd_of_mod-eq-zero, dvd_trans, dvd-add_iff_right, dvd-add_iff_left, dvd-mul_left, dvd-mul_right, mod-eq_of_lt, le_of_dvd, mul-lt-mul_of_pos_left, eq_of_mul-eq-mul_left, pos_of_dvd_of_pos, le-div_iff_mul-le, mul-dvd-mul_left, dvd-zero, add-zero, eq-zero_of_zero-dvd}
use Rattle.std.proofs.lemmas.Nat.{mod-mul-add}
use Rattle.lt_value.specs.Offsets.{IsInverse, IsCommon, IsFirstCommon, IsCommonStep, IsGreatestMultiple}
use Rattle.lt_value.proofs.Residues.{same_add, same_mul, same_cancel}

-- a factor moves out of a remainder
pub factor_out : (g j t : ℕ) → 0 < g → 0 < t → (j * g) % (t * g) ≡ (j % t) * g
factor_out g j t some more =
    let e : j / t * t + j % t ≡ j = div-add-mod' j t in
    let small : (j % t) * g < t * g = grind (arith, mul-lt-mul_of_pos_left (mod-lt j more) some) in
    let is : j * g ≡ j / t * (t * g) + (j % t) * g = grind (arith, ap (λ k. k * g) e) in
    ap (λ k. k % (t * g)) is ∙ mod-mul-add (j / t) (t * g) ((j % t) * g) small

pub gcd_pos : (s t g u : ℕ) → 0 < t → IsInverse s t g u → 0 < g
gcd_pos s t g u some v = pos_of_dvd_of_pos v.gcd.1 some

pub quotient_pos : (t g : ℕ) → 0 < t → g ∣ t → 0 < t / g
quotient_pos t g some d = (le-div_iff_mul-le {k = g} {x = 1} {y = t} (pos_of_dvd_of_pos d some)).1 (omega (arith, le_of_dvd some d))

-- what s takes to one rest by t is one rest by the quotient
pub same_turns : (s t g u j k : ℕ) → 0 < t → IsInverse s t g u → (s * j) % t ≡ (s * k) % t → j % (t / g) ≡ k % (t / g)
same_turns s t g u j k some v e =
    let gp : 0 < g = gcd_pos s t g u some v in
    let tp : 0 < t / g = quotient_pos t g some v.gcd.1 in
    let whole : t / g * g ≡ t = div-mul_cancel g v.gcd.1 in
    let at : (i : ℕ) → (s * i * u) % t ≡ (i % (t / g)) * g = λ i.
    ap (λ n. n % t) (turned s i u) ∙ same_mul t (s * u) g i v.same ∙ ap (λ n. n % t) (mul_comm g i) ∙ ap (λ n. (i * g) % n) (sym whole) ∙ factor_out g i (t / g) gp tp in
    let both : (j % (t / g)) * g ≡ (k % (t / g)) * g = sym (at j) ∙ same_mul t (s * j) (s * k) u e ∙ at k in
    eq_of_mul-eq-mul_left g gp (j % (t / g)) (k % (t / g)) (mul_comm g (j % (t / g)) ∙ both ∙ mul_comm (k % (t / g)) g)
  where
    turned : (s i u : ℕ) → s * i * u ≡ s * u * i
    turned s i u = grind arith

-- the least turns that leave what is needed
pub solved : (s t g u need : ℕ) → 0 < t → IsInverse s t g u → g ∣ need → (s * ((need / g * u) % (t / g))) % t ≡ need % t
solved s t g u need some v d =
    let t' : ℕ = t / g in
    let k : ℕ = need / g * u in
    let whole : t' * g ≡ t = div-mul_cancel g v.gcd.1 in
    let parts : s / g * g ≡ s = div-mul_cancel g v.gcd.0 in
    let all : need / g * g ≡ need = div-mul_cancel g d in
    let e : k / t' * t' + k % t' ≡ k = div-add-mod' k t' in
    let is : s * k ≡ s * (k % t') + k / t' * (s / g) * t =
    grind (arith, ap (λ n. s * n) e, ap (λ n. n * (k / t') * t') parts, ap (λ n. k / t' * (s / g) * n) whole) in
    let turned : s * k ≡ s * u * (need / g) = grind arith in
    sym (add-mul-mod_self_right (s * (k % t')) (k / t' * (s / g)) t) ∙ ap (λ n. n % t) (sym is ∙ turned) ∙ same_mul t (s * u) g (need / g) v.same ∙ ap (λ n. n % t) (mul_comm g (need / g) ∙ all)

pub need_is : (t gap : ℕ) → 0 < t → (gap + (t - gap % t) % t) % t ≡ 0
need_is t gap some =
    let small : gap % t < t = mod-lt gap some in
    let e : gap / t * t + gap % t ≡ gap = div-add-mod' gap t in
    let is : gap + (t - gap % t) ≡ 0 + (gap / t + 1) * t = grind arith in
    add-mod-mod gap (t - gap % t) t ∙ ap (λ n. n % t) is ∙ add-mul-mod_self_right 0 (gap / t + 1) t ∙ mod-eq_of_lt some

-- a common offset, as turns of the first step
pub turns_are : (s t g u gap room need y : ℕ) → 0 < t → IsInverse s t g u → g ∣ need → (gap + need) % t ≡ 0 → IsCommon s t gap room y → (y / s) % (t / g) ≡ (need / g * u) % (t / g)
turns_are s t g u gap room need y some v d n c =
    let steps : ℕ = (need / g * u) % (t / g) in
    let by : y / s * s ≡ y = div-mul_cancel s c.by_first in
    let here : (gap + y) % t ≡ 0 = mod-eq-zero_of_dvd t c.by_second in
    let same : y % t ≡ need % t = same_cancel t y need gap some (ap (λ n. n % t) (add_comm y gap) ∙ here ∙ sym n ∙ ap (λ n. n % t) (add_comm gap need)) in
    let e : (s * (y / s)) % t ≡ (s * steps) % t = ap (λ n. n % t) (mul_comm s (y / s) ∙ by) ∙ same ∙ sym (solved s t g u need some v d) in
    same_turns s t g u (y / s) steps some v e ∙ mod-mod (need / g * u) (t / g)

pub common_at : (s t g u gap room need : ℕ) → 0 < s → 0 < t → IsInverse s t g u → g ∣ need → (gap + need) % t ≡ 0 → (need / g * u) % (t / g) ≤ room / s → IsFirstCommon s t gap room (s * ((need / g * u) % (t / g)))
common_at s t g u gap room need sp some v d n le =
    let steps : ℕ = (need / g * u) % (t / g) in
    record {
      common = record {
        within = omega (arith, (le-div_iff_mul-le {k = s} {x = steps} {y = room} sp).0 le);
        by_first = dvd-mul_right s steps;
        by_second = dvd_of_mod-eq-zero t (ap (λ a. a % t) (add_comm gap (s * steps)) ∙ same_add t (s * steps) need gap (solved s t g u need some v d) ∙ ap (λ a. a % t) (add_comm need gap) ∙ n);
      };
      least = λ y c.
          let e : (y / s) % (t / g) ≡ steps = turns_are s t g u gap room need y some v d n c in
          let below : steps ≤ y / s = omega (arith, mod-le (y / s) (t / g)) in
          let by : y / s * s ≡ y = div-mul_cancel s c.by_first in
          grind (arith, mul-le-mul_left s below);
    }

pub none_at : (s t g u gap room need : ℕ) → 0 < s → 0 < t → IsInverse s t g u → g ∣ need → (gap + need) % t ≡ 0 → room / s < (need / g * u) % (t / g) → (y : ℕ) → IsCommon s t gap room y → ⊥
none_at s t g u gap room need sp some v d n above y c =
    let e : (y / s) % (t / g) ≡ (need / g * u) % (t / g) = turns_are s t g u gap room need y some v d n c in
    let by : y / s * s ≡ y = div-mul_cancel s c.by_first in
    let le : y / s ≤ room / s = (le-div_iff_mul-le {k = s} {x = y / s} {y = room} sp).1 (omega (arith, c.within)) in
    absurd (omega (arith, mod-le (y / s) (t / g)))

pub none_by_gcd : (s t g u gap room need : ℕ) → 0 < t → IsInverse s t g u → (g ∣ need → ⊥) → (gap + need) % t ≡ 0 → (y : ℕ) → IsCommon s t gap room y → ⊥
none_by_gcd s t g u gap room need some v undivided n y c =
    let whole : g ∣ gap + y = dvd_trans g v.gcd.1 c.by_second in
    let part : g ∣ y = dvd_trans g v.gcd.0 c.by_first in
    let first : g ∣ gap = (dvd-add_iff_left g part).1 whole in
    undivided ((dvd-add_iff_right g first).1 (dvd_trans g v.gcd.1 (dvd_of_mod-eq-zero t n)))

-- the multiples of both
turns_divide : (s t g u y : ℕ) → 0 < t → IsInverse s t g u → s ∣ y → t ∣ y → t / g ∣ y / s
turns_divide s t g u y some v a b =
    let by : y / s * s ≡ y = div-mul_cancel s a in
    let e : (s * (y / s)) % t ≡ (s * 0) % t = ap (λ n. n % t) (mul_comm s (y / s) ∙ by) ∙ mod-eq-zero_of_dvd t b ∙ sym (mod-eq_of_lt some) ∙ ap (λ n. n % t) (zero_is s) in
    dvd_of_mod-eq-zero (t / g) (same_turns s t g u (y / s) 0 some v e ∙ mod-eq_of_lt (quotient_pos t g some v.gcd.1))
  where
    zero_is : (s : ℕ) → 0 ≡ s * 0
    zero_is s = omega arith

whole_turns : (s t g u y : ℕ) → 0 < t → IsInverse s t g u → s ∣ y → t ∣ y → s * (t / g) ∣ y
whole_turns s t g u y some v a b =
    subst (λ (n : ℕ). s * (t / g) ∣ n) (mul_comm s (y / s) ∙ div-mul_cancel s a) (mul-dvd-mul_left (t / g) s (turns_divide s t g u y some v a b))

pub no_step_at : (s t g u room : ℕ) → 0 < s → 0 < t → IsInverse s t g u → room / s < t / g → IsCommonStep s t room 0
no_step_at s t g u room sp some v above = record {
  within = omega arith;
  by_first = dvd-zero s;
  by_second = dvd-zero t;
  least = λ y in_room a b.
      let by : y / s * s ≡ y = div-mul_cancel s a in
      let le : y / s ≤ room / s = (le-div_iff_mul-le {k = s} {x = y / s} {y = room} sp).1 (omega arith) in
      let none : y / s ≡ 0 = mod_zero (y / s) (t / g) (omega arith) (mod-eq-zero_of_dvd (t / g) (turns_divide s t g u y some v a b)) in
      subst (λ (n : ℕ). 0 ∣ n) (ap (λ n. n * s) (sym none) ∙ by) (subst (λ (n : ℕ). 0 ∣ n) (zero_times s) (dvd-zero 0));
}
  where
    zero_times : (s : ℕ) → 0 ≡ 0 * s
    zero_times s = omega arith

    mod_zero : (n m : ℕ) → n < m → n % m ≡ 0 → n ≡ 0
    mod_zero n m h e = sym (mod-eq_of_lt h) ∙ e

pub no_step_by_zero : (s t room : ℕ) → (s ≡ 0) ⊎ (t ≡ 0) → IsCommonStep s t room 0
no_step_by_zero s t room h = record {
  within = omega arith;
  by_first = dvd-zero s;
  by_second = dvd-zero t;
  least = λ y in_room a b. elim h [
    | inl e ↦ subst (λ (k : ℕ). k ∣ y) e a
    | inr e ↦ subst (λ (k : ℕ). k ∣ y) e b
  ];
}

pub step_at : (s t g u room : ℕ) → 0 < s → 0 < t → IsInverse s t g u → (t / g) ≤ room / s → IsCommonStep s t room (s * (t / g))
step_at s t g u room sp some v le = record {
  within = omega (arith, (le-div_iff_mul-le {k = s} {x = t / g} {y = room} sp).0 le);
  by_first = dvd-mul_right s (t / g);
  by_second = subst (λ (n : ℕ). t ∣ n) (turned (s / g) (t / g) g t s (div-mul_cancel g v.gcd.1) (div-mul_cancel g v.gcd.0)) (dvd-mul_left t (s / g));
  least = λ y in_room a b. whole_turns s t g u y some v a b;
}
  where
    turned : (s' t' g t s : ℕ) → t' * g ≡ t → s' * g ≡ s → s' * t ≡ s * t'
    turned s' t' g t s p q = grind (arith, ap (λ n. s' * n) p, ap (λ n. n * t') q)

pub zero_is_first : (s t gap room : ℕ) → t ∣ gap → IsFirstCommon s t gap room 0
zero_is_first s t gap room d = record {
  common = record {
    within = omega arith;
    by_first = dvd-zero s;
    by_second = subst (λ (n : ℕ). t ∣ n) (sym (add-zero gap)) d;
  };
  least = λ y c. omega arith;
}

pub common_by_zero : (s t gap room y : ℕ) → (s ≡ 0) ⊎ ((s ≡ 0 → ⊥) × (t ≡ 0)) → IsCommon s t gap room y → t ∣ gap
common_by_zero s t gap room y h c = elim h [
  | inl e ↦
      let none : y ≡ 0 = eq-zero_of_zero-dvd (subst (λ (k : ℕ). k ∣ y) e c.by_first) in
      subst (λ (n : ℕ). t ∣ n) (ap (λ n. gap + n) none ∙ add-zero gap) c.by_second
  | inr p ↦
      let none : gap + y ≡ 0 = eq-zero_of_zero-dvd (subst (λ (k : ℕ). k ∣ gap + y) p.1 c.by_second) in
      let is : gap ≡ 0 = omega arith in
      subst (λ (n : ℕ). t ∣ n) (sym is) (dvd-zero t)
]

pub multiple_by_zero : (s room : ℕ) → s ≡ 0 → IsGreatestMultiple s room 0
multiple_by_zero s room e = record {
  within = omega arith;
  by_step = dvd-zero s;
  greatest = λ y le d. omega (arith, eq-zero_of_zero-dvd (subst (λ (k : ℕ). k ∣ y) e d));
}

pub multiple_by_step : (s room : ℕ) → 0 < s → IsGreatestMultiple s room (room / s * s)
multiple_by_step s room some = record {
  within = omega (arith, div-add-mod' room s);
  by_step = dvd-mul_left s (room / s);
  greatest = λ y le d.
      let by : y / s * s ≡ y = div-mul_cancel s d in
      let turns : y / s ≤ room / s = (le-div_iff_mul-le {k = s} {x = y / s} {y = room} some).1 (omega arith) in
      grind (arith, mul-le-mul_left s turns);
}
