-- Two ascending lists of targets merged into one.
use Rattle.std.proofs.Common.{arith, ◌≡◌, refl, sym, subst, suc, ℕ, ℤ, ◌<◌, ◌≤◌, ◌+◌, ◌↔◌, ◌⊎◌, inl, inr, List, [], ◌∷◌, ◌++◌, length}
use Rattle.std.specs.Prelude.{Option, Some, None}
use Rattle.std.proofs.lemmas.Bool.{cases_lt}
use Rattle.lt_value.specs.declared.num.Num.{Num}
use Rattle.lt_value.proofs.Members.{lo_holds}
use Rattle.lt_address.specs.declared.target.Target.{Target}
use Rattle.lt_address.specs.Targets.{IsAscendingFrom, IsAscending, PointsTo, HasNumber}
use Rattle.lt_address.specs.Seeking.{IsSought, BeginsWith, StartsFrom, IsFirstBlock, IsWithin, IsJoinTargets, IsAmong, IsJoinNumbers, target_at}
use Rattle.lt_address.proofs.Pointing.{points_from, one_set}

append_step : (x : Target) (xs ys : List Target) (b : ℕ) (z : ℤ) → (PointsTo (xs ++ ys) b z ↔ (PointsTo xs b z ⊎ PointsTo ys b z)) → PointsTo (x ∷ (xs ++ ys)) b z ↔ (PointsTo (x ∷ xs) b z ⊎ PointsTo ys b z)
append_step x xs ys b z rest = (forth, back)
  where
    forth : PointsTo (x ∷ (xs ++ ys)) b z → PointsTo (x ∷ xs) b z ⊎ PointsTo ys b z
    forth (inl h) = inl (inl h)
    forth (inr h) = elim (rest.0 h) [ inl k ↦ inl (inr k) | inr k ↦ inr k ]

    back : PointsTo (x ∷ xs) b z ⊎ PointsTo ys b z → PointsTo (x ∷ (xs ++ ys)) b z
    back (inl (inl h)) = inl h
    back (inl (inr h)) = inr (rest.1 (inl h))
    back (inr h) = inr (rest.1 (inr h))

points_append : (xs ys : List Target) (b : ℕ) (z : ℤ) → PointsTo (xs ++ ys) b z ↔ (PointsTo xs b z ⊎ PointsTo ys b z)
points_append [] ys b z = (λ h. inr h, λ h. elim h [ inl k ↦ absurd k | inr k ↦ k ])
points_append (x ∷ xs) ys b z = append_step x xs ys b z (points_append xs ys b z)

points_at : (block b : ℕ) (n : Option Num) (z : ℤ) → PointsTo (target_at block n) b z → (block ≡ b) × HasNumber n z
points_at block b None z h = absurd h
points_at block b (Some n) z (inl h) = h
points_at block b (Some n) z (inr h) = absurd h

at_points : (block : ℕ) (n : Option Num) (z : ℤ) → HasNumber n z → PointsTo (target_at block n) block z
at_points block None z h = absurd h
at_points block (Some n) z h = inl (refl, h)

ascending_append : (xs : List Target) (block least : ℕ) (n : Option Num) → least ≤ block → IsAscendingFrom least xs → ((b : ℕ) (z : ℤ) → PointsTo xs b z → b < block) → IsAscendingFrom least (xs ++ target_at block n)
ascending_append [] block least None le up below = tt
ascending_append [] block least (Some n) le up below = (le, tt)
ascending_append (x ∷ xs) block least n le up below =
    (up.0, ascending_append xs block (suc x.block) n (below x.block x.at.lo (inl (refl, lo_holds x.at))) up.1 (λ b z h. below b z (inr h)))

-- an ascending list that starts from a block points to no lesser one
from_start : (ts : List Target) (low block b : ℕ) (z : ℤ) → IsAscendingFrom low ts → StartsFrom block ts → PointsTo ts b z → block ≤ b
from_start [] low block b z up starts h = absurd h
from_start (t ∷ ts) low block b z up starts h = points_from (t ∷ ts) block b z (starts, up.1) h

begins_from : (ts : List Target) (low block : ℕ) → IsAscendingFrom low ts → BeginsWith ts block → low ≤ block
begins_from [] low block up h = absurd h
begins_from (t ∷ ts) low block up h = omega (arith, up.0, h)

-- a list that points to all offsets of two sets points to those of their join
join_into : (d : List Target) (block : ℕ) (m n o : Option Num) → IsAscending d → IsJoinNumbers m n o → ((z : ℤ) → HasNumber m z → PointsTo d block z) → ((z : ℤ) → HasNumber n z → PointsTo d block z) → (z : ℤ) → HasNumber o z → PointsTo d block z
join_into d block m n o up j p q = by_witness m n refl refl
  where
    from : (y : ℤ) → PointsTo d block y → (z : ℤ) → HasNumber o z → PointsTo d block z
    from y there z h =
        let (r, is) = one_set d 0 block y up there in
        (is z).1 (j.least (Some r) (λ x k. (is x).0 (p x k)) (λ x k. (is x).0 (q x k)) z h)

    by_witness : (x y : Option Num) → m ≡ x → n ≡ y → (z : ℤ) → HasNumber o z → PointsTo d block z
    by_witness (Some x) y e f = from x.lo (p x.lo (subst (λ (k : Option Num). HasNumber k x.lo) (sym e) (lo_holds x)))
    by_witness None (Some y) e f = from y.lo (q y.lo (subst (λ (k : Option Num). HasNumber k y.lo) (sym f) (lo_holds y)))
    by_witness None None e f = λ z h. absurd (j.least None (λ x k. subst (λ (i : Option Num). HasNumber i x) e k) (λ x k. subst (λ (i : Option Num). HasNumber i x) f k) z h)

-- how far two lists are merged: the targets of lesser blocks are in `out`
pub record IsMerging (a b left right out : List Target) (low : ℕ) : Type 0 where
  pub left_up : IsAscendingFrom low left
  pub right_up : IsAscendingFrom low right
  pub out_up : IsAscending out
  pub out_below : (block : ℕ) (z : ℤ) → PointsTo out block z → block < low
  pub from_left : (block : ℕ) (z : ℤ) → PointsTo a block z → PointsTo out block z ⊎ PointsTo left block z
  pub from_right : (block : ℕ) (z : ℤ) → PointsTo b block z → PointsTo out block z ⊎ PointsTo right block z
  pub left_in : IsWithin left a
  pub right_in : IsWithin right b
  pub least : (d : List Target) → IsAscending d → IsWithin a d → IsWithin b d → IsWithin out d

pub merging_first : (a b : List Target) → IsAscending a → IsAscending b → IsMerging a b a b [] 0
merging_first a b p q = record {
  left_up = p;
  right_up = q;
  out_up = tt;
  out_below = λ block z h. absurd h;
  from_left = λ block z h. inr h;
  from_right = λ block z h. inr h;
  left_in = λ block z h. h;
  right_in = λ block z h. h;
  least = λ d up f g block z h. absurd h;
}

-- what one list still points to is at the block or beyond
moved : (out left rest : List Target) (low block b : ℕ) (n o : Option Num) (z : ℤ) → IsAscendingFrom low left → StartsFrom block left → IsSought left block n rest → IsAmong n o → PointsTo out b z ⊎ PointsTo left b z → PointsTo (out ++ target_at block o) b z ⊎ PointsTo rest b z
moved out left rest low block b n o z up starts so among (inl h) = inl ((points_append out (target_at block o) b z).1 (inl h))
moved out left rest low block b n o z up starts so among (inr h) = elim (cases_lt block b) [
  | inl beyond ↦ inr ((so.beyond b z beyond).1 h)
  | inr le ↦
      let e : b ≡ block = omega (arith, from_start left low block b z up starts h) in
      let at : PointsTo left block z = subst (λ (k : ℕ). PointsTo left k z) e h in
      let there : PointsTo (target_at block o) b z = subst (λ (k : ℕ). PointsTo (target_at block o) k z) (sym e) (at_points block o z (among z ((so.here z).1 at))) in
      inl ((points_append out (target_at block o) b z).1 (inr there))
]

pub merging_next : (a b left right out rest_left rest_right : List Target) (low block : ℕ) (m n o : Option Num) → IsMerging a b left right out low → IsFirstBlock left right (Some block) → IsSought left block m rest_left → IsSought right block n rest_right → IsJoinNumbers m n o → IsMerging a b rest_left rest_right (out ++ target_at block o) (suc block)
merging_next a b left right out rest_left rest_right low block m n o g first sl sr j = record {
  left_up = sl.ascending;
  right_up = sr.ascending;
  out_up = ascending_append out block 0 o (omega arith) g.out_up (λ c z h. omega (arith, g.out_below c z h, low_le));
  out_below = λ c z h. below c z ((points_append out (target_at block o) c z).0 h);
  from_left = λ c z h. moved out left rest_left low block c m o z g.left_up first.0 sl j.left (g.from_left c z h);
  from_right = λ c z h. moved out right rest_right low block c n o z g.right_up first.1 sr j.right (g.from_right c z h);
  left_in = λ c z h. g.left_in c z ((sl.beyond c z (points_from rest_left (suc block) c z sl.ascending h)).0 h);
  right_in = λ c z h. g.right_in c z ((sr.beyond c z (points_from rest_right (suc block) c z sr.ascending h)).0 h);
  least = λ d up f k c z h. into d up f k c z ((points_append out (target_at block o) c z).0 h);
}
  where
    low_le : low ≤ block
    low_le = elim first.2 [ inl h ↦ begins_from left low block g.left_up h | inr h ↦ begins_from right low block g.right_up h ]

    below : (c : ℕ) (z : ℤ) → PointsTo out c z ⊎ PointsTo (target_at block o) c z → c < suc block
    below c z (inl h) = omega (arith, g.out_below c z h, low_le)
    below c z (inr h) = omega (arith, (points_at block c o z h).0)

    into : (d : List Target) → IsAscending d → IsWithin a d → IsWithin b d → (c : ℕ) (z : ℤ) → PointsTo out c z ⊎ PointsTo (target_at block o) c z → PointsTo d c z
    into d up f k c z (inl h) = g.least d up f k c z h
    into d up f k c z (inr h) =
        let (e, there) = points_at block c o z h in
        subst (λ (i : ℕ). PointsTo d i z) e (join_into d block m n o up j (λ x y. f block x (g.left_in block x ((sl.here x).0 y))) (λ x y. k block x (g.right_in block x ((sr.here x).0 y))) z there)

pub merging_last : (a b left right out : List Target) (low : ℕ) → IsMerging a b left right out low → IsFirstBlock left right None → IsJoinTargets a b out
merging_last a b left right out low g first = record {
  left = λ c z h. elim (g.from_left c z h) [ inl k ↦ k | inr k ↦ absurd (subst (λ (ts : List Target). PointsTo ts c z) first.0 k) ];
  right = λ c z h. elim (g.from_right c z h) [ inl k ↦ k | inr k ↦ absurd (subst (λ (ts : List Target). PointsTo ts c z) first.1 k) ];
  least = g.least;
}

-- one of the two lists gets shorter
pub merging_falls : (left right rest_left rest_right : List Target) (block : ℕ) → IsFirstBlock left right (Some block) → length rest_left ≤ length left → length rest_right ≤ length right → (BeginsWith left block → length rest_left < length left) → (BeginsWith right block → length rest_right < length right) → length rest_left + length rest_right < length left + length right
merging_falls left right rest_left rest_right block first p q f g = elim first.2 [ inl h ↦ omega (arith, f h) | inr h ↦ omega (arith, g h) ]
