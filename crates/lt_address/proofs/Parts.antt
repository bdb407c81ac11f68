-- Values part by part: what they stand for, their order and their join.
use Rattle.std.proofs.Common.{arith, ◌≡◌, refl, sym, ◌∙◌, subst, zero, suc, ℕ, ℤ, pos, negsuc, ◌≤ℤ◌, ◌↔◌, ◌⊎◌, ◌≢◌, inl, inr, List, [], ◌∷◌, length, Bool, true, false, ◌==◌, not, cond}
use Rattle.std.specs.Prelude.{Option, Some, None, IsTrue, filter, is_some, if◌then◌else◌}
use Rattle.std.proofs.lemmas.Bool.{eq-eqb}
use Rattle.std.proofs.lemmas.Int.{ints}
use Rattle.std.proofs.lemmas.Bool.Decides.{eqb_tells}
use Rattle.lt_value.specs.declared.num.Num.{Num}
use Rattle.lt_value.specs.Num.{Holds, IsExactly}
use Rattle.lt_value.proofs.Members.{lo_holds}
use Rattle.lt_model.specs.declared.cell.Content.{Content}
use Rattle.lt_model.specs.declared.cell.Content.TheVariants as content
use Rattle.lt_address.specs.declared.target.Target.{Target}
use Rattle.lt_address.specs.declared.value.Value.{Value}
use Rattle.lt_address.specs.Targets.{IsAscendingFrom, PointsTo, HasNumber}
use Rattle.lt_address.specs.Seeking.{IsSought, IsWithin, IsJoinTargets, IsAmong, IsJoinNumbers, AreMarksBelow}
use Rattle.lt_address.specs.Value.{Held, number, null, unset, ended, within, StandsFor, IsBelowValue, IsJoinValue, IsTruthOf, CanBe, truth_number, IsTruthIn, after_end, IsAfterEnd, held_in, held_of, unless_ended, without_instance}
use Rattle.lt_address.proofs.Pointing.{ascending_lower}

-- ---- order
pub marks_of : (a b : Value) → IsBelowValue a b → AreMarksBelow a b
marks_of a b h = (h null, h ended, h unset)

pub numbers_of : (a b : Value) → IsBelowValue a b → IsAmong a.num b.num
numbers_of a b h = λ z. h (number z)

pub targets_of : (a b : Value) → IsBelowValue a b → IsWithin a.targets.list.items b.targets.list.items
targets_of a b h = λ c z. h (within c z)

pub below_by_parts : (a b : Value) → AreMarksBelow a b → IsAmong a.num b.num → IsWithin a.targets.list.items b.targets.list.items → IsBelowValue a b
below_by_parts a b marks numbers targets (number z) = numbers z
below_by_parts a b marks numbers targets null = marks.0
below_by_parts a b marks numbers targets unset = marks.2
below_by_parts a b marks numbers targets ended = marks.1
below_by_parts a b marks numbers targets (within c z) = targets c z

pub fails_by : (t : Bool) {P Q : Type 0} → t ≡ false → (P → t ≡ true) → (Q → P) → IsTrue false ↔ Q
fails_by t e f g = (λ h. cc, λ h. let there : t ≡ true = f (g h) in cc)

-- ---- join
pub value_join : (a b v : Value) → IsJoinNumbers a.num b.num v.num → IsJoinTargets a.targets.list.items b.targets.list.items v.targets.list.items → (IsTrue v.null ↔ (IsTrue a.null ⊎ IsTrue b.null)) → (IsTrue v.ended ↔ (IsTrue a.ended ⊎ IsTrue b.ended)) → (IsTrue v.unset ↔ (IsTrue a.unset ⊎ IsTrue b.unset)) → IsJoinValue a b v
value_join a b v numbers targets is_null is_ended is_unset = record {
  left = below_by_parts a v (λ h. is_null.1 (inl h), λ h. is_ended.1 (inl h), λ h. is_unset.1 (inl h)) numbers.left targets.left;
  right = below_by_parts b v (λ h. is_null.1 (inr h), λ h. is_ended.1 (inr h), λ h. is_unset.1 (inr h)) numbers.right targets.right;
  least = λ w p q.
      below_by_parts v w (
        λ h. elim (is_null.0 h) [ inl k ↦ p null k | inr k ↦ q null k ],
        λ h. elim (is_ended.0 h) [ inl k ↦ p ended k | inr k ↦ q ended k ],
        λ h. elim (is_unset.0 h) [ inl k ↦ p unset k | inr k ↦ q unset k ],
      )
      (numbers.least w.num (numbers_of a w p) (numbers_of b w q))
      (targets.least w.targets.list.items w.targets.ascending (targets_of a w p) (targets_of b w q));
}

-- ---- nothing
pub no_targets : (ts : List Target) (t : Bool) → t ≡ (length ts == 0) → IsTrue t ↔ ((c : ℕ) (z : ℤ) → PointsTo ts c z → ⊥)
no_targets [] t e = (λ h c z k. k, λ h. e)
no_targets (u ∷ us) t e = (λ h. absurd (some t e h), λ h. absurd (h u.block u.at.lo (inl (refl, lo_holds u.at))))
  where
    some : (t : Bool) → t ≡ (length (u ∷ us) == 0) → t ≡ true → ⊥
    some t e h = elim (eqb_tells (length (u ∷ us)) 0) [ inl k ↦ omega (arith, k.1) | inr k ↦ cc ]

pub nothing_by_targets : (v : Value) (t : Bool) → v.null ≡ false → v.ended ≡ false → v.unset ≡ false → v.num ≡ None → (IsTrue t ↔ ((c : ℕ) (z : ℤ) → PointsTo v.targets.list.items c z → ⊥)) → IsTrue t ↔ ((h : Held) → StandsFor v h → ⊥)
nothing_by_targets v t p q r e is = (forth, λ h. is.1 (λ c z. h (within c z)))
  where
    forth : IsTrue t → (h : Held) → StandsFor v h → ⊥
    forth k (number z) h = subst (λ (o : Option Num). HasNumber o z) e h
    forth k null h = cc
    forth k unset h = cc
    forth k ended h = cc
    forth k (within c z) h = is.0 k c z h

pub something : (v : Value) (n : Num) → v.num ≡ Some n → IsTrue false ↔ ((h : Held) → StandsFor v h → ⊥)
something v n e = (λ h. cc, λ h. absurd (h (number n.lo) (subst (λ (o : Option Num). HasNumber o n.lo) (sym e) (lo_holds n))))

-- ---- truth
pub true_by_target : (v : Value) (t : Bool) → t ≡ false → (IsTrue t ↔ ((c : ℕ) (z : ℤ) → PointsTo v.targets.list.items c z → ⊥)) → IsTrue true ↔ CanBe true v
true_by_target v t no' is = (λ h. some v.targets.list.items (λ c z k. k) (λ none. cc (is.1 none)), λ h. refl)
  where
    some : (ts : List Target) → ((c : ℕ) (z : ℤ) → PointsTo ts c z → PointsTo v.targets.list.items c z) → (((c : ℕ) (z : ℤ) → PointsTo ts c z → ⊥) → ⊥) → CanBe true v
    some [] f g = absurd (g (λ c z k. k))
    some (u ∷ us) f g = (within u.block u.at.lo, f u.block u.at.lo (inl (refl, lo_holds u.at)), tt)

pub true_by_number : (v : Value) (n : Num) (t : Bool) → v.num ≡ Some n → v.ended ≡ false → ((c : ℕ) (z : ℤ) → PointsTo v.targets.list.items c z → ⊥) → (IsTrue t ↔ ((z : ℤ) × Holds n z × (z ≢ pos 0))) → IsTrue t ↔ CanBe true v
true_by_number v n t e none empty is = (λ h. let (z, there, ne) = is.0 h in (number z, subst (λ (o : Option Num). HasNumber o z) (sym e) there, ne), λ (h, there, truth). back h there truth)
  where
    back : (h : Held) → StandsFor v h → IsTruthOf true h → IsTrue t
    back (number z) there ne = is.1 (z, subst (λ (o : Option Num). HasNumber o z) e there, ne)
    back null there truth = absurd truth
    back unset there truth = absurd truth
    back ended there truth = cc
    back (within c z) there truth = absurd (empty c z there)

pub false_by_number : (v : Value) (n : Num) (t : Bool) (at : ℤ) → at ≡ pos 0 → v.num ≡ Some n → v.null ≡ false → (IsTrue t ↔ Holds n at) → IsTrue t ↔ CanBe false v
false_by_number v n t at zero_is e none is = (λ h. (number at, subst (λ (o : Option Num). HasNumber o at) (sym e) (is.0 h), zero_is), λ (h, there, truth). back h there truth)
  where
    back : (h : Held) → StandsFor v h → IsTruthOf false h → IsTrue t
    back (number z) there truth = is.1 (subst (Holds n) (truth ∙ sym zero_is) (subst (λ (o : Option Num). HasNumber o z) e there))
    back null there truth = cc
    back unset there truth = absurd truth
    back ended there truth = absurd truth
    back (within c z) there truth = absurd truth

pub both_truths : (v : Value) (r : Num) (none one : ℤ) → none ≡ pos 0 → one ≡ pos 1 → CanBe true v → CanBe false v → ((z : ℤ) → Holds r z ↔ ((none ≤ℤ z) × (z ≤ℤ one))) → IsExactly (IsTruthIn v) r
both_truths v r none one p q t f is z = (λ h. bit z (omega (arith, ints, ((is z).0 h).0)) (omega (arith, ints, ((is z).0 h).1)), λ (b, can, e). (is z).1 (of b e))
  where
    bit : (z : ℤ) → pos 0 ≤ℤ z → z ≤ℤ pos 1 → IsTruthIn v z
    bit (pos zero) low high = (false, f, refl)
    bit (pos (suc zero)) low high = (true, t, refl)
    bit (pos (suc (suc k))) low high = absurd (omega (arith, ints))
    bit (negsuc k) low high = absurd (omega (arith, ints))

    of : (b : Bool) → truth_number b ≡ z → (none ≤ℤ z) × (z ≤ℤ one)
    of true e = (omega (arith, ints), omega (arith, ints))
    of false e = (omega (arith, ints), omega (arith, ints))

pub one_truth : (v : Value) (r : Num) (b : Bool) (one : ℤ) → one ≡ truth_number b → CanBe b v → (CanBe (not b) v → ⊥) → ((z : ℤ) → Holds r z ↔ (z ≡ one)) → IsExactly (IsTruthIn v) r
one_truth v r b one p can none is z = (λ h. (b, can, sym ((is z).0 h ∙ p)), λ (c, there, e). (is z).1 (only c b none there e ∙ sym p))
  where
    only : (c b : Bool) → (CanBe (not b) v → ⊥) → CanBe c v → truth_number c ≡ z → z ≡ truth_number b
    only true true none there e = sym e
    only true false none there e = absurd (none there)
    only false true none there e = absurd (none there)
    only false false none there e = sym e

-- ---- the end of a block
-- the targets of other blocks
abbrev others : ℕ → List Target → List Target
others block ts = filter (λ t. not (t.block == block)) ts

others_point : (block : ℕ) (ts : List Target) (b : ℕ) (z : ℤ) → PointsTo (others block ts) b z ↔ (PointsTo ts b z × (b ≢ block))
others_point block [] b z = (λ h. absurd h, λ h. absurd h.0)
others_point block (t ∷ ts) b z = step (t.block == block) (eqb_tells t.block block) (others_point block ts b z)
  where
    step : (k : Bool) → ((k ≡ true) × (t.block ≡ block)) ⊎ ((k ≡ false) × (t.block ≢ block)) → (PointsTo (others block ts) b z ↔ (PointsTo ts b z × (b ≢ block))) → PointsTo (cond (not k) (t ∷ others block ts) (others block ts)) b z ↔ (PointsTo (t ∷ ts) b z × (b ≢ block))
    step true (inl e) rest = (λ h. (inr (rest.0 h).0, (rest.0 h).1), λ (h, ne). rest.1 (later e.1 h ne, ne))
      where
        later : t.block ≡ block → PointsTo (t ∷ ts) b z → b ≢ block → PointsTo ts b z
        later e (inl h) ne = absurd (ne (sym h.0 ∙ e))
        later e (inr h) ne = h
    step true (inr e) rest = cc
    step false (inl e) rest = cc
    step false (inr e) rest = (forth rest e.1, back rest)
      where
        forth : (PointsTo (others block ts) b z ↔ (PointsTo ts b z × (b ≢ block))) → t.block ≢ block → PointsTo (t ∷ others block ts) b z → PointsTo (t ∷ ts) b z × (b ≢ block)
        forth rest ne (inl h) = (inl h, λ e. ne (h.0 ∙ e))
        forth rest ne (inr h) = (inr (rest.0 h).0, (rest.0 h).1)

        back : (PointsTo (others block ts) b z ↔ (PointsTo ts b z × (b ≢ block))) → PointsTo (t ∷ ts) b z × (b ≢ block) → PointsTo (t ∷ others block ts) b z
        back rest (inl h, ne) = inl h
        back rest (inr h, ne) = inr (rest.1 (h, ne))

pub others_ascending : (block least : ℕ) (ts : List Target) → IsAscendingFrom least ts → IsAscendingFrom least (others block ts)
others_ascending block least [] up = tt
others_ascending block least (t ∷ ts) up = step (not (t.block == block)) (others_ascending block (suc t.block) ts up.1)
  where
    step : (k : Bool) → IsAscendingFrom (suc t.block) (others block ts) → IsAscendingFrom least (cond k (t ∷ others block ts) (others block ts))
    step true rest = (up.0, rest)
    step false rest = ascending_lower (others block ts) least (suc t.block) (omega (arith, up.0)) rest

if_true : (k : Bool) (x y : Held) → k ≡ true → (if k then x else y) ≡ x
if_true true x y e = refl
if_true false x y e = cc

if_false : (k : Bool) (x y : Held) → k ≡ false → (if k then x else y) ≡ y
if_false true x y e = cc
if_false false x y e = refl

pub after_block : (block : ℕ) (a v : Value) (n : Option Num) (rest : List Target) → IsSought a.targets.list.items block n rest → is_some n ≡ true → v.num ≡ a.num → v.null ≡ a.null → v.unset ≡ a.unset → v.ended ≡ true → v.targets.list.items ≡ others block a.targets.list.items → IsAfterEnd block a v
after_block block a v n rest so there numbers nulls unsets ends points = record { same = λ h. (forth h, λ (g, s, e). subst (StandsFor v) e (back g s)) }
  where
    ended_one : (o : Option Num) → n ≡ o → is_some o ≡ true → (g : Held) × StandsFor a g × (after_end block g ≡ ended)
    ended_one None e k = cc
    ended_one (Some m) e k = (within block m.lo, (so.here m.lo).0 (subst (λ (i : Option Num). HasNumber i m.lo) (sym e) (lo_holds m)), if_true (block == block) ended (within block m.lo) (eq-eqb block block refl))

    other : (b : ℕ) (z : ℤ) → b ≢ block → after_end block (within b z) ≡ within b z
    other b z ne = if_false (b == block) ended (within b z) (elim (eqb_tells b block) [ inl k ↦ absurd (ne k.1) | inr k ↦ k.0 ])

    forth : (h : Held) → StandsFor v h → (g : Held) × StandsFor a g × (after_end block g ≡ h)
    forth (number z) s = (number z, subst (λ (o : Option Num). HasNumber o z) numbers s, refl)
    forth null s = (null, sym nulls ∙ s, refl)
    forth unset s = (unset, sym unsets ∙ s, refl)
    forth ended s = ended_one n refl there
    forth (within b z) s =
        let k = (others_point block a.targets.list.items b z).0 (subst (λ (ts : List Target). PointsTo ts b z) points s) in
        (within b z, k.0, other b z k.1)

    back : (g : Held) → StandsFor a g → StandsFor v (after_end block g)
    back (number z) s = subst (λ (o : Option Num). HasNumber o z) (sym numbers) s
    back null s = nulls ∙ s
    back unset s = unsets ∙ s
    back ended s = ends
    back (within b z) s = elim (eqb_tells b block) [
      | inl k ↦ subst (λ (i : Bool). StandsFor v (if i then ended else within b z)) (sym k.0) ends
      | inr k ↦ subst (λ (i : Bool). StandsFor v (if i then ended else within b z)) (sym k.0) (subst (λ (ts : List Target). PointsTo ts b z) (sym points) ((others_point block a.targets.list.items b z).1 (s, k.1)))
    ]

pub cannot : (t : Bool) {P : Type 0} → t ≡ false → (P → t ≡ true) → P → ⊥
cannot t e f h = let there : t ≡ true = f h in cc

-- ---- contents of a memory
pub end_of_content : (block : ℕ) (instance : ℕ → Option ℕ) (c : Content) → held_of (without_instance block instance) c ≡ after_end block (held_of instance c)
end_of_content block instance content.Unset = refl
end_of_content block instance (content.Number z) = refl
end_of_content block instance (content.Address None) = refl
end_of_content block instance (content.Address (Some a)) = by_instance (instance a.block)
  where
    by_test : (b : ℕ) (k : Bool) → held_in (if k then None else Some b) a.offset ≡ (if k then ended else within b (pos a.offset))
    by_test b true = refl
    by_test b false = refl

    by_instance : (o : Option ℕ) → held_in (unless_ended block o) a.offset ≡ after_end block (held_in o a.offset)
    by_instance None = refl
    by_instance (Some b) = by_test b (b == block)
