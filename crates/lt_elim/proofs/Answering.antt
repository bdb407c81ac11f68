-- What the answer to a system says.
use Rattle.std.proofs.Common.{arith, ◌≡◌, refl, sym, ◌∙◌, ap, subst, ℕ, suc, zero, ℤ, pos, ◌≤ℤ◌, ◌+◌, ◌-◌, ◌*◌, ◌^◌, ◌<◌, ◌≤◌, List, [], ◌∷◌, length, ◌⊎◌, inl, inr, Bool, true, false, not, Option, Some, None, suc-mul}
use Rattle.std.specs.Prelude.{neg_ℤ, All, slice_index_or}
use Rattle.std.proofs.lemmas.Int.{ints}
use Rattle.std.proofs.lemmas.Bool.{cases_lt}
use Rattle.std.proofs.lemmas.List.{get_or_past}
use Rattle.lt_lin.specs.declared.row.Row.{Row}
use Rattle.lt_lin.specs.declared.line.Line.{Line}
use Rattle.lt_lin.specs.Terms.{IsOrdered}
use Rattle.lt_lin.specs.Lines.{last, before_lines, lines_of}
use Rattle.lt_lin.specs.Refutation.{Refutes}
use Rattle.lt_lin.proofs.Soundness.{unsatisfied}
use Rattle.lt_elim.specs.declared.stage.Stage.{Stage}
use Rattle.lt_elim.specs.declared.log.Log.{Log}
use Rattle.lt_elim.specs.declared.decision.Decision.{Decision}
use Rattle.lt_elim.specs.declared.decision.Decision.TheVariants.{Refuted, Point, Rows, Coeff}
use Rattle.lt_elim.specs.Condition.{greatest, CanDecide}
use Rattle.lt_elim.specs.Difference.{are_differences}
use Rattle.lt_elim.specs.Elimination.{Event, refuted, coeff}
use Rattle.lt_elim.specs.Fraction.{Fraction, fraction, whole}
use Rattle.lt_elim.specs.Decision.{Verdict, stops, point, least_allowed, with_value, variables, verdict}
use Rattle.lt_elim.specs.Law.{AreOrdered, IsWholeVerdict, is_refuted, is_whole}
use Rattle.lt_elim.specs.Progress.{AllInOrder}
use Rattle.lt_elim.specs.Stages.{AreStagesOf, staged, under}
use Rattle.lt_elim.specs.Values.{HaveBounds, CanReckon}
use Rattle.lt_elim.specs.Tracing.{lines_then}
use Rattle.lt_elim.specs.Deciding.{HasComeOf, HasLines, IsDecision, IsSound}
use Rattle.lt_elim.proofs.Laws.{all_in, value_at, differences_are_whole, points_satisfy}
use Rattle.lt_elim.proofs.PointSizes.{difference_points_stay_small}
use Rattle.lt_elim.proofs.Conditions.{IsReached, in_order, run_reached, size_bound, greatest_sized}
use Rattle.lt_elim.proofs.Bounding.{IsSmall, AreSmall, have_bounds, can_reckon}

-- ---- values without a limit
-- what comes of stages: values, or a limit that is passed
data Comes : Verdict → Type 0 where
  gives : (values : List Fraction) → Comes (point values)
  passes : (v : ℕ) → Comes (stops (coeff v))

under_comes : (b : Bool) (n : ℕ) (ss : List Stage) → Comes (under b n ss (point []))
under_comes b n [] = gives []
under_comes b zero (s ∷ ss) = gives []
under_comes b (suc v) (s ∷ ss) = by_rest (under b v ss (point [])) (under_comes b v ss)
  where
    by_value : (values : List Fraction) (o : Option Fraction) → Comes (with_value v values o)
    by_value values None = passes v
    by_value values (Some f) = gives _

    by_rest : (w : Verdict) → Comes w → Comes (staged b v s w)
    by_rest w (gives values) = by_value values (least_allowed b v values _ _)
    by_rest w (passes v) = passes v

ordered : (rows : List Row) → AllInOrder rows → AreOrdered rows
ordered rows o = all_in (λ r. IsOrdered r.terms) rows (λ r h. in_order rows o r h)

point_whole : (values : List Fraction) → IsWholeVerdict (point values) → All (λ f. f.under ≡ 1) values
point_whole values (is_whole vs h) = h

values_whole : (rows : List Row) (values : List Fraction) → AllInOrder rows → are_differences rows ≡ true → verdict rows ≡ point values → All (λ f. f.under ≡ 1) values
values_whole rows values o d e = point_whole values (subst IsWholeVerdict e (differences_are_whole rows (ordered rows o) d))

values_small : (rows : List Row) (values : List Fraction) → AllInOrder rows → CanDecide rows → are_differences rows ≡ true → verdict rows ≡ point values → AreSmall values
values_small rows values o c d e x = by_place (cases_lt x (length values))
  where
    f : Fraction
    f = slice_index_or values x (whole (pos 0))

    is_number : (g : Fraction) → g.under ≡ 1 → g ≡ whole g.over
    is_number g u = ap (λ (k : ℕ). fraction g.over k) u

    widen : (n m k : ℕ) (z : ℤ) → suc n * m ≤ k → neg_ℤ (pos (n * m)) ≤ℤ z → z ≤ℤ pos (n * m) → (neg_ℤ (pos k) ≤ℤ z) × (z ≤ℤ pos k)
    widen n m k z b l h = let p : suc n * m ≡ n * m + m = suc-mul n m in wider (n * m) m (suc n * m) k z p b l h
      where
        wider : (a m t k : ℕ) (z : ℤ) → t ≡ a + m → t ≤ k → neg_ℤ (pos a) ≤ℤ z → z ≤ℤ pos a → (neg_ℤ (pos k) ≤ℤ z) × (z ≤ℤ pos k)
        wider a m t k z p b l h = (omega (arith, ints), omega (arith, ints))

    by_place : (x < length values) ⊎ (length values ≤ x) → IsSmall (2 ^ 125) f
    by_place (inl l) =
        let s = difference_points_stay_small rows (ordered rows o) d (greatest rows) (greatest_sized rows) values e x (whole (pos 0)) l in
        let w = widen (variables rows) (greatest rows) (2 ^ 125) f.over (size_bound rows c) s.0 s.1 in
        record { number = f.over; is = is_number f (value_at values (values_whole rows values o d e) x); low = w.0; high = w.1 }
    by_place (inr l) = subst (IsSmall (2 ^ 125)) (sym (get_or_past values x (whole (pos 0)) l)) (record { number = pos 0; is = refl; low = omega (arith, ints); high = omega (arith, ints) })

-- ---- the stages are ready for values
pub record IsReady (limited : Bool) (ss : List Stage) : Type 0 where
  pub bounds : HaveBounds (length ss) ss
  pub can : limited ≡ false → CanReckon (length ss) ss

is_difference_system : (limited d : Bool) → limited ≡ not d → limited ≡ false → d ≡ true
is_difference_system limited true e l = refl
is_difference_system limited false e l = absurd (cc)

pub ready : (limited : Bool) (rows : List Row) (ss : List Stage) → limited ≡ not (are_differences rows) → AllInOrder rows → CanDecide rows → AreStagesOf limited rows ss → verdict rows ≡ under limited (variables rows) ss (point []) → IsReady limited ss
ready limited rows ss is o c a e = record {
  bounds = subst (λ (n : ℕ). HaveBounds n ss) (sym a.count) (have_bounds limited rows (variables rows) a.kept ss reached a.stages);
  can = λ l. subst (λ (n : ℕ). CanReckon n ss) (sym a.count) (without_limit limited l is a e);
}
  where
    reached : IsReached limited rows (variables rows) a.kept
    reached = run_reached limited (variables rows - 1) rows a.kept is o c a.first

    without_limit : (b : Bool) → b ≡ false → b ≡ not (are_differences rows) → (s : AreStagesOf b rows ss) → verdict rows ≡ under b (variables rows) ss (point []) → CanReckon (variables rows) ss
    without_limit true l is s e = absurd (cc)
    without_limit false l is s e = by_verdict (under false (variables rows) ss (point [])) refl (under_comes false (variables rows) ss)
      where
        diff : are_differences rows ≡ true
        diff = is_difference_system false (are_differences rows) is refl

        by_verdict : (w : Verdict) → under false (variables rows) ss (point []) ≡ w → Comes w → CanReckon (variables rows) ss
        by_verdict w u (gives values) = can_reckon rows c (variables rows) s.kept ss values (run_reached false (variables rows - 1) rows s.kept is o c s.first) s.stages u (values_small rows values o c diff (e ∙ u))
        by_verdict w u (passes v) = absurd (limit_free rows v o diff (e ∙ u))
          where
            no_limit : (v : ℕ) → IsWholeVerdict (stops (coeff v)) → (e : Verdict) → e ≡ stops (coeff v) → IsWholeVerdict e → ⊥
            no_limit v h e q is_refuted = absurd (cc)
            no_limit v h e q (is_whole vs w) = absurd (cc)

            limit_free : (rows : List Row) (v : ℕ) → AllInOrder rows → are_differences rows ≡ true → verdict rows ≡ stops (coeff v) → ⊥
            limit_free rows v o d q = let h = differences_are_whole rows (ordered rows o) d in no_limit v (subst IsWholeVerdict q h) (verdict rows) q h

-- ---- answers
then_last : (ls : List Line) → lines_then ls last ≡ lines_of ls
then_last [] = refl
then_last (l ∷ ls) = ap (before_lines l) (then_last ls)

no_other : (e : Event) (w : Verdict) → (e ≡ refuted → ⊥) → w ≡ stops e → IsWholeVerdict w → ⊥
no_other e w o q is_refuted = o (let is : refuted ≡ e = cc in sym is)
no_other e w o q (is_whole vs h) = absurd (cc)

limit_tells : (rows : List Row) (e : Event) → AllInOrder rows → (e ≡ refuted → ⊥) → verdict rows ≡ stops e → are_differences rows ≡ false
limit_tells rows e o n q = by_test (are_differences rows) refl
  where
    by_test : (b : Bool) → are_differences rows ≡ b → b ≡ false
    by_test true d = absurd (no_other e (verdict rows) n q (differences_are_whole rows (ordered rows o) d))
    by_test false d = refl

pub refuted_lines : (rows : List Row) (log : Log) → Refutes rows (lines_then log.lines.items last) → Refutes rows (lines_of log.lines.items)
refuted_lines rows log r = subst (Refutes rows) (then_last log.lines.items) r

pub sound_rows : (rows : List Row) (v : ℕ) → AllInOrder rows → IsDecision rows (Rows v) → IsSound rows (Rows v)
sound_rows rows v o q = limit_tells rows _ o (λ e. absurd (cc)) q

pub sound_coeff : (rows : List Row) (v : ℕ) → AllInOrder rows → IsDecision rows (Coeff v) → IsSound rows (Coeff v)
sound_coeff rows v o q = limit_tells rows (coeff v) o (λ e. absurd (cc)) q

pub sound_ended : (rows : List Row) (e : Event) (d : Decision) → AllInOrder rows → verdict rows ≡ stops e → HasComeOf (stops e) d → HasLines rows d → IsSound rows d
sound_ended rows e (Refuted lines) o q h r = (r, λ numbers s. unsatisfied rows (lines_of lines.items) r numbers s)
sound_ended rows e (Point numerators denominators) o q h r = absurd (let k : stops e ≡ point h.0 = h.1 in cc)
sound_ended rows e (Rows v) o q h r = sound_rows rows v o (q ∙ h)
sound_ended rows e (Coeff v) o q h r = sound_coeff rows v o (q ∙ h)

pub sound_values : (b : Bool) (rows : List Row) (n : ℕ) (ss : List Stage) (d : Decision) → AllInOrder rows → verdict rows ≡ under b n ss (point []) → HasComeOf (under b n ss (point [])) d → IsSound rows d
sound_values b rows n ss (Refuted lines) o e h = absurd (not_refuted (under b n ss (point [])) (under_comes b n ss) h)
  where
    not_refuted : (w : Verdict) → Comes w → w ≡ stops refuted → ⊥
    not_refuted w (gives values) q = absurd (cc)
    not_refuted w (passes v) q = absurd (let k : coeff v ≡ refuted = cc in cc)
sound_values b rows n ss (Point numerators denominators) o e h =
    let q : verdict rows ≡ point h.0 = e ∙ h.1 in
    (h.0, h.2, h.3, (points_satisfy rows (ordered rows o) h.0 q).1, λ d. values_whole rows h.0 o d q)
sound_values b rows n ss (Rows v) o e h = sound_rows rows v o (e ∙ h)
sound_values b rows n ss (Coeff v) o e h = sound_coeff rows v o (e ∙ h)

pub come_of : (b : Bool) (rows : List Row) (ss : List Stage) (d : Decision) → length ss ≡ variables rows → verdict rows ≡ under b (variables rows) ss (point []) → HasComeOf (under b (length ss) ss (point [])) d → IsDecision rows d
come_of b rows ss d l e h = subst (λ (w : Verdict). HasComeOf w d) (ap (λ (n : ℕ). under b n ss (point [])) l ∙ sym e) h
