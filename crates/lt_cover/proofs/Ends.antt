-- Words tell the ends of tests and the states of hyperlabels.
use Rattle.std.proofs.Common.{◌≡◌, ℕ, ◌+◌, ◌*◌, ◌<◌, ◌^◌, ◌≢◌, List, [], ◌∷◌, get_or, refl, sym, ap, arith, ◌∙◌, lit<}
use Rattle.std.specs.Prelude.{drop}
use Rattle.std.specs.Fmt.{decimal}
use Rattle.std.proofs.lemmas.Fmt.{decimal_injective}
use Rattle.lt_model.specs.Operators.{number_of_kind}
use Rattle.lt_model.specs.declared.run.End.TheVariants.{Returned, Stopped, Undefined, NoInput, Steps, Deep, Cells}
use Rattle.lt_model.specs.declared.operator.Ub.{Ub}
use Rattle.lt_model.specs.declared.operator.Ub.TheVariants as U
use Rattle.lt_cover.specs.declared.rows.TestEnd.{TestEnd}
use Rattle.lt_cover.specs.declared.rows.TestEnd.TheVariants.{Ran, Outside}
use Rattle.lt_cover.specs.declared.rows.HyperState.{HyperState}
use Rattle.lt_cover.specs.declared.rows.HyperState.TheVariants.{Uncovered, TooWide, Covered}
use Rattle.lt_cover.specs.Coverage.Text.{end_word, state_word}

kind_at : ℕ → Ub
kind_at n = get_or (U.Overflow ∷ U.Overflow ∷ U.ZeroDivisor ∷ U.Quotient ∷ U.Shift ∷ U.Move ∷ U.Ended ∷ U.Null ∷ U.NoCell ∷ U.Unset ∷ U.Sealed ∷ U.Unsequenced ∷ U.Unrelated ∷ U.NoValue ∷ []) n U.Overflow

kind_is : (kind : Ub) → kind_at (number_of_kind kind) ≡ kind
unfolding kind_at
kind_is U.Overflow = refl
kind_is U.ZeroDivisor = refl
kind_is U.Quotient = refl
kind_is U.Shift = refl
kind_is U.Move = refl
kind_is U.Ended = refl
kind_is U.Null = refl
kind_is U.NoCell = refl
kind_is U.Unset = refl
kind_is U.Sealed = refl
kind_is U.Unsequenced = refl
kind_is U.Unrelated = refl
kind_is U.NoValue = refl

pub small_kind : (kind : Ub) → number_of_kind kind < 2 ^ 64
small_kind U.Overflow = lit< tt
small_kind U.ZeroDivisor = lit< tt
small_kind U.Quotient = lit< tt
small_kind U.Shift = lit< tt
small_kind U.Move = lit< tt
small_kind U.Ended = lit< tt
small_kind U.Null = lit< tt
small_kind U.NoCell = lit< tt
small_kind U.Unset = lit< tt
small_kind U.Sealed = lit< tt
small_kind U.Unsequenced = lit< tt
small_kind U.Unrelated = lit< tt
small_kind U.NoValue = lit< tt

kind_inj : (a b : Ub) → decimal (number_of_kind a) ≡ decimal (number_of_kind b) → a ≡ b
kind_inj a b e =
    let n : number_of_kind a ≡ number_of_kind b = decimal_injective (number_of_kind a) (number_of_kind b) (small_kind a) (small_kind b) e in
    sym (kind_is a) ∙ (ap kind_at n ∙ kind_is b)

-- the first and the third byte tell a word
abbrev mark : List ℕ → ℕ
mark word = get_or word 0 0 * 1000 + get_or word 2 0

differ : (a b : List ℕ) → mark a ≢ mark b → a ≡ b → ⊥
differ a b n e = n (ap mark e)

pub end_inj : (a b : TestEnd) → end_word a ≡ end_word b → a ≡ b
end_inj (Ran Returned) (Ran Returned) e = refl
end_inj (Ran Returned) (Ran Stopped) e = absurd (omega (arith, ap mark e))
end_inj (Ran Returned) (Ran (Undefined b)) e = absurd (omega (arith, ap mark e))
end_inj (Ran Returned) (Ran (NoInput b)) e = absurd (omega (arith, ap mark e))
end_inj (Ran Returned) (Ran Steps) e = absurd (omega (arith, ap mark e))
end_inj (Ran Returned) (Ran Deep) e = absurd (omega (arith, ap mark e))
end_inj (Ran Returned) (Ran Cells) e = absurd (omega (arith, ap mark e))
end_inj (Ran Returned) Outside e = absurd (omega (arith, ap mark e))
end_inj (Ran Stopped) (Ran Returned) e = absurd (omega (arith, ap mark e))
end_inj (Ran Stopped) (Ran Stopped) e = refl
end_inj (Ran Stopped) (Ran (Undefined b)) e = absurd (omega (arith, ap mark e))
end_inj (Ran Stopped) (Ran (NoInput b)) e = absurd (omega (arith, ap mark e))
end_inj (Ran Stopped) (Ran Steps) e = absurd (omega (arith, ap mark e))
end_inj (Ran Stopped) (Ran Deep) e = absurd (omega (arith, ap mark e))
end_inj (Ran Stopped) (Ran Cells) e = absurd (omega (arith, ap mark e))
end_inj (Ran Stopped) Outside e = absurd (omega (arith, ap mark e))
end_inj (Ran (Undefined a)) (Ran Returned) e = absurd (omega (arith, ap mark e))
end_inj (Ran (Undefined a)) (Ran Stopped) e = absurd (omega (arith, ap mark e))
end_inj (Ran (Undefined a)) (Ran (Undefined b)) e = ap (λ k. Ran (Undefined k)) (kind_inj a b (ap (drop 10) e))
end_inj (Ran (Undefined a)) (Ran (NoInput b)) e = absurd (omega (arith, ap mark e))
end_inj (Ran (Undefined a)) (Ran Steps) e = absurd (omega (arith, ap mark e))
end_inj (Ran (Undefined a)) (Ran Deep) e = absurd (omega (arith, ap mark e))
end_inj (Ran (Undefined a)) (Ran Cells) e = absurd (omega (arith, ap mark e))
end_inj (Ran (Undefined a)) Outside e = absurd (omega (arith, ap mark e))
end_inj (Ran (NoInput a)) (Ran Returned) e = absurd (omega (arith, ap mark e))
end_inj (Ran (NoInput a)) (Ran Stopped) e = absurd (omega (arith, ap mark e))
end_inj (Ran (NoInput a)) (Ran (Undefined b)) e = absurd (omega (arith, ap mark e))
end_inj (Ran (NoInput a)) (Ran (NoInput b)) e = ap (λ s. Ran (NoInput s)) (ap (drop 9) e)
end_inj (Ran (NoInput a)) (Ran Steps) e = absurd (omega (arith, ap mark e))
end_inj (Ran (NoInput a)) (Ran Deep) e = absurd (omega (arith, ap mark e))
end_inj (Ran (NoInput a)) (Ran Cells) e = absurd (omega (arith, ap mark e))
end_inj (Ran (NoInput a)) Outside e = absurd (omega (arith, ap mark e))
end_inj (Ran Steps) (Ran Returned) e = absurd (omega (arith, ap mark e))
end_inj (Ran Steps) (Ran Stopped) e = absurd (omega (arith, ap mark e))
end_inj (Ran Steps) (Ran (Undefined b)) e = absurd (omega (arith, ap mark e))
end_inj (Ran Steps) (Ran (NoInput b)) e = absurd (omega (arith, ap mark e))
end_inj (Ran Steps) (Ran Steps) e = refl
end_inj (Ran Steps) (Ran Deep) e = absurd (omega (arith, ap mark e))
end_inj (Ran Steps) (Ran Cells) e = absurd (omega (arith, ap mark e))
end_inj (Ran Steps) Outside e = absurd (omega (arith, ap mark e))
end_inj (Ran Deep) (Ran Returned) e = absurd (omega (arith, ap mark e))
end_inj (Ran Deep) (Ran Stopped) e = absurd (omega (arith, ap mark e))
end_inj (Ran Deep) (Ran (Undefined b)) e = absurd (omega (arith, ap mark e))
end_inj (Ran Deep) (Ran (NoInput b)) e = absurd (omega (arith, ap mark e))
end_inj (Ran Deep) (Ran Steps) e = absurd (omega (arith, ap mark e))
end_inj (Ran Deep) (Ran Deep) e = refl
end_inj (Ran Deep) (Ran Cells) e = absurd (omega (arith, ap mark e))
end_inj (Ran Deep) Outside e = absurd (omega (arith, ap mark e))
end_inj (Ran Cells) (Ran Returned) e = absurd (omega (arith, ap mark e))
end_inj (Ran Cells) (Ran Stopped) e = absurd (omega (arith, ap mark e))
end_inj (Ran Cells) (Ran (Undefined b)) e = absurd (omega (arith, ap mark e))
end_inj (Ran Cells) (Ran (NoInput b)) e = absurd (omega (arith, ap mark e))
end_inj (Ran Cells) (Ran Steps) e = absurd (omega (arith, ap mark e))
end_inj (Ran Cells) (Ran Deep) e = absurd (omega (arith, ap mark e))
end_inj (Ran Cells) (Ran Cells) e = refl
end_inj (Ran Cells) Outside e = absurd (omega (arith, ap mark e))
end_inj Outside (Ran Returned) e = absurd (omega (arith, ap mark e))
end_inj Outside (Ran Stopped) e = absurd (omega (arith, ap mark e))
end_inj Outside (Ran (Undefined b)) e = absurd (omega (arith, ap mark e))
end_inj Outside (Ran (NoInput b)) e = absurd (omega (arith, ap mark e))
end_inj Outside (Ran Steps) e = absurd (omega (arith, ap mark e))
end_inj Outside (Ran Deep) e = absurd (omega (arith, ap mark e))
end_inj Outside (Ran Cells) e = absurd (omega (arith, ap mark e))
end_inj Outside Outside e = refl

pub state_inj : (a b : HyperState) → state_word a ≡ state_word b → a ≡ b
state_inj Uncovered Uncovered e = refl
state_inj Uncovered TooWide e = absurd (omega (arith, ap mark e))
state_inj Uncovered Covered e = absurd (omega (arith, ap mark e))
state_inj TooWide Uncovered e = absurd (omega (arith, ap mark e))
state_inj TooWide TooWide e = refl
state_inj TooWide Covered e = absurd (omega (arith, ap mark e))
state_inj Covered Uncovered e = absurd (omega (arith, ap mark e))
state_inj Covered TooWide e = absurd (omega (arith, ap mark e))
state_inj Covered Covered e = refl
