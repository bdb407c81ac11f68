-- What holds of verdicts.
use Rattle.std.specs.Prelude.{◌≡◌, ℕ, suc, ℤ, pos, neg_ℤ, ◌*◌, ◌^◌, ◌≤◌, ◌≤ℤ◌, true, false, List, [], All, length}
use Rattle.lt_lin.specs.declared.row.Row.{Row}
use Rattle.lt_lin.specs.Terms.{IsOrdered}
use Rattle.lt_lin.specs.Rows.{Satisfies}
use Rattle.lt_lin.specs.Lines.{Lines}
use Rattle.lt_lin.specs.Refutation.{Refutes}
use Rattle.lt_elim.specs.Elimination.{refuted, keeps, keep_all, eliminated}
use Rattle.lt_elim.specs.Fraction.{Fraction}
use Rattle.lt_elim.specs.Decision.{Verdict, stops, point, variables, verdict, IsSolution}
use Rattle.lt_elim.specs.Difference.{are_differences}

-- the terms of each row in order
abbrev pub AreOrdered : List Row → Type 0
AreOrdered rows = All (λ r. IsOrdered r.terms) rows

-- ---- difference systems
-- refuted, or a point of whole numbers
pub data IsWholeVerdict : Verdict → Type 0 where
  is_refuted : IsWholeVerdict (stops refuted)
  is_whole : (values : List Fraction) → All (λ f. f.under ≡ 1) values → IsWholeVerdict (point values)

-- On a difference system neither limit comes, and a point is whole.
abbrev pub DifferencesAreWhole : Type 0
DifferencesAreWhole = (rows : List Row) → AreOrdered rows → are_differences rows ≡ true → IsWholeVerdict (verdict rows)

-- the rows that are kept without a limit as the variables below v are left
pub data Reaches (rows : List Row) : ℕ → List Row → Type 0 where
  at_first : (last : ℕ) (kept : List Row) → keep_all false last [] rows ≡ keeps kept → Reaches rows (variables rows) kept
  after_next : (v : ℕ) (kept next : List Row) → Reaches rows (suc v) kept → eliminated false v kept ≡ keeps next → Reaches rows v next

abbrev pub AreSized : ℕ → List Row → Type 0
AreSized m rows = All (λ r. (neg_ℤ (pos m) ≤ℤ r.constant) × (r.constant ≤ℤ pos m)) rows

-- Constants that are kept of a difference system are the sums of no more of its constants than there are variables, and one.
abbrev pub DifferencesStaySmall : Type 0
DifferencesStaySmall =
    (rows : List Row) → AreOrdered rows → are_differences rows ≡ true → (m : ℕ) → AreSized m rows →
    (v : ℕ) (kept : List Row) → Reaches rows v kept → AreSized (suc (variables rows) * m) kept

-- Values of a point of a difference system are the sums of no more of its constants than there are variables.
abbrev pub DifferencePointsStaySmall : Type 0
DifferencePointsStaySmall =
    (rows : List Row) → AreOrdered rows → are_differences rows ≡ true → (m : ℕ) → AreSized m rows →
    (values : List Fraction) → verdict rows ≡ point values →
    All (λ f. (neg_ℤ (pos (variables rows * m)) ≤ℤ f.over) × (f.over ≤ℤ pos (variables rows * m))) values

-- ---- points
-- A point has a value for each variable, and makes every row true.
abbrev pub PointsSatisfy : Type 0
PointsSatisfy =
    (rows : List Row) → AreOrdered rows → (values : List Fraction) → verdict rows ≡ point values →
    (length values ≡ variables rows) × IsSolution values rows

-- ---- refutations
-- Where a system is refuted, lines refute it, and no whole numbers make all its rows true. Its constants are small enough for
-- the lines of a difference system, which has no limit.
abbrev pub RefutationsHaveLines : Type 0
RefutationsHaveLines =
    (rows : List Row) → AreOrdered rows → (m : ℕ) → AreSized m rows → suc (variables rows) * m ≤ 2 ^ 125 →
    verdict rows ≡ stops refuted →
    ((lines : Lines) × Refutes rows lines) × ((numbers : ℕ → ℤ) → Satisfies numbers rows → ⊥)
