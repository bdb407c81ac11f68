-- What the answer to a system says.
use Rattle.std.specs.Prelude.{◌≡◌, ℕ, ℤ, pos, true, false, List, map, All}
use Rattle.lt_lin.specs.declared.row.Row.{Row}
use Rattle.lt_lin.specs.Rows.{Satisfies}
use Rattle.lt_lin.specs.Lines.{lines_of}
use Rattle.lt_lin.specs.Refutation.{Refutes}
use Rattle.lt_elim.specs.declared.decision.Decision.{Decision}
use Rattle.lt_elim.specs.declared.decision.Decision.TheVariants.{Refuted, Point, Rows, Coeff}
use Rattle.lt_elim.specs.Difference.{are_differences}
use Rattle.lt_elim.specs.Elimination.{refuted, many_rows, coeff}
use Rattle.lt_elim.specs.Fraction.{Fraction}
use Rattle.lt_elim.specs.Decision.{Verdict, stops, point, verdict, IsSolution}

-- The answer is the verdict. Which lines refute is open.
abbrev pub HasComeOf : Verdict → Decision → Type 0
HasComeOf verdict (Refuted lines) = verdict ≡ stops refuted
HasComeOf verdict (Point numerators denominators) =
    (values : List Fraction) × (verdict ≡ point values)
    × (numerators.items ≡ map (λ f. f.over) values) × (denominators.items ≡ map (λ f. pos f.under) values)
HasComeOf verdict (Rows v) = verdict ≡ stops (many_rows v)
HasComeOf verdict (Coeff v) = verdict ≡ stops (coeff v)

abbrev pub IsDecision : List Row → Decision → Type 0
IsDecision rows decision = HasComeOf (verdict rows) decision

-- the lines of a refutation refute the rows
abbrev pub HasLines : List Row → Decision → Type 0
HasLines rows (Refuted lines) = Refutes rows (lines_of lines.items)
HasLines rows (Point numerators denominators) = Unit {0}
HasLines rows (Rows v) = Unit {0}
HasLines rows (Coeff v) = Unit {0}

-- Lines refute the rows, so that no whole numbers make them true; a point makes every row true, and is whole for a
-- difference system, for which no limit is passed.
abbrev pub IsSound : List Row → Decision → Type 0
IsSound rows (Refuted lines) = Refutes rows (lines_of lines.items) × ((numbers : ℕ → ℤ) → Satisfies numbers rows → ⊥)
IsSound rows (Point numerators denominators) =
    (values : List Fraction) × (numerators.items ≡ map (λ f. f.over) values) × (denominators.items ≡ map (λ f. pos f.under) values)
    × IsSolution values rows × (are_differences rows ≡ true → All (λ f. f.under ≡ 1) values)
IsSound rows (Rows v) = are_differences rows ≡ false
IsSound rows (Coeff v) = are_differences rows ≡ false
