-- What the code reckons of fractions.
use Rattle.std.specs.Prelude.{◌≡◌, ◌≢◌, ℕ, ℤ, pos, neg_ℤ, ◌<◌, ◌^◌, ◌*◌, ◌/◌, ◌+ℤ◌, ◌*ℤ◌, int_lt, ◌==◌, Bool, true, false, if◌then◌else◌, unsigned_abs, List, [], ◌∷◌, map, slice_index_or, Option, Some, None}
use Rattle.lt_lin.specs.declared.row.Row.{Row}
use Rattle.lt_lin.specs.Terms.{Term, factor, Fits}
use Rattle.lt_elim.specs.declared.fraction.Fraction as code
use Rattle.lt_elim.specs.Divisor.{gcd_of, quotient}
use Rattle.lt_elim.specs.Fraction.{Fraction, fraction, whole, times, plus, greater, lesser}
use Rattle.lt_elim.specs.Decision.{if_some, terms_added}

-- The answer is what is wanted. Where there is a limit and no answer, nothing is wanted.
abbrev pub Gives : Bool → Option code.Fraction → Option Fraction → Type 0
Gives limited None wanted = limited ≡ true → wanted ≡ None
Gives limited (Some f) wanted = wanted ≡ Some (fraction f.over f.under)

-- the numbers of a product fit
abbrev pub CanTimes : ℤ → Fraction → Type 0
CanTimes factor f = Fits (quotient factor (gcd_of (unsigned_abs factor) f.under) *ℤ f.over)

abbrev pub CanPlusBy : ℕ → Fraction → Fraction → Type 0
CanPlusBy g e f =
    (e.under / g * f.under < 2 ^ 127) × Fits (e.over *ℤ pos (f.under / g)) × Fits (f.over *ℤ pos (e.under / g))
    × Fits (e.over *ℤ pos (f.under / g) +ℤ f.over *ℤ pos (e.under / g))

-- the numbers of a sum fit
abbrev pub CanPlus : Fraction → Fraction → Type 0
CanPlus e f = CanPlusBy (gcd_of e.under f.under) e f

abbrev pub CanNegateBy : ℕ → Fraction → ℤ → Type 0
CanNegateBy g f by =
    Fits (if int_lt (pos 0) by then neg_ℤ (quotient f.over g) else quotient f.over g) × (f.under * (unsigned_abs by / g) < 2 ^ 127)

-- the numbers of a fraction negated and divided fit
abbrev pub CanNegate : Fraction → ℤ → Type 0
CanNegate f by = CanNegateBy (gcd_of (unsigned_abs f.over) (unsigned_abs by)) f by

abbrev pub fraction_of : code.Fraction → Fraction
fraction_of f = fraction f.over f.under

-- the greater or the lesser of two
abbrev pub better_of : Bool → Fraction → Fraction → Fraction
better_of true = greater
better_of false = lesser

abbrev pub fractions_of : List code.Fraction → List Fraction
fractions_of fs = map fraction_of fs

-- one term, at the value of its variable, is added, unless it is that of v
abbrev pub term_added : Bool → ℕ → List Fraction → Term → Fraction → Option Fraction
term_added limited v values t before =
    if t.0 == v then Some before
    else if_some (times limited t.1 (slice_index_or values t.0 (whole (pos 0)))) (λ product. plus limited before product)

-- the numbers of one term fit, unless it is that of v
abbrev pub CanAddTerm : ℕ → List Fraction → Term → Fraction → Type 0
CanAddTerm v values t before =
    (t.0 == v) ≡ false →
    CanTimes t.1 (slice_index_or values t.0 (whole (pos 0)))
    × ((product : Fraction) → times false t.1 (slice_index_or values t.0 (whole (pos 0))) ≡ Some product → CanPlus before product)

-- the numbers of the terms other than that of v fit
abbrev pub CanAddTerms : ℕ → List Fraction → List Term → Fraction → Type 0
CanAddTerms v values [] before = Unit {0}
CanAddTerms v values (t ∷ ts) before =
    CanAddTerm v values t before
    × ((sum : Fraction) → term_added false v values t before ≡ Some sum → CanAddTerms v values ts sum)

-- the numbers of a bound fit
pub record CanBound (v : ℕ) (values : List Fraction) (r : Row) : Type 0 where
  pub terms : CanAddTerms v values r.terms (whole (pos 0))
  pub constant : (sum : Fraction) → terms_added false v values r.terms (whole (pos 0)) ≡ Some sum → CanPlus sum (whole r.constant)
  pub negated : (terms sum : Fraction) → terms_added false v values r.terms (whole (pos 0)) ≡ Some terms → plus false terms (whole r.constant) ≡ Some sum → CanNegate sum (factor v r.terms)

abbrev pub CanBoundAll : ℕ → List Fraction → List Row → Type 0
CanBoundAll v values [] = Unit {0}
CanBoundAll v values (r ∷ rs) = CanBound v values r × CanBoundAll v values rs

-- The row sets a bound to v.
pub record IsBounding (v : ℕ) (r : Row) : Type 0 where
  pub some : factor v r.terms ≢ pos 0
  pub small : unsigned_abs (factor v r.terms) < 2 ^ 127

abbrev pub AreBounding : ℕ → List Row → Type 0
AreBounding v [] = Unit {0}
AreBounding v (r ∷ rs) = IsBounding v r × AreBounding v rs
