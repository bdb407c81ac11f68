use Rattle.std.proofs.Common.{◌≡◌, pos, drop, false}
use Rattle.lt_elim.specs.Fraction.{fraction, whole}
use Rattle.lt_elim.specs.Decision.{terms_added}
use Rattle.lt_elim.specs.Reckoning.{fractions_of, CanAddTerms}
use Rattle.lt_elim.proofs.point.terms_added.Given as goal

abbrev pub invariant-terms : goal.invariant-terms
invariant-terms l = record {
  value : terms_added l.limited l.variable (fractions_of l.values) l.fn.terms (whole (pos 0)) ≡ terms_added l.limited l.variable (fractions_of l.values) (drop l.term-index l.fn.terms) (fraction l.sum.over l.sum.under);
  can : l.limited ≡ false → CanAddTerms l.variable (fractions_of l.values) l.fn.terms (whole (pos 0)) → CanAddTerms l.variable (fractions_of l.values) (drop l.term-index l.fn.terms) (fraction l.sum.over l.sum.under);
}
