-- Words that are looked for one by one.
use Rattle.std.proofs.Common.{◌≡◌, ℕ, List, Bool, true, false, sym, ap, ◌∙◌}
use Rattle.std.specs.Prelude.{codes, nat_eq}
use Rattle.std.specs.Ordering.{is_eq}
use Rattle.std.specs.Cmp.Lexicographic.{pointwise, same_text, texts_ties}
use Rattle.std.proofs.lemmas.Bool.{false≢true}
use Rattle.std.proofs.lemmas.Cmp.{nat_list_cmp_total, tied_itself}
use Rattle.lt_model.specs.declared.run.End.TheVariants.{Returned, Stopped, Undefined, NoInput, Steps, Deep, Cells}
use Rattle.lt_cover.specs.declared.rows.TestEnd.{TestEnd}
use Rattle.lt_cover.specs.declared.rows.TestEnd.TheVariants.{Ran, Outside}
use Rattle.lt_cover.specs.declared.rows.HyperState.{HyperState}
use Rattle.lt_cover.specs.declared.rows.HyperState.TheVariants.{Uncovered, TooWide, Covered}
use Rattle.lt_cover.specs.declared.rows.Version.{Version}
use Rattle.lt_cover.specs.declared.rows.Version.TheVariants.{One, Two}
use Rattle.lt_cover.specs.Coverage.Text.{end_word, state_word, version_word}
use Rattle.lt_cover.specs.Coverage.Rows.{IsPlainEnd}

pub word_found : (word slice given : List ℕ) (same : Bool) → slice ≡ given → same ≡ pointwise nat_eq word slice → same ≡ true → given ≡ word
word_found word slice given same s e told = sym (same_text word slice (sym told ∙ e) ∙ s)

pub word_missed : (word slice given : List ℕ) (same : Bool) → slice ≡ given → same ≡ pointwise nat_eq word slice → same ≡ false → given ≡ word → ⊥
word_missed word slice given same s e told is = false≢true (sym told ∙ (e ∙ (ap (pointwise nat_eq word) (s ∙ is) ∙ (texts_ties word word ∙ ap is_eq (tied_itself nat_list_cmp_total word)))))

-- none of the words
pub no_state : (word : List ℕ) → (codes "uncovered" ≡ word → ⊥) → (codes "too-wide" ≡ word → ⊥) → (codes "covered" ≡ word → ⊥) → (state : HyperState) → Unit {0} → state_word state ≡ word → ⊥
no_state word u t c Uncovered any e = u e
no_state word u t c TooWide any e = t e
no_state word u t c Covered any e = c e

pub no_version_word : (word : List ℕ) → (codes "1" ≡ word → ⊥) → (codes "2" ≡ word → ⊥) → (version : Version) → Unit {0} → version_word version ≡ word → ⊥
no_version_word word a b One any e = a e
no_version_word word a b Two any e = b e

pub no_plain_end : (word : List ℕ) → (codes "returned" ≡ word → ⊥) → (codes "stopped" ≡ word → ⊥) → (codes "steps" ≡ word → ⊥) → (codes "deep" ≡ word → ⊥) → (codes "cells" ≡ word → ⊥) → (codes "outside" ≡ word → ⊥) → (end : TestEnd) → IsPlainEnd end → end_word end ≡ word → ⊥
no_plain_end word r s t d c o (Ran Returned) plain e = r e
no_plain_end word r s t d c o (Ran Stopped) plain e = s e
no_plain_end word r s t d c o (Ran (Undefined kind)) plain e = absurd plain
no_plain_end word r s t d c o (Ran (NoInput stub)) plain e = absurd plain
no_plain_end word r s t d c o (Ran Steps) plain e = t e
no_plain_end word r s t d c o (Ran Deep) plain e = d e
no_plain_end word r s t d c o (Ran Cells) plain e = c e
no_plain_end word r s t d c o Outside plain e = o e
