-- A good expression with new marks that fit it is good, and declares what it did.
use Rattle.std.proofs.Common.{◌≡◌, ℕ, ◌+◌, List, [], ◌++◌, length, refl, ap, ◌∙◌}
use Rattle.lt_tree.specs.Tree as c
use Rattle.lt_tree.specs.Nodes.{in_expression, in_expressions, in_marks, in_specifiers, in_declarator}
use Rattle.lt_tree.specs.Scope.{Scope, enumerators_in, enumerators_in_all, enumerators_in_marks, enumerators_in_specifiers, enumerators_in_declarator}
use Rattle.lt_objectives.specs.Objectives.{in_front}
use Rattle.lt_objectives.specs.Marked.{NewMark, labels, decided, within, within_all, with_marks}
use Rattle.lt_print.proofs.Claims.{IsSequence}
use Rattle.lt_marked_texts.proofs.Arguments.{both, three}
use Rattle.lt_marked_texts.proofs.Good.{Good, GoodAll}
use Rattle.lt_marked_texts.proofs.Fitting.{Made, Fits, own_fits, two, three_parts}
use Rattle.lt_marked_texts.proofs.NewMarks.{AreWords, labels_good, labels_quiet, joined_some, joined_good, joined_quiet, preceded_good, preceded_quiet, decided_good, decided_quiet, marked_plain}

module _ (new : List NewMark) where
  -- ---- names

  front_quiet : (k : ℕ) (e : c.Expression) → Fits new k (in_expression e) → enumerators_in_marks (labels in_front new k) ≡ []
  front_quiet k e fits = labels_quiet (Made e) (λ p made. made.quiet) in_front k new (own_fits new k e fits)

  placed_names : (k : ℕ) (e : c.Expression) → Fits new k (in_expression e) → enumerators_in (within new k e) ≡ enumerators_in e → enumerators_in (with_marks new k e) ≡ enumerators_in e
  placed_names k e fits same = preceded_quiet (labels in_front new k) (decided new k (within new k e)) (front_quiet k e fits) ∙ decided_quiet new k (within new k e) ∙ same

  mutual
    within_names : (k : ℕ) (e : c.Expression) → Fits new k (in_expression e) → enumerators_in (within new k e) ≡ enumerators_in e
    within_names k (c.Name w) fits = refl
    within_names k (c.Constant w) fits = refl
    within_names k (c.Text bytes) fits = refl
    within_names k (c.Index whole place) fits =
        let parts = two new (k + 1) (in_expression whole) (in_expression place) fits.1 in both (◌++◌) (placed_names (k + 1) whole parts.first (within_names (k + 1) whole parts.first)) (placed_names (k + 1 + length (in_expression whole)) place parts.second (within_names (k + 1 + length (in_expression whole)) place parts.second))
    within_names k (c.Call callee arguments) fits =
        let parts = two new (k + 1) (in_expression callee) (in_expressions arguments) fits.1 in both (◌++◌) (placed_names (k + 1) callee parts.first (within_names (k + 1) callee parts.first)) (all_names (k + 1 + length (in_expression callee)) arguments parts.second)
    within_names k (c.Member e w) fits = placed_names (k + 1) e fits.1 (within_names (k + 1) e fits.1)
    within_names k (c.Arrow e w) fits = placed_names (k + 1) e fits.1 (within_names (k + 1) e fits.1)
    within_names k (c.PostInc e) fits = placed_names (k + 1) e fits.1 (within_names (k + 1) e fits.1)
    within_names k (c.PostDec e) fits = placed_names (k + 1) e fits.1 (within_names (k + 1) e fits.1)
    within_names k (c.PreInc e) fits = placed_names (k + 1) e fits.1 (within_names (k + 1) e fits.1)
    within_names k (c.PreDec e) fits = placed_names (k + 1) e fits.1 (within_names (k + 1) e fits.1)
    within_names k (c.Unary op e) fits = placed_names (k + 1) e fits.1 (within_names (k + 1) e fits.1)
    within_names k (c.SizeofExpr e) fits = refl
    within_names k (c.SizeofType s d) fits = refl
    within_names k (c.Cast s d e) fits =
        let parts = three_parts new (k + 1) (in_specifiers s) (in_declarator d) (in_expression e) fits.1 in
        ap (λ ws. enumerators_in_specifiers s ++ enumerators_in_declarator d ++ ws) (placed_names (k + 1 + length (in_specifiers s) + length (in_declarator d)) e parts.third (within_names (k + 1 + length (in_specifiers s) + length (in_declarator d)) e parts.third))
    within_names k (c.Binary op left right) fits =
        let parts = two new (k + 1) (in_expression left) (in_expression right) fits.1 in both (◌++◌) (placed_names (k + 1) left parts.first (within_names (k + 1) left parts.first)) (placed_names (k + 1 + length (in_expression left)) right parts.second (within_names (k + 1 + length (in_expression left)) right parts.second))
    within_names k (c.Logical op left right) fits =
        let parts = two new (k + 1) (in_expression left) (in_expression right) fits.1 in both (◌++◌) (placed_names (k + 1) left parts.first (within_names (k + 1) left parts.first)) (placed_names (k + 1 + length (in_expression left)) right parts.second (within_names (k + 1 + length (in_expression left)) right parts.second))
    within_names k (c.Conditional test left right) fits =
        let parts = three_parts new (k + 1) (in_expression test) (in_expression left) (in_expression right) fits.1 in
        three (λ a b d. a ++ b ++ d) (placed_names (k + 1) test parts.first (within_names (k + 1) test parts.first)) (placed_names (k + 1 + length (in_expression test)) left parts.second (within_names (k + 1 + length (in_expression test)) left parts.second))
        (placed_names (k + 1 + length (in_expression test) + length (in_expression left)) right parts.third (within_names (k + 1 + length (in_expression test) + length (in_expression left)) right parts.third))
    within_names k (c.Assign op target value) fits =
        let parts = two new (k + 1) (in_expression target) (in_expression value) fits.1 in both (◌++◌) (placed_names (k + 1) target parts.first (within_names (k + 1) target parts.first)) (placed_names (k + 1 + length (in_expression target)) value parts.second (within_names (k + 1 + length (in_expression target)) value parts.second))
    within_names k (c.Comma parts) fits = all_names (k + 1) parts fits.1
    within_names k (c.Marked marks e) fits =
        let j = k + 1 + length (in_marks marks) in
        let parts = two new (k + 1) (in_marks marks) (in_expression e) fits.1 in
        both (◌++◌) (joined_quiet marks (labels in_front new j) (front_quiet j e parts.second)) (decided_quiet new j (within new j e) ∙ within_names j e parts.second)
    within_names k (c.Decide e when_true when_false tag) fits = placed_names (k + 1) e fits.1 (within_names (k + 1) e fits.1)
    within_names k (c.After e id tag) fits = placed_names (k + 1) e fits.1 (within_names (k + 1) e fits.1)

    all_names : (k : ℕ) (es : c.Expressions) → Fits new k (in_expressions es) → enumerators_in_all (within_all new k es) ≡ enumerators_in_all es
    all_names k c.no_expressions fits = refl
    all_names k (c.an_expression e es) fits =
        let parts = two new k (in_expression e) (in_expressions es) fits in both (◌++◌) (placed_names k e parts.first (within_names k e parts.first)) (all_names (k + length (in_expression e)) es parts.second)

  pub names_kept : (k : ℕ) (e : c.Expression) → Fits new k (in_expression e) → enumerators_in (with_marks new k e) ≡ enumerators_in e
  names_kept k e fits = placed_names k e fits (within_names k e fits)

  -- ---- what is good

  module _ (words : AreWords new) (scope : Scope) where
    placed_good : (k : ℕ) (e : c.Expression) → Fits new k (in_expression e) → Good scope e → Good scope (within new k e) → Good scope (with_marks new k e)
    placed_good k e fits good inner =
        preceded_good scope (labels in_front new k) (decided new k (within new k e)) (labels_good scope (Made e) (λ p made. made.good scope good) in_front k new words (own_fits new k e fits))
        (decided_good scope new k (within new k e) words inner)

    sequence_kept : (k : ℕ) (parts : c.Expressions) → IsSequence parts → IsSequence (within_all new k parts)
    sequence_kept k c.no_expressions is = absurd is
    sequence_kept k (c.an_expression e c.no_expressions) is = absurd is
    sequence_kept k (c.an_expression e (c.an_expression next rest)) is = marked_plain new k e is

    mutual
      within_good : (k : ℕ) (e : c.Expression) → Fits new k (in_expression e) → Good scope e → Good scope (within new k e)
      within_good k (c.Name w) fits good = good
      within_good k (c.Constant w) fits good = good
      within_good k (c.Text bytes) fits good = good
      within_good k (c.Index whole place) fits good =
          let parts = two new (k + 1) (in_expression whole) (in_expression place) fits.1 in (placed_good (k + 1) whole parts.first good.0 (within_good (k + 1) whole parts.first good.0), placed_good (k + 1 + length (in_expression whole)) place parts.second good.1 (within_good (k + 1 + length (in_expression whole)) place parts.second good.1))
      within_good k (c.Call callee arguments) fits good =
          let parts = two new (k + 1) (in_expression callee) (in_expressions arguments) fits.1 in (placed_good (k + 1) callee parts.first good.0 (within_good (k + 1) callee parts.first good.0), all_good (k + 1 + length (in_expression callee)) arguments parts.second good.1)
      within_good k (c.Member e w) fits good = (placed_good (k + 1) e fits.1 good.0 (within_good (k + 1) e fits.1 good.0), good.1)
      within_good k (c.Arrow e w) fits good = (placed_good (k + 1) e fits.1 good.0 (within_good (k + 1) e fits.1 good.0), good.1)
      within_good k (c.PostInc e) fits good = placed_good (k + 1) e fits.1 good (within_good (k + 1) e fits.1 good)
      within_good k (c.PostDec e) fits good = placed_good (k + 1) e fits.1 good (within_good (k + 1) e fits.1 good)
      within_good k (c.PreInc e) fits good = placed_good (k + 1) e fits.1 good (within_good (k + 1) e fits.1 good)
      within_good k (c.PreDec e) fits good = placed_good (k + 1) e fits.1 good (within_good (k + 1) e fits.1 good)
      within_good k (c.Unary op e) fits good = placed_good (k + 1) e fits.1 good (within_good (k + 1) e fits.1 good)
      within_good k (c.SizeofExpr e) fits good = good
      within_good k (c.SizeofType s d) fits good = good
      within_good k (c.Cast s d e) fits good =
          let parts = three_parts new (k + 1) (in_specifiers s) (in_declarator d) (in_expression e) fits.1 in (good.0, placed_good (k + 1 + length (in_specifiers s) + length (in_declarator d)) e parts.third good.1 (within_good (k + 1 + length (in_specifiers s) + length (in_declarator d)) e parts.third good.1))
      within_good k (c.Binary op left right) fits good =
          let parts = two new (k + 1) (in_expression left) (in_expression right) fits.1 in (placed_good (k + 1) left parts.first good.0 (within_good (k + 1) left parts.first good.0), placed_good (k + 1 + length (in_expression left)) right parts.second good.1 (within_good (k + 1 + length (in_expression left)) right parts.second good.1))
      within_good k (c.Logical op left right) fits good =
          let parts = two new (k + 1) (in_expression left) (in_expression right) fits.1 in (placed_good (k + 1) left parts.first good.0 (within_good (k + 1) left parts.first good.0), placed_good (k + 1 + length (in_expression left)) right parts.second good.1 (within_good (k + 1 + length (in_expression left)) right parts.second good.1))
      within_good k (c.Conditional test left right) fits good =
          let parts = three_parts new (k + 1) (in_expression test) (in_expression left) (in_expression right) fits.1 in (
            placed_good (k + 1) test parts.first good.0 (within_good (k + 1) test parts.first good.0),
            placed_good (k + 1 + length (in_expression test)) left parts.second good.1 (within_good (k + 1 + length (in_expression test)) left parts.second good.1),
            placed_good (k + 1 + length (in_expression test) + length (in_expression left)) right parts.third good.2 (within_good (k + 1 + length (in_expression test) + length (in_expression left)) right parts.third good.2),
          )
      within_good k (c.Assign op target value) fits good =
          let parts = two new (k + 1) (in_expression target) (in_expression value) fits.1 in (good.0, placed_good (k + 1) target parts.first good.1 (within_good (k + 1) target parts.first good.1), placed_good (k + 1 + length (in_expression target)) value parts.second good.2 (within_good (k + 1 + length (in_expression target)) value parts.second good.2))
      within_good k (c.Comma parts) fits good = (sequence_kept (k + 1) parts good.0, all_good (k + 1) parts fits.1 good.1)
      within_good k (c.Marked marks e) fits good =
          let j = k + 1 + length (in_marks marks) in
          let parts = two new (k + 1) (in_marks marks) (in_expression e) fits.1 in (
            joined_some marks (labels in_front new j) good.0,
            joined_good scope marks (labels in_front new j) good.1 (labels_good scope (Made e) (λ p made. made.good scope good.2) in_front j new words (own_fits new j e parts.second)),
            decided_good scope new j (within new j e) words (within_good j e parts.second good.2),
          )
      within_good k (c.Decide e when_true when_false tag) fits good = (placed_good (k + 1) e fits.1 good.0 (within_good (k + 1) e fits.1 good.0), good.1, good.2, good.3)
      within_good k (c.After e id tag) fits good = (placed_good (k + 1) e fits.1 good.0 (within_good (k + 1) e fits.1 good.0), good.1, good.2)

      all_good : (k : ℕ) (es : c.Expressions) → Fits new k (in_expressions es) → GoodAll scope es → GoodAll scope (within_all new k es)
      all_good k c.no_expressions fits good = tt
      all_good k (c.an_expression e es) fits good =
          let parts = two new k (in_expression e) (in_expressions es) fits in (placed_good k e parts.first good.0 (within_good k e parts.first good.0), all_good (k + length (in_expression e)) es parts.second good.1)

    pub good_kept : (k : ℕ) (e : c.Expression) → Fits new k (in_expression e) → Good scope e → Good scope (with_marks new k e)
    good_kept k e fits good = placed_good k e fits good (within_good k e fits good)
