-- New marks whose predicates fit their places are good there, and declare nothing.
use Rattle.std.proofs.Common.{◌≡◌, ℕ, suc, Bool, true, false, List, [], ◌∷◌, ◌++◌, refl, ap, ◌∙◌}
use Rattle.std.specs.Prelude.{if◌then◌else◌}
use Rattle.std.specs.Fmt.{decimal}
use Rattle.std.specs.List.{All}
use Rattle.lt_tree.specs.Tree as c
use Rattle.lt_tree.specs.Comma.{is_comma}
use Rattle.lt_tree.specs.Scope.{Scope, enumerators_in, enumerators_in_mark, enumerators_in_marks}
use Rattle.lt_objectives.specs.Objectives.{Form, in_front, around}
use Rattle.lt_objectives.specs.Marked.{NewMark, is_there, label, labels, decided, joined, preceded_by, within, with_marks}
use Rattle.lt_print.proofs.CuttingQuotes.{IsByte}
use Rattle.lt_print.proofs.Clean.{IsConstant}
use Rattle.lt_marked_texts.proofs.Good.{AreSome, Good, GoodMarks}
use Rattle.lt_marked_texts.proofs.Fitting.{AreMade}

-- the ids and tags of new marks are spelt well
pub record Words (new : NewMark) : Type 0 where
  pub id : IsConstant (decimal new.id)
  pub next : IsConstant (decimal (suc new.id))
  pub tag : All IsByte new.objective.tag

abbrev pub AreWords : List NewMark → Type 0
AreWords [] = Unit {0}
AreWords (new ∷ rest) = Words new × AreWords rest

-- ---- labels

label_if : (scope : Scope) (P : c.Expression → Type 0) (from : (p : c.Expression) → P p → Good scope p) (form : Form) (k : ℕ) (new : NewMark) (rest : List NewMark) (b : Bool) → is_there form k new ≡ b → Words new
    → (is_there form k new ≡ true → P new.objective.predicate) → GoodMarks scope (labels form rest k) → GoodMarks scope (if b then c.a_mark (label new) (labels form rest k) else labels form rest k)
label_if scope P from form k new rest true h words made others = ((from new.objective.predicate (made h), words.id, words.tag, tt), others)
label_if scope P from form k new rest false h words made others = others

pub labels_good : (scope : Scope) (P : c.Expression → Type 0) (from : (p : c.Expression) → P p → Good scope p) (form : Form) (k : ℕ) (new : List NewMark) → AreWords new → AreMade P form new k
    → GoodMarks scope (labels form new k)
labels_good scope P from form k [] words made = tt
labels_good scope P from form k (new ∷ rest) words made = label_if scope P from form k new rest (is_there form k new) refl words.0 made.0 (labels_good scope P from form k rest words.1 made.1)

quiet_if : (P : c.Expression → Type 0) (from : (p : c.Expression) → P p → enumerators_in p ≡ []) (form : Form) (k : ℕ) (new : NewMark) (rest : List NewMark) (b : Bool) → is_there form k new ≡ b
    → (is_there form k new ≡ true → P new.objective.predicate) → enumerators_in_marks (labels form rest k) ≡ []
    → enumerators_in_marks (if b then c.a_mark (label new) (labels form rest k) else labels form rest k) ≡ []
quiet_if P from form k new rest true h made others = ap (λ ws. (ws ++ []) ++ enumerators_in_marks (labels form rest k)) (from new.objective.predicate (made h)) ∙ others
quiet_if P from form k new rest false h made others = others

pub labels_quiet : (P : c.Expression → Type 0) (from : (p : c.Expression) → P p → enumerators_in p ≡ []) (form : Form) (k : ℕ) (new : List NewMark) → AreMade P form new k → enumerators_in_marks (labels form new k) ≡ []
labels_quiet P from form k [] made = refl
labels_quiet P from form k (new ∷ rest) made = quiet_if P from form k new rest (is_there form k new) refl made.0 (labels_quiet P from form k rest made.1)

-- ---- marks in front

pub joined_some : (ms others : c.Marks) → AreSome ms → AreSome (joined ms others)
joined_some c.no_marks others some = absurd some
joined_some (c.a_mark m ms) others some = tt

pub joined_good : (scope : Scope) (ms others : c.Marks) → GoodMarks scope ms → GoodMarks scope others → GoodMarks scope (joined ms others)
joined_good scope c.no_marks others a b = b
joined_good scope (c.a_mark m ms) others a b = (a.0, joined_good scope ms others a.1 b)

pub joined_quiet : (ms others : c.Marks) → enumerators_in_marks others ≡ [] → enumerators_in_marks (joined ms others) ≡ enumerators_in_marks ms
joined_quiet c.no_marks others e = e
joined_quiet (c.a_mark m ms) others e = ap (λ ws. enumerators_in_mark m ++ ws) (joined_quiet ms others e)

pub preceded_good : (scope : Scope) (ms : c.Marks) (e : c.Expression) → GoodMarks scope ms → Good scope e → Good scope (preceded_by ms e)
preceded_good scope c.no_marks e a b = b
preceded_good scope (c.a_mark m ms) e a b = (tt, a, b)

pub preceded_quiet : (ms : c.Marks) (e : c.Expression) → enumerators_in_marks ms ≡ [] → enumerators_in (preceded_by ms e) ≡ enumerators_in e
preceded_quiet c.no_marks e h = refl
preceded_quiet (c.a_mark m ms) e h = ap (λ ws. ws ++ enumerators_in e) h

preceded_plain : (ms : c.Marks) (e : c.Expression) → is_comma e ≡ false → is_comma (preceded_by ms e) ≡ false
preceded_plain c.no_marks e h = h
preceded_plain (c.a_mark m ms) e h = refl

-- ---- `pc_decide`

decide_if : (scope : Scope) (new : NewMark) (e : c.Expression) (b : Bool) → Words new → Good scope e → Good scope (if b then c.Decide e (decimal new.id) (decimal (suc new.id)) new.objective.tag else e)
decide_if scope new e true words good = (good, words.id, words.next, words.tag)
decide_if scope new e false words good = good

pub decided_good : (scope : Scope) (new : List NewMark) (k : ℕ) (e : c.Expression) → AreWords new → Good scope e → Good scope (decided new k e)
decided_good scope [] k e words good = good
decided_good scope (new ∷ rest) k e words good = decide_if scope new (decided rest k e) (is_there around k new) words.0 (decided_good scope rest k e words.1 good)

decide_quiet : (new : NewMark) (e : c.Expression) (b : Bool) → enumerators_in (if b then c.Decide e (decimal new.id) (decimal (suc new.id)) new.objective.tag else e) ≡ enumerators_in e
decide_quiet new e true = refl
decide_quiet new e false = refl

pub decided_quiet : (new : List NewMark) (k : ℕ) (e : c.Expression) → enumerators_in (decided new k e) ≡ enumerators_in e
decided_quiet [] k e = refl
decided_quiet (new ∷ rest) k e = decide_quiet new (decided rest k e) (is_there around k new) ∙ decided_quiet rest k e

decide_plain : (new : NewMark) (e : c.Expression) (b : Bool) → is_comma e ≡ false → is_comma (if b then c.Decide e (decimal new.id) (decimal (suc new.id)) new.objective.tag else e) ≡ false
decide_plain new e true h = refl
decide_plain new e false h = h

decided_plain : (new : List NewMark) (k : ℕ) (e : c.Expression) → is_comma e ≡ false → is_comma (decided new k e) ≡ false
decided_plain [] k e h = h
decided_plain (new ∷ rest) k e h = decide_plain new (decided rest k e) (is_there around k new) (decided_plain rest k e h)

-- ---- no comma expression becomes one

within_plain : (new : List NewMark) (k : ℕ) (e : c.Expression) → is_comma e ≡ false → is_comma (within new k e) ≡ false
within_plain new k (c.Name w) h = refl
within_plain new k (c.Constant w) h = refl
within_plain new k (c.Text bytes) h = refl
within_plain new k (c.Index whole place) h = refl
within_plain new k (c.Call callee arguments) h = refl
within_plain new k (c.Member e w) h = refl
within_plain new k (c.Arrow e w) h = refl
within_plain new k (c.PostInc e) h = refl
within_plain new k (c.PostDec e) h = refl
within_plain new k (c.PreInc e) h = refl
within_plain new k (c.PreDec e) h = refl
within_plain new k (c.Unary op e) h = refl
within_plain new k (c.SizeofExpr e) h = refl
within_plain new k (c.SizeofType s d) h = refl
within_plain new k (c.Cast s d e) h = refl
within_plain new k (c.Binary op left right) h = refl
within_plain new k (c.Logical op left right) h = refl
within_plain new k (c.Conditional test left right) h = refl
within_plain new k (c.Assign op target value) h = refl
within_plain new k (c.Comma parts) h = absurd cc
within_plain new k (c.Marked marks e) h = refl
within_plain new k (c.Decide e when_true when_false tag) h = refl
within_plain new k (c.After e id tag) h = refl

pub marked_plain : (new : List NewMark) (k : ℕ) (e : c.Expression) → is_comma e ≡ false → is_comma (with_marks new k e) ≡ false
marked_plain new k e h = preceded_plain (labels in_front new k) (decided new k (within new k e)) (decided_plain new k (within new k e) (within_plain new k e h))
