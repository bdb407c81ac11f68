-- Operands in their places.
use Rattle.std.proofs.Common.{◌≡◌, ◌≤◌, ◌+◌, Bool, true, false, ltb, cond, List, [], ◌∷◌, ◌++◌, ℕ, refl, ap, sym, ◌∙◌, add-one, arith}
use Rattle.std.proofs.lemmas.Bool.{le-ltb}
use Rattle.lt_tree.specs.Tree as c
use Rattle.lt_tree.specs.Grammar as g
use Rattle.lt_tree.specs.Grammar.{Level}
use Rattle.lt_tree.specs.Canon.{Pieces, rank, tightness, tightness_of_logical, level_of, placed, in_parentheses, operand, expression}

pub not_below : (x : ℕ) → ltb x 0 ≡ false
not_below x = le-ltb x 0 (omega arith)

pub ruleset sums = (add-one)

tightest : (asked : Level) (inside : Pieces) → rank asked ≤ 17 → inside ≡ placed asked g.primary inside
tightest asked inside le = let e : ltb 17 (rank asked) ≡ false = le-ltb 17 (rank asked) le in rw e refl

-- an operand is its expression, placed
pub operand_is : (n : ℕ) (asked : Level) (e : c.Expression) → rank asked ≤ 17 → operand n asked e ≡ placed asked (level_of e) (expression n e)
unfolding operand
operand_is n asked (c.Name w) le = tightest asked _ le
operand_is n asked (c.Constant w) le = tightest asked _ le
operand_is n asked (c.Text bytes) le = tightest asked _ le
operand_is n asked (c.Decide e yes_id no_id tag) le = tightest asked _ le
operand_is n asked (c.After e id tag) le = tightest asked _ le
operand_is n asked (c.Index whole place) le = refl
operand_is n asked (c.Call callee arguments) le = refl
operand_is n asked (c.Member e w) le = refl
operand_is n asked (c.Arrow e w) le = refl
operand_is n asked (c.PostInc e) le = refl
operand_is n asked (c.PostDec e) le = refl
operand_is n asked (c.PreInc e) le = refl
operand_is n asked (c.PreDec e) le = refl
operand_is n asked (c.Unary o e) le = refl
operand_is n asked (c.SizeofExpr e) le = refl
operand_is n asked (c.SizeofType s d) le = refl
operand_is n asked (c.Cast s d e) le = refl
operand_is n asked (c.Binary o left right) le = rw (not_below (4 + tightness o)) refl
operand_is n asked (c.Logical o left right) le = rw (not_below (4 + tightness_of_logical o)) refl
operand_is n asked (c.Conditional test left right) le = refl
operand_is n asked (c.Assign o target value) le = refl
operand_is n asked (c.Comma parts) le = refl
operand_is n asked (c.Marked marks e) le = refl

pub operand_inside : (n : ℕ) (asked own : Level) (e : c.Expression) → rank asked ≤ 17 → own ≡ level_of e → ltb (rank own) (rank asked) ≡ true → operand n asked e ≡ in_parentheses (expression n e)
operand_inside n asked own e le is below =
    operand_is n asked e le ∙ ap (λ (l : Level). placed asked l (expression n e)) (sym is) ∙ ap (λ (b : Bool). cond b (in_parentheses (expression n e)) (expression n e)) below

pub operand_bare : (n : ℕ) (asked own : Level) (e : c.Expression) → rank asked ≤ 17 → own ≡ level_of e → ltb (rank own) (rank asked) ≡ false → operand n asked e ≡ expression n e
operand_bare n asked own e le is below =
    operand_is n asked e le ∙ ap (λ (l : Level). placed asked l (expression n e)) (sym is) ∙ ap (λ (b : Bool). cond b (in_parentheses (expression n e)) (expression n e)) below
