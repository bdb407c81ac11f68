-- Operators at the front of the symbols, and how tightly they bind.
use Rattle.std.proofs.Common.{◌≡◌, ℕ, zero, suc, ◌+◌, ◌-◌, ◌<◌, ◌≤◌, add-zero, add-suc, Bool, true, false, leb, List, [], ◌∷◌, drop, Option, Some, None, refl, subst, arith, inl, inr}
use Rattle.std.proofs.lemmas.Bool.{le-leb, leb-true, cases_lt}
use Rattle.lt_tree.specs.declared.expression.UnaryOp.{UnaryOp}
use Rattle.lt_model.specs.declared.operator.Op.{Op}
use Rattle.lt_tree.specs.declared.terminal.Terminal.{Terminal}
use Rattle.lt_tree.specs.declared.terminal.Terminal.TheVariants as t
use Rattle.lt_tree.specs.Tree as c
use Rattle.lt_tree.specs.Symbols.{Symbol, name, constant, literal, sign, start_of}
use Rattle.lt_tree.specs.Scope.{Scope}
use Rattle.lt_tree.specs.Operators.{Infix, operation, infix_of, prefix_of, assignment_of}
use Rattle.lt_tree.specs.Grammar as g
use Rattle.lt_tree.specs.Ahead.{terminal_at}
use Rattle.lt_expr.specs.Front.{if_tight, operator_at, assignment_behind}
use Rattle.lt_expr.proofs.SoundSteps.{Yields, chosen, nothing, given}

-- the levels of the operators end at 9
pub level_small : (k : Terminal) → Yields (infix_of k) (λ o. o.1 ≤ 9)
level_small t.OrOr = given (omega arith)
level_small t.AndAnd = given (omega arith)
level_small t.Bar = given (omega arith)
level_small t.Caret = given (omega arith)
level_small t.Ampersand = given (omega arith)
level_small t.EqualEqual = given (omega arith)
level_small t.NotEqual = given (omega arith)
level_small t.Less = given (omega arith)
level_small t.Greater = given (omega arith)
level_small t.LessEqual = given (omega arith)
level_small t.GreaterEqual = given (omega arith)
level_small t.ShiftLeft = given (omega arith)
level_small t.ShiftRight = given (omega arith)
level_small t.Plus = given (omega arith)
level_small t.Minus = given (omega arith)
level_small t.Star = given (omega arith)
level_small t.Slash = given (omega arith)
level_small t.Percent = given (omega arith)
level_small k = nothing

-- an operator that is tight enough
tight_is : (least : ℕ) (x : Option (Infix × ℕ)) → Yields (if_tight least x) (λ o. (x ≡ Some o) × (least ≤ o.1))
tight_is least None = nothing
tight_is least (Some o) = chosen (leb least o.1) (λ e. given (refl, leb-true least o.1 e)) (λ e. nothing)

pub operator_is : (least : ℕ) (ts : List Symbol) → Yields (operator_at least ts) (λ o. (infix_of (terminal_at ts) ≡ Some o) × (least ≤ o.1))
unfolding operator_at
operator_is least ts = tight_is least (infix_of (terminal_at ts))

-- none is tighter than the tightest
pub operator_loose : (least : ℕ) (ts : List Symbol) → 10 ≤ least → operator_at least ts ≡ None
operator_loose least ts big = step (operator_at least ts) refl
  where
    step : (o : Option (Infix × ℕ)) → operator_at least ts ≡ o → o ≡ None
    step None e = refl
    step (Some o) e =
        let i = (operator_is least ts).holds o e in
        let small = (level_small (terminal_at ts)).holds o i.0 in
        let le = i.1 in
        absurd (omega arith)

-- an operator that one level takes, and the next tighter ones don't
pub operator_level : (least k : ℕ) (ts : List Symbol) (o : Infix × ℕ) → operator_at least ts ≡ Some o → operator_at (suc k) ts ≡ None
    → (infix_of (terminal_at ts) ≡ Some o) × (least ≤ o.1) × (o.1 ≤ k)
unfolding operator_at
operator_level least k ts o e none =
    let i = (operator_is least ts).holds o e in
    elim (cases_lt k o.1) [
      | inl lt ↦ let s = tight o (infix_of (terminal_at ts)) i.0 lt in absurd cc
      | inr le ↦ (i.0, i.1, le)
    ]
  where
    tight : (o : Infix × ℕ) (x : Option (Infix × ℕ)) → x ≡ Some o → k < o.1 → if_tight (suc k) x ≡ Some o
    tight o x e lt = rw (e, le-leb (suc k) o.1 (omega arith)) refl

-- ---- an expression of a level is one of each looser level

looser_by : (n j : ℕ) {scope : Scope} {ts rest : List Symbol} {e : c.Expression} {spots more : List ℕ}
    → g.IsExpression scope (g.binary (j + n)) ts e rest spots more → g.IsExpression scope (g.binary j) ts e rest spots more
looser_by zero j {scope} {ts} {rest} {e} {spots} {more} d = subst (λ (i : ℕ). g.IsExpression scope (g.binary i) ts e rest spots more) (add-zero j) d
looser_by (suc n) j {scope} {ts} {rest} {e} {spots} {more} d =
    looser_by n j (g.of_tighter (subst (λ (i : ℕ). g.IsExpression scope (g.binary i) ts e rest spots more) (add-suc j n) d))

pub looser : (k j : ℕ) {scope : Scope} {ts rest : List Symbol} {e : c.Expression} {spots more : List ℕ}
    → j ≤ k → g.IsExpression scope (g.binary k) ts e rest spots more → g.IsExpression scope (g.binary j) ts e rest spots more
looser k j {scope} {ts} {rest} {e} {spots} {more} le d =
    let n : k ≡ j + (k - j) = omega arith in
    looser_by (k - j) j (subst (λ (i : ℕ). g.IsExpression scope (g.binary i) ts e rest spots more) n d)

-- ---- the rules, by the operator that stands there

pub prefix_rule : {scope : Scope} (ts : List Symbol) {op : UnaryOp} {rest : List Symbol} {e : c.Expression} {spots more : List ℕ}
    → prefix_of (terminal_at ts) ≡ Some op → g.IsExpression scope g.cast (drop 1 ts) e rest spots more
    → g.IsExpression scope g.unary ts (c.Unary op e) rest (start_of ts ∷ spots) more
prefix_rule [] is d = absurd cc
prefix_rule (name w at ∷ ts) is d = absurd cc
prefix_rule (constant w at ∷ ts) is d = absurd cc
prefix_rule (literal w at ∷ ts) is d = absurd cc
prefix_rule (sign k at ∷ ts) is d = g.prefixed is d

pub operates_rule : {scope : Scope} {ts : List Symbol} (us : List Symbol) {n : ℕ} {op : Infix} {rest : List Symbol} {left right : c.Expression} {spots middle more : List ℕ}
    → infix_of (terminal_at us) ≡ Some (op, n) → g.IsExpression scope (g.binary n) ts left us spots middle
    → g.IsExpression scope (g.binary (suc n)) (drop 1 us) right rest middle more
    → g.IsExpression scope (g.binary n) ts (operation op left right) rest (start_of ts ∷ spots) more
operates_rule [] is d e = absurd cc
operates_rule (name w at ∷ us) is d e = absurd cc
operates_rule (constant w at ∷ us) is d e = absurd cc
operates_rule (literal w at ∷ us) is d e = absurd cc
operates_rule (sign k at ∷ us) is d e = g.operates d is e

pub assigns_rule : {scope : Scope} {ts : List Symbol} (us : List Symbol) {op : Option Op} {rest : List Symbol} {target value : c.Expression} {spots middle more : List ℕ}
    → assignment_of (terminal_at us) ≡ Some op → g.IsExpression scope g.unary ts target us spots middle
    → g.IsExpression scope g.assignment (drop 1 us) value rest middle more
    → g.IsExpression scope g.assignment ts (c.Assign op target value) rest (start_of ts ∷ spots) more
assigns_rule [] is d e = absurd cc
assigns_rule (name w at ∷ us) is d e = absurd cc
assigns_rule (constant w at ∷ us) is d e = absurd cc
assigns_rule (literal w at ∷ us) is d e = absurd cc
assigns_rule (sign k at ∷ us) is d e = g.assigns d is e

-- an assignment is looked for where no cast stands in front
pub assignment_is : (cast : Bool) (ts : List Symbol) → Yields (assignment_behind cast ts) (λ op. (cast ≡ false) × (assignment_of (terminal_at ts) ≡ Some op))
assignment_is true ts = nothing
assignment_is false ts = record { holds = λ op e. (refl, e) }
