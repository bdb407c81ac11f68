-- What stands at a level stands at each looser one, and in parentheses at any.
use Rattle.std.proofs.Common.{◌≡◌, ◌≤◌, ◌+◌, ◌-◌, ℕ, zero, suc, Bool, true, false, ltb, cond, List, [], ◌∷◌, refl, subst, arith}
use Rattle.std.proofs.lemmas.Bool.{ltb-false}
use Rattle.lt_tree.specs.declared.terminal.Terminal.TheVariants as k
use Rattle.lt_tree.specs.Tree as c
use Rattle.lt_tree.specs.Symbols as s
use Rattle.lt_tree.specs.Symbols.{Symbol}
use Rattle.lt_tree.specs.Scope.{Scope}
use Rattle.lt_tree.specs.Grammar as g
use Rattle.lt_tree.specs.Grammar.{Level, IsExpression}
use Rattle.lt_tree.specs.Canon.{Pieces, rank, placed, in_parentheses, sign}
use Rattle.lt_print.proofs.ReadPieces.{Reads, done, a_sign, parted}

-- a binary level is one of ten
abbrev pub IsOne : Level → Type 0
IsOne (g.binary n) = n ≤ 9
IsOne _ = Unit {0}

lower : (j n : ℕ) {scope : Scope} {ts rest : List Symbol} {e : c.Expression} {spots more : List ℕ} → IsExpression scope (g.binary (j + n)) ts e rest spots more → IsExpression scope (g.binary n) ts e rest spots more
lower zero n {scope} {ts} {rest} {e} {spots} {more} d = subst (λ (m : ℕ). IsExpression scope (g.binary m) ts e rest spots more) (omega arith) d
lower (suc j) n {scope} {ts} {rest} {e} {spots} {more} d = lower j n (g.of_tighter (subst (λ (m : ℕ). IsExpression scope (g.binary m) ts e rest spots more) (omega arith) d))

from_conditional : (asked : Level) → rank asked ≤ 3 → {scope : Scope} {ts rest : List Symbol} {e : c.Expression} {spots more : List ℕ} → IsExpression scope g.conditional ts e rest spots more → IsExpression scope asked ts e rest spots more
from_conditional g.comma le d = g.of_marked (g.of_assignment (g.of_conditional d))
from_conditional g.marked le d = g.of_assignment (g.of_conditional d)
from_conditional g.assignment le d = g.of_conditional d
from_conditional g.conditional le d = d
from_conditional (g.binary n) le d = absurd (omega (arith, le))
from_conditional g.cast le d = absurd (omega (arith, le))
from_conditional g.unary le d = absurd (omega (arith, le))
from_conditional g.postfix le d = absurd (omega (arith, le))
from_conditional g.primary le d = absurd (omega (arith, le))

down : (m n : ℕ) → n ≤ m → {scope : Scope} {ts rest : List Symbol} {e : c.Expression} {spots more : List ℕ} → IsExpression scope (g.binary m) ts e rest spots more → IsExpression scope (g.binary n) ts e rest spots more
down m n le {scope} {ts} {rest} {e} {spots} {more} d = lower (m - n) n (subst (λ (j : ℕ). IsExpression scope (g.binary j) ts e rest spots more) (omega (arith, le)) d)

from_binary : (m : ℕ) (asked : Level) → m ≤ 9 → rank asked ≤ 4 + m → {scope : Scope} {ts rest : List Symbol} {e : c.Expression} {spots more : List ℕ} → IsExpression scope (g.binary m) ts e rest spots more → IsExpression scope asked ts e rest spots more
from_binary m (g.binary n) one le d = down m n (omega (arith, le)) d
from_binary m g.comma one le d = from_conditional g.comma (omega arith) (g.of_binary (down m 0 (omega arith) d))
from_binary m g.marked one le d = from_conditional g.marked (omega arith) (g.of_binary (down m 0 (omega arith) d))
from_binary m g.assignment one le d = from_conditional g.assignment (omega arith) (g.of_binary (down m 0 (omega arith) d))
from_binary m g.conditional one le d = g.of_binary (down m 0 (omega arith) d)
from_binary m g.cast one le d = absurd (omega (arith, le, one))
from_binary m g.unary one le d = absurd (omega (arith, le, one))
from_binary m g.postfix one le d = absurd (omega (arith, le, one))
from_binary m g.primary one le d = absurd (omega (arith, le, one))

from_cast : (asked : Level) → rank asked ≤ 14 → {scope : Scope} {ts rest : List Symbol} {e : c.Expression} {spots more : List ℕ} → IsExpression scope g.cast ts e rest spots more → IsExpression scope asked ts e rest spots more
from_cast (g.binary n) le d = g.of_cast d
from_cast g.cast le d = d
from_cast g.comma le d = from_conditional g.comma (omega arith) (g.of_binary (g.of_cast d))
from_cast g.marked le d = from_conditional g.marked (omega arith) (g.of_binary (g.of_cast d))
from_cast g.assignment le d = from_conditional g.assignment (omega arith) (g.of_binary (g.of_cast d))
from_cast g.conditional le d = g.of_binary (g.of_cast d)
from_cast g.unary le d = absurd (omega (arith, le))
from_cast g.postfix le d = absurd (omega (arith, le))
from_cast g.primary le d = absurd (omega (arith, le))

from_unary : (asked : Level) → rank asked ≤ 15 → {scope : Scope} {ts rest : List Symbol} {e : c.Expression} {spots more : List ℕ} → IsExpression scope g.unary ts e rest spots more → IsExpression scope asked ts e rest spots more
from_unary (g.binary n) le d = g.of_cast (g.of_unary d)
from_unary g.cast le d = g.of_unary d
from_unary g.comma le d = from_cast g.comma (omega arith) (g.of_unary d)
from_unary g.marked le d = from_cast g.marked (omega arith) (g.of_unary d)
from_unary g.assignment le d = from_cast g.assignment (omega arith) (g.of_unary d)
from_unary g.conditional le d = from_cast g.conditional (omega arith) (g.of_unary d)
from_unary g.unary le d = d
from_unary g.postfix le d = absurd (omega (arith, le))
from_unary g.primary le d = absurd (omega (arith, le))

from_postfix : (asked : Level) → rank asked ≤ 16 → {scope : Scope} {ts rest : List Symbol} {e : c.Expression} {spots more : List ℕ} → IsExpression scope g.postfix ts e rest spots more → IsExpression scope asked ts e rest spots more
from_postfix (g.binary n) le d = g.of_cast (g.of_unary (g.of_postfix d))
from_postfix g.cast le d = g.of_unary (g.of_postfix d)
from_postfix g.comma le d = from_unary g.comma (omega arith) (g.of_postfix d)
from_postfix g.marked le d = from_unary g.marked (omega arith) (g.of_postfix d)
from_postfix g.assignment le d = from_unary g.assignment (omega arith) (g.of_postfix d)
from_postfix g.conditional le d = from_unary g.conditional (omega arith) (g.of_postfix d)
from_postfix g.unary le d = g.of_postfix d
from_postfix g.postfix le d = d
from_postfix g.primary le d = absurd (omega (arith, le))

pub from_primary : (asked : Level) {scope : Scope} {ts rest : List Symbol} {e : c.Expression} {spots more : List ℕ} → IsExpression scope g.primary ts e rest spots more → IsExpression scope asked ts e rest spots more
from_primary (g.binary n) d = g.of_cast (g.of_unary (g.of_postfix (g.of_primary d)))
from_primary g.cast d = g.of_unary (g.of_postfix (g.of_primary d))
from_primary g.comma d = from_postfix g.comma (omega arith) (g.of_primary d)
from_primary g.marked d = from_postfix g.marked (omega arith) (g.of_primary d)
from_primary g.assignment d = from_postfix g.assignment (omega arith) (g.of_primary d)
from_primary g.conditional d = from_postfix g.conditional (omega arith) (g.of_primary d)
from_primary g.unary d = g.of_postfix (g.of_primary d)
from_primary g.postfix d = g.of_primary d
from_primary g.primary d = d

from_assignment : (asked : Level) → rank asked ≤ 2 → {scope : Scope} {ts rest : List Symbol} {e : c.Expression} {spots more : List ℕ} → IsExpression scope g.assignment ts e rest spots more → IsExpression scope asked ts e rest spots more
from_assignment g.comma le d = g.of_marked (g.of_assignment d)
from_assignment g.marked le d = g.of_assignment d
from_assignment g.assignment le d = d
from_assignment g.conditional le d = absurd (omega (arith, le))
from_assignment (g.binary n) le d = absurd (omega (arith, le))
from_assignment g.cast le d = absurd (omega (arith, le))
from_assignment g.unary le d = absurd (omega (arith, le))
from_assignment g.postfix le d = absurd (omega (arith, le))
from_assignment g.primary le d = absurd (omega (arith, le))

from_marked : (asked : Level) → rank asked ≤ 1 → {scope : Scope} {ts rest : List Symbol} {e : c.Expression} {spots more : List ℕ} → IsExpression scope g.marked ts e rest spots more → IsExpression scope asked ts e rest spots more
from_marked g.comma le d = g.of_marked d
from_marked g.marked le d = d
from_marked g.assignment le d = absurd (omega (arith, le))
from_marked g.conditional le d = absurd (omega (arith, le))
from_marked (g.binary n) le d = absurd (omega (arith, le))
from_marked g.cast le d = absurd (omega (arith, le))
from_marked g.unary le d = absurd (omega (arith, le))
from_marked g.postfix le d = absurd (omega (arith, le))
from_marked g.primary le d = absurd (omega (arith, le))

from_comma : (asked : Level) → rank asked ≤ 0 → {scope : Scope} {ts rest : List Symbol} {e : c.Expression} {spots more : List ℕ} → IsExpression scope g.comma ts e rest spots more → IsExpression scope asked ts e rest spots more
from_comma g.comma le d = d
from_comma g.marked le d = absurd (omega (arith, le))
from_comma g.assignment le d = absurd (omega (arith, le))
from_comma g.conditional le d = absurd (omega (arith, le))
from_comma (g.binary n) le d = absurd (omega (arith, le))
from_comma g.cast le d = absurd (omega (arith, le))
from_comma g.unary le d = absurd (omega (arith, le))
from_comma g.postfix le d = absurd (omega (arith, le))
from_comma g.primary le d = absurd (omega (arith, le))

pub loosen : (own asked : Level) → IsOne own → rank asked ≤ rank own → {scope : Scope} {ts rest : List Symbol} {e : c.Expression} {spots more : List ℕ} → IsExpression scope own ts e rest spots more → IsExpression scope asked ts e rest spots more
loosen g.comma asked one le d = from_comma asked le d
loosen g.marked asked one le d = from_marked asked le d
loosen g.assignment asked one le d = from_assignment asked le d
loosen g.conditional asked one le d = from_conditional asked le d
loosen (g.binary m) asked one le d = from_binary m asked one le d
loosen g.cast asked one le d = from_cast asked le d
loosen g.unary asked one le d = from_unary asked le d
loosen g.postfix asked one le d = from_postfix asked le d
loosen g.primary asked one le d = from_primary asked d

-- the words of these pieces derive the expression at this level
abbrev pub DerivesAt : Scope → Level → Pieces → c.Expression → Type 0
DerivesAt scope level ps e = (ts rest : List Symbol) (more : List ℕ) → Reads ps ts rest → (spots : List ℕ) × IsExpression scope level ts e rest spots more

-- in parentheses an expression stands at any level
enclosed : (scope : Scope) (own asked : Level) (e : c.Expression) (inside : Pieces) → IsOne own → DerivesAt scope own inside e → DerivesAt scope asked (in_parentheses inside) e
enclosed scope own asked e inside one d ts rest more (a_sign r) = let q = parted inside (sign k.CloseParen ∷ []) r in closed q.between q.front q.back
  where
    closed : {at : ℕ} {us : List Symbol} (between : List Symbol) → Reads inside us between → Reads (sign k.CloseParen ∷ []) between rest → (spots : List ℕ) × IsExpression scope asked (s.sign k.OpenParen at ∷ us) e rest spots more
    closed between front (a_sign done) = let got = d _ _ more front in (got.0, from_primary asked (g.parentheses (loosen own g.comma one (omega arith) got.1)))

-- an operand stands where it is placed
pub placed_again : (scope : Scope) (own asked : Level) (e : c.Expression) (inside : Pieces) → IsOne own → DerivesAt scope own inside e → DerivesAt scope asked (placed asked own inside) e
placed_again scope own asked e inside one d = step (ltb (rank own) (rank asked)) refl
  where
    step : (b : Bool) → ltb (rank own) (rank asked) ≡ b → DerivesAt scope asked (cond b (in_parentheses inside) inside) e
    step true is = enclosed scope own asked e inside one d
    step false is = λ ts rest more r. (let got = d ts rest more r in (got.0, loosen own asked one (ltb-false (rank own) (rank asked) is) got.1))
