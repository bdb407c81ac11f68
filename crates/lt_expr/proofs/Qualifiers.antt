-- Qualifiers that a loop reads.
use Rattle.std.proofs.Common.{◌≡◌, ℕ, ◌<◌, Bool, true, false, ◌||◌, cond, List, [], ◌∷◌, length, drop, refl, sym, ap, ◌∙◌, arith}
use Rattle.lt_tree.specs.Tree as c
use Rattle.lt_tree.specs.declared.terminal.Terminal.TheVariants as t
use Rattle.lt_tree.specs.Symbols.{Symbol}
use Rattle.lt_tree.specs.Ahead.{sees, same_terminal}
use Rattle.lt_expr.specs.Front.{qualifiers}
use Rattle.lt_expr.specs.Fronts.{qualifiers_before}

abbrev pub Read : Type 0
Read = c.Qualifiers × List Symbol

-- those that were read, with what is read still
abbrev pub before : c.Qualifiers → Read → Read
before front read = (qualifiers_before front read.0, read.1)

abbrev both : Bool → Bool → c.Qualifiers
both constant volatile = record { constant = constant; volatile = volatile }

abbrev none : c.Qualifiers
none = record { constant = false; volatile = false }

-- the front of symbols decides
abbrev turn : Bool → Bool → Read → List Symbol → Read
turn constant volatile q ts = cond constant (record q.0 { constant = true }, q.1) (cond volatile (record q.0 { volatile = true }, q.1) (none, ts))

or_true : (a : Bool) → a || true ≡ true
or_true true = refl
or_true false = refl

or_false : (a : Bool) → a || false ≡ a
or_false true = refl
or_false false = refl

const_turned : (constant volatile : Bool) (front : c.Qualifiers) (q : Read) (ts : List Symbol) → constant ≡ true → before (record front { constant = true }) q ≡ before front (turn constant volatile q ts)
const_turned true volatile front q ts e = ap (λ b. (both b (front.volatile || q.0.volatile), q.1)) (sym (or_true front.constant))
const_turned false volatile front q ts e = absurd cc

volatile_turned : (constant volatile : Bool) (front : c.Qualifiers) (q : Read) (ts : List Symbol) → constant ≡ false → volatile ≡ true → before (record front { volatile = true }) q ≡ before front (turn constant volatile q ts)
volatile_turned false true front q ts e d = ap (λ b. (both (front.constant || q.0.constant) b, q.1)) (sym (or_true front.volatile))
volatile_turned true volatile front q ts e d = absurd cc
volatile_turned false false front q ts e d = absurd cc

none_turned : (constant volatile : Bool) (front : c.Qualifiers) (q : Read) (ts : List Symbol) → constant ≡ false → volatile ≡ false → before front (turn constant volatile q ts) ≡ (front, ts)
none_turned false false front q ts e d =
    ap (λ b. (both b (front.volatile || false), ts)) (or_false front.constant)
    ∙ ap (λ b. (both front.constant b, ts)) (or_false front.volatile)
none_turned true volatile front q ts e d = absurd cc
none_turned false true front q ts e d = absurd cc

pub at_const : (ts : List Symbol) (front : c.Qualifiers) → sees t.Const ts ≡ true → before (record front { constant = true }) (qualifiers (drop 1 ts)) ≡ before front (qualifiers ts)
unfolding same_terminal
at_const [] front e = absurd cc
at_const (s ∷ ts) front e = const_turned (sees t.Const (s ∷ ts)) (sees t.Volatile (s ∷ ts)) front (qualifiers ts) (s ∷ ts) e

pub at_volatile : (ts : List Symbol) (front : c.Qualifiers) → sees t.Const ts ≡ false → sees t.Volatile ts ≡ true → before (record front { volatile = true }) (qualifiers (drop 1 ts)) ≡ before front (qualifiers ts)
unfolding same_terminal
at_volatile [] front e d = absurd cc
at_volatile (s ∷ ts) front e d = volatile_turned (sees t.Const (s ∷ ts)) (sees t.Volatile (s ∷ ts)) front (qualifiers ts) (s ∷ ts) e d

pub at_none : (ts : List Symbol) (front : c.Qualifiers) → sees t.Const ts ≡ false → sees t.Volatile ts ≡ false → before front (qualifiers ts) ≡ (front, ts)
at_none [] front e d = none_turned false false front (none, []) [] refl refl
at_none (s ∷ ts) front e d = none_turned (sees t.Const (s ∷ ts)) (sees t.Volatile (s ∷ ts)) front (qualifiers ts) (s ∷ ts) e d

-- a word that is seen is there
pub const_is_there : (ts : List Symbol) → sees t.Const ts ≡ true → length (drop 1 ts) < length ts
unfolding same_terminal
const_is_there [] e = absurd cc
const_is_there (s ∷ ts) e = omega arith

pub volatile_is_there : (ts : List Symbol) → sees t.Volatile ts ≡ true → length (drop 1 ts) < length ts
unfolding same_terminal
volatile_is_there [] e = absurd cc
volatile_is_there (s ∷ ts) e = omega arith
