-- What the terminal at the front says of what goes on.
use Rattle.std.proofs.Common.{◌≡◌, ℕ, ◌+◌, ◌<◌, ◌≤◌, Bool, true, false, List, [], ◌∷◌, Option, Some, None, refl, sym, ap, subst, ◌∙◌, arith, rules}
use Rattle.std.proofs.lemmas.Bool.{false_from_ne_true, le-leb, lt-leb}
use denote.Enum.Bare.{same_true, true_same}
use Rattle.lt_model.specs.declared.operator.Op.{Op}
use Rattle.lt_tree.specs.contracts.terminal.Terminal.{the_type}
use Rattle.lt_tree.specs.declared.expression.UnaryOp.{UnaryOp}
use Rattle.lt_tree.specs.declared.specifier.Storage.{Storage}
use Rattle.lt_tree.specs.declared.specifier.TypeWord.{TypeWord}
use Rattle.lt_tree.specs.declared.terminal.Terminal.{Terminal}
use Rattle.lt_tree.specs.declared.terminal.Terminal.TheVariants as t
use Rattle.lt_tree.specs.Tree as c
use Rattle.lt_tree.specs.Symbols.{Symbol, name, constant, literal, sign}
use Rattle.lt_tree.specs.Operators.{Infix, infix_of, prefix_of, assignment_of, storage_of, type_word_of}
use Rattle.lt_tree.specs.Ahead.{same_terminal, terminal_at, sees, is_specifier_word, goes_on, extends}
use Rattle.lt_expr.specs.Front.{if_tight}
use Rattle.lt_expr.specs.Specifier.{Specifier, storage_class, of_type, word_specifier}

-- ---- how tightly what follows goes on an expression: at 0 not at all

-- an assignment 2, an infix operator from 4 to 13
abbrev weigh : Option (Option Op) → Option (Infix × ℕ) → ℕ
weigh (Some op) o = 2
weigh None (Some o) = 4 + o.1
weigh None None = 0

abbrev pub weight : Terminal → ℕ
weight t.Comma = 1
weight t.Question = 3
weight t.OpenIndex = 100
weight t.OpenParen = 100
weight t.Dot = 100
weight t.Arrow = 100
weight t.Increment = 100
weight t.Decrement = 100
weight k = weigh (assignment_of k) (infix_of k)

abbrev pub follows : List Symbol → ℕ
follows (literal w at ∷ ts) = 101
follows ts = weight (terminal_at ts)

-- terminals that the test takes for the same are the same
pub same_is : (j k : Terminal) → same_terminal j k ≡ true → j ≡ k
unfolding same_terminal
same_is j k e = same_true the_type (search rules) j k e

pub is_same : (k : Terminal) → same_terminal k k ≡ true
unfolding same_terminal
is_same k = true_same the_type k k refl

-- a terminal of another weight isn't the one that stands there
pub unseen : (k : Terminal) (ts : List Symbol) → (weight (terminal_at ts) ≡ weight k → ⊥) → sees k ts ≡ false
unseen k ts other = false_from_ne_true (sees k ts) (λ e. other (ap weight (same_is (terminal_at ts) k e)))

-- but for a literal, what stands there weighs what its terminal does
pub at_front : (ts : List Symbol) → follows ts ≤ 100 → weight (terminal_at ts) ≡ follows ts
at_front [] small = refl
at_front (name w at ∷ ts) small = refl
at_front (constant w at ∷ ts) small = refl
at_front (literal w at ∷ ts) small = absurd (omega arith)
at_front (sign k at ∷ ts) small = refl

-- a terminal of another weight doesn't follow
pub not_seen : (k : Terminal) (ts : List Symbol) → follows ts ≤ 100 → (follows ts ≡ weight k → ⊥) → sees k ts ≡ false
not_seen k ts small other = unseen k ts (λ e. other (sym (at_front ts small) ∙ e))

-- ---- infix operators

abbrev Weighs : Option (Infix × ℕ) → ℕ → Type 0
Weighs None w = Unit {0}
Weighs (Some o) w = (w ≡ 4 + o.1) × (o.1 ≤ 9)

infix_weighs : (k : Terminal) → Weighs (infix_of k) (weight k)
infix_weighs t.OrOr = (refl, omega arith)
infix_weighs t.AndAnd = (refl, omega arith)
infix_weighs t.Bar = (refl, omega arith)
infix_weighs t.Caret = (refl, omega arith)
infix_weighs t.Ampersand = (refl, omega arith)
infix_weighs t.EqualEqual = (refl, omega arith)
infix_weighs t.NotEqual = (refl, omega arith)
infix_weighs t.Less = (refl, omega arith)
infix_weighs t.Greater = (refl, omega arith)
infix_weighs t.LessEqual = (refl, omega arith)
infix_weighs t.GreaterEqual = (refl, omega arith)
infix_weighs t.ShiftLeft = (refl, omega arith)
infix_weighs t.ShiftRight = (refl, omega arith)
infix_weighs t.Plus = (refl, omega arith)
infix_weighs t.Minus = (refl, omega arith)
infix_weighs t.Star = (refl, omega arith)
infix_weighs t.Slash = (refl, omega arith)
infix_weighs t.Percent = (refl, omega arith)
infix_weighs k = tt

-- the weight of an infix operator is 4 more than its level
pub infix_weight : (k : Terminal) (o : Infix × ℕ) → infix_of k ≡ Some o → (weight k ≡ 4 + o.1) × (o.1 ≤ 9)
infix_weight k o e = subst (λ (x : Option (Infix × ℕ)). Weighs x (weight k)) e (infix_weighs k)

-- an operator that binds tightly enough is taken
pub tight_some : (least : ℕ) (o : Infix × ℕ) (x : Option (Infix × ℕ)) → x ≡ Some o → least ≤ o.1 → if_tight least x ≡ Some o
tight_some least o x e le = rw (e, le-leb least o.1 le) refl

-- what weighs less than an operator of this level is none
pub tight_none : (least : ℕ) (k : Terminal) → weight k ≤ 13 → weight k < 4 + least → if_tight least (infix_of k) ≡ None
tight_none least k small below = step (infix_of k) refl
  where
    step : (x : Option (Infix × ℕ)) → infix_of k ≡ x → if_tight least x ≡ None
    step None e = refl
    step (Some o) e = let w = infix_weight k o e in let lt : o.1 < least = omega (arith, w.0) in rw (lt-leb least o.1 lt) refl

-- ---- assignments

abbrev Assigns : Option (Option Op) → ℕ → Type 0
Assigns None w = Unit {0}
Assigns (Some op) w = w ≡ 2

assignment_weighs : (k : Terminal) → Assigns (assignment_of k) (weight k)
assignment_weighs t.Equal = refl
assignment_weighs t.StarEqual = refl
assignment_weighs t.SlashEqual = refl
assignment_weighs t.PercentEqual = refl
assignment_weighs t.PlusEqual = refl
assignment_weighs t.MinusEqual = refl
assignment_weighs t.ShiftLeftEqual = refl
assignment_weighs t.ShiftRightEqual = refl
assignment_weighs t.AmpersandEqual = refl
assignment_weighs t.CaretEqual = refl
assignment_weighs t.BarEqual = refl
assignment_weighs k = tt

pub assignment_weight : (k : Terminal) (op : Option Op) → assignment_of k ≡ Some op → weight k ≡ 2
assignment_weight k op e = subst (λ (x : Option (Option Op)). Assigns x (weight k)) e (assignment_weighs k)

-- what weighs other than 2 is no assignment
pub no_assignment : (ts : List Symbol) → follows ts ≤ 100 → (follows ts ≡ 2 → ⊥) → assignment_of (terminal_at ts) ≡ None
no_assignment ts small other = step (assignment_of (terminal_at ts)) refl
  where
    step : (x : Option (Option Op)) → assignment_of (terminal_at ts) ≡ x → assignment_of (terminal_at ts) ≡ None
    step None e = e
    step (Some op) e = absurd (other (sym (at_front ts small) ∙ assignment_weight (terminal_at ts) op e))

-- ---- prefix operators

-- a prefix operator is none of these terminals
pub record IsPrefix (k : Terminal) : Type 0 where
  pub no_increment : same_terminal k t.Increment ≡ false
  pub no_decrement : same_terminal k t.Decrement ≡ false
  pub no_sizeof : same_terminal k t.Sizeof ≡ false
  pub no_paren : same_terminal k t.OpenParen ≡ false
  pub no_end : same_terminal k t.CloseParen ≡ false
  pub no_close : same_terminal k t.CloseIndex ≡ false
  pub no_label : same_terminal k t.Label ≡ false
  pub no_binding : same_terminal k t.LabelBind ≡ false
  pub no_type : is_specifier_word k ≡ false

abbrev Prefixes : Option UnaryOp → Terminal → Type 0
Prefixes None k = Unit {0}
Prefixes (Some op) k = IsPrefix k

prefixes : (k : Terminal) → Prefixes (prefix_of k) k
unfolding same_terminal
prefixes t.Ampersand = record { no_increment = refl; no_decrement = refl; no_sizeof = refl; no_paren = refl; no_end = refl; no_close = refl; no_label = refl; no_binding = refl; no_type = refl }
prefixes t.Star = record { no_increment = refl; no_decrement = refl; no_sizeof = refl; no_paren = refl; no_end = refl; no_close = refl; no_label = refl; no_binding = refl; no_type = refl }
prefixes t.Plus = record { no_increment = refl; no_decrement = refl; no_sizeof = refl; no_paren = refl; no_end = refl; no_close = refl; no_label = refl; no_binding = refl; no_type = refl }
prefixes t.Minus = record { no_increment = refl; no_decrement = refl; no_sizeof = refl; no_paren = refl; no_end = refl; no_close = refl; no_label = refl; no_binding = refl; no_type = refl }
prefixes t.Tilde = record { no_increment = refl; no_decrement = refl; no_sizeof = refl; no_paren = refl; no_end = refl; no_close = refl; no_label = refl; no_binding = refl; no_type = refl }
prefixes t.Exclamation = record { no_increment = refl; no_decrement = refl; no_sizeof = refl; no_paren = refl; no_end = refl; no_close = refl; no_label = refl; no_binding = refl; no_type = refl }
prefixes k = tt

pub prefix_is : (k : Terminal) (op : UnaryOp) → prefix_of k ≡ Some op → IsPrefix k
prefix_is k op e = subst (λ (x : Option UnaryOp). Prefixes x k) e (prefixes k)

-- ---- the words of specifiers

-- the terminal is this specifier, and no struct or enum
pub record IsWord (k : Terminal) (s : Specifier) : Type 0 where
  pub no_struct : same_terminal k t.Struct ≡ false
  pub no_enum : same_terminal k t.Enum ≡ false
  pub begins : is_specifier_word k ≡ true
  pub reads : word_specifier k ≡ Some s

abbrev Storages : Option Storage → Terminal → Type 0
Storages None k = Unit {0}
Storages (Some class) k = IsWord k (storage_class class)

storages : (k : Terminal) → Storages (storage_of k) k
unfolding same_terminal
storages t.Typedef = record { no_struct = refl; no_enum = refl; begins = refl; reads = refl }
storages t.Extern = record { no_struct = refl; no_enum = refl; begins = refl; reads = refl }
storages t.Static = record { no_struct = refl; no_enum = refl; begins = refl; reads = refl }
storages t.Auto = record { no_struct = refl; no_enum = refl; begins = refl; reads = refl }
storages t.Register = record { no_struct = refl; no_enum = refl; begins = refl; reads = refl }
storages k = tt

pub storage_is : (k : Terminal) (class : Storage) → storage_of k ≡ Some class → IsWord k (storage_class class)
storage_is k class e = subst (λ (x : Option Storage). Storages x k) e (storages k)

abbrev TypeWords : Option TypeWord → Terminal → Type 0
TypeWords None k = Unit {0}
TypeWords (Some word) k = IsWord k (of_type (c.Word word))

type_words : (k : Terminal) → TypeWords (type_word_of k) k
unfolding same_terminal
type_words t.Void = record { no_struct = refl; no_enum = refl; begins = refl; reads = refl }
type_words t.Char = record { no_struct = refl; no_enum = refl; begins = refl; reads = refl }
type_words t.Short = record { no_struct = refl; no_enum = refl; begins = refl; reads = refl }
type_words t.Int = record { no_struct = refl; no_enum = refl; begins = refl; reads = refl }
type_words t.Long = record { no_struct = refl; no_enum = refl; begins = refl; reads = refl }
type_words t.Float = record { no_struct = refl; no_enum = refl; begins = refl; reads = refl }
type_words t.Double = record { no_struct = refl; no_enum = refl; begins = refl; reads = refl }
type_words t.Signed = record { no_struct = refl; no_enum = refl; begins = refl; reads = refl }
type_words t.Unsigned = record { no_struct = refl; no_enum = refl; begins = refl; reads = refl }
type_words t.Bool = record { no_struct = refl; no_enum = refl; begins = refl; reads = refl }
type_words k = tt

pub type_word_is : (k : Terminal) (word : TypeWord) → type_word_of k ≡ Some word → IsWord k (of_type (c.Word word))
type_word_is k word e = subst (λ (x : Option TypeWord). TypeWords x k) e (type_words k)

-- ---- where nothing goes on

abbrev Quiet : Bool → ℕ → Type 0
Quiet true w = Unit {0}
Quiet false w = w ≡ 0

quiets : (k : Terminal) → Quiet (extends k) (weight k)
quiets t.OpenParen = tt
quiets t.OpenIndex = tt
quiets t.Dot = tt
quiets t.Arrow = tt
quiets t.Question = tt
quiets t.Comma = tt
quiets t.Increment = tt
quiets t.Decrement = tt
quiets t.Sizeof = tt
quiets t.OrOr = tt
quiets t.AndAnd = tt
quiets t.Bar = tt
quiets t.Caret = tt
quiets t.Ampersand = tt
quiets t.EqualEqual = tt
quiets t.NotEqual = tt
quiets t.Less = tt
quiets t.Greater = tt
quiets t.LessEqual = tt
quiets t.GreaterEqual = tt
quiets t.ShiftLeft = tt
quiets t.ShiftRight = tt
quiets t.Plus = tt
quiets t.Minus = tt
quiets t.Tilde = tt
quiets t.Exclamation = tt
quiets t.Star = tt
quiets t.Slash = tt
quiets t.Percent = tt
quiets t.Equal = tt
quiets t.StarEqual = tt
quiets t.SlashEqual = tt
quiets t.PercentEqual = tt
quiets t.PlusEqual = tt
quiets t.MinusEqual = tt
quiets t.ShiftLeftEqual = tt
quiets t.ShiftRightEqual = tt
quiets t.AmpersandEqual = tt
quiets t.CaretEqual = tt
quiets t.BarEqual = tt
quiets k = refl

-- where an expression can't go on, nothing weighs
pub nothing_follows : (ts : List Symbol) → goes_on ts ≡ false → follows ts ≡ 0
nothing_follows [] e = refl
nothing_follows (name w at ∷ ts) e = refl
nothing_follows (constant w at ∷ ts) e = refl
nothing_follows (literal w at ∷ ts) e = absurd cc
nothing_follows (sign k at ∷ ts) e = subst (λ (x : Bool). Quiet x (weight k)) e (quiets k)
