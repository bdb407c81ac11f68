-- What is read of a derivation: its tree, what is behind it, and ends that a walk turns into its spots.
use Rattle.std.proofs.Common.{◌≡◌, ℕ, zero, suc, ◌+◌, ◌*◌, ◌<◌, ◌≤◌, false, List, ◌∷◌, length, Option, Some, refl, arith, ◌⊎◌}
use Rattle.lt_tree.specs.declared.terminal.Terminal.TheVariants as t
use Rattle.lt_tree.specs.Tree as c
use Rattle.lt_tree.specs.Symbols.{Symbol, start_of}
use Rattle.lt_tree.specs.Scope.{Scope}
use Rattle.lt_tree.specs.Ahead.{sees}
use Rattle.lt_tree.specs.Grammar as g
use Rattle.lt_tree.specs.Grammar.{Level, joined}
use Rattle.lt_expr.specs.Front.{Rest, Reader, ◌>>=◌}
use Rattle.lt_expr.specs.Reading as r
use Rattle.lt_expr.specs.Reading.{NameAndParts}
use Rattle.lt_expr.specs.Walk.{Walked, node, walk, walk_all, walk_parts}
use Rattle.lt_expr.proofs.CompleteFronts.{follows}

-- the depth that suffices
abbrev pub enough : ℕ → List Symbol → ℕ → Type 0
enough k ts n = 10 * length ts + k ≤ n

-- At each depth that suffices this tree is read, up to this rest; a walk over the tree takes the ends off and gives the spots.
pub record Read {A : Type 0} (read : ℕ → Reader A) (walks : A → Walked → Walked) (k : ℕ) (ts : List Symbol) (x : A) (rest : List Symbol) (spots more ends : List ℕ) : Type 0 where
  pub now : List ℕ
  pub walked : walks x (now, more) ≡ (ends, spots)
  pub reads : (n : ℕ) → enough k ts n → read n (ts, ends) ≡ Some (x, (rest, now))

-- ---- by how many calls it is read

pub once : {A : Type 0} {read : ℕ → Reader A} {walks : A → Walked → Walked} {k : ℕ} {ts : List Symbol} {x : A} {rest : List Symbol} {spots more ends : List ℕ}
    → (now : List ℕ) → walks x (now, more) ≡ (ends, spots) → 1 ≤ 10 * length ts + k
    → ((n : ℕ) → enough k ts (suc n) → read (suc n) (ts, ends) ≡ Some (x, (rest, now)))
    → Read read walks k ts x rest spots more ends
once {A} {read} {walks} {k} {ts} {x} {rest} {spots} {more} {ends} now is some step = record { now = now; walked = is; reads = reads }
  where
    reads : (n : ℕ) → enough k ts n → read n (ts, ends) ≡ Some (x, (rest, now))
    reads zero big = absurd (omega arith)
    reads (suc n) big = step n big

pub twice : {A : Type 0} {read : ℕ → Reader A} {walks : A → Walked → Walked} {k : ℕ} {ts : List Symbol} {x : A} {rest : List Symbol} {spots more ends : List ℕ}
    → (now : List ℕ) → walks x (now, more) ≡ (ends, spots) → 2 ≤ 10 * length ts + k
    → ((n : ℕ) → enough k ts (suc (suc n)) → read (suc (suc n)) (ts, ends) ≡ Some (x, (rest, now)))
    → Read read walks k ts x rest spots more ends
twice {A} {read} {walks} {k} {ts} {x} {rest} {spots} {more} {ends} now is some step = once now is (omega arith) reads
  where
    reads : (n : ℕ) → enough k ts (suc n) → read (suc n) (ts, ends) ≡ Some (x, (rest, now))
    reads zero big = absurd (omega arith)
    reads (suc n) big = step n big

pub thrice : {A : Type 0} {read : ℕ → Reader A} {walks : A → Walked → Walked} {k : ℕ} {ts : List Symbol} {x : A} {rest : List Symbol} {spots more ends : List ℕ}
    → (now : List ℕ) → walks x (now, more) ≡ (ends, spots) → 3 ≤ 10 * length ts + k
    → ((n : ℕ) → enough k ts (suc (suc (suc n))) → read (suc (suc (suc n))) (ts, ends) ≡ Some (x, (rest, now)))
    → Read read walks k ts x rest spots more ends
thrice {A} {read} {walks} {k} {ts} {x} {rest} {spots} {more} {ends} now is some step = twice now is (omega arith) reads
  where
    reads : (n : ℕ) → enough k ts (suc (suc n)) → read (suc (suc n)) (ts, ends) ≡ Some (x, (rest, now))
    reads zero big = absurd (omega arith)
    reads (suc n) big = step n big

-- a node whose inside is walked
pub node_of : (inside : Walked → Walked) (at : ℕ) (now more ends spots : List ℕ) → inside (now, more) ≡ (ends, spots) → node inside (at ∷ now, more) ≡ (ends, at ∷ spots)
node_of inside at now more ends spots e = rw e refl

-- ---- expressions

-- a primary expression and suffixes behind it
abbrev pub tails : ℕ → Scope → Reader c.Expression
tails n scope x = r.primary n scope x >>= λ y. r.postfix n scope (start_of x.0) y.0 y.1

-- What is read of a postfix expression up to here: suffixes that follow are read next.
pub record Tails (scope : Scope) (ts : List Symbol) (e : c.Expression) (rest : List Symbol) (spots more ends : List ℕ) : Type 0 where
  pub now : List ℕ
  pub walked : walk e (now, more) ≡ (ends, spots)
  pub goes : (n : ℕ) → enough 1 ts n → (j : ℕ) × enough 1 rest j × (tails n scope (ts, ends) ≡ r.postfix j scope (start_of ts) e (rest, now))

-- What is read of an expression of a binary level: its first operand, and then operators up to here.
pub record Climbs (k : ℕ) (scope : Scope) (ts : List Symbol) (e : c.Expression) (rest : List Symbol) (spots more ends : List ℕ) : Type 0 where
  pub first : c.Expression
  pub after : List Symbol
  pub middle : List ℕ
  pub is_operand : (n : ℕ) → enough 3 ts n → r.operand n scope (ts, ends) ≡ Some (first, (after, middle))
  pub shorter_after : length after < length ts
  pub longer : length rest ≤ length after
  pub now : List ℕ
  pub walked : walk e (now, more) ≡ (ends, spots)
  pub goes : (least n : ℕ) → least ≤ k → enough 1 after n → (j : ℕ) × enough 1 rest j × (r.climb n scope (start_of ts) least first (after, middle) ≡ r.climb j scope (start_of ts) least e (rest, now))
  pub front : (after ≡ rest) ⊎ ((4 ≤ follows after) × (follows after ≤ 13))

-- What is read of a conditional expression: its first operand, and then what is behind it.
pub record Conditionals (scope : Scope) (ts : List Symbol) (e : c.Expression) (rest : List Symbol) (spots more ends : List ℕ) : Type 0 where
  pub first : c.Expression
  pub after : List Symbol
  pub middle : List ℕ
  pub is_operand : (n : ℕ) → enough 3 ts n → r.operand n scope (ts, ends) ≡ Some (first, (after, middle))
  pub shorter_after : length after < length ts
  pub now : List ℕ
  pub walked : walk e (now, more) ≡ (ends, spots)
  pub goes : (n : ℕ) → enough 2 after n → r.choice n scope (start_of ts) first (after, middle) ≡ Some (e, (rest, now))
  pub front : (after ≡ rest) ⊎ ((3 ≤ follows after) × (follows after ≤ 13))

-- an expression by one of the readers
abbrev pub Expressed : (ℕ → Scope → Reader c.Expression) → ℕ → Scope → List Symbol → c.Expression → List Symbol → List ℕ → List ℕ → List ℕ → Type 0
Expressed read k scope ts e rest spots more ends = Read (λ n. read n scope) walk k ts e rest spots more ends

-- what is read of an expression of a level, where what follows doesn't go on
abbrev pub Complete : Level → Scope → List Symbol → c.Expression → List Symbol → List ℕ → List ℕ → List ℕ → Type 0
Complete g.primary scope ts e rest spots more ends = follows rest ≤ 100 → Expressed r.primary 1 scope ts e rest spots more ends
Complete g.postfix scope ts e rest spots more ends = follows rest ≤ 100 → Tails scope ts e rest spots more ends
Complete g.unary scope ts e rest spots more ends = follows rest ≤ 13 → Expressed r.unary 2 scope ts e rest spots more ends
Complete g.cast scope ts e rest spots more ends = follows rest ≤ 13 → Expressed r.operand 3 scope ts e rest spots more ends
Complete (g.binary k) scope ts e rest spots more ends = follows rest ≤ 13 → follows rest ≤ 4 + k → Climbs k scope ts e rest spots more ends
Complete g.conditional scope ts e rest spots more ends = follows rest ≤ 2 → Conditionals scope ts e rest spots more ends
Complete g.assignment scope ts e rest spots more ends = follows rest ≤ 1 → Expressed r.assignment 4 scope ts e rest spots more ends
Complete g.marked scope ts e rest spots more ends = follows rest ≤ 1 → Expressed r.marked 5 scope ts e rest spots more ends
Complete g.comma scope ts e rest spots more ends = follows rest ≡ 0 → Expressed r.expression 6 scope ts e rest spots more ends

-- the parts of a comma expression
abbrev pub Parts : Scope → List Symbol → c.Expressions → List Symbol → List ℕ → List ℕ → List ℕ → Type 0
Parts scope ts es rest spots more ends = follows rest ≡ 0 → Read (λ n. r.parts n scope) walk_all 6 ts es rest spots more ends

-- arguments, of which none is read before a closing parenthesis
abbrev pub Arguments : Scope → List Symbol → c.Expressions → List Symbol → List ℕ → List ℕ → List ℕ → Type 0
Arguments scope ts c.no_expressions rest spots more ends = (ts ≡ rest) × (spots ≡ more)
Arguments scope ts (c.an_expression e es) rest spots more ends =
    follows rest ≡ 0 → (sees t.CloseParen ts ≡ false) × Read (λ n. r.arguments n scope) walk_all 5 ts (c.an_expression e es) rest spots more ends

-- ---- declarators

-- the name, and the parts before those around them
pub record Reads (read : ℕ → Rest → Option (NameAndParts × Rest)) (k : ℕ) (ts : List Symbol) (outer : c.Parts) (w : Option (List ℕ)) (parts : c.Parts) (rest : List Symbol) (spots more ends : List ℕ) : Type 0 where
  pub own : c.Parts
  pub whole : joined own outer ≡ parts
  pub read_as : Read read (λ x. walk_parts x.1) k ts (w, own) rest spots more ends

-- the same of suffixes
pub record Suffixes (scope : Scope) (ts : List Symbol) (outer parts : c.Parts) (rest : List Symbol) (spots more ends : List ℕ) : Type 0 where
  pub own : c.Parts
  pub whole : joined own outer ≡ parts
  pub read_as : Read (λ n. r.suffixes n scope) walk_parts 2 ts own rest spots more ends
