-- How the names in scope change while something is read.
use Rattle.std.proofs.Common.{◌≡◌, ℕ, zero, suc, ◌+◌, ◌-◌, ◌≤◌, List, [], ◌∷◌, ◌++◌, length, drop, take, map, reverse, refl, sym, ap, subst, ◌∙◌, arith}
use Rattle.std.proofs.lemmas.List.{take-append-drop, reverse-append, length-reverse, length-drop, drop-drop}
use Rattle.lt_tree.specs.Scope.{Scope}
use Rattle.lt_expr.specs.Front.{Rest}
use Rattle.lt_expr.specs.Parsing.{Parsing, scope_of, rest_of, GoesOn, Below, Hides, Declares}

-- ---- names declared in front of others

pub below_same : (a b : Scope) → b ≡ a → Below a b
below_same a b e = record {
  longer = (let same : length b ≡ length a = ap length e in omega arith);
  same = (let none : length b - length a ≡ 0 = (let same : length b ≡ length a = ap length e in omega arith) in ap (λ k. drop k b) none ∙ e);
}

pub below_through : (a b d : Scope) → Below a b → Below b d → Below a d
below_through a b d p q = record {
  longer = (let h = p.longer in let k = q.longer in omega arith);
  same =
      (let count : length d - length a ≡ (length d - length b) + (length b - length a) = (let h = p.longer in let k = q.longer in omega arith) in
      ap (λ k. drop k d) count ∙ sym (drop-drop (length b - length a) (length d - length b) d) ∙ ap (drop (length b - length a)) q.same ∙ p.same);
}

pub same_scope : (a b : Parsing) → GoesOn a b → scope_of b ≡ scope_of a
same_scope a b on = ap (λ inner. inner ++ b.outer) on.inner ∙ ap (λ outer. a.inner ++ outer) on.outer

pub on_here : (a : Parsing) → GoesOn a a
on_here a = record { symbols = refl; inner = refl; outer = refl }

pub on_through : (a b d : Parsing) → GoesOn a b → GoesOn b d → GoesOn a d
on_through a b d p q = record { symbols = q.symbols ∙ p.symbols; inner = q.inner ∙ p.inner; outer = q.outer ∙ p.outer }

-- what is read in this scope and from this place
pub read_there : {A : Type 0} (reads : Scope → Rest → A) (p : Parsing) (scope : Scope) (r : Rest) (x : A) → scope_of p ≡ scope → rest_of p ≡ r → reads (scope_of p) (rest_of p) ≡ x → reads scope r ≡ x
read_there reads p scope r x same at read = ap (λ s. reads s r) (sym same) ∙ ap (λ u. reads (scope_of p) u) (sym at) ∙ read

-- ---- names were declared, whichever they are

pub record Within (before after : Parsing) : Type 0 where
  pub symbols : after.symbols ≡ before.symbols
  pub outer : after.outer ≡ before.outer
  pub below : Below before.inner after.inner

pub within_here : (a : Parsing) → Within a a
within_here a = record { symbols = refl; outer = refl; below = below_same a.inner a.inner refl }

pub within_on : (a b d : Parsing) → Within a b → GoesOn b d → Within a d
within_on a b d p q = record { symbols = q.symbols ∙ p.symbols; outer = q.outer ∙ p.outer; below = below_through a.inner b.inner d.inner p.below (below_same b.inner d.inner q.inner) }

pub within_hides : (a b d : Parsing) (names : Scope) → Within a b → Hides b d names → Within a d
within_hides a b d names p q = record { symbols = q.symbols ∙ p.symbols; outer = q.outer ∙ p.outer; below = below_through a.inner b.inner d.inner p.below q.below }

pub within_declares : (a b d : Parsing) (names : Scope) → Within a b → Declares b d names → Within a d
within_declares a b d names p q = record { symbols = q.symbols ∙ p.symbols; outer = q.outer ∙ p.outer; below = below_through a.inner b.inner d.inner p.below q.below }

pub within_through : (a b d : Parsing) → Within a b → Within b d → Within a d
within_through a b d p q = record { symbols = q.symbols ∙ p.symbols; outer = q.outer ∙ p.outer; below = below_through a.inner b.inner d.inner p.below q.below }

pub declares : (a b : Parsing) (names : Scope) → Within a b → scope_of b ≡ names → Declares a b names
declares a b names p scope = record { symbols = p.symbols; outer = p.outer; scope = scope; below = p.below }

pub hides : (a b : Parsing) (names : Scope) → Within a b → rest_of b ≡ rest_of a → scope_of b ≡ names → Hides a b names
hides a b names p rest scope = record { rest = rest; symbols = p.symbols; outer = p.outer; scope = scope; below = p.below }

-- ---- leaving a scope

-- a parser with the names of a scope left
abbrev pub leaves : Parsing → ℕ → Parsing
leaves p count = record p { inner = drop (length p.inner - count) p.inner }

pub room : (a b : Parsing) (count : ℕ) → Within a b → count ≡ length a.inner → count ≤ length b.inner
room a b count p is = let h = p.below.longer in omega arith

pub closed : (a b d : Parsing) (count : ℕ) → Within a b → count ≡ length a.inner → d ≡ leaves b count → GoesOn a d
closed a b d count p is e = record {
  symbols = ap (λ (q : Parsing). q.symbols) e ∙ p.symbols;
  inner = ap (λ (q : Parsing). q.inner) e ∙ ap (λ k. drop (length b.inner - k) b.inner) is ∙ p.below.same;
  outer = ap (λ (q : Parsing). q.outer) e ∙ p.outer;
}

pub closed_rest : (b d : Parsing) (count : ℕ) → d ≡ leaves b count → rest_of d ≡ rest_of b
closed_rest b d count e = ap rest_of e

-- ---- names declared one after the other

pub hides_none : (a : Parsing) → Hides a a (scope_of a)
hides_none a = hides a a (scope_of a) (within_here a) refl refl

pub hides_then : (a b d : Parsing) (first second : Scope) → Hides a b first → Hides b d second → Hides a d second
hides_then a b d first second p q =
    hides a d second (within_hides a b d second (within_hides a a b first (within_here a) p) q) (q.rest ∙ p.rest) q.scope

pub hides_as : (a b : Parsing) (names other : Scope) → names ≡ other → Hides a b names → Hides a b other
hides_as a b names other e h = subst (Hides a b) e h
