-- What stands at the front of the symbols.
use Rattle.std.proofs.Common.{◌≡◌, ℕ, ◌||◌, Bool, true, false, cond, List, [], ◌∷◌, drop, Option, refl, sym, subst}
use Rattle.lt_tree.specs.declared.terminal.Terminal.{Terminal}
use Rattle.lt_tree.specs.declared.terminal.Terminal.TheVariants as t
use Rattle.lt_tree.specs.Symbols.{Symbol, name, constant, literal, sign, start_of}
use Rattle.lt_tree.specs.Ahead.{sees}
use Rattle.lt_tree.specs.Grammar.{IsLiteral}
use Rattle.lt_expr.specs.Front.{Rest, ◌>>=◌, behind, expect, name_at, id_at, tag_at, first_name, first_constant, first_value}
use Rattle.lt_expr.proofs.CompleteFronts.{same_is}
use Rattle.lt_expr.proofs.SoundSteps.{Yields, nothing, given, weaker, both, chosen, mapped}
use Rattle.lt_expr.proofs.SoundLiterals.{literal_is}

-- of two tests, if it is not the first, it is the other
pub other_of : (p q : Bool) → (p || q) ≡ true → p ≡ false → q ≡ true
other_of true q e a = absurd cc
other_of false q e a = e

-- this terminal stands there
pub data Sees : (k : Terminal) → (ts : List Symbol) → Type 0 where
  seen : {k : Terminal} {at : ℕ} {ts : List Symbol} → Sees k (sign k at ∷ ts)

-- a test says that it stands there
pub see : (k : Terminal) (ts : List Symbol) → (k ≡ t.Other → ⊥) → sees k ts ≡ true → Sees k ts
see k [] real e = absurd (real (sym (same_is t.Other k e)))
see k (name w at ∷ ts) real e = absurd (real (sym (same_is t.Other k e)))
see k (constant w at ∷ ts) real e = absurd (real (sym (same_is t.Other k e)))
see k (literal w at ∷ ts) real e = absurd (real (sym (same_is t.Other k e)))
see k (sign j at ∷ ts) real e = subst (λ (i : Terminal). Sees i (sign j at ∷ ts)) (same_is j k e) seen

-- what holds of the symbols that begin so holds of them
pub at_front : {k : Terminal} {ts : List Symbol} → Sees k ts → (F : List Symbol → Type 0) → F (sign k (start_of ts) ∷ drop 1 ts) → F ts
at_front seen F h = h

-- a reading by the terminal in front
pub seeing : {A : Type 0} {P : A → Type 0} (k : Terminal) (ts : List Symbol) {x y : Option A}
    → (k ≡ t.Other → ⊥) → (Sees k ts → Yields x P) → (sees k ts ≡ false → Yields y P) → Yields (cond (sees k ts) x y) P
seeing k ts real h other = chosen (sees k ts) (λ e. h (see k ts real e)) other

-- a reading behind a terminal
pub expecting : {B : Type 0} {P : B → Type 0} (k : Terminal) (r : Rest) (f : Rest → Option B)
    → (k ≡ t.Other → ⊥) → (Sees k r.0 → Yields (f (behind r)) P) → Yields (expect k r >>= f) P
expecting {P} k r f real h =
    both {Q = λ us. (us ≡ behind r) × Sees k r.0} (expect k r) (seeing k r.0 real (λ s. given (refl, s)) (λ e. nothing))
    (λ us q. subst (λ (z : Rest). Yields (f z) P) (sym q.0) (h q.1))

-- a name stands there
pub data HasName : (ts : List Symbol) → (w : List ℕ) → Type 0 where
  has_name : {w : List ℕ} {at : ℕ} {ts : List Symbol} → HasName (name w at ∷ ts) w

-- a comma and a constant stand there
pub data HasId : (ts : List Symbol) → (w : List ℕ) → Type 0 where
  has_id : {w : List ℕ} {a b : ℕ} {ts : List Symbol} → HasId (sign t.Comma a ∷ constant w b ∷ ts) w

-- a comma and a literal with this value stand there
pub data HasTag : (ts : List Symbol) → (value : List ℕ) → Type 0 where
  has_tag : {w value : List ℕ} {a b : ℕ} {ts : List Symbol} → IsLiteral w value → HasTag (sign t.Comma a ∷ literal w b ∷ ts) value

name_is : (ts : List Symbol) → Yields (first_name ts) (HasName ts)
name_is [] = nothing
name_is (name w at ∷ ts) = given has_name
name_is (constant w at ∷ ts) = nothing
name_is (literal w at ∷ ts) = nothing
name_is (sign k at ∷ ts) = nothing

-- readings of single symbols, and what is read behind them
pub with_name : {B : Type 0} {P : B → Type 0} (r : Rest) (f : List ℕ × Rest → Option B)
    → ((w : List ℕ) → HasName r.0 w → Yields (f (w, behind r)) P) → Yields (name_at r >>= f) P
unfolding name_at
with_name {P} r f h =
    both {Q = λ x. (x.1 ≡ behind r) × HasName r.0 x.0} (name_at r) (mapped _ (first_name r.0) (name_is r.0) (λ w q. (refl, q)))
    (λ x q. subst (λ (z : Rest). Yields (f (x.0, z)) P) (sym q.0) (h x.0 q.1))

data IsConstant : (ts : List Symbol) → (w : List ℕ) → Type 0 where
  is_constant : {w : List ℕ} {at : ℕ} {ts : List Symbol} → IsConstant (constant w at ∷ ts) w

constant_is : (ts : List Symbol) → Yields (first_constant ts) (IsConstant ts)
constant_is [] = nothing
constant_is (name w at ∷ ts) = nothing
constant_is (constant w at ∷ ts) = given is_constant
constant_is (literal w at ∷ ts) = nothing
constant_is (sign k at ∷ ts) = nothing

id_is : {ts : List Symbol} {w : List ℕ} → Sees t.Comma ts → IsConstant (drop 1 ts) w → HasId ts w
id_is seen is_constant = has_id

pub with_id : {B : Type 0} {P : B → Type 0} (r : Rest) (f : List ℕ × Rest → Option B)
    → ((w : List ℕ) → HasId r.0 w → Yields (f (w, behind (behind r))) P) → Yields (id_at r >>= f) P
unfolding id_at
with_id {P} r f h =
    both {Q = λ x. (x.1 ≡ behind (behind r)) × HasId r.0 x.0} (id_at r)
    (expecting t.Comma r _ (λ q. cc) (λ s. mapped _ (first_constant (behind r).0) (constant_is (behind r).0) (λ w q. (refl, id_is s q))))
    (λ x q. subst (λ (z : Rest). Yields (f (x.0, z)) P) (sym q.0) (h x.0 q.1))

data IsValue : (ts : List Symbol) → (value : List ℕ) → Type 0 where
  is_value : {w value : List ℕ} {at : ℕ} {ts : List Symbol} → IsLiteral w value → IsValue (literal w at ∷ ts) value

value_is : (ts : List Symbol) → Yields (first_value ts) (IsValue ts)
value_is [] = nothing
value_is (name w at ∷ ts) = nothing
value_is (constant w at ∷ ts) = nothing
value_is (literal w at ∷ ts) = weaker (λ x l. is_value l) (literal_is w)
value_is (sign k at ∷ ts) = nothing

tag_is : {ts : List Symbol} {w : List ℕ} → Sees t.Comma ts → IsValue (drop 1 ts) w → HasTag ts w
tag_is seen (is_value l) = has_tag l

pub with_tag : {B : Type 0} {P : B → Type 0} (r : Rest) (f : List ℕ × Rest → Option B)
    → ((w : List ℕ) → HasTag r.0 w → Yields (f (w, behind (behind r))) P) → Yields (tag_at r >>= f) P
unfolding tag_at
with_tag {P} r f h =
    both {Q = λ x. (x.1 ≡ behind (behind r)) × HasTag r.0 x.0} (tag_at r)
    (expecting t.Comma r _ (λ q. cc) (λ s. mapped _ (first_value (behind r).0) (value_is (behind r).0) (λ w q. (refl, tag_is s q))))
    (λ x q. subst (λ (z : Rest). Yields (f (x.0, z)) P) (sym q.0) (h x.0 q.1))
