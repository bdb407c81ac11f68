-- The value that is read of literals is the value that they spell.
use Rattle.std.proofs.Common.{◌≡◌, ℕ, zero, suc, ◌==◌, List, [], ◌∷◌, length, Some, sym, subst}
use Rattle.std.proofs.lemmas.Bool.{eqb-true}
use Rattle.lt_tree.specs.Strings.{is_plain, escape, Spells}
use Rattle.lt_tree.specs.Strings as s
use Rattle.lt_tree.specs.Symbols.{Symbol, name, constant, literal, sign}
use Rattle.lt_tree.specs.Grammar.{IsLiteral, quoted, IsText, one_literal, more_literals}
use Rattle.lt_expr.specs.Literals.{closed, value_within, value_of, begins_literal, text_of}
use Rattle.lt_expr.proofs.SoundSteps.{Yields, nothing, given, weaker, chosen, mapped, followed}

closed_spells : (bytes : List ℕ) → Yields (closed bytes) (Spells (34 ∷ bytes))
closed_spells [] = given s.closed
closed_spells (b ∷ bytes) = nothing

value_spells : (n : ℕ) (bytes : List ℕ) → Yields (value_within n bytes) (Spells bytes)
unfolding value_within
value_spells zero bytes = nothing
value_spells (suc n) [] = nothing
value_spells (suc n) (b ∷ bytes) =
    chosen (b == 34)
    (λ e. subst (λ (q : ℕ). Yields (closed bytes) (Spells (q ∷ bytes))) (sym (eqb-true b 34 e)) (closed_spells bytes))
    (λ e. chosen (is_plain b)
    (λ p. mapped _ (value_within n bytes) (value_spells n bytes) (λ v d. s.plain p d))
    (λ p. chosen (b == 92)
    (λ q. followed {Q = λ x. escape bytes ≡ Some x} _ (escape bytes) (record { holds = λ x i. i })
    (λ x i. mapped _ (value_within n x.1) (value_spells n x.1)
    (λ v d. subst (λ (z : ℕ). Spells (z ∷ bytes) (x.0 ∷ v)) (sym (eqb-true b 92 q)) (s.escaped i d))))
    (λ q. nothing)))

pub literal_is : (w : List ℕ) → Yields (value_of w) (IsLiteral w)
literal_is [] = nothing
literal_is (b ∷ bytes) =
    chosen (b == 34)
    (λ e. weaker (λ v d. subst (λ (q : ℕ). IsLiteral (q ∷ bytes) v) (sym (eqb-true b 34 e)) (quoted d)) (value_spells (length bytes) bytes))
    (λ e. nothing)

pub text_is : (ts : List Symbol) → Yields (text_of ts) (λ x. IsText ts x.0 x.1)
text_is [] = nothing
text_is (name w at ∷ ts) = nothing
text_is (constant w at ∷ ts) = nothing
text_is (sign k at ∷ ts) = nothing
text_is (literal w at ∷ ts) =
    followed _ (value_of w) (literal_is w) (λ front l.
    chosen (begins_literal ts)
    (λ b. mapped _ (text_of ts) (text_is ts) (λ x d. more_literals l d))
    (λ b. given (one_literal l)))
